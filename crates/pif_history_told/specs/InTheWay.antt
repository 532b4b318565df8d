-- What is in the way of an illegal line, in words: a fact that is so in all states to which the lines before lead.
use Rattle.std.specs.Prelude.{ℕ, List, [], ◌++◌, Option, Some, None, codes, decimal}
use Rattle.pif_history_model.specs.declared.facts.Fact.{Fact}
use Rattle.pif_history_model.specs.declared.facts.Fact.TheVariants.{LeftUndefined, Held, HeldByNoOther, Next, HeldOrNext, ClosesNoCycle, WaitsFor, Priority, NotSignalled, NotDue, Awake}
use Rattle.pif_history_told.specs.declared.in_the_way.InTheWay.{InTheWay}
use Rattle.pif_history_told.specs.declared.verdicts.Began.{Began}

-- Words, and a number after them.
abbrev pub numbered : (words : List ℕ) → ℕ → List ℕ
numbered words n = words ++ decimal n

-- A priority in brackets, if it is told.
abbrev pub priority_words : Option ℕ → List ℕ
priority_words None = []
priority_words (Some p) = numbered (codes " (") p ++ codes ")"

-- A thread, and its priority.
abbrev pub thread_words : ℕ → Option ℕ → List ℕ
thread_words t p = numbered (codes "t") t ++ priority_words p

-- A fact, with the priority of the thread that stands in the way, if it is told.
unfoldable pub fact_words : Fact → (priority : Option ℕ) → List ℕ
fact_words (LeftUndefined t) p = numbered (codes "POSIX leaves undefined what t") t ++ codes " does"
fact_words (Held m t) p = numbered (codes "m") m ++ numbered (codes " is held by t") t
fact_words (HeldByNoOther m t) p = numbered (codes "no other thread holds m") m
fact_words (Next m t) p = thread_words t p ++ numbered (codes " waits for m") m ++ codes " and is next"
fact_words (HeldOrNext m t) p = thread_words t p ++ numbered (codes " holds m") m ++ codes " or is next"
fact_words (ClosesNoCycle m t) p = numbered (codes "the owner of m") m ++ numbered (codes " doesn't wait for t") t
fact_words (WaitsFor u t) p = thread_words u p ++ numbered (codes " waits for t") t
fact_words (Priority t q) p = numbered (codes "t") t ++ numbered (codes " has priority ") q
fact_words (NotSignalled t) p = numbered (codes "no signal has woken t") t
fact_words (NotDue t d n) p =
    numbered (codes "the deadline of t") t ++ numbered (codes " is ") d ++ numbered (codes ", and the time is ") n
fact_words (Awake t) p = numbered (codes "t") t ++ codes " isn't blocked"

-- Where the open call of the thread that stands in the way began, if it has one.
abbrev pub call_words : Option Began → List ℕ
call_words None = []
call_words (Some b) = numbered (codes " (its call began at ") b.number ++ codes ")"

abbrev pub in_the_way_words : InTheWay → List ℕ
in_the_way_words x = fact_words x.fact x.priority ++ call_words x.began

-- The line that says it, if there is something.
abbrev pub in_the_way_text : Option InTheWay → List ℕ
in_the_way_text None = []
in_the_way_text (Some x) = codes "in the way: " ++ in_the_way_words x ++ codes "\n"

-- The same as a member.
unfoldable pub in_the_way_member : Option InTheWay → List ℕ
in_the_way_member None = []
in_the_way_member (Some x) = codes ",\"in_the_way\":\"" ++ in_the_way_words x ++ codes "\""
