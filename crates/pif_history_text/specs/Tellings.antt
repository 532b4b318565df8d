-- How a step of a run is told to a person: a line, or a move, and what it changes.
use Rattle.std.specs.Prelude.{ℕ, zero, suc, ◌==◌, Bool, false, true, List, [], ◌++◌, length, Option, Some, None, codes, if◌then◌else◌}
use Rattle.pif_types.specs.declared.requests.Request.{Request}
use Rattle.pif_model.specs.Posix.{World, Call, is_living, named_by, mutex_at, thread_at}
use Rattle.pif_text_model.specs.Replies.{thread_name}
use Rattle.pif_history_model.specs.declared.labels.Label.{Label}
use Rattle.pif_history_model.specs.declared.labels.Label.TheVariants.{Shown, Moves, Ends}
use Rattle.pif_rules_model.specs.declared.rules.Rule.{Rule}
use Rattle.pif_rules_model.specs.declared.rules.Rules.{Rules}
use Rattle.pif_rules.specs.Sets.{first_of, is_any, names_of}
use Rattle.pif_history_text.specs.Texts.{line_text}
use Rattle.pif_history_text.specs.declared.deeds.Deed.{Deed}
use Rattle.pif_history_text.specs.Deeds.{deed_line, other_deed, own_deed}

-- Whether t owns m.
abbrev pub owns : World → (t m : ℕ) → Bool
owns w t m = (mutex_at w m).owner == t

-- What t does from w to v, by this rule or by none, if its open call was and is this.
abbrev pub own_telling : Option Rule → (t : ℕ) → World → World → Option Call → Option Call → List ℕ
own_telling rule t w v (Some c) (Some d) =
    deed_line rule t c.request
    (own_deed rule t c.progress (mutex_at w (named_by c.request)).owner (owns v t (named_by c.request)) d.progress)
own_telling rule t w v c d = []

-- The line of a deed, if there is one.
abbrev pub deed_telling : (t : ℕ) → Request → Option Deed → List ℕ
deed_telling t q None = []
deed_telling t q (Some d) = deed_line None t q d

-- What happens to t by another, if its open call was and is this.
abbrev pub other_telling : (t : ℕ) → Option Call → Option Call → List ℕ
other_telling t (Some c) (Some d) = deed_telling t c.request (other_deed c.progress d.progress)
other_telling t c d = []

-- The same of t, unless it is the one that moves.
abbrev pub if_other : (moving t : ℕ) → World → World → List ℕ
if_other moving t w v =
    if t == moving then [] else other_telling t (thread_at w t).call (thread_at v t).call

-- What happens to the threads below n by the move of one of them, or by none.
abbrev pub others_below : (n : ℕ) → (moving : ℕ) → World → World → List ℕ
others_below zero moving w v = []
others_below (suc n) moving w v = others_below n moving w v ++ if_other moving n w v

-- What happens to all others.
abbrev pub others : (moving : ℕ) → World → World → List ℕ
others moving w v = others_below (length w.threads) moving w v

-- The rules that a line of the history needs, if it needs some.
abbrev pub rules_telling : Rules → List ℕ
rules_telling by = if is_any by then codes " " ++ names_of by ++ codes "\n" else []

-- The rules that an end needs, in front of it.
abbrev pub rules_front : Rules → List ℕ
rules_front by = if is_any by then names_of by ++ codes ":" else []

-- What a thread does at its end: all at one moment; or by `ends_apart` it leaves, and one of its mutexes passes on
-- later. If one had stayed with it, that passes on when its process has ended.
abbrev pub end_words : Rules → (lived : Bool) → List ℕ
end_words by true = if by.ends_apart then codes " leaves\n" else codes " ends\n"
end_words by false =
    if by.ends_apart then codes " passes a mutex on\n" else codes " passes a mutex on: its process has ended\n"

-- The line of an end, by these rules.
abbrev pub end_telling : Rules → (t : ℕ) → (lived : Bool) → List ℕ
end_telling by t lived = codes " " ++ rules_front by ++ codes " " ++ thread_name t ++ end_words by lived

-- How a step begins, by these rules: a line of the history, or what the thread does that moves or ends. A move is by
-- one rule at most.
abbrev pub label_telling : Rules → Label → World → World → List ℕ
label_telling by (Shown line) w v = line_text line ++ codes "\n" ++ rules_telling by
label_telling by (Moves t) w v = own_telling (first_of by) t w v (thread_at w t).call (thread_at v t).call
label_telling by (Ends t) w v = end_telling by t (is_living w t)

-- The number of the thread that moves by a step; 0 if none does.
abbrev pub moving : Label → ℕ
moving (Moves t) = t
moving x = 0

-- One step of the machine that is searched, from w to v, by these rules: a line of the history; a move of a thread; or
-- the end of one that is dying.
abbrev pub step_telling : Rules → Label → World → World → List ℕ
step_telling by x w v = label_telling by x w v ++ others (moving x) w v
