-- What happens to a thread at a move that no line shows, in the words of a person: by how far its open call had come
-- and has come.
use Rattle.std.specs.Prelude.{ℕ, ◌==◌, Bool, true, false, List, [], ◌++◌, Option, Some, None, codes, decimal}
use Rattle.pif_types.specs.declared.requests.Request.{Request}
use Rattle.pif_model.specs.Posix.{Progress, named_by, variable_of}
use Rattle.pif_model.specs.World.Progress.{Fresh, Waiting, Stuck, Leaving, Has, Checked, Enlisted, Blocked, Reacquiring, Used}
use Rattle.pif_text_model.specs.Replies.{thread_name, mutex_name, cond_name}
use Rattle.pif_rules_model.specs.declared.rules.Rule.{Rule}
use Rattle.pif_rules_model.specs.declared.rules.Rule.TheVariants.{Steal, Spurious, HeldWait, WaitGivesAll}
use Rattle.pif_rules.specs.Sets.{name_of}
use Rattle.pif_history_text.specs.declared.deeds.Deed.{Deed}
use Rattle.pif_history_text.specs.declared.deeds.Deed.TheVariants.{Takes, TakesFrom, IsHanded, WaitsFor, WaitsForGood, Frees, SpoilsIt, Checks, IsBlocked, GoesOnWaiting, IsUnblocked, TimesOut, Uses, GivesHold, TakesHold, Comes}

-- A call came to a result, by whether its thread owned the mutex that it names, and owns it. One that waited was not
-- handed the mutex by its own move: it ran out of time.
abbrev pub result_deed : Progress → (owned owns : Bool) → ℕ → Deed
result_deed Waiting owned owns a = TimesOut
result_deed Stuck owned owns a = TimesOut
result_deed p false true a = Takes
result_deed p true false a = Frees
result_deed p owned owns a = Comes a

-- A wait that must reacquire its mutex now gave its mutex up, or else ran out of time.
abbrev pub owing_deed : Progress → Deed
owing_deed (Enlisted still) = Frees
owing_deed p = TimesOut

-- A wait is blocked: it gave its mutex up, or was told to wait.
abbrev pub blocked_deed : (noted : Bool) → Deed
blocked_deed true = GoesOnWaiting
blocked_deed false = Frees

-- What a thread does by its own move, which needs no rule. A move that leaves its call as far as it had come leaves the
-- mutex unusable that it gives up next.
abbrev pub plain_deed : Progress → (owned owns : Bool) → (now : Progress) → Deed
plain_deed p owned owns Waiting = WaitsFor
plain_deed p owned owns Stuck = WaitsForGood
plain_deed p owned owns Leaving = Takes
plain_deed p owned owns (Has a) = result_deed p owned owns a
plain_deed p owned owns Checked = Checks
plain_deed Checked owned owns (Enlisted still) = IsBlocked
plain_deed p owned owns (Blocked noted) = blocked_deed noted
plain_deed p owned owns Reacquiring = owing_deed p
plain_deed p owned owns Used = Uses
plain_deed p owned owns now = SpoilsIt

-- What a thread does by `wait_gives_all`: its wait is about to begin, or is over.
abbrev pub hold_deed : (now : Progress) → Deed
hold_deed Fresh = GivesHold
hold_deed _ = TakesHold

-- What t does by its own move, by a rule or by none. The mutex that its call names had this owner.
abbrev pub own_deed : Option Rule → (t : ℕ) → Progress → (owner : ℕ) → (owns : Bool) → (now : Progress) → Deed
own_deed (Some Steal) t p owner owns now = TakesFrom owner
own_deed (Some Spurious) t p owner owns now = IsUnblocked
own_deed (Some HeldWait) t p owner owns now = IsBlocked
own_deed (Some WaitGivesAll) t p owner owns now = hold_deed now
own_deed rule t p owner owns now = plain_deed p (owner == t) owns now

-- What happens to a thread by the move of another one, or by its end.
abbrev pub other_deed : Progress → (now : Progress) → Option Deed
other_deed Waiting Waiting = None
other_deed Waiting now = Some IsHanded
other_deed (Enlisted true) (Enlisted false) = Some IsUnblocked
other_deed (Blocked noted) Reacquiring = Some IsUnblocked
other_deed p now = None

-- A deed of a thread whose open call is this one.
abbrev pub deed_words : Request → Deed → List ℕ
deed_words q Takes = codes " takes " ++ mutex_name (named_by q)
deed_words q (TakesFrom u) = codes " takes " ++ mutex_name (named_by q) ++ codes " from " ++ thread_name u
deed_words q IsHanded = codes " is handed " ++ mutex_name (named_by q)
deed_words q WaitsFor = codes " waits for " ++ mutex_name (named_by q)
deed_words q WaitsForGood = codes " waits for " ++ mutex_name (named_by q) ++ codes " for good"
deed_words q Frees = codes " frees " ++ mutex_name (named_by q)
deed_words q SpoilsIt = codes " leaves " ++ mutex_name (named_by q) ++ codes " unusable"
deed_words q Checks = codes " may wait on " ++ cond_name (variable_of q)
deed_words q IsBlocked = codes " is blocked on " ++ cond_name (variable_of q)
deed_words q GoesOnWaiting = codes " is told to wait on " ++ cond_name (variable_of q)
deed_words q IsUnblocked = codes " is unblocked"
deed_words q TimesOut = codes " times out"
deed_words q Uses = codes " uses " ++ cond_name (variable_of q)
deed_words q GivesHold = codes " gives one hold of " ++ mutex_name (named_by q)
deed_words q TakesHold = codes " takes one hold of " ++ mutex_name (named_by q) ++ codes " again"
deed_words q (Comes a) = codes " comes to " ++ decimal a

-- What stands in front of a line of a step: the name of the rule that it needs, if it does.
abbrev pub rule_front : Option Rule → List ℕ
rule_front None = []
rule_front (Some rule) = name_of rule ++ codes ": "

-- The line of a deed, after two blanks.
abbrev pub deed_line : Option Rule → (t : ℕ) → Request → Deed → List ℕ
deed_line rule t q d = codes "  " ++ rule_front rule ++ thread_name t ++ deed_words q d ++ codes "\n"
