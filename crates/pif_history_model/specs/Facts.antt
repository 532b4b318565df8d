-- What may be so in a state of the machine. A search is asked whether it is, or whether it isn't. It is told of the state
-- with the mutexes that lend nothing.
use Rattle.std.specs.Prelude.{ℕ, Bool, true, false, ◌==◌, nat_lt, not, List, Option, Some, None, if◌then◌else◌}
use Rattle.pif_model.specs.World.{Progress}
use Rattle.pif_model.specs.World.Progress.{Fresh, Checked}
use Rattle.pif_model.specs.Posix.{World, thread_at, mutex_at, is_blocked, effective_of, next_of, leads_to, rests}
use Rattle.pif_rules_model.specs.Lending.{looking_free}
use Rattle.pif_rules_model.specs.Undefined.{is_left_undefined}
use Rattle.pif_history_model.specs.declared.facts.Fact.{Fact}
use Rattle.pif_history_model.specs.declared.facts.Fact.TheVariants.{LeftUndefined, Held, HeldByNoOther, Next, HeldOrNext, ClosesNoCycle, WaitsFor, Priority, NotSignalled, NotDue, Awake}

-- whether t owns m; or nobody else does
abbrev pub is_owner : World → ℕ → ℕ → Bool
is_owner w m t = (mutex_at w m).owner == t

abbrev pub is_no_other_owner : World → ℕ → ℕ → Bool
is_no_other_owner w m t = if is_owner w m 0 then true else is_owner w m t

-- whether t gets m next, as lending sees w, in which these mutexes lend nothing
abbrev pub is_next : List ℕ → World → ℕ → ℕ → Bool
is_next none w m t = next_of (looking_free none w) m == t

-- whether u waits for t through some chain, as lending sees it
abbrev pub waits_in_chain : List ℕ → World → ℕ → ℕ → Bool
waits_in_chain none w u t = if u == t then false else leads_to (looking_free none w) u t

-- whether a wait that has come so far was not unblocked: it has had no effect, has to join the blocked threads, or is one
-- of them
abbrev pub awaits_signal : Progress → Bool
awaits_signal Fresh = true
awaits_signal Checked = true
awaits_signal p = is_blocked p

-- whether t's open call, a wait, was not unblocked, or only by its deadline
abbrev pub is_unsignalled : World → ℕ → Bool
is_unsignalled w t =
    elim (thread_at w t).call [
      | None ↦ false
      | Some x ↦ if awaits_signal x.progress then true else (thread_at w t).timer.expired
    ]

-- whether a deadline that may be there is d
abbrev pub is_deadline : Option ℕ → ℕ → Bool
is_deadline None d = false
is_deadline (Some x) d = x == d

-- whether the deadline of t's open call is d, and the time is n, which is before it
abbrev pub is_early : World → ℕ → (d n : ℕ) → Bool
is_early w t d n =
    if is_deadline (thread_at w t).timer.deadline d then (if w.time == n then nat_lt n d else false) else false

-- whether a fact is so in w, in which these mutexes lend nothing
abbrev pub is_so : List ℕ → World → Fact → Bool
is_so none w (LeftUndefined t) = is_left_undefined w t
is_so none w (Held m t) = is_owner w m t
is_so none w (HeldByNoOther m t) = is_no_other_owner w m t
is_so none w (Next m t) = is_next none w m t
is_so none w (HeldOrNext m t) = if is_owner w m t then true else is_next none w m t
is_so none w (ClosesNoCycle m t) = not (waits_in_chain none w (mutex_at w m).owner t)
is_so none w (WaitsFor u t) = waits_in_chain none w u t
is_so none w (Priority t p) = effective_of (looking_free none w) t == p
is_so none w (NotSignalled t) = is_unsignalled w t
is_so none w (NotDue t d n) = is_early w t d n
is_so none w (Awake t) = not (rests w t)

-- whether it is so, or isn't, as asked
abbrev pub is_as_asked : (holds : Bool) → List ℕ → World → Fact → Bool
is_as_asked holds none w f = if holds then is_so none w f else not (is_so none w f)
