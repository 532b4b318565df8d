-- What rules allow, as functions of the state: all results of each. The lemmas of `proofs/` say that the functions give
-- what the rules of Rules.antt allow, and no more.
use Rattle.std.specs.Prelude.{ℕ, zero, suc, ◌==◌, Bool, true, false, nat_lt, nat_le, List, [], ◌∷◌, ◌++◌, length, map, Option, Some, None, if◌then◌else◌}
use Rattle.std.specs.List.{flat_map, list_any}
use Rattle.pif_types.specs.Bounds.{Bounds}
use Rattle.pif_model.specs.declared.lines.Relock.{Relock}
use Rattle.pif_model.specs.declared.lines.Relock.TheVariants.{Deadlocks, Answers, Counts}
use Rattle.pif_model.specs.Kinds.{relock_of}
use Rattle.pif_model.specs.declared.events.Event.TheVariants.{Go, End}
use Rattle.pif_model.specs.declared.events.Entry.{Entry}
use Rattle.pif_model.specs.NamedNumbers.{EPERM, ESRCH, EAGAIN, EINVAL, EDEADLK, most_holds}
use Rattle.pif_model.specs.World.{Health, Progress, is_living, leads_to, is_orphaned}
use Rattle.pif_model.specs.World.Health.{Fine, Inconsistent, Unusable}
use Rattle.pif_model.specs.World.Progress.{Waiting, Has, Blocked, Reacquiring, Used}
use Rattle.pif_model.specs.Posix.{World, is_due, effective_of, mutex_at, variable_at, with_progress, with_call_by, with_health, with_no_owner, with_one_hold_more, with_one_hold_less, with_waiter, without_waiter, after_unblocking, after_timeout, after_end, after_owner_death, taken}
use Rattle.pif_posix_steps.specs.Doing.{all_blocked, woken, moved, entered, is_allowed, robust_of, passed_on, passing, all_inherited}
use Rattle.pif_rules_model.specs.declared.rules.HoldLimits.{HoldLimits}
use Rattle.pif_rules_model.specs.declared.rules.Rule.{Rule}
use Rattle.pif_rules_model.specs.declared.rules.Rule.TheVariants.{Steal, AnyWaiter, Spurious, Recursion, OwnErrorcheck, AnyConsistent, HeldWait, LostSignal, Barge, CycleWaits, CycleRefused, TimeoutConsumes, Rebinds, MoreUses, RefusesSetprio, ConsistentByAny, OtherError, WaitGivesAll}
use Rattle.pif_rules_model.specs.declared.rules.Rules.{Rules}
use Rattle.pif_rules_model.specs.Sets.{has, rules_in_order}
use Rattle.pif_rules_model.specs.Lending.{not_named, not_owned}
use Rattle.pif_rules_model.specs.Rules.{Wide, seen_by_lending, owned_as_before, hidden_from, of_call, locked_next_by, locked_first_by, got_by, waited_for_by, tried_next_by, mended_next_by, given_next_by, unlocked_next_by, waited_next_by, waited_with_by, used_next_by, signalled_next_by, signalling_by, blocked_by, set_next_by, other_errors, stolen, is_recursive, is_errorcheck, never_goes_on, bound_to, used_uncounted, without_one, has_given, held_again_by, given_by_others, has_all_again, lost_by, revived, is_unusable, has_ended_apart, end_of}

-- what f lists of what is there, or nothing
abbrev pub listed_of : {A B : Type 0} → Option A → (A → List B) → List B
listed_of None f = []
listed_of (Some x) f = f x

-- this alone if a test passes, or nothing
abbrev pub one_if : {A : Type 0} → Bool → A → List A
one_if b x = if b then x ∷ [] else []

-- whether there is something in a list
abbrev pub is_some_of : {A : Type 0} → List A → Bool
is_some_of [] = false
is_some_of (x ∷ xs) = true

-- whether a mutex that may be there is this
abbrev pub is_mutex_of : Option ℕ → ℕ → Bool
is_mutex_of None m = false
is_mutex_of (Some n) m = n == m

-- LOCKS

-- t takes m from its owner u, if it may
abbrev pub stolen_from : (t u m : ℕ) → World → List World
stolen_from t u m w =
    if is_mutex_of (of_call got_by w u) m
    then (if u == t then []
    else (if u == 0 then []
    else (if (mutex_at w m).count == 1
    then one_if (nat_lt (effective_of w u) (effective_of w t)) (stolen t u m w) else [])))
    else []

abbrev pub stolen_by : ℕ → World → List World
stolen_by t w = listed_of (of_call locked_next_by w t) (λ m. stolen_from t (mutex_at w m).owner m w)

-- t, who owns m, locks it once more if it may, or is refused
abbrev pub locked_more_or_refused : HoldLimits → (t m : ℕ) → World → List World
locked_more_or_refused x t m w =
    (if nat_le most_holds (mutex_at w m).count
    then one_if (nat_lt (mutex_at w m).count x.most) (with_progress t (Has 0) (with_one_hold_more m w)) else [])
    ++ (if nat_le x.least (mutex_at w m).count
    then one_if (nat_le (mutex_at w m).count x.most) (with_progress t (Has EAGAIN) w) else [])

abbrev pub beyond : HoldLimits → ℕ → World → ℕ → List World
beyond x t w m =
    if (mutex_at w m).owner == t
    then (if is_recursive (mutex_at w m).kind then locked_more_or_refused x t m w else [])
    else []

abbrev pub locked_beyond : HoldLimits → ℕ → World → List World
locked_beyond x t w =
    listed_of (of_call locked_next_by w t) (beyond x t w) ++ listed_of (of_call tried_next_by w t) (beyond x t w)

abbrev pub locked_within : Option HoldLimits → ℕ → World → List World
locked_within limits t w = listed_of limits (λ x. locked_beyond x t w)

abbrev pub tried_own : ℕ → World → List World
tried_own t w = listed_of (of_call tried_next_by w t)
    (λ m. if (mutex_at w m).owner == t
    then one_if (is_errorcheck (mutex_at w m).kind) (with_progress t (Has EDEADLK) w) else [])

-- whether a mutex in this health is Inconsistent
abbrev pub is_inconsistent : Health → Bool
is_inconsistent Inconsistent = true
is_inconsistent Fine = false
is_inconsistent Unusable = false

-- t gives up m, and leaves it free; its call has then come so far
abbrev pub freed : ℕ → World → (ℕ × Progress) → List World
freed t w x =
    if (mutex_at w x.0).owner == t
    then (if (mutex_at w x.0).count == 1
    then (if is_inconsistent (mutex_at w x.0).health then [] else with_no_owner x.0 (with_progress t x.1 w) ∷ [])
    else [])
    else []

abbrev pub freed_by : ℕ → World → List World
freed_by t w = listed_of (of_call given_next_by w t) (freed t w)

abbrev pub taken_free : ℕ → World → List World
taken_free t w = listed_of (of_call waited_for_by w t)
    (λ m. one_if ((mutex_at w m).owner == 0) (taken t m (without_waiter t w)))

abbrev pub barged : ℕ → World → List World
barged t w = freed_by t w ++ taken_free t w

-- whether a thread that isn't t owns m, and m isn't orphaned
abbrev pub is_held_by_another : ℕ → World → ℕ → Bool
is_held_by_another t w m =
    if (mutex_at w m).owner == t then false
    else (if (mutex_at w m).owner == 0 then false else (if is_orphaned w m then false else true))

abbrev pub waiting_in_cycle : ℕ → World → List World
waiting_in_cycle t w = listed_of (of_call locked_next_by w t)
    (λ m. if is_held_by_another t w m
    then one_if (leads_to w (mutex_at w m).owner t) (with_progress t Waiting (with_waiter t m w)) else [])

-- whether u, or a thread for which it waits through a chain, never goes on
abbrev pub leads_to_no_end : World → ℕ → Bool
leads_to_no_end w u =
    is_some_of (passing (λ x. if leads_to w u x then never_goes_on w x else false) (length w.threads))

-- whether a lock by the owner that does this waits for good
abbrev pub deadlocks : Relock → Bool
deadlocks Deadlocks = true
deadlocks Answers = false
deadlocks Counts = false

-- whether a lock of m by t would never be answered
abbrev pub is_hopeless : ℕ → World → ℕ → Bool
is_hopeless t w m =
    if (mutex_at w m).owner == t then deadlocks (relock_of (mutex_at w m).kind)
    else (if (mutex_at w m).owner == 0 then false
    else (if is_orphaned w m then true
    else (if leads_to w (mutex_at w m).owner t then true else leads_to_no_end w (mutex_at w m).owner)))

abbrev pub refused_cycle : ℕ → World → List World
refused_cycle t w = listed_of (of_call locked_first_by w t)
    (λ m. one_if (is_hopeless t w m) (with_progress t (Has EDEADLK) w))

-- WAITS

abbrev pub any_woken : ℕ → World → List World
any_woken t w = listed_of (of_call signalled_next_by w t) (λ c. map (λ u. woken t u w) (all_blocked w c))

abbrev pub woken_by_itself : ℕ → World → List World
woken_by_itself t w = listed_of (of_call blocked_by w t) (λ c. with_call_by t after_unblocking w ∷ [])

-- t, whose wait is due, runs out of time, and takes u's signal with it
abbrev pub consumed_with : ℕ → World → ℕ → World
consumed_with t w u = with_progress u (Has 0) (with_progress t Reacquiring (after_timeout t w))

-- the threads whose open signal of c has not chosen yet
abbrev pub signallers : World → ℕ → List ℕ
signallers w c = passing (λ u. is_mutex_of (of_call signalling_by w u) c) (length w.threads)

abbrev pub signal_consumed : ℕ → World → List World
signal_consumed t w =
    if is_due w t then listed_of (of_call blocked_by w t) (λ c. map (consumed_with t w) (signallers w c)) else []

abbrev pub waiting_held : ℕ → World → List World
waiting_held t w = listed_of (of_call waited_next_by w t)
    (λ x. if (variable_at w x.0).mutex == x.1
    then (if (mutex_at w x.1).owner == t
    then one_if (nat_lt 1 (mutex_at w x.1).count) (with_progress t (Blocked false) (with_one_hold_less x.1 w)) else [])
    else [])

abbrev pub bound_anew : ℕ → World → List World
bound_anew t w = listed_of (of_call waited_next_by w t)
    (λ x. if (variable_at w x.0).mutex == x.1 then []
    else (if is_some_of (all_blocked w x.0) then [] else bound_to x.0 x.1 w ∷ []))

abbrev pub used_by : ℕ → World → List World
used_by t w = listed_of (of_call used_next_by w t) (λ c. with_progress t Used (used_uncounted c w) ∷ [])

-- a signal of t is lost
abbrev pub signal_lost : ℕ → Wide → List Wide
signal_lost t s = listed_of (of_call signalled_next_by s.world t)
    (λ c. one_if (list_any (λ x. x == c) s.lost)
    (record s { world = with_progress t (Has 0) s.world; lost = without_one c s.lost }))

-- a wait of t gives up one of several holds
abbrev pub hold_given : ℕ → Wide → List Wide
hold_given t s = listed_of (of_call waited_next_by s.world t)
    (λ x. if (variable_at s.world x.0).mutex == x.1
    then (if (mutex_at s.world x.1).owner == t
    then one_if (nat_lt 1 (mutex_at s.world x.1).count)
    (record s { world = with_one_hold_less x.1 s.world; given = t ∷ s.given }) else [])
    else [])

-- a wait of t takes one hold again
abbrev pub hold_taken : ℕ → Wide → List Wide
hold_taken t s = listed_of (of_call waited_with_by s.world t)
    (λ m. one_if (has_given s t)
    (record s { world = held_again_by t m s.world; given = without_one t s.given }))

abbrev pub hold_moved : ℕ → Wide → List Wide
hold_moved t s = hold_given t s ++ hold_taken t s

-- HEALTH AND PRIORITY

-- what the page says of m, whoever t is
abbrev pub mended : ℕ → World → ℕ → World
mended t w m =
    if is_inconsistent (mutex_at w m).health then with_progress t (Has 0) (with_health m Fine w)
    else with_progress t (Has EINVAL) w

-- what f lists of the robust mutex that t is about to make consistent and doesn't own
abbrev pub mending : (ℕ → List World) → ℕ → World → List World
mending f t w = listed_of (of_call mended_next_by w t)
    (λ m. if (mutex_at w m).robust then (if (mutex_at w m).owner == t then [] else f m) else [])

abbrev pub mended_by_any : ℕ → World → List World
mended_by_any t w = mending (λ m. mended t w m ∷ []) t w

abbrev pub refused_free : ℕ → World → List World
refused_free t w = mending
    (λ m. if (mutex_at w m).owner == 0
    then one_if (is_inconsistent (mutex_at w m).health) (with_progress t (Has EINVAL) w) else []) t w

abbrev pub mended_or_refused : ℕ → World → List World
mended_or_refused t w = mended_by_any t w ++ refused_free t w

-- t's call has this result
abbrev pub with_result : ℕ → World → ℕ → World
with_result t w a = with_progress t (Has a) w

abbrev pub priority_refused : ℕ → World → List World
priority_refused t w = listed_of (of_call set_next_by w t)
    (λ u. map (with_result t w) (EPERM ∷ EINVAL ∷ (if is_living w u then [] else ESRCH ∷ 0 ∷ [])))

abbrev pub failed_otherwise : ℕ → World → List World
failed_otherwise t w = map (with_result t w) (other_errors w t)

-- MOVES

-- states of the machine, with what is remembered beside
abbrev pub beside : Wide → World → Wide
beside s w = record s { world = w }

-- what t does by a rule: all results
abbrev pub done_by : Rules → Rule → ℕ → Wide → List Wide
done_by r Steal t s = map (beside s) (stolen_by t s.world)
done_by r AnyWaiter t s = map (beside s) (any_woken t s.world)
done_by r Spurious t s = map (beside s) (woken_by_itself t s.world)
done_by r Recursion t s = map (beside s) (locked_within r.recursion t s.world)
done_by r OwnErrorcheck t s = map (beside s) (tried_own t s.world)
done_by r AnyConsistent t s = map (beside s) (mended_or_refused t s.world)
done_by r HeldWait t s = map (beside s) (waiting_held t s.world)
done_by r LostSignal t s = signal_lost t s
done_by r Barge t s = map (beside s) (barged t s.world)
done_by r CycleWaits t s = map (beside s) (waiting_in_cycle t s.world)
done_by r CycleRefused t s = map (beside s) (refused_cycle t s.world)
done_by r TimeoutConsumes t s = map (beside s) (signal_consumed t s.world)
done_by r Rebinds t s = map (beside s) (bound_anew t s.world)
done_by r MoreUses t s = map (beside s) (used_by t s.world)
done_by r RefusesSetprio t s = map (beside s) (priority_refused t s.world)
done_by r ConsistentByAny t s = map (beside s) (mended_by_any t s.world)
done_by r OtherError t s = map (beside s) (failed_otherwise t s.world)
done_by r WaitGivesAll t s = hold_moved t s
done_by r _ t s = []

-- what f lists of the state as lending sees it, if these mutexes look free
abbrev pub seeing_lending : List ℕ → (Wide → List Wide) → Wide → List Wide
seeing_lending [] f s = f s
seeing_lending (m ∷ ms) f s = map (owned_as_before (m ∷ ms) s) (f (seen_by_lending (m ∷ ms) s))

-- whether t, which is about to lock m, closes a cycle that nobody sees
abbrev pub closes_unseen_with : List ℕ → ℕ → World → ℕ → Bool
closes_unseen_with none t w m =
    if list_any (λ x. x == m) none
    then (if is_held_by_another t w m then leads_to w (mutex_at w m).owner t else false) else false

abbrev pub closes_unseen : List ℕ → ℕ → World → Bool
closes_unseen none t w = elim (of_call locked_next_by w t) [ None ↦ false | Some m ↦ closes_unseen_with none t w m ]

-- t waits in such a cycle, if it may go on
abbrev pub waiting_unseen : ℕ → World → List World
waiting_unseen t w = if is_allowed w (Go t) then waiting_in_cycle t w else []

-- a move of t by the plain machine, or by waiting in such a cycle: all results
abbrev pub moved_or_waiting : List ℕ → ℕ → World → List World
moved_or_waiting [] t w = moved t w
moved_or_waiting (m ∷ ms) t w = if closes_unseen (m ∷ ms) t w then waiting_unseen t w else moved t w

-- the same, with what is remembered beside
abbrev pub plainly_moved : ℕ → List ℕ → Wide → List Wide
plainly_moved t none s = map (beside s) (moved_or_waiting none t s.world)

-- what t does by a rule, if it is allowed
abbrev pub done_if_allowed : Rules → ℕ → Wide → Rule → List Wide
done_if_allowed r t s x = if has r x then seeing_lending (hidden_from x t s) (done_by r x t) s else []

-- a move of t by one of the rules: all results
abbrev pub moved_by_rule : Rules → ℕ → Wide → List Wide
moved_by_rule r t s = flat_map (done_if_allowed r t s) rules_in_order

-- a move of t, by the plain machine or by a rule: all results
abbrev pub widely_moved : Rules → ℕ → Wide → List Wide
widely_moved r t s =
    seeing_lending (not_named s.world t s.prio_none) (plainly_moved t s.prio_none) s
    ++ (if is_allowed s.world (Go t) then moved_by_rule r t s else [])

-- ENDS

-- whether an end of t may find m, which it owns, Inconsistent again
abbrev pub may_revive : Rules → ℕ → World → ℕ → Bool
may_revive r t w m =
    if is_unusable (mutex_at w m).health
    then (if r.revives then true
    else (if r.cut_unlock then is_mutex_of (of_call unlocked_next_by w t) m else false))
    else false

-- the states in which an end of t may find its mutexes
abbrev pub revived_if : Rules → ℕ → World → ℕ → List World
revived_if r t w m = one_if (may_revive r t w m) (revived m w)

abbrev pub found_by : Rules → ℕ → World → List World
found_by r t w = w ∷ flat_map (revived_if r t w) (robust_of w t)

-- m, whose owner has ended, passes on, or is left free
abbrev pub passed_by : Rules → ℕ → World → List World
passed_by r m w = passed_on m w ∷ one_if r.barge (with_no_owner m w)

abbrev pub passed_by_death : Rules → World → ℕ → List World
passed_by_death r w m = passed_by r m (after_owner_death m w)

-- n robust mutexes that t owns pass on or are left free, one after another in any order, or those that are left stay
abbrev pub released_by : Rules → ℕ → ℕ → World → List World
released_by r zero t w = w ∷ []
released_by r (suc n) t w =
    flat_map (released_by r n t) (flat_map (passed_by_death r w) (robust_of w t)) ++ one_if r.stays_locked w

-- all robust mutexes of t, which has left all waiters, pass on. If each does so at once, the order doesn't matter
abbrev pub all_released : Rules → ℕ → World → List World
all_released r t w =
    if r.barge then released_by r (length (robust_of w t)) t w
    else (if r.stays_locked then released_by r (length (robust_of w t)) t w else all_inherited t w)

abbrev pub ended_found : Rules → ℕ → World → List World
ended_found r t w = all_released r t (after_end t w)

-- t ends: all results
abbrev pub ended_by : Rules → ℕ → World → List World
ended_by r t w = if is_allowed w (End t) then flat_map (ended_found r t) (found_by r t w) else []

-- the state of the machine once t has ended, with what is remembered beside
abbrev pub remembering : ℕ → Wide → World → Wide
remembering t s w = record s { world = w; lost = lost_by s.world t s.lost; given = given_by_others t s.given }

abbrev pub ended_remembering : Rules → ℕ → Wide → List Wide
ended_remembering r t s = map (remembering t s) (ended_by r t s.world)

abbrev pub widely_ended : Rules → ℕ → Wide → List Wide
widely_ended r t s = seeing_lending (not_owned s.world t s.prio_none) (ended_remembering r t) s

-- by `ends_apart`, t lives no more: all results
abbrev pub left_apart : Rules → ℕ → World → List World
left_apart r t w = if is_allowed w (End t) then map (after_end t) (found_by r t w) else []

-- one of the robust mutexes that t, who has ended, still owns passes on: all results
abbrev pub passed_apart : Rules → ℕ → World → List World
passed_apart r t w = if is_living w t then [] else flat_map (passed_by_death r w) (robust_of w t)

-- the same with what is remembered beside
abbrev pub remembering_apart : ℕ → Wide → World → Wide
remembering_apart t s w = record s {
  world = w;
  lost = lost_by s.world t s.lost;
  apart = t ∷ s.apart;
  given = given_by_others t s.given;
}

abbrev pub ended_in_steps : Rules → ℕ → Wide → List Wide
ended_in_steps r t s =
    map (remembering_apart t s) (left_apart r t s.world)
    ++ (if has_ended_apart s t then map (beside s) (passed_apart r t s.world) else [])

abbrev pub ended_apart : Rules → ℕ → Wide → List Wide
ended_apart r t s =
    if r.ends_apart then seeing_lending (not_owned s.world t s.prio_none) (ended_in_steps r t) s else []

-- one of the robust mutexes that stayed with t, who has ended, passes on: all results
abbrev pub passing_later : Rules → ℕ → Wide → List Wide
passing_later r t s = map (beside s) (passed_apart r t s.world)

abbrev pub passed_later : Rules → ℕ → Wide → List Wide
passed_later r t s = seeing_lending (not_owned s.world t s.prio_none) (passing_later r t) s

-- whether t, who has ended, has released its robust mutexes as it has to
abbrev pub has_released : Rules → ℕ → Wide → Bool
has_released r t s =
    if has_ended_apart s t
    then (if r.stays_locked then true else (if is_some_of (robust_of s.world t) then false else true)) else true

-- an entry that a line shows: all results
abbrev pub entered_as : Rules → Bounds → Wide → Entry → Option ℕ → List Wide
entered_as r l s e None = if has_all_again s e then map (beside s) (entered l s.world e) else []
entered_as r l s e (Some t) = widely_ended r t s

abbrev pub widely_entered : Rules → Bounds → Wide → Entry → List Wide
widely_entered r l s e = entered_as r l s e (end_of e)
