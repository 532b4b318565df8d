-- What no move by a rule changes, nor what passes on at an end by one: how many threads, mutexes and variables there are,
-- the time, who lives, and whose call is open.
use Rattle.std.proofs.Common.{ℕ, ◌⊎◌, ◌==◌, Bool, true, false, List, [], ◌∷◌, Option, Some, None, refl, sym, subst, inl, inr, if◌then◌else◌}
use Rattle.pif_model.specs.declared.events.Event.TheVariants.{End}
use Rattle.pif_model.specs.NamedNumbers.{EPERM, ESRCH, EAGAIN, EDEADLK, EINVAL}
use Rattle.pif_model.specs.World.Progress.{Has, Waiting, Blocked, Used, Reacquiring}
use Rattle.pif_model.specs.Posix.{World, Thread, Progress, Comes, IsAllowed, mutex_at, taken, without_waiter, after_timeout, after_end, with_progress, with_one_hold_more}
use Rattle.pif_model_simulation.proofs.runs.Worlds.{end_allowed}
use Rattle.pif_rules_model.specs.declared.rules.HoldLimits.{HoldLimits}
use Rattle.pif_rules_model.specs.declared.rules.Rule.{Rule}
use Rattle.pif_rules_model.specs.declared.rules.Rule.TheVariants.{Steal, AnyWaiter, Spurious, Recursion, OwnErrorcheck, AnyConsistent, HeldWait, LostSignal, Barge, CycleWaits, CycleRefused, TimeoutConsumes, Rebinds, MoreUses, RefusesSetprio, ConsistentByAny, OtherError, WaitGivesAll}
use Rattle.pif_rules_model.specs.declared.rules.Rules.{Rules}
use Rattle.pif_rules_model.specs.Lending.{with_owner, looking_free, owned_as_in, not_named, not_owned}
use Rattle.pif_rules_model.specs.Rules.{Wide, InWorld, SeesLending, MovesOrWaits, DoesBy, WideMoves, WideEnds, EndsInSteps, WideEndsApart, WidePassesLater, Steals, LocksBeyond, LocksWithin, TriesOwn, Barges, WaitsInCycle, RefusesCycle, WakesAny, WakesItself, ConsumesSignal, WaitsHolding, BindsAnew, UsesUncounted, LosesSignal, MakesConsistentByAny, MakesAnyConsistent, RefusesPriority, FailsOtherwise, MovesHold, held_again_by, FindsHealth, PassesBy, ReleasesBy, EndsBy, PassesLater, seen_by_lending, hidden_from, with_first_waiter}
use Rattle.pif_rules_model.specs.Rules.WideMoves.{plain as plain_move, ruled}
use Rattle.pif_rules_model.specs.Rules.MovesOrWaits.{plain, waits}
use Rattle.pif_rules_model.specs.Rules.Barges.{frees, takes}
use Rattle.pif_rules_model.specs.Rules.MakesAnyConsistent.{mends, is_refused}
use Rattle.pif_rules_model.specs.Rules.MovesHold.{gives as gives_hold, takes as takes_hold}
use Rattle.pif_rules_model.specs.Rules.FindsHealth.{as_it_is, one}
use Rattle.pif_rules_model.specs.Rules.PassesBy.{passes, left_free}
use Rattle.pif_rules_model.specs.Rules.ReleasesBy.{none_left, they_stay, one_more}
use Rattle.pif_rules_model.specs.Rules.EndsInSteps.{leaves, passes as passes_apart}
use Rattle.pif_history_model.proofs.Lent.{seen_threads}
use Rattle.pif_history_model.proofs.Moving.{kept_Passes}
use Rattle.pif_history_model.proofs.Keeping.{Keeps, Keeps-kept, stays, keeps_then, keeps_thread, keeps_mutex, keeps_waiters, keeps_progress, keeps_unblocked, keeps_variable, keeps_uncounted, keeps_move}
use Rattle.pif_history_model.proofs.Telling.{Leaves, leaves-from_kept, leaves_between}

-- CHANGES

-- a call comes further, after another change
keeps_come : {w u v : World} (t : ℕ) (p : Progress) → Keeps w u → Comes t p u v → Keeps w v
keeps_come {w} {u} {v} t p k e = rw e (keeps_then k (keeps_progress u t p))

keeps_taken : (t m : ℕ) (w : World) → Keeps w (taken t m w)
keeps_taken t m w = keeps_then (keeps_mutex w m _) (keeps_progress _ t _)

-- MOVES

keeps_steal : {t : ℕ} {w v : World} → Steals t w v → Keeps w v
keeps_steal {t} {w} {v} h =
    let u : World = with_progress h.owner Waiting w in
    rw h.takes (keeps_then (keeps_progress w h.owner Waiting)
    (keeps_then (keeps_waiters u ((h.owner, h.mutex) ∷ u.waiters)) (keeps_taken t h.mutex (with_first_waiter h.owner h.mutex u))))

keeps_beyond : {x : HoldLimits} {t : ℕ} {w v : World} → LocksBeyond x t w v → Keeps w v
keeps_beyond {x} {t} {w} {v} h = elim h.comes [
  | inl c ↦ keeps_come t (Has 0) (keeps_mutex w h.mutex _) c.2
  | inr c ↦ keeps_come t (Has EAGAIN) (stays w) c.2
]

keeps_within : (o : Option HoldLimits) (t : ℕ) (w v : World) → LocksWithin o t w v → Keeps w v
keeps_within None t w v h = absurd h
keeps_within (Some x) t w v h = keeps_beyond h

keeps_barge : {t : ℕ} {w v : World} → Barges t w v → Keeps w v
keeps_barge {t} {w} (frees h) =
    rw h.frees (keeps_then (keeps_progress w t h.after) (keeps_mutex (with_progress t h.after w) h.mutex _))
keeps_barge {t} {w} (takes h) = rw h.takes (keeps_then (keeps_waiters w _) (keeps_taken t h.mutex (without_waiter t w)))

keeps_cycle : {t : ℕ} {w v : World} → WaitsInCycle t w v → Keeps w v
keeps_cycle {t} {w} h = keeps_come t Waiting (keeps_waiters w _) h.comes

keeps_any_waiter : {t : ℕ} {w v : World} → WakesAny t w v → Keeps w v
keeps_any_waiter {t} {w} h =
    rw h.wakes (keeps_then (keeps_progress w t (Has 0)) (keeps_unblocked (with_progress t (Has 0) w) h.woken))

keeps_consumed : {t : ℕ} {w v : World} → ConsumesSignal t w v → Keeps w v
keeps_consumed {t} {w} h =
    let u : World = with_progress t Reacquiring (after_timeout t w) in
    rw h.consumes (keeps_then (keeps_then (keeps_thread w t _ refl refl) (keeps_progress (after_timeout t w) t Reacquiring))
    (keeps_progress u h.signaller (Has 0)))

keeps_made_consistent : {t : ℕ} {w v : World} → MakesConsistentByAny t w v → Keeps w v
keeps_made_consistent {t} {w} h = elim h.comes [
  | inl c ↦ keeps_come t (Has 0) (keeps_mutex w h.mutex _) c.1
  | inr c ↦ keeps_come t (Has EINVAL) (stays w) c.1
]

keeps_any_consistent : {t : ℕ} {w v : World} → MakesAnyConsistent t w v → Keeps w v
keeps_any_consistent (mends h) = keeps_made_consistent h
keeps_any_consistent {t} {w} (is_refused h) = keeps_come t (Has EINVAL) (stays w) h.comes

keeps_priority : {t : ℕ} {w v : World} → RefusesPriority t w v → Keeps w v
keeps_priority {t} {w} h = elim h.comes [
  | inl c ↦ elim c [
    | inl e ↦ keeps_come t (Has EPERM) (stays w) e
    | inr e ↦ keeps_come t (Has EINVAL) (stays w) e
  ]
  | inr c ↦ elim c.1 [
    | inl e ↦ keeps_come t (Has ESRCH) (stays w) e
    | inr e ↦ keeps_come t (Has 0) (stays w) e
  ]
]

-- what happens to the state of the POSIX machine alone
keeps_in_world : (P : World → World → Type 0) → ((w v : World) → P w v → Keeps w v) → (s n : Wide) → InWorld P s n → Keeps s.world n.world
keeps_in_world P f s n h = subst (λ (k : Wide). Keeps s.world k.world) (sym h.same) (f s.world h.world h.step)

keeps_lost : (t : ℕ) (s n : Wide) → LosesSignal t s n → Keeps s.world n.world
keeps_lost t s n h = subst (λ (k : Wide). Keeps s.world k.world) (sym h.comes) (keeps_progress s.world t (Has 0))

keeps_held_again : (t m : ℕ) (w : World) → Keeps w (held_again_by t m w)
keeps_held_again t m w = by_owner ((mutex_at w m).owner == t)
  where
    by_owner : (b : Bool) → Keeps w (if b then with_one_hold_more m w else w)
    by_owner true = keeps_mutex w m _
    by_owner false = stays w

keeps_hold : (t : ℕ) (s n : Wide) → MovesHold t s n → Keeps s.world n.world
keeps_hold t s n (gives_hold h) = subst (λ (k : Wide). Keeps s.world k.world) (sym h.comes) (keeps_mutex s.world h.mutex _)
keeps_hold t s n (takes_hold h) = subst (λ (k : Wide). Keeps s.world k.world) (sym h.comes) (keeps_held_again t h.mutex s.world)

keeps_does : (r : Rules) (x : Rule) (t : ℕ) (s n : Wide) → DoesBy r x t s n → Keeps s.world n.world
keeps_does r Steal t s n h = keeps_in_world (Steals t) (λ w v k. keeps_steal k) s n h
keeps_does r AnyWaiter t s n h = keeps_in_world (WakesAny t) (λ w v k. keeps_any_waiter k) s n h
keeps_does r Spurious t s n h = keeps_in_world (WakesItself t) (λ w v k. rw k.wakes (keeps_unblocked w t)) s n h
keeps_does r Recursion t s n h = keeps_in_world (LocksWithin r.recursion t) (keeps_within r.recursion t) s n h
keeps_does r OwnErrorcheck t s n h = keeps_in_world (TriesOwn t) (λ w v k. keeps_come t (Has EDEADLK) (stays w) k.comes) s n h
keeps_does r AnyConsistent t s n h = keeps_in_world (MakesAnyConsistent t) (λ w v k. keeps_any_consistent k) s n h
keeps_does r HeldWait t s n h = keeps_in_world (WaitsHolding t) (λ w v k. keeps_come t (Blocked false) (keeps_mutex w k.mutex _) k.comes) s n h
keeps_does r LostSignal t s n h = keeps_lost t s n h
keeps_does r Barge t s n h = keeps_in_world (Barges t) (λ w v k. keeps_barge k) s n h
keeps_does r CycleWaits t s n h = keeps_in_world (WaitsInCycle t) (λ w v k. keeps_cycle k) s n h
keeps_does r CycleRefused t s n h = keeps_in_world (RefusesCycle t) (λ w v k. keeps_come t (Has EDEADLK) (stays w) k.comes) s n h
keeps_does r TimeoutConsumes t s n h = keeps_in_world (ConsumesSignal t) (λ w v k. keeps_consumed k) s n h
keeps_does r Rebinds t s n h = keeps_in_world (BindsAnew t) (λ w v k. rw k.binds (keeps_variable w k.variable _)) s n h
keeps_does r MoreUses t s n h = keeps_in_world (UsesUncounted t) (λ w v k. keeps_come t Used (keeps_uncounted k.variable w) k.comes) s n h
keeps_does r RefusesSetprio t s n h = keeps_in_world (RefusesPriority t) (λ w v k. keeps_priority k) s n h
keeps_does r ConsistentByAny t s n h = keeps_in_world (MakesConsistentByAny t) (λ w v k. keeps_made_consistent k) s n h
keeps_does r OtherError t s n h = keeps_in_world (FailsOtherwise t) (λ w v k. keeps_come t (Has k.error) (stays w) k.comes) s n h
keeps_does r WaitGivesAll t s n h = keeps_hold t s n h
keeps_does r _ t s n h = absurd h

-- MUTEXES THAT LEND NOTHING

keeps_looking_free : (ms : List ℕ) (w : World) → Keeps w (looking_free ms w)
keeps_looking_free [] w = stays w
keeps_looking_free (m ∷ ms) w = keeps_then (keeps_mutex w m _) (keeps_looking_free ms (with_owner m 0 w))

keeps_owned : (w : World) (ms : List ℕ) (v : World) → Keeps v (owned_as_in w ms v)
keeps_owned w [] v = stays v
keeps_owned w (m ∷ ms) v = keeps_then (keeps_mutex v m _) (keeps_owned w ms (with_owner m (mutex_at w m).owner v))

module _ (P : Wide → Wide → Type 0) (ms : List ℕ) (s n : Wide) (h : SeesLending ms P s n) where
  -- the state in which it happens, and that behind it
  abbrev seen : Wide
  seen = seen_by_lending ms s

  owned : Keeps h.after.world n.world
  owned = subst (λ (k : Wide). Keeps h.after.world k.world) (sym h.same) (keeps_owned s.world ms h.after.world)

  keeps_seen : (P seen h.after → Keeps seen.world h.after.world) → Keeps s.world n.world
  keeps_seen f = keeps_then (keeps_looking_free ms s.world) (keeps_then (f h.step) owned)

  leaves_seen : (t : ℕ) → (P seen h.after → Leaves t seen.world h.after.world) → Leaves t s.world n.world
  leaves_seen t f = leaves_between (keeps_looking_free ms s.world) (f h.step) owned

keeps_or_waits : {none : List ℕ} {t : ℕ} {w v : World} → MovesOrWaits none t w v → Keeps w v
keeps_or_waits (plain c m) = keeps_move m
keeps_or_waits (waits c a m) = keeps_cycle m

-- a move keeps all of this, also by a rule
pub keeps_wide_move : (r : Rules) (t : ℕ) (s n : Wide) → WideMoves r t s n → Keeps s.world n.world
keeps_wide_move r t s n (plain_move h) =
    keeps_seen (InWorld (MovesOrWaits s.prio_none t)) (not_named s.world t s.prio_none) s n h
    (λ k. keeps_in_world (MovesOrWaits s.prio_none t) (λ w v m. keeps_or_waits m) (seen_by_lending (not_named s.world t s.prio_none) s) h.after k)
keeps_wide_move r t s n (ruled i h) =
    keeps_seen (DoesBy r h.rule t) (hidden_from h.rule t s) s n h.does
    (λ k. keeps_does r h.rule t (seen_by_lending (hidden_from h.rule t s) s) h.does.after k)

-- ENDS

keeps_found : {r : Rules} {t : ℕ} {w v : World} → FindsHealth r t w v → Keeps w v
keeps_found {w = w} (as_it_is e) = rw e (stays w)
keeps_found {w = w} (one m a o s u e) = rw e (keeps_mutex w m _)

keeps_passed : {r : Rules} {m : ℕ} {w v : World} → PassesBy r m w v → Keeps w v
keeps_passed (passes p) = kept_Passes Keeps Keeps-kept p
keeps_passed {m = m} {w = w} (left_free b e) = rw e (keeps_mutex w m _)

keeps_released : {r : Rules} {t : ℕ} {w v : World} → ReleasesBy r t w v → Keeps w v
keeps_released {w = w} (none_left n e) = rw e (stays w)
keeps_released {w = w} (they_stay i e) = rw e (stays w)
keeps_released {w = w} (one_more m o s p rest) = keeps_then (keeps_then (keeps_mutex w m _) (keeps_passed p)) (keeps_released rest)

leaves_by : {r : Rules} {t : ℕ} {w v : World} → EndsBy r t w v → Leaves t w v
leaves_by {r} {t} {w} h = leaves-from_kept (end_allowed w t h.allowed).0 (keeps_found h.finds) (keeps_released h.releases)

pub leaves_wide_end : (r : Rules) (t : ℕ) (s n : Wide) → SeesLending (not_owned s.world t s.prio_none) (WideEnds r t) s n
    → Leaves t s.world n.world
leaves_wide_end r t s n h =
    leaves_seen (WideEnds r t) (not_owned s.world t s.prio_none) s n h t
    (λ k. subst (λ (z : Wide). Leaves t (seen_by_lending (not_owned s.world t s.prio_none) s).world z.world) (sym k.same) (leaves_by k.ends))

-- a thread that ended so was allowed to
seen_end : (ms : List ℕ) (w : World) (t : ℕ) → IsAllowed (looking_free ms w) (End t) → IsAllowed w (End t)
seen_end ms w t a = subst (λ (ts : List Thread). IsAllowed (record w { threads = ts }) (End t)) (seen_threads ms w) a

pub wide_end_allowed : (r : Rules) (t : ℕ) (s n : Wide) → SeesLending (not_owned s.world t s.prio_none) (WideEnds r t) s n
    → IsAllowed s.world (End t)
wide_end_allowed r t s n h = seen_end (not_owned s.world t s.prio_none) s.world t h.step.ends.allowed

keeps_passed_later : {r : Rules} {t : ℕ} {w v : World} → PassesLater r t w v → Keeps w v
keeps_passed_later {w = w} h = keeps_then (keeps_mutex w h.mutex _) (keeps_passed h.passes)

pub keeps_later : (r : Rules) (t : ℕ) (s n : Wide) → WidePassesLater r t s n → Keeps s.world n.world
keeps_later r t s n h =
    keeps_seen (InWorld (PassesLater r t)) (not_owned s.world t s.prio_none) s n h
    (λ k. keeps_in_world (PassesLater r t) (λ w v m. keeps_passed_later m) (seen_by_lending (not_owned s.world t s.prio_none) s) h.after k)

-- a step of an end: the thread leaves, or all of this is kept
pub leaves_or_keeps : (r : Rules) (t : ℕ) (s n : Wide) → WideEndsApart r t s n → Leaves t s.world n.world ⊎ Keeps s.world n.world
leaves_or_keeps r t s n h = by_step h.step
  where
    hidden : List ℕ
    hidden = not_owned s.world t s.prio_none

    u : Wide
    u = seen_by_lending hidden s

    by_step : EndsInSteps r t u h.after → Leaves t s.world n.world ⊎ Keeps s.world n.world
    by_step (leaves v k e) =
        let left : Leaves t u.world v = leaves-from_kept (end_allowed u.world t k.allowed).0 (keeps_found k.finds) (rw k.leaves (stays (after_end t k.found))) in
        inl (leaves_seen (EndsInSteps r t) hidden s n h t
        (λ _. subst (λ (z : Wide). Leaves t u.world z.world) (sym e) left))
    by_step (passes_apart v i k e) =
        inr (keeps_seen (EndsInSteps r t) hidden s n h
        (λ _. subst (λ (z : Wide). Keeps u.world z.world) (sym e) (keeps_passed_later k.later)))
