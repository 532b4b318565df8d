-- The moves that rules allow are those that are listed.
use Rattle.std.proofs.Common.{ℕ, List, [], map, refl, sym, subst, inl, inr, arith, if◌then◌else◌, Contains}
use Rattle.std.proofs.lemmas.List.Elements.{Contains-append_left, Contains-append_right, Contains-append_cases}
use Rattle.pif_model.specs.declared.events.Event.TheVariants.{Go}
use Rattle.pif_model.specs.Posix.{World}
use Rattle.pif_posix_steps.specs.Doing.{is_allowed}
use Rattle.pif_posix_steps.proofs.DoingLists.{not_in_none, in_then, in_then_from, in_map, in_map_from, in_flat_map, in_flat_map_from}
use Rattle.pif_posix_steps.proofs.DoingMoves.{allowed_from, allowed_to}
use Rattle.pif_rules_model.specs.declared.rules.Rule.{Rule}
use Rattle.pif_rules_model.specs.declared.rules.Rule.TheVariants.{Steal, AnyWaiter, Spurious, Recursion, OwnErrorcheck, AnyConsistent, HeldWait, LostSignal, Revives, Barge, CycleWaits, CycleRefused, TimeoutConsumes, EndsApart, StaysLocked, Rebinds, MoreUses, RefusesSetprio, ConsistentByAny, CutUnlock, OtherError, WaitGivesAll}
use Rattle.pif_rules_model.specs.declared.rules.Rules.{Rules}
use Rattle.pif_rules_model.specs.Sets.{has, rules_in_order}
use Rattle.pif_rules_model.specs.Lending.{not_named}
use Rattle.pif_rules_model.specs.Rules.{Wide, InWorld, MovesOrWaits, hidden_from, DoesBy, MovesByRule, WideMoves, Steals, WakesAny, WakesItself, LocksWithin, TriesOwn, Barges, WaitsInCycle, RefusesCycle, ConsumesSignal, WaitsHolding, BindsAnew, UsesUncounted, MakesConsistentByAny, MakesAnyConsistent, RefusesPriority, FailsOtherwise}
use Rattle.pif_rules_model.specs.Rules.WideMoves.{plain, ruled}
use Rattle.pif_rules_model.specs.Ruled.{beside, seeing_lending, moved_or_waiting, plainly_moved, done_by, done_if_allowed, moved_by_rule, widely_moved, stolen_by, any_woken, woken_by_itself, locked_within, tried_own, mended_or_refused, waiting_held, barged, waiting_in_cycle, refused_cycle, signal_consumed, bound_anew, used_by, priority_refused, mended_by_any, failed_otherwise}
use Rattle.pif_rules_model.proofs.Lending.{sees_to, sees_from, moves_or_waits_to, moves_or_waits_from}
use Rattle.pif_rules_model.proofs.Moves.{steals_to, steals_from, wakes_any_to, wakes_any_from, wakes_itself_to, wakes_itself_from, locks_within_to, locks_within_from, tries_own_to, tries_own_from, makes_any_to, makes_any_from, waits_to, waits_from, loses_to, loses_from, barges_to, barges_from, waits_in_cycle_to, waits_in_cycle_from, refuses_cycle_to, refuses_cycle_from, consumes_to, consumes_from, binds_to, binds_from, uses_to, uses_from, refuses_priority_to, refuses_priority_from, makes_by_any_to, makes_by_any_from, fails_otherwise_to, fails_otherwise_from, moves_hold_to, moves_hold_from}

-- each rule stands in the order
pub each_is_in_order : (x : Rule) → Contains rules_in_order x
each_is_in_order Steal = (0, omega arith, refl)
each_is_in_order AnyWaiter = (1, omega arith, refl)
each_is_in_order Spurious = (2, omega arith, refl)
each_is_in_order Recursion = (3, omega arith, refl)
each_is_in_order OwnErrorcheck = (4, omega arith, refl)
each_is_in_order AnyConsistent = (5, omega arith, refl)
each_is_in_order HeldWait = (6, omega arith, refl)
each_is_in_order LostSignal = (7, omega arith, refl)
each_is_in_order Revives = (8, omega arith, refl)
each_is_in_order Barge = (9, omega arith, refl)
each_is_in_order CycleWaits = (10, omega arith, refl)
each_is_in_order CycleRefused = (11, omega arith, refl)
each_is_in_order TimeoutConsumes = (12, omega arith, refl)
each_is_in_order EndsApart = (13, omega arith, refl)
each_is_in_order StaysLocked = (14, omega arith, refl)
each_is_in_order Rebinds = (15, omega arith, refl)
each_is_in_order MoreUses = (16, omega arith, refl)
each_is_in_order RefusesSetprio = (17, omega arith, refl)
each_is_in_order ConsistentByAny = (18, omega arith, refl)
each_is_in_order CutUnlock = (19, omega arith, refl)
each_is_in_order OtherError = (20, omega arith, refl)
each_is_in_order WaitGivesAll = (21, omega arith, refl)

module _ (t : ℕ) (s : Wide) where
  -- what happens to the state of the POSIX machine alone
  in_world_to : (P : World → World → Type 0) (ws : List World) → ((v : World) → Contains ws v → P s.world v) → (n : Wide)
      → Contains (map (beside s) ws) n → InWorld P s n
  in_world_to P ws f n k = let x = in_map (beside s) ws n k in record { world = x.0; step = f x.0 x.1; same = sym x.2 }

  in_world_from : (P : World → World → Type 0) (ws : List World) → ((v : World) → P s.world v → Contains ws v) → (n : Wide)
      → InWorld P s n → Contains (map (beside s) ws) n
  in_world_from P ws f n h = subst (Contains (map (beside s) ws)) (sym h.same) (in_map_from (beside s) ws h.world (f h.world h.step))

  pub does_to : (r : Rules) (x : Rule) (n : Wide) → Contains (done_by r x t s) n → DoesBy r x t s n
  does_to r Steal n k = in_world_to (Steals t) (stolen_by t s.world) (steals_to t s.world) n k
  does_to r AnyWaiter n k = in_world_to (WakesAny t) (any_woken t s.world) (wakes_any_to t s.world) n k
  does_to r Spurious n k = in_world_to (WakesItself t) (woken_by_itself t s.world) (wakes_itself_to t s.world) n k
  does_to r Recursion n k = in_world_to (LocksWithin r.recursion t) (locked_within r.recursion t s.world) (locks_within_to t s.world r.recursion) n k
  does_to r OwnErrorcheck n k = in_world_to (TriesOwn t) (tried_own t s.world) (tries_own_to t s.world) n k
  does_to r AnyConsistent n k = in_world_to (MakesAnyConsistent t) (mended_or_refused t s.world) (makes_any_to t s.world) n k
  does_to r HeldWait n k = in_world_to (WaitsHolding t) (waiting_held t s.world) (waits_to t s.world) n k
  does_to r LostSignal n k = loses_to t s n k
  does_to r Revives n k = absurd (not_in_none n k)
  does_to r Barge n k = in_world_to (Barges t) (barged t s.world) (barges_to t s.world) n k
  does_to r CycleWaits n k = in_world_to (WaitsInCycle t) (waiting_in_cycle t s.world) (waits_in_cycle_to t s.world) n k
  does_to r CycleRefused n k = in_world_to (RefusesCycle t) (refused_cycle t s.world) (refuses_cycle_to t s.world) n k
  does_to r TimeoutConsumes n k = in_world_to (ConsumesSignal t) (signal_consumed t s.world) (consumes_to t s.world) n k
  does_to r EndsApart n k = absurd (not_in_none n k)
  does_to r StaysLocked n k = absurd (not_in_none n k)
  does_to r Rebinds n k = in_world_to (BindsAnew t) (bound_anew t s.world) (binds_to t s.world) n k
  does_to r MoreUses n k = in_world_to (UsesUncounted t) (used_by t s.world) (uses_to t s.world) n k
  does_to r RefusesSetprio n k = in_world_to (RefusesPriority t) (priority_refused t s.world) (refuses_priority_to t s.world) n k
  does_to r ConsistentByAny n k = in_world_to (MakesConsistentByAny t) (mended_by_any t s.world) (makes_by_any_to t s.world) n k
  does_to r CutUnlock n k = absurd (not_in_none n k)
  does_to r OtherError n k = in_world_to (FailsOtherwise t) (failed_otherwise t s.world) (fails_otherwise_to t s.world) n k
  does_to r WaitGivesAll n k = moves_hold_to t s n k

  pub does_from : (r : Rules) (x : Rule) (n : Wide) → DoesBy r x t s n → Contains (done_by r x t s) n
  does_from r Steal n h = in_world_from (Steals t) (stolen_by t s.world) (steals_from t s.world) n h
  does_from r AnyWaiter n h = in_world_from (WakesAny t) (any_woken t s.world) (wakes_any_from t s.world) n h
  does_from r Spurious n h = in_world_from (WakesItself t) (woken_by_itself t s.world) (wakes_itself_from t s.world) n h
  does_from r Recursion n h = in_world_from (LocksWithin r.recursion t) (locked_within r.recursion t s.world) (locks_within_from t s.world r.recursion) n h
  does_from r OwnErrorcheck n h = in_world_from (TriesOwn t) (tried_own t s.world) (tries_own_from t s.world) n h
  does_from r AnyConsistent n h = in_world_from (MakesAnyConsistent t) (mended_or_refused t s.world) (makes_any_from t s.world) n h
  does_from r HeldWait n h = in_world_from (WaitsHolding t) (waiting_held t s.world) (waits_from t s.world) n h
  does_from r LostSignal n h = loses_from t s n h
  does_from r Revives n h = absurd h
  does_from r Barge n h = in_world_from (Barges t) (barged t s.world) (barges_from t s.world) n h
  does_from r CycleWaits n h = in_world_from (WaitsInCycle t) (waiting_in_cycle t s.world) (waits_in_cycle_from t s.world) n h
  does_from r CycleRefused n h = in_world_from (RefusesCycle t) (refused_cycle t s.world) (refuses_cycle_from t s.world) n h
  does_from r TimeoutConsumes n h = in_world_from (ConsumesSignal t) (signal_consumed t s.world) (consumes_from t s.world) n h
  does_from r EndsApart n h = absurd h
  does_from r StaysLocked n h = absurd h
  does_from r Rebinds n h = in_world_from (BindsAnew t) (bound_anew t s.world) (binds_from t s.world) n h
  does_from r MoreUses n h = in_world_from (UsesUncounted t) (used_by t s.world) (uses_from t s.world) n h
  does_from r RefusesSetprio n h = in_world_from (RefusesPriority t) (priority_refused t s.world) (refuses_priority_from t s.world) n h
  does_from r ConsistentByAny n h = in_world_from (MakesConsistentByAny t) (mended_by_any t s.world) (makes_by_any_from t s.world) n h
  does_from r CutUnlock n h = absurd h
  does_from r OtherError n h = in_world_from (FailsOtherwise t) (failed_otherwise t s.world) (fails_otherwise_from t s.world) n h
  does_from r WaitGivesAll n h = moves_hold_from t s n h

module _ (r : Rules) (t : ℕ) (s : Wide) where
  pub ruled_to : (n : Wide) → Contains (moved_by_rule r t s) n → MovesByRule r t s n
  ruled_to n k =
      let x = in_flat_map (done_if_allowed r t s) rules_in_order n k in
      let y = in_then (has r x.0) (seeing_lending (hidden_from x.0 t s) (done_by r x.0 t) s) n x.2 in
      record {
        rule = x.0;
        allowed = y.0;
        does = sees_to (DoesBy r x.0 t) (done_by r x.0 t) (λ m. does_to t m r x.0) (hidden_from x.0 t s) s n y.1;
      }

  pub ruled_from : (n : Wide) → MovesByRule r t s n → Contains (moved_by_rule r t s) n
  ruled_from n h =
      in_flat_map_from (done_if_allowed r t s) rules_in_order h.rule n (each_is_in_order h.rule)
      (in_then_from (has r h.rule) (seeing_lending (hidden_from h.rule t s) (done_by r h.rule t) s) n h.allowed
      (sees_from (DoesBy r h.rule t) (done_by r h.rule t) (λ m. does_from t m r h.rule) (hidden_from h.rule t s) s n h.does))

  -- a move by the plain machine, or by waiting in a cycle that nobody sees
  plainly_to : (m n : Wide) → Contains (map (beside m) (moved_or_waiting s.prio_none t m.world)) n
      → InWorld (MovesOrWaits s.prio_none t) m n
  plainly_to m n k =
      in_world_to t m (MovesOrWaits s.prio_none t) (moved_or_waiting s.prio_none t m.world) (moves_or_waits_to s.prio_none t m.world) n k

  plainly_from : (m n : Wide) → InWorld (MovesOrWaits s.prio_none t) m n
      → Contains (map (beside m) (moved_or_waiting s.prio_none t m.world)) n
  plainly_from m n h =
      in_world_from t m (MovesOrWaits s.prio_none t) (moved_or_waiting s.prio_none t m.world) (moves_or_waits_from s.prio_none t m.world) n h

  abbrev plain_list : List Wide
  plain_list = seeing_lending (not_named s.world t s.prio_none) (plainly_moved t s.prio_none) s

  pub widely_to : (n : Wide) → Contains (widely_moved r t s) n → WideMoves r t s n
  widely_to n k = elim (Contains-append_cases plain_list (if is_allowed s.world (Go t) then moved_by_rule r t s else []) n k) [
    | inl c ↦ plain (sees_to (InWorld (MovesOrWaits s.prio_none t)) (plainly_moved t s.prio_none) plainly_to (not_named s.world t s.prio_none) s n c)
    | inr c ↦ (let x = in_then (is_allowed s.world (Go t)) (moved_by_rule r t s) n c in ruled (allowed_to s.world (Go t) x.0) (ruled_to n x.1))
  ]

  pub widely_from : (n : Wide) → WideMoves r t s n → Contains (widely_moved r t s) n
  widely_from n (plain h) =
      Contains-append_left plain_list _ n
      (sees_from (InWorld (MovesOrWaits s.prio_none t)) (plainly_moved t s.prio_none) plainly_from (not_named s.world t s.prio_none) s n h)
  widely_from n (ruled a h) =
      Contains-append_right plain_list _ n
      (in_then_from (is_allowed s.world (Go t)) (moved_by_rule r t s) n (allowed_from s.world (Go t) a) (ruled_from n h))
