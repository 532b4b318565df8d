-- What each rule lets a thread do is what is listed of it.
use Rattle.std.proofs.Common.{◌≡◌, ◌≢◌, ◌⊎◌, ◌∙◌, ℕ, ◌==◌, ◌<◌, ◌≤◌, nat_lt, nat_le, Bool, true, false, List, [], ◌∷◌, length, Option, Some, None, map, refl, sym, ap, subst, inl, inr, if◌then◌else◌, Contains}
use Rattle.std.specs.List.{list_any}
use Rattle.std.proofs.lemmas.Bool.{eqb-true, eqb-false, eq-eqb, ne_eqb, ltb-true, lt-ltb, leb-true, le-leb, cases_Bool, both_ways, false_from_ne_true}
use Rattle.std.proofs.lemmas.List.Elements.{Contains-append_left, Contains-append_right, Contains-append_cases}
use Rattle.pif_model.specs.declared.lines.Relock.{Relock}
use Rattle.pif_model.specs.declared.lines.Relock.TheVariants.{Deadlocks, Answers, Counts}
use Rattle.pif_model.specs.Kinds.{relock_of}
use Rattle.pif_model.specs.NamedNumbers.{EPERM, ESRCH, EAGAIN, EINVAL, EDEADLK, most_holds}
use Rattle.pif_model.specs.World.{Health, is_living, leads_to, is_orphaned, is_blocked_on}
use Rattle.pif_model.specs.World.Health.{Fine, Inconsistent, Unusable}
use Rattle.pif_model.specs.World.Progress.{Waiting, Has, Blocked, Used}
use Rattle.pif_model.specs.Posix.{World, IsHeldByAnother, is_due, mutex_at, variable_at, effective_of, with_progress, with_call_by, with_health, with_no_owner, with_one_hold_more, with_one_hold_less, with_waiter, without_waiter, after_unblocking, taken}
use Rattle.pif_posix_steps.specs.Doing.{all_blocked, woken, passing}
use Rattle.pif_posix_steps.proofs.DoingCases.{choose_then, choose_else}
use Rattle.pif_posix_steps.proofs.DoingLists.{not_in_none, in_first, in_rest, in_cases, in_one, in_one_from, in_then, in_then_from, in_else, in_else_from, in_map, in_map_from, passing_to, passing_from}
use Rattle.pif_posix_steps.proofs.DoingChoices.{all_blocked_to, all_blocked_from}
use Rattle.pif_rules_model.specs.declared.rules.HoldLimits.{HoldLimits}
use Rattle.pif_rules_model.specs.Rules.{Wide, of_call, locked_next_by, locked_first_by, got_by, waited_for_by, tried_next_by, mended_next_by, given_next_by, waited_next_by, used_next_by, signalled_next_by, signalling_by, blocked_by, set_next_by, stolen, is_recursive, is_errorcheck, never_goes_on, bound_to, used_uncounted, Steals, WakesAny, WakesItself, LocksBeyond, LocksWithin, TriesOwn, Frees, TakesFree, Barges, WaitsInCycle, LeadsToNoEnd, IsHopeless, RefusesCycle, ConsumesSignal, WaitsHolding, BindsAnew, UsesUncounted, LosesSignal, MakesConsistentByAny, IsRefusedFree, MakesAnyConsistent, RefusesPriority, FailsOtherwise, other_errors, GivesHold, TakesHold, MovesHold, has_given, held_again_by, waited_with_by, without_one}
use Rattle.pif_rules_model.specs.Rules.Barges.{frees, takes}
use Rattle.pif_rules_model.specs.Rules.MovesHold.{gives, takes as takes_hold}
use Rattle.pif_rules_model.specs.Rules.IsHopeless.{own, orphaned, circle, behind}
use Rattle.pif_rules_model.specs.Rules.MakesAnyConsistent.{mends, is_refused}
use Rattle.pif_rules_model.specs.Ruled.{is_mutex_of, is_some_of, listed_of, one_if, stolen_from, stolen_by, any_woken, woken_by_itself, locked_more_or_refused, beyond, locked_beyond, locked_within, tried_own, is_inconsistent, freed, freed_by, taken_free, barged, is_held_by_another, waiting_in_cycle, leads_to_no_end, deadlocks, is_hopeless, refused_cycle, consumed_with, signallers, signal_consumed, waiting_held, bound_anew, used_by, mended, mending, mended_by_any, refused_free, mended_or_refused, with_result, priority_refused, failed_otherwise, signal_lost, hold_given, hold_taken, hold_moved}
use Rattle.pif_rules_model.proofs.Listing.{in_listed, in_listed_from, in_one_if, in_one_if_from, some_is_there, some_from_there, none_is_there}

-- whether a mutex that may be there is this
pub is_mutex_of-is : (o : Option ℕ) (m : ℕ) → is_mutex_of o m ≡ true → o ≡ Some m
is_mutex_of-is None m e = absurd (cc)
is_mutex_of-is (Some n) m e = ap Some (eqb-true n m e)

pub is_mutex_of-from : (o : Option ℕ) (m : ℕ) → o ≡ Some m → is_mutex_of o m ≡ true
is_mutex_of-from o m e = subst (λ (p : Option ℕ). is_mutex_of p m ≡ true) (sym e) (eq-eqb m m refl)

-- whether a health is Inconsistent
inconsistent_is : (h : Health) → is_inconsistent h ≡ true → h ≡ Inconsistent
inconsistent_is Inconsistent e = refl
inconsistent_is Fine e = absurd (cc)
inconsistent_is Unusable e = absurd (cc)

inconsistent_from : (h : Health) → h ≡ Inconsistent → is_inconsistent h ≡ true
inconsistent_from h e = subst (λ (x : Health). is_inconsistent x ≡ true) (sym e) refl

settled_is : (h : Health) → is_inconsistent h ≡ false → h ≢ Inconsistent
settled_is h e f = both_ways (is_inconsistent h) e (inconsistent_from h f)

settled_from : (h : Health) → h ≢ Inconsistent → is_inconsistent h ≡ false
settled_from h n = false_from_ne_true (is_inconsistent h) (λ e. n (inconsistent_is h e))

-- whether a lock by the owner waits for good
deadlocks_is : (x : Relock) → deadlocks x ≡ true → x ≡ Deadlocks
deadlocks_is Deadlocks e = refl
deadlocks_is Answers e = absurd (cc)
deadlocks_is Counts e = absurd (cc)

deadlocks_from : (x : Relock) → x ≡ Deadlocks → deadlocks x ≡ true
deadlocks_from x e = subst (λ (y : Relock). deadlocks y ≡ true) (sym e) refl

module _ (t : ℕ) (w : World) where
  -- STEALING

  pub steals_to : (v : World) → Contains (stolen_by t w) v → Steals t w v
  steals_to v k =
      let x = in_listed (of_call locked_next_by w t) (λ m. stolen_from t (mutex_at w m).owner m w) v k in
      let m = x.0 in
      let u = (mutex_at w m).owner in
      let a = in_then (is_mutex_of (of_call got_by w u) m) _ v x.2 in
      let b = in_else (u == t) _ v a.1 in
      let c = in_else (u == 0) _ v b.1 in
      let d = in_then ((mutex_at w m).count == 1) _ v c.1 in
      let e = in_one_if (nat_lt (effective_of w u) (effective_of w t)) (stolen t u m w) v d.1 in
      record {
        mutex = m;
        owner = u;
        locks = x.1;
        owns = refl;
        got = is_mutex_of-is (of_call got_by w u) m a.0;
        another = eqb-false u t b.0;
        owned = eqb-false u 0 c.0;
        once = eqb-true (mutex_at w m).count 1 d.0;
        above = ltb-true (effective_of w u) (effective_of w t) e.0;
        takes = e.1;
      }

  stolen_here : (m u : ℕ) (v : World) → of_call got_by w u ≡ Some m → u ≢ t → u ≢ 0 → (mutex_at w m).count ≡ 1
      → effective_of w u < effective_of w t → v ≡ stolen t u m w → Contains (stolen_from t u m w) v
  stolen_here m u v got another owned once above is_taken =
      in_then_from (is_mutex_of (of_call got_by w u) m) _ v (is_mutex_of-from (of_call got_by w u) m got)
      (in_else_from (u == t) _ v (ne_eqb u t another)
      (in_else_from (u == 0) _ v (ne_eqb u 0 owned)
      (in_then_from ((mutex_at w m).count == 1) _ v (eq-eqb (mutex_at w m).count 1 once)
      (in_one_if_from (nat_lt (effective_of w u) (effective_of w t)) (stolen t u m w) v (lt-ltb (effective_of w u) (effective_of w t) above) is_taken))))

  pub steals_from : (v : World) → Steals t w v → Contains (stolen_by t w) v
  steals_from v s =
      in_listed_from (of_call locked_next_by w t) (λ m. stolen_from t (mutex_at w m).owner m w) v s.mutex s.locks
      (subst (λ (u : ℕ). Contains (stolen_from t u s.mutex w) v) (sym s.owns)
      (stolen_here s.mutex s.owner v s.got s.another s.owned s.once s.above s.takes))

  -- RECURSION

  more_to : (x : HoldLimits) (m : ℕ) (v : World) → Contains (locked_more_or_refused x t m w) v
      → ((most_holds ≤ (mutex_at w m).count) × ((mutex_at w m).count < x.most) × (v ≡ with_progress t (Has 0) (with_one_hold_more m w)))
      ⊎ ((x.least ≤ (mutex_at w m).count) × ((mutex_at w m).count ≤ x.most) × (v ≡ with_progress t (Has EAGAIN) w))
  more_to x m v k =
      elim (Contains-append_cases
      (if nat_le most_holds (mutex_at w m).count then one_if (nat_lt (mutex_at w m).count x.most) (with_progress t (Has 0) (with_one_hold_more m w)) else [])
      (if nat_le x.least (mutex_at w m).count then one_if (nat_le (mutex_at w m).count x.most) (with_progress t (Has EAGAIN) w) else []) v k) [
        | inl c ↦ (
            let a = in_then (nat_le most_holds (mutex_at w m).count) _ v c in
            let b = in_one_if (nat_lt (mutex_at w m).count x.most) _ v a.1 in
            inl (leb-true most_holds (mutex_at w m).count a.0, ltb-true (mutex_at w m).count x.most b.0, b.1))
        | inr c ↦ (
            let a = in_then (nat_le x.least (mutex_at w m).count) _ v c in
            let b = in_one_if (nat_le (mutex_at w m).count x.most) _ v a.1 in
            inr (leb-true x.least (mutex_at w m).count a.0, leb-true (mutex_at w m).count x.most b.0, b.1))
      ]

  more_from : (x : HoldLimits) (m : ℕ) (v : World)
      → ((most_holds ≤ (mutex_at w m).count) × ((mutex_at w m).count < x.most) × (v ≡ with_progress t (Has 0) (with_one_hold_more m w)))
      ⊎ ((x.least ≤ (mutex_at w m).count) × ((mutex_at w m).count ≤ x.most) × (v ≡ with_progress t (Has EAGAIN) w))
      → Contains (locked_more_or_refused x t m w) v
  more_from x m v (inl h) =
      Contains-append_left
      (if nat_le most_holds (mutex_at w m).count then one_if (nat_lt (mutex_at w m).count x.most) (with_progress t (Has 0) (with_one_hold_more m w)) else []) _ v
      (in_then_from (nat_le most_holds (mutex_at w m).count) _ v (le-leb most_holds (mutex_at w m).count h.0)
      (in_one_if_from (nat_lt (mutex_at w m).count x.most) _ v (lt-ltb (mutex_at w m).count x.most h.1) h.2))
  more_from x m v (inr h) =
      Contains-append_right
      (if nat_le most_holds (mutex_at w m).count then one_if (nat_lt (mutex_at w m).count x.most) (with_progress t (Has 0) (with_one_hold_more m w)) else []) _ v
      (in_then_from (nat_le x.least (mutex_at w m).count) _ v (le-leb x.least (mutex_at w m).count h.0)
      (in_one_if_from (nat_le (mutex_at w m).count x.most) _ v (le-leb (mutex_at w m).count x.most h.1) h.2))

  beyond_to : (x : HoldLimits) (m : ℕ) (v : World) → (of_call locked_next_by w t ≡ Some m) ⊎ (of_call tried_next_by w t ≡ Some m)
      → Contains (beyond x t w m) v → LocksBeyond x t w v
  beyond_to x m v locks k =
      let a = in_then ((mutex_at w m).owner == t) _ v k in
      let b = in_then (is_recursive (mutex_at w m).kind) _ v a.1 in
      record {
        mutex = m;
        locks = locks;
        owns = eqb-true (mutex_at w m).owner t a.0;
        recursive = b.0;
        comes = more_to x m v b.1;
      }

  beyond_from : (x : HoldLimits) (v : World) (h : LocksBeyond x t w v) → Contains (beyond x t w h.mutex) v
  beyond_from x v h =
      in_then_from ((mutex_at w h.mutex).owner == t) _ v (eq-eqb (mutex_at w h.mutex).owner t h.owns)
      (in_then_from (is_recursive (mutex_at w h.mutex).kind) _ v h.recursive (more_from x h.mutex v h.comes))

  pub locks_beyond_to : (x : HoldLimits) (v : World) → Contains (locked_beyond x t w) v → LocksBeyond x t w v
  locks_beyond_to x v k =
      elim (Contains-append_cases (listed_of (of_call locked_next_by w t) (beyond x t w)) (listed_of (of_call tried_next_by w t) (beyond x t w)) v k) [
        | inl c ↦ (let y = in_listed (of_call locked_next_by w t) (beyond x t w) v c in beyond_to x y.0 v (inl y.1) y.2)
        | inr c ↦ (let y = in_listed (of_call tried_next_by w t) (beyond x t w) v c in beyond_to x y.0 v (inr y.1) y.2)
      ]

  pub locks_beyond_from : (x : HoldLimits) (v : World) → LocksBeyond x t w v → Contains (locked_beyond x t w) v
  locks_beyond_from x v h = elim h.locks [
    | inl e ↦ Contains-append_left (listed_of (of_call locked_next_by w t) (beyond x t w)) (listed_of (of_call tried_next_by w t) (beyond x t w)) v
        (in_listed_from (of_call locked_next_by w t) (beyond x t w) v h.mutex e (beyond_from x v h))
    | inr e ↦ Contains-append_right (listed_of (of_call locked_next_by w t) (beyond x t w)) (listed_of (of_call tried_next_by w t) (beyond x t w)) v
        (in_listed_from (of_call tried_next_by w t) (beyond x t w) v h.mutex e (beyond_from x v h))
  ]

  pub locks_within_to : (o : Option HoldLimits) (v : World) → Contains (locked_within o t w) v → LocksWithin o t w v
  locks_within_to None v k = absurd (not_in_none v k)
  locks_within_to (Some x) v k = locks_beyond_to x v k

  pub locks_within_from : (o : Option HoldLimits) (v : World) → LocksWithin o t w v → Contains (locked_within o t w) v
  locks_within_from None v h = absurd h
  locks_within_from (Some x) v h = locks_beyond_from x v h

  -- ERRORCHECK

  pub tries_own_to : (v : World) → Contains (tried_own t w) v → TriesOwn t w v
  tries_own_to v k =
      let x = in_listed (of_call tried_next_by w t) _ v k in
      let a = in_then ((mutex_at w x.0).owner == t) _ v x.2 in
      let b = in_one_if (is_errorcheck (mutex_at w x.0).kind) (with_progress t (Has EDEADLK) w) v a.1 in
      record { mutex = x.0; tries = x.1; owns = eqb-true (mutex_at w x.0).owner t a.0; errorcheck = b.0; comes = b.1 }

  pub tries_own_from : (v : World) → TriesOwn t w v → Contains (tried_own t w) v
  tries_own_from v s =
      in_listed_from (of_call tried_next_by w t) _ v s.mutex s.tries
      (in_then_from ((mutex_at w s.mutex).owner == t) _ v (eq-eqb (mutex_at w s.mutex).owner t s.owns)
      (in_one_if_from (is_errorcheck (mutex_at w s.mutex).kind) (with_progress t (Has EDEADLK) w) v s.errorcheck s.comes))

  -- BARGING

  frees_to : (v : World) → Contains (freed_by t w) v → Frees t w v
  frees_to v k =
      let x = in_listed (of_call given_next_by w t) (freed t w) v k in
      let m = x.0.0 in
      let a = in_then ((mutex_at w m).owner == t) _ v x.2 in
      let b = in_then ((mutex_at w m).count == 1) _ v a.1 in
      let c = in_else (is_inconsistent (mutex_at w m).health) (with_no_owner m (with_progress t x.0.1 w) ∷ []) v b.1 in
      record {
        mutex = m;
        after = x.0.1;
        gives = x.1;
        owns = eqb-true (mutex_at w m).owner t a.0;
        once = eqb-true (mutex_at w m).count 1 b.0;
        settled = settled_is (mutex_at w m).health c.0;
        frees = sym (in_one (with_no_owner m (with_progress t x.0.1 w)) v c.1);
      }

  frees_from : (v : World) → Frees t w v → Contains (freed_by t w) v
  frees_from v s =
      in_listed_from (of_call given_next_by w t) (freed t w) v (s.mutex, s.after) s.gives
      (in_then_from ((mutex_at w s.mutex).owner == t) _ v (eq-eqb (mutex_at w s.mutex).owner t s.owns)
      (in_then_from ((mutex_at w s.mutex).count == 1) _ v (eq-eqb (mutex_at w s.mutex).count 1 s.once)
      (in_else_from (is_inconsistent (mutex_at w s.mutex).health) (with_no_owner s.mutex (with_progress t s.after w) ∷ []) v
      (settled_from (mutex_at w s.mutex).health s.settled) (in_one_from (with_no_owner s.mutex (with_progress t s.after w)) v s.frees))))

  takes_free_to : (v : World) → Contains (taken_free t w) v → TakesFree t w v
  takes_free_to v k =
      let x = in_listed (of_call waited_for_by w t) (λ m. one_if ((mutex_at w m).owner == 0) (taken t m (without_waiter t w))) v k in
      let a = in_one_if ((mutex_at w x.0).owner == 0) (taken t x.0 (without_waiter t w)) v x.2 in
      record { mutex = x.0; waits = x.1; free = eqb-true (mutex_at w x.0).owner 0 a.0; takes = a.1 }

  takes_free_from : (v : World) → TakesFree t w v → Contains (taken_free t w) v
  takes_free_from v s =
      in_listed_from (of_call waited_for_by w t) (λ m. one_if ((mutex_at w m).owner == 0) (taken t m (without_waiter t w))) v s.mutex s.waits
      (in_one_if_from ((mutex_at w s.mutex).owner == 0) (taken t s.mutex (without_waiter t w)) v (eq-eqb (mutex_at w s.mutex).owner 0 s.free) s.takes)

  pub barges_to : (v : World) → Contains (barged t w) v → Barges t w v
  barges_to v k = elim (Contains-append_cases (freed_by t w) (taken_free t w) v k) [
    | inl c ↦ frees (frees_to v c)
    | inr c ↦ takes (takes_free_to v c)
  ]

  pub barges_from : (v : World) → Barges t w v → Contains (barged t w) v
  barges_from v (frees h) = Contains-append_left (freed_by t w) (taken_free t w) v (frees_from v h)
  barges_from v (takes h) = Contains-append_right (freed_by t w) (taken_free t w) v (takes_free_from v h)

  -- CYCLES

  pub held_to : (m : ℕ) → is_held_by_another t w m ≡ true → IsHeldByAnother w t m
  held_to m e = by_owner (cases_Bool (o == t))
    where
      o : ℕ
      o = (mutex_at w m).owner

      by_orphaned : o ≢ t → o ≢ 0 → (if is_orphaned w m then false else true) ≡ true → (is_orphaned w m ≡ true) ⊎ (is_orphaned w m ≡ false)
          → IsHeldByAnother w t m
      by_orphaned n s f (inl c) = absurd (both_ways (if is_orphaned w m then false else true) (choose_then (is_orphaned w m) false true c) f)
      by_orphaned n s f (inr c) = (n, s, c)

      by_free : o ≢ t → (if o == 0 then false else (if is_orphaned w m then false else true)) ≡ true → ((o == 0) ≡ true) ⊎ ((o == 0) ≡ false)
          → IsHeldByAnother w t m
      by_free n f (inl b) =
          absurd (both_ways (if o == 0 then false else (if is_orphaned w m then false else true)) (choose_then (o == 0) false _ b) f)
      by_free n f (inr b) = by_orphaned n (eqb-false o 0 b) (sym (choose_else (o == 0) false _ b) ∙ f) (cases_Bool (is_orphaned w m))

      by_owner : ((o == t) ≡ true) ⊎ ((o == t) ≡ false) → IsHeldByAnother w t m
      by_owner (inl a) = absurd (both_ways (is_held_by_another t w m) (choose_then (o == t) false _ a) e)
      by_owner (inr a) = by_free (eqb-false o t a) (sym (choose_else (o == t) false _ a) ∙ e) (cases_Bool (o == 0))

  pub held_from : (m : ℕ) → IsHeldByAnother w t m → is_held_by_another t w m ≡ true
  held_from m h =
      choose_else ((mutex_at w m).owner == t) false _ (ne_eqb (mutex_at w m).owner t h.0)
      ∙ choose_else ((mutex_at w m).owner == 0) false _ (ne_eqb (mutex_at w m).owner 0 h.1) ∙ choose_else (is_orphaned w m) false true h.2

  pub waits_in_cycle_to : (v : World) → Contains (waiting_in_cycle t w) v → WaitsInCycle t w v
  waits_in_cycle_to v k =
      let x = in_listed (of_call locked_next_by w t) _ v k in
      let a = in_then (is_held_by_another t w x.0) _ v x.2 in
      let b = in_one_if (leads_to w (mutex_at w x.0).owner t) (with_progress t Waiting (with_waiter t x.0 w)) v a.1 in
      record { mutex = x.0; locks = x.1; held = held_to x.0 a.0; closes = b.0; comes = b.1 }

  pub waits_in_cycle_from : (v : World) → WaitsInCycle t w v → Contains (waiting_in_cycle t w) v
  waits_in_cycle_from v s =
      in_listed_from (of_call locked_next_by w t) _ v s.mutex s.locks
      (in_then_from (is_held_by_another t w s.mutex) _ v (held_from s.mutex s.held)
      (in_one_if_from (leads_to w (mutex_at w s.mutex).owner t) (with_progress t Waiting (with_waiter t s.mutex w)) v s.closes s.comes))

  -- a thread to which a chain leads, and which never goes on
  abbrev goes_on_nowhere : ℕ → ℕ → Bool
  goes_on_nowhere u x = if leads_to w u x then never_goes_on w x else false

  no_end_to : (u : ℕ) → leads_to_no_end w u ≡ true → LeadsToNoEnd w u
  no_end_to u e =
      let x = some_is_there (passing (goes_on_nowhere u) (length w.threads)) e in
      let y = passing_to (goes_on_nowhere u) (length w.threads) x.0 x.1 in
      by_chain x.0 y.0 y.1 (cases_Bool (leads_to w u x.0))
    where
      by_chain : (x : ℕ) → x < length w.threads → goes_on_nowhere u x ≡ true → (leads_to w u x ≡ true) ⊎ (leads_to w u x ≡ false)
          → LeadsToNoEnd w u
      by_chain x l f (inl a) =
          record { last = x; within = l; leads = a; never = sym (choose_then (leads_to w u x) (never_goes_on w x) false a) ∙ f }
      by_chain x l f (inr a) = absurd (both_ways (goes_on_nowhere u x) (choose_else (leads_to w u x) (never_goes_on w x) false a) f)

  no_end_from : (u : ℕ) → LeadsToNoEnd w u → leads_to_no_end w u ≡ true
  no_end_from u h =
      some_from_there (passing (goes_on_nowhere u) (length w.threads)) h.last
      (passing_from (goes_on_nowhere u) (length w.threads) h.last h.within (choose_then (leads_to w u h.last) (never_goes_on w h.last) false h.leads ∙ h.never))

  hopeless_to : (m : ℕ) → is_hopeless t w m ≡ true → IsHopeless t m w
  hopeless_to m e = by_owner (cases_Bool (o == t))
    where
      o : ℕ
      o = (mutex_at w m).owner

      Chain : Bool
      Chain = if leads_to w o t then true else leads_to_no_end w o

      by_circle : IsHeldByAnother w t m → (if leads_to w o t then true else leads_to_no_end w o) ≡ true
          → (leads_to w o t ≡ true) ⊎ (leads_to w o t ≡ false) → IsHopeless t m w
      by_circle held f (inl d) = circle held d
      by_circle held f (inr d) = behind held (no_end_to o (sym (choose_else (leads_to w o t) true _ d) ∙ f))

      by_orphaned : o ≢ t → o ≢ 0 → (if is_orphaned w m then true else (if leads_to w o t then true else leads_to_no_end w o)) ≡ true
          → (is_orphaned w m ≡ true) ⊎ (is_orphaned w m ≡ false) → IsHopeless t m w
      by_orphaned n s f (inl c) = orphaned (n, s, c)
      by_orphaned n s f (inr c) = by_circle (n, s, c) (sym (choose_else (is_orphaned w m) true _ c) ∙ f) (cases_Bool (leads_to w o t))

      by_free : o ≢ t → (if o == 0 then false else (if is_orphaned w m then true else (if leads_to w o t then true else leads_to_no_end w o))) ≡ true
          → ((o == 0) ≡ true) ⊎ ((o == 0) ≡ false) → IsHopeless t m w
      by_free n f (inl b) = absurd (both_ways _ (choose_then (o == 0) false _ b) f)
      by_free n f (inr b) = by_orphaned n (eqb-false o 0 b) (sym (choose_else (o == 0) false _ b) ∙ f) (cases_Bool (is_orphaned w m))

      by_owner : ((o == t) ≡ true) ⊎ ((o == t) ≡ false) → IsHopeless t m w
      by_owner (inl a) = own (eqb-true o t a) (deadlocks_is (relock_of (mutex_at w m).kind) (sym (choose_then (o == t) _ _ a) ∙ e))
      by_owner (inr a) = by_free (eqb-false o t a) (sym (choose_else (o == t) _ _ a) ∙ e) (cases_Bool (o == 0))

  -- of a mutex that another thread owns
  hopeless_of_another : (m : ℕ) → (mutex_at w m).owner ≢ t → (mutex_at w m).owner ≢ 0
      → is_hopeless t w m
      ≡ (if is_orphaned w m then true else (if leads_to w (mutex_at w m).owner t then true else leads_to_no_end w (mutex_at w m).owner))
  hopeless_of_another m n s =
      choose_else ((mutex_at w m).owner == t) _ _ (ne_eqb (mutex_at w m).owner t n)
      ∙ choose_else ((mutex_at w m).owner == 0) false _ (ne_eqb (mutex_at w m).owner 0 s)

  hopeless_from : (m : ℕ) → IsHopeless t m w → is_hopeless t w m ≡ true
  hopeless_from m (own a b) =
      choose_then ((mutex_at w m).owner == t) _ _ (eq-eqb (mutex_at w m).owner t a) ∙ deadlocks_from (relock_of (mutex_at w m).kind) b
  hopeless_from m (orphaned h) = hopeless_of_another m h.0 h.1 ∙ choose_then (is_orphaned w m) true _ h.2
  hopeless_from m (circle h c) =
      hopeless_of_another m h.0 h.1 ∙ choose_else (is_orphaned w m) true _ h.2 ∙ choose_then (leads_to w (mutex_at w m).owner t) true _ c
  hopeless_from m (behind h c) = hopeless_of_another m h.0 h.1 ∙ choose_else (is_orphaned w m) true _ h.2 ∙ by_circle (leads_to w (mutex_at w m).owner t)
    where
      by_circle : (b : Bool) → (if b then true else leads_to_no_end w (mutex_at w m).owner) ≡ true
      by_circle true = refl
      by_circle false = no_end_from (mutex_at w m).owner c

  pub refuses_cycle_to : (v : World) → Contains (refused_cycle t w) v → RefusesCycle t w v
  refuses_cycle_to v k =
      let x = in_listed (of_call locked_first_by w t) _ v k in
      let a = in_one_if (is_hopeless t w x.0) (with_progress t (Has EDEADLK) w) v x.2 in
      record { mutex = x.0; locks = x.1; hopeless = hopeless_to x.0 a.0; comes = a.1 }

  pub refuses_cycle_from : (v : World) → RefusesCycle t w v → Contains (refused_cycle t w) v
  refuses_cycle_from v s =
      in_listed_from (of_call locked_first_by w t) _ v s.mutex s.locks
      (in_one_if_from (is_hopeless t w s.mutex) (with_progress t (Has EDEADLK) w) v (hopeless_from s.mutex s.hopeless) s.comes)

  -- WAKING

  pub wakes_any_to : (v : World) → Contains (any_woken t w) v → WakesAny t w v
  wakes_any_to v k =
      let x = in_listed (of_call signalled_next_by w t) (λ c. map (λ u. woken t u w) (all_blocked w c)) v k in
      let y = in_map (λ u. woken t u w) (all_blocked w x.0) v x.2 in
      record { variable = x.0; woken = y.0; signals = x.1; blocked = all_blocked_to w x.0 y.0 y.1; wakes = sym y.2 }

  pub wakes_any_from : (v : World) → WakesAny t w v → Contains (any_woken t w) v
  wakes_any_from v s =
      in_listed_from (of_call signalled_next_by w t) (λ c. map (λ u. woken t u w) (all_blocked w c)) v s.variable s.signals
      (subst (Contains (map (λ u. woken t u w) (all_blocked w s.variable))) (sym s.wakes)
      (in_map_from (λ u. woken t u w) (all_blocked w s.variable) s.woken (all_blocked_from w s.variable s.woken s.blocked)))

  pub wakes_itself_to : (v : World) → Contains (woken_by_itself t w) v → WakesItself t w v
  wakes_itself_to v k =
      let x = in_listed (of_call blocked_by w t) (λ c. with_call_by t after_unblocking w ∷ []) v k in
      record { variable = x.0; blocked = x.1; wakes = sym (in_one (with_call_by t after_unblocking w) v x.2) }

  pub wakes_itself_from : (v : World) → WakesItself t w v → Contains (woken_by_itself t w) v
  wakes_itself_from v s =
      in_listed_from (of_call blocked_by w t) (λ c. with_call_by t after_unblocking w ∷ []) v s.variable s.blocked
      (in_one_from (with_call_by t after_unblocking w) v s.wakes)

  -- whether u's open signal is of c
  abbrev signals_of : ℕ → ℕ → Bool
  signals_of c u = is_mutex_of (of_call signalling_by w u) c

  pub consumes_to : (v : World) → Contains (signal_consumed t w) v → ConsumesSignal t w v
  consumes_to v k =
      let a = in_then (is_due w t) _ v k in
      let x = in_listed (of_call blocked_by w t) (λ c. map (consumed_with t w) (signallers w c)) v a.1 in
      let y = in_map (consumed_with t w) (signallers w x.0) v x.2 in
      let z = passing_to (signals_of x.0) (length w.threads) y.0 y.1 in
      record {
        variable = x.0;
        signaller = y.0;
        due = a.0;
        blocked = x.1;
        within = z.0;
        signals = is_mutex_of-is (of_call signalling_by w y.0) x.0 z.1;
        consumes = sym y.2;
      }

  pub consumes_from : (v : World) → ConsumesSignal t w v → Contains (signal_consumed t w) v
  consumes_from v s =
      in_then_from (is_due w t) _ v s.due
      (in_listed_from (of_call blocked_by w t) (λ c. map (consumed_with t w) (signallers w c)) v s.variable s.blocked
      (subst (Contains (map (consumed_with t w) (signallers w s.variable))) (sym s.consumes)
      (in_map_from (consumed_with t w) (signallers w s.variable) s.signaller
      (passing_from (signals_of s.variable) (length w.threads) s.signaller s.within (is_mutex_of-from (of_call signalling_by w s.signaller) s.variable s.signals)))))

  -- WAITING

  pub waits_to : (v : World) → Contains (waiting_held t w) v → WaitsHolding t w v
  waits_to v k =
      let x = in_listed (of_call waited_next_by w t) _ v k in
      let c = x.0.0 in
      let m = x.0.1 in
      let a = in_then ((variable_at w c).mutex == m) _ v x.2 in
      let b = in_then ((mutex_at w m).owner == t) _ v a.1 in
      let d = in_one_if (nat_lt 1 (mutex_at w m).count) (with_progress t (Blocked false) (with_one_hold_less m w)) v b.1 in
      record {
        variable = c;
        mutex = m;
        waits = x.1;
        bound = eqb-true (variable_at w c).mutex m a.0;
        owns = eqb-true (mutex_at w m).owner t b.0;
        more = ltb-true 1 (mutex_at w m).count d.0;
        comes = d.1;
      }

  pub waits_from : (v : World) → WaitsHolding t w v → Contains (waiting_held t w) v
  waits_from v s =
      in_listed_from (of_call waited_next_by w t) _ v (s.variable, s.mutex) s.waits
      (in_then_from ((variable_at w s.variable).mutex == s.mutex) _ v (eq-eqb (variable_at w s.variable).mutex s.mutex s.bound)
      (in_then_from ((mutex_at w s.mutex).owner == t) _ v (eq-eqb (mutex_at w s.mutex).owner t s.owns)
      (in_one_if_from (nat_lt 1 (mutex_at w s.mutex).count) (with_progress t (Blocked false) (with_one_hold_less s.mutex w)) v (lt-ltb 1 (mutex_at w s.mutex).count s.more) s.comes)))

  pub binds_to : (v : World) → Contains (bound_anew t w) v → BindsAnew t w v
  binds_to v k =
      let x = in_listed (of_call waited_next_by w t) _ v k in
      let c = x.0.0 in
      let m = x.0.1 in
      let a = in_else ((variable_at w c).mutex == m) _ v x.2 in
      let b = in_else (is_some_of (all_blocked w c)) (bound_to c m w ∷ []) v a.1 in
      record {
        variable = c;
        mutex = m;
        waits = x.1;
        elsewhere = eqb-false (variable_at w c).mutex m a.0;
        nobody = λ u. false_from_ne_true (is_blocked_on w c u) (λ e. none_is_there (all_blocked w c) u b.0 (all_blocked_from w c u e));
        binds = sym (in_one (bound_to c m w) v b.1);
      }

  pub binds_from : (v : World) → BindsAnew t w v → Contains (bound_anew t w) v
  binds_from v s =
      in_listed_from (of_call waited_next_by w t) _ v (s.variable, s.mutex) s.waits
      (in_else_from ((variable_at w s.variable).mutex == s.mutex) _ v (ne_eqb (variable_at w s.variable).mutex s.mutex s.elsewhere)
      (in_else_from (is_some_of (all_blocked w s.variable)) (bound_to s.variable s.mutex w ∷ []) v nobody_there (in_one_from (bound_to s.variable s.mutex w) v s.binds)))
    where
      nobody_there : is_some_of (all_blocked w s.variable) ≡ false
      nobody_there = false_from_ne_true (is_some_of (all_blocked w s.variable)) (λ e.
          let x = some_is_there (all_blocked w s.variable) e in
          both_ways (is_blocked_on w s.variable x.0) (s.nobody x.0) (all_blocked_to w s.variable x.0 x.1))

  pub uses_to : (v : World) → Contains (used_by t w) v → UsesUncounted t w v
  uses_to v k =
      let x = in_listed (of_call used_next_by w t) (λ c. with_progress t Used (used_uncounted c w) ∷ []) v k in
      record { variable = x.0; uses = x.1; comes = sym (in_one (with_progress t Used (used_uncounted x.0 w)) v x.2) }

  pub uses_from : (v : World) → UsesUncounted t w v → Contains (used_by t w) v
  uses_from v s =
      in_listed_from (of_call used_next_by w t) (λ c. with_progress t Used (used_uncounted c w) ∷ []) v s.variable s.uses
      (in_one_from (with_progress t Used (used_uncounted s.variable w)) v s.comes)

  -- CONSISTENT

  -- what is listed of a robust mutex that t is about to make consistent and doesn't own
  mending_to : (f : ℕ → List World) (v : World) → Contains (mending f t w) v
      → (m : ℕ) × (of_call mended_next_by w t ≡ Some m) × ((mutex_at w m).robust ≡ true) × ((mutex_at w m).owner ≢ t) × Contains (f m) v
  mending_to f v k =
      let x = in_listed (of_call mended_next_by w t) _ v k in
      let a = in_then (mutex_at w x.0).robust _ v x.2 in
      let b = in_else ((mutex_at w x.0).owner == t) (f x.0) v a.1 in
      (x.0, x.1, a.0, eqb-false (mutex_at w x.0).owner t b.0, b.1)

  mending_from : (f : ℕ → List World) (v : World) (m : ℕ) → of_call mended_next_by w t ≡ Some m → (mutex_at w m).robust ≡ true
      → (mutex_at w m).owner ≢ t → Contains (f m) v → Contains (mending f t w) v
  mending_from f v m e r n k =
      in_listed_from (of_call mended_next_by w t) _ v m e
      (in_then_from (mutex_at w m).robust _ v r (in_else_from ((mutex_at w m).owner == t) (f m) v (ne_eqb (mutex_at w m).owner t n) k))

  mended_is : (m : ℕ) (v : World) → v ≡ mended t w m → (h : Bool) → is_inconsistent (mutex_at w m).health ≡ h
      → (((mutex_at w m).health ≡ Inconsistent) × (v ≡ with_progress t (Has 0) (with_health m Fine w)))
      ⊎ (((mutex_at w m).health ≢ Inconsistent) × (v ≡ with_progress t (Has EINVAL) w))
  mended_is m v e true h = inl (inconsistent_is (mutex_at w m).health h, e ∙ choose_then (is_inconsistent (mutex_at w m).health) _ _ h)
  mended_is m v e false h = inr (settled_is (mutex_at w m).health h, e ∙ choose_else (is_inconsistent (mutex_at w m).health) _ _ h)

  pub makes_by_any_to : (v : World) → Contains (mended_by_any t w) v → MakesConsistentByAny t w v
  makes_by_any_to v k =
      let x = mending_to (λ m. mended t w m ∷ []) v k in
      record {
        mutex = x.0;
        mends = x.1;
        not_owner = (x.2, x.3);
        comes = mended_is x.0 v (sym (in_one (mended t w x.0) v x.4)) (is_inconsistent (mutex_at w x.0).health) refl;
      }

  pub makes_by_any_from : (v : World) → MakesConsistentByAny t w v → Contains (mended_by_any t w) v
  makes_by_any_from v s =
      mending_from (λ m. mended t w m ∷ []) v s.mutex s.mends s.not_owner.0 s.not_owner.1 (in_one_from (mended t w s.mutex) v (is_mended s.comes))
    where
      is_mended : (((mutex_at w s.mutex).health ≡ Inconsistent) × (v ≡ with_progress t (Has 0) (with_health s.mutex Fine w)))
          ⊎ (((mutex_at w s.mutex).health ≢ Inconsistent) × (v ≡ with_progress t (Has EINVAL) w)) → v ≡ mended t w s.mutex
      is_mended (inl h) =
          h.1 ∙ sym (choose_then (is_inconsistent (mutex_at w s.mutex).health) _ _ (inconsistent_from (mutex_at w s.mutex).health h.0))
      is_mended (inr h) = h.1 ∙ sym (choose_else (is_inconsistent (mutex_at w s.mutex).health) _ _ (settled_from (mutex_at w s.mutex).health h.0))

  -- what glibc answers of one that is free
  abbrev free_refused : ℕ → List World
  free_refused m =
      if (mutex_at w m).owner == 0 then one_if (is_inconsistent (mutex_at w m).health) (with_progress t (Has EINVAL) w) else []

  refused_free_to : (v : World) → Contains (refused_free t w) v → IsRefusedFree t w v
  refused_free_to v k =
      let x = mending_to free_refused v k in
      let a = in_then ((mutex_at w x.0).owner == 0) _ v x.4 in
      let b = in_one_if (is_inconsistent (mutex_at w x.0).health) (with_progress t (Has EINVAL) w) v a.1 in
      record {
        mutex = x.0;
        mends = x.1;
        not_owner = (x.2, x.3);
        free = eqb-true (mutex_at w x.0).owner 0 a.0;
        inconsistent = inconsistent_is (mutex_at w x.0).health b.0;
        comes = b.1;
      }

  refused_free_from : (v : World) → IsRefusedFree t w v → Contains (refused_free t w) v
  refused_free_from v s =
      mending_from free_refused v s.mutex s.mends s.not_owner.0 s.not_owner.1
      (in_then_from ((mutex_at w s.mutex).owner == 0) _ v (eq-eqb (mutex_at w s.mutex).owner 0 s.free)
      (in_one_if_from (is_inconsistent (mutex_at w s.mutex).health) (with_progress t (Has EINVAL) w) v (inconsistent_from (mutex_at w s.mutex).health s.inconsistent) s.comes))

  pub makes_any_to : (v : World) → Contains (mended_or_refused t w) v → MakesAnyConsistent t w v
  makes_any_to v k = elim (Contains-append_cases (mended_by_any t w) (refused_free t w) v k) [
    | inl c ↦ mends (makes_by_any_to v c)
    | inr c ↦ is_refused (refused_free_to v c)
  ]

  pub makes_any_from : (v : World) → MakesAnyConsistent t w v → Contains (mended_or_refused t w) v
  makes_any_from v (mends h) = Contains-append_left (mended_by_any t w) (refused_free t w) v (makes_by_any_from v h)
  makes_any_from v (is_refused h) = Contains-append_right (mended_by_any t w) (refused_free t w) v (refused_free_from v h)

  -- PRIORITY

  -- the answers of a change of u's priority that is refused
  abbrev of_ended : ℕ → List ℕ
  of_ended u = if is_living w u then [] else ESRCH ∷ 0 ∷ []

  abbrev behind_first : ℕ → List ℕ
  behind_first u = EINVAL ∷ of_ended u

  abbrev answers_of : ℕ → List ℕ
  answers_of u = EPERM ∷ behind_first u

  refusals_to : (u : ℕ) (v : World) (a : ℕ) → Contains (answers_of u) a → v ≡ with_result t w a
      → ((v ≡ with_result t w EPERM) ⊎ (v ≡ with_result t w EINVAL))
      ⊎ ((is_living w u ≡ false) × ((v ≡ with_result t w ESRCH) ⊎ (v ≡ with_result t w 0)))
  refusals_to u v a k e = elim (in_cases EPERM (behind_first u) a k) [
    | inl f ↦ inl (inl (e ∙ ap (with_result t w) (sym f)))
    | inr c ↦ elim (in_cases EINVAL (of_ended u) a c) [
      | inl f ↦ inl (inr (e ∙ ap (with_result t w) (sym f)))
      | inr d ↦ (
          let x = in_else (is_living w u) (ESRCH ∷ 0 ∷ []) a d in
          inr (
            x.0,
            elim (in_cases ESRCH (0 ∷ []) a x.1) [
              | inl f ↦ inl (e ∙ ap (with_result t w) (sym f))
              | inr g ↦ inr (e ∙ ap (with_result t w) (sym (in_one 0 a g)))
            ],
          ))
    ]
  ]

  refusals_from : (u : ℕ) (v : World) → ((v ≡ with_result t w EPERM) ⊎ (v ≡ with_result t w EINVAL))
      ⊎ ((is_living w u ≡ false) × ((v ≡ with_result t w ESRCH) ⊎ (v ≡ with_result t w 0)))
      → (a : ℕ) × Contains (answers_of u) a × (v ≡ with_result t w a)
  refusals_from u v (inl (inl e)) = (EPERM, in_first EPERM (behind_first u), e)
  refusals_from u v (inl (inr e)) = (EINVAL, in_rest EPERM (behind_first u) EINVAL (in_first EINVAL (of_ended u)), e)
  refusals_from u v (inr h) = by_answer h.1
    where
      last : (a : ℕ) → Contains (ESRCH ∷ 0 ∷ []) a → Contains (answers_of u) a
      last a c =
          in_rest EPERM (behind_first u) a
          (in_rest EINVAL (of_ended u) a (in_else_from (is_living w u) (ESRCH ∷ 0 ∷ []) a h.0 c))

      by_answer : (v ≡ with_result t w ESRCH) ⊎ (v ≡ with_result t w 0) → (a : ℕ) × Contains (answers_of u) a × (v ≡ with_result t w a)
      by_answer (inl e) = (ESRCH, last ESRCH (in_first ESRCH (0 ∷ [])), e)
      by_answer (inr e) = (0, last 0 (in_rest ESRCH (0 ∷ []) 0 (in_first 0 [])), e)

  pub refuses_priority_to : (v : World) → Contains (priority_refused t w) v → RefusesPriority t w v
  refuses_priority_to v k =
      let x = in_listed (of_call set_next_by w t) (λ u. map (with_result t w) (answers_of u)) v k in
      let y = in_map (with_result t w) (answers_of x.0) v x.2 in
      record { thread = x.0; sets = x.1; comes = refusals_to x.0 v y.0 y.1 (sym y.2) }

  pub refuses_priority_from : (v : World) → RefusesPriority t w v → Contains (priority_refused t w) v
  refuses_priority_from v s =
      let x = refusals_from s.thread v s.comes in
      in_listed_from (of_call set_next_by w t) (λ u. map (with_result t w) (answers_of u)) v s.thread s.sets
      (subst (Contains (map (with_result t w) (answers_of s.thread))) (sym x.2) (in_map_from (with_result t w) (answers_of s.thread) x.0 x.1))

  -- SEVERAL ERRORS

  pub fails_otherwise_to : (v : World) → Contains (failed_otherwise t w) v → FailsOtherwise t w v
  fails_otherwise_to v k =
      let x = in_map (with_result t w) (other_errors w t) v k in record { error = x.0; holds = x.1; comes = sym x.2 }

  pub fails_otherwise_from : (v : World) → FailsOtherwise t w v → Contains (failed_otherwise t w) v
  fails_otherwise_from v s =
      subst (Contains (failed_otherwise t w)) (sym s.comes) (in_map_from (with_result t w) (other_errors w t) s.error s.holds)

module _ (t : ℕ) (s : Wide) where
  pub loses_to : (n : Wide) → Contains (signal_lost t s) n → LosesSignal t s n
  loses_to n k =
      let x = in_listed (of_call signalled_next_by s.world t) _ n k in
      let y = in_one_if (list_any (λ c. c == x.0) s.lost) _ n x.2 in
      record { variable = x.0; signals = x.1; ended = y.0; comes = y.1 }

  pub loses_from : (n : Wide) → LosesSignal t s n → Contains (signal_lost t s) n
  loses_from n h =
      in_listed_from (of_call signalled_next_by s.world t) _ n h.variable h.signals
      (in_one_if_from (list_any (λ c. c == h.variable) s.lost) _ n h.ended h.comes)

  gives_hold_to : (n : Wide) → Contains (hold_given t s) n → GivesHold t s n
  gives_hold_to n k =
      let x = in_listed (of_call waited_next_by s.world t) _ n k in
      let c = x.0.0 in
      let m = x.0.1 in
      let a = in_then ((variable_at s.world c).mutex == m) _ n x.2 in
      let b = in_then ((mutex_at s.world m).owner == t) _ n a.1 in
      let d = in_one_if (nat_lt 1 (mutex_at s.world m).count) _ n b.1 in
      record {
        variable = c;
        mutex = m;
        waits = x.1;
        bound = eqb-true (variable_at s.world c).mutex m a.0;
        owns = eqb-true (mutex_at s.world m).owner t b.0;
        more = ltb-true 1 (mutex_at s.world m).count d.0;
        comes = d.1;
      }

  gives_hold_from : (n : Wide) → GivesHold t s n → Contains (hold_given t s) n
  gives_hold_from n h =
      in_listed_from (of_call waited_next_by s.world t) _ n (h.variable, h.mutex) h.waits
      (in_then_from ((variable_at s.world h.variable).mutex == h.mutex) _ n (eq-eqb (variable_at s.world h.variable).mutex h.mutex h.bound)
      (in_then_from ((mutex_at s.world h.mutex).owner == t) _ n (eq-eqb (mutex_at s.world h.mutex).owner t h.owns)
      (in_one_if_from (nat_lt 1 (mutex_at s.world h.mutex).count) _ n (lt-ltb 1 (mutex_at s.world h.mutex).count h.more) h.comes)))

  takes_hold_to : (n : Wide) → Contains (hold_taken t s) n → TakesHold t s n
  takes_hold_to n k =
      let x = in_listed (of_call waited_with_by s.world t) _ n k in
      let y = in_one_if (has_given s t) _ n x.2 in
      record { mutex = x.0; waited = x.1; given = y.0; comes = y.1 }

  takes_hold_from : (n : Wide) → TakesHold t s n → Contains (hold_taken t s) n
  takes_hold_from n h =
      in_listed_from (of_call waited_with_by s.world t) _ n h.mutex h.waited (in_one_if_from (has_given s t) _ n h.given h.comes)

  pub moves_hold_to : (n : Wide) → Contains (hold_moved t s) n → MovesHold t s n
  moves_hold_to n k = elim (Contains-append_cases (hold_given t s) (hold_taken t s) n k) [
    | inl c ↦ gives (gives_hold_to n c)
    | inr c ↦ takes_hold (takes_hold_to n c)
  ]

  pub moves_hold_from : (n : Wide) → MovesHold t s n → Contains (hold_moved t s) n
  moves_hold_from n (gives h) = Contains-append_left (hold_given t s) (hold_taken t s) n (gives_hold_from n h)
  moves_hold_from n (takes_hold h) = Contains-append_right (hold_given t s) (hold_taken t s) n (takes_hold_from n h)
