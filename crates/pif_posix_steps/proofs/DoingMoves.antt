-- The effects and moves of a thread, as lists, are what the rules allow.
use Rattle.std.proofs.Common.{ℕ, ◌≡◌, ◌≢◌, ◌⊎◌, ◌++◌, true, false, List, [], ◌∷◌, Option, Some, None, is_some, refl, sym, ap, subst, inl, inr, if◌then◌else◌, Contains, option_to_list}
use Rattle.std.proofs.lemmas.Bool.{both_ways}
use Rattle.std.proofs.lemmas.List.Elements.{Contains-append_left, Contains-append_right, Contains-append_cases}
use Rattle.pif_types.specs.declared.errors.Refusal.{Refusal}
use Rattle.pif_types.specs.declared.requests.Request.{Request}
use Rattle.pif_types.specs.declared.requests.Request.TheVariants.{Lock, TryLock, Unlock, Consistent, Wait, Signal, Broadcast, SetPrio}
use Rattle.pif_model.specs.declared.events.Event.{Event}
use Rattle.pif_model.specs.declared.events.Event.TheVariants.{Go, End}
use Rattle.pif_model.specs.NamedNumbers.{ENOTRECOVERABLE}
use Rattle.pif_model.specs.World.Progress.{Fresh, Waiting, Stuck, Leaving, Has, Checked, Enlisted, Blocked, Reacquiring, Used}
use Rattle.pif_model.specs.Posix.{World, Call, Progress, thread_at, with_progress, named_by, is_use, variable_of, is_due, refusal_of, IsAllowed, HasCome, Effect}
use Rattle.pif_model.specs.Posix.Effect.{lock, try_lock, unlock, consistent, set_prio, check_wait, enlist, give_up, lock_again, use_variable, choose, leave}
use Rattle.pif_posix_steps.specs.Once.{Acts, MovesOnce}
use Rattle.pif_posix_steps.specs.Once.Acts.{effect, expires, notes}
use Rattle.pif_posix_steps.specs.Doing.{locked, tried, unlocked, made_consistent, priority_set, wait_checked, variable_used, enlisted, given_up, left, noted, expired, first_effects, wait_effects, later_effects, next_effects, call_effects, effects, may_be_noted, is_unnoted, acted, is_allowed, moved}
use Rattle.pif_posix_steps.proofs.DoingLists.{not_in_none, in_one, in_one_from, in_option, in_option_from, in_then, in_then_from}
use Rattle.pif_posix_steps.proofs.DoingLocks.{locked_from, locked_to, tried_from, tried_to}
use Rattle.pif_posix_steps.proofs.DoingReleases.{passed_from, passed_to_this, unlocked_from, unlocked_to, given_up_from, given_up_to}
use Rattle.pif_posix_steps.proofs.DoingCalls.{made_consistent_from, made_consistent_to, priority_set_from, priority_set_to, wait_checked_from, wait_checked_to, variable_used_from, variable_used_to, expired_from, expired_to}
use Rattle.pif_posix_steps.proofs.DoingChoices.{chosen_from, chosen_to}

module _ (t : ℕ) (w : World) where
  -- EFFECTS

  -- the effects of the call that is open
  pub effects_of : (q : Request) (p : Progress) → HasCome w t q p → effects t w ≡ next_effects p q t w
  effects_of q p h = ap (λ (o : Option Call). call_effects o t w) h

  in_next : {q : Request} {p : Progress} (v : World) → HasCome w t q p → Contains (next_effects p q t w) v → Contains (effects t w) v
  in_next {q} {p} v h k = subst (λ (xs : List World). Contains xs v) (sym (effects_of q p h)) k

  -- a use of the variable that a request names is its first effect
  use_is_first : (q : Request) (v : World) → is_use q ≡ true → v ≡ variable_used t (variable_of q) w → Contains (first_effects q t w) v
  use_is_first (Signal c) v e x = in_one_from (variable_used t c w) v x
  use_is_first (Broadcast c) v e x = in_one_from (variable_used t c w) v x
  use_is_first _ v e x = absurd (both_ways false refl e)

  pub effects_from : (v : World) → t ≢ 0 → Effect t w v → Contains (effects t w) v
  effects_from v n (lock m h x) = in_next v h (in_option_from (locked t m w) v (locked_from t m w v x))
  effects_from v n (try_lock m h x) = in_next v h (in_option_from (tried t m w) v (tried_from t m w v n x))
  effects_from v n (unlock m h x) = in_next v h (in_option_from (unlocked t m w) v (unlocked_from t m w v x))
  effects_from v n (consistent m h x) =
      in_next v h (in_one_from (made_consistent t m w) v (made_consistent_from t m w v x))
  effects_from v n (set_prio u p h x) =
      in_next v h (in_one_from (priority_set t u p w) v (priority_set_from t u p w v x))
  effects_from v n (check_wait c m h x) =
      in_next v h (in_option_from (wait_checked t c m w) v (wait_checked_from t c m w v x))
  effects_from v n (enlist c m h x) = in_next v h (in_one_from (enlisted t w) v x)
  effects_from v n (give_up c m still h x) =
      in_next v h (in_option_from (given_up t m still w) v (given_up_from t m w still v x))
  effects_from v n (lock_again c m h x) = in_next v h (in_option_from (locked t m w) v (locked_from t m w v x))
  effects_from v n (use_variable q h e x) = in_next v h (use_is_first q v e (variable_used_from t (variable_of q) w v x))
  effects_from v n (choose q h x) = in_next v h (chosen_from t w q v x)
  effects_from v n (leave q h x) =
      in_next v h (in_one_from (left t q w) v (passed_from (named_by q) (with_progress t (Has ENOTRECOVERABLE) w) v x))

  first_to : (q : Request) (v : World) → HasCome w t q Fresh → Contains (first_effects q t w) v → Effect t w v
  first_to (Lock m) v h k = lock m h (locked_to t m w v (in_option (locked t m w) v k))
  first_to (TryLock m) v h k = try_lock m h (tried_to t m w v (in_option (tried t m w) v k))
  first_to (Unlock m) v h k = unlock m h (unlocked_to t m w v (in_option (unlocked t m w) v k))
  first_to (Consistent m) v h k = consistent m h (made_consistent_to t m w v (sym (in_one (made_consistent t m w) v k)))
  first_to (Wait c m) v h k = check_wait c m h (wait_checked_to t c m w v (in_option (wait_checked t c m w) v k))
  first_to (Signal c) v h k = use_variable (Signal c) h refl (variable_used_to t c w v (sym (in_one (variable_used t c w) v k)))
  first_to (Broadcast c) v h k = use_variable (Broadcast c) h refl (variable_used_to t c w v (sym (in_one (variable_used t c w) v k)))
  first_to (SetPrio u p) v h k = set_prio u p h (priority_set_to t u p w v (sym (in_one (priority_set t u p w) v k)))
  first_to _ v h k = absurd (not_in_none v k)

  wait_to : (c m : ℕ) (p : Progress) (v : World) → HasCome w t (Wait c m) p → Contains (wait_effects p t m w) v → Effect t w v
  wait_to c m Checked v h k = enlist c m h (sym (in_one (enlisted t w) v k))
  wait_to c m (Enlisted still) v h k = give_up c m still h (given_up_to t m w still v (in_option (given_up t m still w) v k))
  wait_to c m Reacquiring v h k = lock_again c m h (locked_to t m w v (in_option (locked t m w) v k))
  wait_to c m _ v h k = absurd (not_in_none v k)

  later_to : (q : Request) (p : Progress) (v : World) → HasCome w t q p → Contains (later_effects q p t w) v → Effect t w v
  later_to (Wait c m) p v h k = wait_to c m p v h k
  later_to _ p v h k = absurd (not_in_none v k)

  next_to : (p : Progress) (q : Request) (v : World) → HasCome w t q p → Contains (next_effects p q t w) v → Effect t w v
  next_to Fresh q v h k = first_to q v h k
  next_to Leaving q v h k =
      leave q h (passed_to_this (named_by q) (with_progress t (Has ENOTRECOVERABLE) w) v (sym (in_one (left t q w) v k)))
  next_to Used q v h k = choose q h (chosen_to t w q v k)
  next_to Waiting q v h k = later_to q Waiting v h k
  next_to Stuck q v h k = later_to q Stuck v h k
  next_to (Has a) q v h k = later_to q (Has a) v h k
  next_to Checked q v h k = later_to q Checked v h k
  next_to (Enlisted still) q v h k = later_to q (Enlisted still) v h k
  next_to (Blocked noted) q v h k = later_to q (Blocked noted) v h k
  next_to Reacquiring q v h k = later_to q Reacquiring v h k

  pub effects_to : (v : World) → Contains (effects t w) v → Effect t w v
  effects_to v k = by_call (thread_at w t).call refl k
    where
      by_call : (o : Option Call) → (thread_at w t).call ≡ o → Contains (call_effects o t w) v → Effect t w v
      by_call None h k = absurd (not_in_none v k)
      by_call (Some x) h k = next_to x.progress x.request v h k

  -- ACTS

  noting_to : (c m : ℕ) (p : Progress) (v : World) → HasCome w t (Wait c m) p → may_be_noted (Wait c m) p ≡ true → v ≡ noted t w
      → Acts t w v
  noting_to c m (Blocked false) v h e x = notes c m h x
  noting_to c m _ v h e x = absurd (both_ways false refl e)

  unnoted_to : (q : Request) (p : Progress) (v : World) → HasCome w t q p → may_be_noted q p ≡ true → v ≡ noted t w → Acts t w v
  unnoted_to (Wait c m) p v h e x = noting_to c m p v h e x
  unnoted_to _ p v h e x = absurd (both_ways false refl e)

  pub noted_to : (v : World) → is_unnoted (thread_at w t).call ≡ true → v ≡ noted t w → Acts t w v
  noted_to v e x = by_call (thread_at w t).call refl e
    where
      by_call : (o : Option Call) → (thread_at w t).call ≡ o → is_unnoted o ≡ true → Acts t w v
      by_call None h e = absurd (both_ways false refl e)
      by_call (Some y) h e = unnoted_to y.request y.progress v h e x

  abbrev expiries : List World
  expiries = if is_due w t then option_to_list (expired t w) else []

  abbrev notings : List World
  notings = if is_unnoted (thread_at w t).call then noted t w ∷ [] else []

  pub acted_from : (v : World) → t ≢ 0 → Acts t w v → Contains (acted t w) v
  acted_from v n (effect x) =
      Contains-append_left (effects t w ++ expiries) notings v (Contains-append_left (effects t w) expiries v (effects_from v n x))
  acted_from v n (expires d x) =
      Contains-append_left (effects t w ++ expiries) notings v (Contains-append_right (effects t w) expiries v
      (in_then_from (is_due w t) (option_to_list (expired t w)) v d (in_option_from (expired t w) v (expired_from t w v x))))
  acted_from v n (notes c m h x) =
      Contains-append_right (effects t w ++ expiries) notings v
      (in_then_from (is_unnoted (thread_at w t).call) (noted t w ∷ []) v (ap is_unnoted h) (in_one_from (noted t w) v x))

  pub acted_to : (v : World) → Contains (acted t w) v → Acts t w v
  acted_to v k = by_noting (Contains-append_cases (effects t w ++ expiries) notings v k)
    where
      by_expiry : Contains (effects t w) v ⊎ Contains (if is_due w t then option_to_list (expired t w) else []) v → Acts t w v
      by_expiry (inl d) = effect (effects_to v d)
      by_expiry (inr d) =
          let r = in_then (is_due w t) (option_to_list (expired t w)) v d in
          expires r.0 (expired_to t w v (in_option (expired t w) v r.1))

      by_noting : Contains (effects t w ++ (if is_due w t then option_to_list (expired t w) else [])) v
          ⊎ Contains (if is_unnoted (thread_at w t).call then noted t w ∷ [] else []) v → Acts t w v
      by_noting (inl d) =
          by_expiry (Contains-append_cases (effects t w) (if is_due w t then option_to_list (expired t w) else []) v d)
      by_noting (inr d) =
          let r = in_then (is_unnoted (thread_at w t).call) (noted t w ∷ []) v d in
          noted_to v r.0 (sym (in_one (noted t w) v r.1))

-- MOVES

-- what is allowed, as a test
pub allowed_from : (w : World) (x : Event) → IsAllowed w x → is_allowed w x ≡ true
allowed_from w x e = ap (λ (o : Option Refusal). if is_some o then false else true) e

pub allowed_to : (w : World) (x : Event) → is_allowed w x ≡ true → IsAllowed w x
allowed_to w x e = by_refusal (refusal_of w x) refl e
  where
    by_refusal : (o : Option Refusal) → refusal_of w x ≡ o → (if is_some o then false else true) ≡ true → IsAllowed w x
    by_refusal None f e = f
    by_refusal (Some r) f e = absurd (both_ways false refl e)

-- nobody has no Go and no end
pub go_is_of_somebody : (w : World) (t : ℕ) → IsAllowed w (Go t) → t ≢ 0
go_is_of_somebody w t e z = none_allowed (subst (λ (i : ℕ). IsAllowed w (Go i)) z e)
  where
    none_allowed : IsAllowed w (Go 0) → ⊥
    none_allowed f = cc

pub end_is_of_somebody : (w : World) (t : ℕ) → IsAllowed w (End t) → t ≢ 0
end_is_of_somebody w t e z = none_allowed (subst (λ (i : ℕ). IsAllowed w (End i)) z e)
  where
    none_allowed : IsAllowed w (End 0) → ⊥
    none_allowed f = cc

module _ (t : ℕ) (w : World) where
  pub moved_from : (v : World) → MovesOnce t w v → Contains (moved t w) v
  moved_from v m =
      in_then_from (is_allowed w (Go t)) (acted t w) v (allowed_from w (Go t) m.allowed)
      (acted_from t w v (go_is_of_somebody w t m.allowed) m.acts)

  pub moved_to : (v : World) → Contains (moved t w) v → MovesOnce t w v
  moved_to v k =
      let r = in_then (is_allowed w (Go t)) (acted t w) v k in
      record { allowed = allowed_to w (Go t) r.0; acts = acted_to t w v r.1 }
