-- Passing a mutex on, unlocking it, a wait's giving it up and leaving it, as functions, are the rules.
use Rattle.std.proofs.Common.{ℕ, ◌≡◌, ◌≢◌, ◌<◌, ◌⊎◌, ◌∙◌, Bool, Some, None, refl, sym, ap, subst, inl, inr, arith, nat_lt, ◌==◌}
use Rattle.std.proofs.lemmas.Bool.{ne_eqb, eq-eqb, lt-ltb, cases_eq, cases_order}
use Rattle.pif_model.specs.NamedNumbers.{EPERM}
use Rattle.pif_model.specs.World.Progress.{Has}
use Rattle.pif_model.specs.World.Health.{Fine, Inconsistent, Unusable}
use Rattle.pif_model.specs.Posix.{World, Health, Progress, mutex_at, next_of, with_progress, with_health, with_no_owner, taken, with_one_hold_less, without_waiter, on_release, Passes, Unlocks, GivesUp}
use Rattle.pif_model.specs.Posix.Passes.{to_nobody, to_next}
use Rattle.pif_model.specs.Posix.Unlocks.{not_owner, falls, becomes_unusable, released as passes_on}
use Rattle.pif_model.specs.Posix.GivesUp.{becomes_unusable as unusable_first, released as gives_up}
use Rattle.pif_posix_steps.specs.Doing.{passed_on, released, unlocked, given_up}
use Rattle.pif_posix_steps.proofs.DoingCases.{choose_then, choose_else, some_is, none_is_not}

-- PASSING ON

module _ (m : ℕ) (w : World) where
  pub passed-nobody : next_of w m ≡ 0 → passed_on m w ≡ with_no_owner m w
  passed-nobody n = choose_then (next_of w m == 0) _ _ (eq-eqb (next_of w m) 0 n)

  pub passed-next : next_of w m ≢ 0 → passed_on m w ≡ taken (next_of w m) m (without_waiter (next_of w m) w)
  passed-next k = choose_else (next_of w m == 0) _ _ (ne_eqb (next_of w m) 0 k)

  pub passed_from : (v : World) → Passes m w v → v ≡ passed_on m w
  passed_from v (to_nobody n e) = e ∙ sym (passed-nobody n)
  passed_from v (to_next u n k e) =
      e ∙ ap (λ i. taken i m (without_waiter i w)) (sym n) ∙ sym (passed-next (λ z. k (sym n ∙ z)))

  pub passed_to : Passes m w (passed_on m w)
  passed_to = by_next (cases_eq (next_of w m) 0)
    where
      by_next : (next_of w m ≡ 0) ⊎ (next_of w m ≡ 0 → ⊥) → Passes m w (passed_on m w)
      by_next (inl n) = to_nobody n (passed-nobody n)
      by_next (inr k) = to_next (next_of w m) refl k (passed-next k)

  pub passed_to_this : (v : World) → v ≡ passed_on m w → Passes m w v
  passed_to_this v e = subst (Passes m w) (sym e) passed_to

-- GIVING UP

module _ (t m : ℕ) (w : World) where
  pub released-inconsistent : (p : Progress) → (mutex_at w m).health ≡ Inconsistent
      → released (mutex_at w m).health t m p w ≡ with_health m Unusable w
  released-inconsistent p e = ap (λ (h : Health). released h t m p w) e

  passed_by_health : (h : Health) (p : Progress) → h ≢ Inconsistent → released h t m p w ≡ passed_on m (with_progress t p w)
  passed_by_health Fine p n = refl
  passed_by_health Inconsistent p n = absurd (n refl)
  passed_by_health Unusable p n = refl

  pub released-passes : (p : Progress) → (mutex_at w m).health ≢ Inconsistent
      → released (mutex_at w m).health t m p w ≡ passed_on m (with_progress t p w)
  released-passes p n = passed_by_health (mutex_at w m).health p n

  -- two ways to give up, by health
  pub by_health : (p : Progress) (v : World) → v ≡ released (mutex_at w m).health t m p w
      → ((mutex_at w m).health ≡ Inconsistent × (v ≡ with_health m Unusable w))
      ⊎ ((mutex_at w m).health ≢ Inconsistent × Passes m (with_progress t p w) v)
  by_health p v e = by_kind (mutex_at w m).health refl e
    where
      by_kind : (h : Health) → (mutex_at w m).health ≡ h → v ≡ released h t m p w
          → ((mutex_at w m).health ≡ Inconsistent × (v ≡ with_health m Unusable w))
          ⊎ ((mutex_at w m).health ≢ Inconsistent × Passes m (with_progress t p w) v)
      by_kind Fine h e = inr (λ z. let y : Fine ≡ Inconsistent = sym h ∙ z in cc, passed_to_this m (with_progress t p w) v e)
      by_kind Inconsistent h e = inl (h, e)
      by_kind Unusable h e = inr (λ z. let y : Unusable ≡ Inconsistent = sym h ∙ z in cc, passed_to_this m (with_progress t p w) v e)

  -- UNLOCKING

  pub unlocked-not_owner : (mutex_at w m).owner ≢ t → unlocked t m w ≡ Some (with_progress t (Has EPERM) w)
  unlocked-not_owner n = choose_else ((mutex_at w m).owner == t) _ _ (ne_eqb (mutex_at w m).owner t n)

  pub unlocked-once : (mutex_at w m).owner ≡ t → (mutex_at w m).count ≡ 1
      → unlocked t m w ≡ Some (released (mutex_at w m).health t m (Has 0) w)
  unlocked-once o k =
      choose_then ((mutex_at w m).owner == t) _ _ (eq-eqb (mutex_at w m).owner t o)
      ∙ choose_then ((mutex_at w m).count == 1) _ _ (eq-eqb (mutex_at w m).count 1 k)

  pub unlocked-falls : (mutex_at w m).owner ≡ t → 1 < (mutex_at w m).count
      → unlocked t m w ≡ Some (with_progress t (Has 0) (with_one_hold_less m w))
  unlocked-falls o k =
      choose_then ((mutex_at w m).owner == t) _ _ (eq-eqb (mutex_at w m).owner t o)
      ∙ choose_else ((mutex_at w m).count == 1) _ _ (ne_eqb (mutex_at w m).count 1 (λ z. omega arith))
      ∙ choose_then (nat_lt 1 (mutex_at w m).count) _ _ (lt-ltb 1 (mutex_at w m).count k)

  pub unlocked-none : (mutex_at w m).owner ≡ t → (mutex_at w m).count ≡ 0 → unlocked t m w ≡ None
  unlocked-none o k = choose_then ((mutex_at w m).owner == t) _ _ (eq-eqb (mutex_at w m).owner t o) ∙ rw k

  pub unlocked_from : (v : World) → Unlocks t m w v → unlocked t m w ≡ Some v
  unlocked_from v (not_owner n e) = unlocked-not_owner n ∙ ap Some (sym e)
  unlocked_from v (falls o k e) = unlocked-falls o k ∙ ap Some (sym e)
  unlocked_from v (becomes_unusable o k i e) = unlocked-once o k ∙ ap Some (released-inconsistent (Has 0) i ∙ sym e)
  unlocked_from v (passes_on o k i p) =
      unlocked-once o k ∙ ap Some (released-passes (Has 0) i ∙ sym (passed_from m (with_progress t (Has 0) w) v p))

  pub unlocked_to : (v : World) → unlocked t m w ≡ Some v → Unlocks t m w v
  unlocked_to v e = by_owner (cases_eq (mutex_at w m).owner t)
    where
      by_release : (mutex_at w m).owner ≡ t → (mutex_at w m).count ≡ 1
          → ((mutex_at w m).health ≡ Inconsistent × (v ≡ with_health m Unusable w))
          ⊎ ((mutex_at w m).health ≢ Inconsistent × Passes m (with_progress t (Has 0) w) v) → Unlocks t m w v
      by_release o k (inl x) = becomes_unusable o k x.0 x.1
      by_release o k (inr x) = passes_on o k x.0 x.1

      by_count : (mutex_at w m).owner ≡ t → ((mutex_at w m).count ≡ 1) ⊎ (((mutex_at w m).count < 1) ⊎ (1 < (mutex_at w m).count))
          → Unlocks t m w v
      by_count o (inl k) = by_release o k (by_health (Has 0) v (some_is (unlocked-once o k) e))
      by_count o (inr (inl k)) = absurd (none_is_not (unlocked-none o (omega arith)) e)
      by_count o (inr (inr k)) = falls o k (some_is (unlocked-falls o k) e)

      by_owner : ((mutex_at w m).owner ≡ t) ⊎ ((mutex_at w m).owner ≡ t → ⊥) → Unlocks t m w v
      by_owner (inl o) = by_count o (cases_order (mutex_at w m).count 1)
      by_owner (inr n) = not_owner n (some_is (unlocked-not_owner n) e)

  -- A WAIT'S GIVING UP

  module _ (still : Bool) where
    pub given_up-owner : (mutex_at w m).owner ≡ t
        → given_up t m still w ≡ Some (released (mutex_at w m).health t m (on_release still) w)
    given_up-owner o = choose_then ((mutex_at w m).owner == t) _ _ (eq-eqb (mutex_at w m).owner t o)

    pub given_up-none : (mutex_at w m).owner ≢ t → given_up t m still w ≡ None
    given_up-none n = choose_else ((mutex_at w m).owner == t) _ _ (ne_eqb (mutex_at w m).owner t n)

    pub given_up_from : (v : World) → GivesUp t m still w v → given_up t m still w ≡ Some v
    given_up_from v (unusable_first o i e) = given_up-owner o ∙ ap Some (released-inconsistent (on_release still) i ∙ sym e)
    given_up_from v (gives_up o i p) =
        given_up-owner o
        ∙ ap Some (released-passes (on_release still) i ∙ sym (passed_from m (with_progress t (on_release still) w) v p))

    pub given_up_to : (v : World) → given_up t m still w ≡ Some v → GivesUp t m still w v
    given_up_to v e = by_owner (cases_eq (mutex_at w m).owner t)
      where
        by_release : (mutex_at w m).owner ≡ t
            → ((mutex_at w m).health ≡ Inconsistent × (v ≡ with_health m Unusable w))
            ⊎ ((mutex_at w m).health ≢ Inconsistent × Passes m (with_progress t (on_release still) w) v) → GivesUp t m still w v
        by_release o (inl x) = unusable_first o x.0 x.1
        by_release o (inr x) = gives_up o x.0 x.1

        by_owner : ((mutex_at w m).owner ≡ t) ⊎ ((mutex_at w m).owner ≡ t → ⊥) → GivesUp t m still w v
        by_owner (inl o) = by_release o (by_health (on_release still) v (some_is (given_up-owner o) e))
        by_owner (inr n) = absurd (none_is_not (given_up-none n) e)
