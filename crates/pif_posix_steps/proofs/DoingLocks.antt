-- Locking and trying to lock, as functions, are the rules.
use Rattle.std.proofs.Common.{ℕ, ◌≡◌, ◌≢◌, ◌≤◌, ◌<◌, ◌⊎◌, ◌∙◌, true, false, Some, None, refl, sym, ap, inl, inr, arith, if◌then◌else◌, ◌==◌}
use Rattle.std.proofs.lemmas.Bool.{ne_eqb, eq-eqb, le-ltb, lt-ltb, cases_eq, cases_Bool, cases_order}
use Rattle.pif_model.specs.declared.lines.Relock.{Relock}
use Rattle.pif_model.specs.declared.lines.Relock.TheVariants.{Deadlocks, Answers, Counts}
use Rattle.pif_model.specs.Kinds.{relock_of}
use Rattle.pif_model.specs.NamedNumbers.{EDEADLK, EAGAIN, EBUSY, most_holds}
use Rattle.pif_model.specs.World.Progress.{Waiting, Stuck, Has}
use Rattle.pif_model.specs.Posix.{World, mutex_at, is_orphaned, leads_to, with_progress, with_waiter, taken, with_one_hold_more, Locks, LocksAgain, TriesToLock}
use Rattle.pif_model.specs.Posix.Locks.{own_normal, own_errorcheck, own_recursive, free, orphaned, cycle, joins}
use Rattle.pif_model.specs.Posix.LocksAgain.{rises, at_limit}
use Rattle.pif_model.specs.Posix.TriesToLock.{own_recursive as again, busy, free as not_owned}
use Rattle.pif_posix_steps.specs.Doing.{locked, locked_more, relocked, tried, retried}
use Rattle.pif_posix_steps.proofs.DoingCases.{choose_then, choose_else, some_is, none_is_not}

module _ (t m : ℕ) (w : World) where
  -- THE BRANCHES

  pub locked_more-rises : (mutex_at w m).count < most_holds → locked_more t m w ≡ Some (with_progress t (Has 0) (with_one_hold_more m w))
  locked_more-rises h = rw (lt-ltb (mutex_at w m).count most_holds h)

  pub locked_more-at_limit : (mutex_at w m).count ≡ most_holds → locked_more t m w ≡ Some (with_progress t (Has EAGAIN) w)
  locked_more-at_limit e = rw e

  pub locked_more-none : most_holds ≤ (mutex_at w m).count → (mutex_at w m).count ≢ most_holds → locked_more t m w ≡ None
  locked_more-none h n = rw (le-ltb (mutex_at w m).count most_holds h, ne_eqb (mutex_at w m).count most_holds n)

  pub locked-own : (mutex_at w m).owner ≡ t → locked t m w ≡ relocked (relock_of (mutex_at w m).kind) t m w
  locked-own e = choose_then ((mutex_at w m).owner == t) _ _ (eq-eqb (mutex_at w m).owner t e)

  pub locked-relock : (r : Relock) → (mutex_at w m).owner ≡ t → relock_of (mutex_at w m).kind ≡ r → locked t m w ≡ relocked r t m w
  locked-relock r e f = locked-own e ∙ ap (λ (x : Relock). relocked x t m w) f

  pub locked-free : (mutex_at w m).owner ≢ t → (mutex_at w m).owner ≡ 0 → locked t m w ≡ Some (taken t m w)
  locked-free n e =
      choose_else ((mutex_at w m).owner == t) _ _ (ne_eqb (mutex_at w m).owner t n)
      ∙ choose_then ((mutex_at w m).owner == 0) _ _ (eq-eqb (mutex_at w m).owner 0 e)

  -- another owns it
  owned_by_another : (mutex_at w m).owner ≢ t → (mutex_at w m).owner ≢ 0
      → locked t m w ≡ (if is_orphaned w m then Some (with_progress t Stuck w)
      else (if leads_to w (mutex_at w m).owner t then Some (with_progress t (Has EDEADLK) w)
      else Some (with_progress t Waiting (with_waiter t m w))))
  owned_by_another n k =
      choose_else ((mutex_at w m).owner == t) _ _ (ne_eqb (mutex_at w m).owner t n)
      ∙ choose_else ((mutex_at w m).owner == 0) _ _ (ne_eqb (mutex_at w m).owner 0 k)

  pub locked-orphaned : (mutex_at w m).owner ≢ t → (mutex_at w m).owner ≢ 0 → is_orphaned w m ≡ true
      → locked t m w ≡ Some (with_progress t Stuck w)
  locked-orphaned n k l = owned_by_another n k ∙ choose_then (is_orphaned w m) _ _ l

  pub locked-cycle : (mutex_at w m).owner ≢ t → (mutex_at w m).owner ≢ 0 → is_orphaned w m ≡ false
      → leads_to w (mutex_at w m).owner t ≡ true → locked t m w ≡ Some (with_progress t (Has EDEADLK) w)
  locked-cycle n k l c =
      owned_by_another n k ∙ choose_else (is_orphaned w m) _ _ l ∙ choose_then (leads_to w (mutex_at w m).owner t) _ _ c

  pub locked-joins : (mutex_at w m).owner ≢ t → (mutex_at w m).owner ≢ 0 → is_orphaned w m ≡ false
      → leads_to w (mutex_at w m).owner t ≡ false → locked t m w ≡ Some (with_progress t Waiting (with_waiter t m w))
  locked-joins n k l c =
      owned_by_another n k ∙ choose_else (is_orphaned w m) _ _ l ∙ choose_else (leads_to w (mutex_at w m).owner t) _ _ c

  pub tried-free : (mutex_at w m).owner ≡ 0 → tried t m w ≡ Some (taken t m w)
  tried-free e = choose_then ((mutex_at w m).owner == 0) _ _ (eq-eqb (mutex_at w m).owner 0 e)

  pub tried-own : (r : Relock) → (mutex_at w m).owner ≢ 0 → (mutex_at w m).owner ≡ t → relock_of (mutex_at w m).kind ≡ r
      → tried t m w ≡ retried r t m w
  tried-own r k e f =
      choose_else ((mutex_at w m).owner == 0) _ _ (ne_eqb (mutex_at w m).owner 0 k)
      ∙ choose_then ((mutex_at w m).owner == t) _ _ (eq-eqb (mutex_at w m).owner t e)
      ∙ ap (λ (x : Relock). retried x t m w) f

  pub tried-busy : (mutex_at w m).owner ≢ 0 → (mutex_at w m).owner ≢ t → tried t m w ≡ Some (with_progress t (Has EBUSY) w)
  tried-busy k n =
      choose_else ((mutex_at w m).owner == 0) _ _ (ne_eqb (mutex_at w m).owner 0 k)
      ∙ choose_else ((mutex_at w m).owner == t) _ _ (ne_eqb (mutex_at w m).owner t n)

  -- LOCKING AGAIN

  pub locked_more_from : (v : World) → LocksAgain t m w v → locked_more t m w ≡ Some v
  locked_more_from v (rises h e) = locked_more-rises h ∙ ap Some (sym e)
  locked_more_from v (at_limit h e) = locked_more-at_limit h ∙ ap Some (sym e)

  pub locked_more_to : (v : World) → locked_more t m w ≡ Some v → LocksAgain t m w v
  locked_more_to v e = by_order (cases_order (mutex_at w m).count most_holds)
    where
      by_order : ((mutex_at w m).count ≡ most_holds) ⊎ (((mutex_at w m).count < most_holds) ⊎ (most_holds < (mutex_at w m).count))
          → LocksAgain t m w v
      by_order (inl h) = at_limit h (some_is (locked_more-at_limit h) e)
      by_order (inr (inl h)) = rises h (some_is (locked_more-rises h) e)
      by_order (inr (inr h)) = absurd (none_is_not (locked_more-none (omega arith) (λ q. omega arith)) e)

  -- LOCKING

  pub locked_from : (v : World) → Locks t m w v → locked t m w ≡ Some v
  locked_from v (own_normal o r e) = locked-relock Deadlocks o r ∙ ap Some (sym e)
  locked_from v (own_errorcheck o r e) = locked-relock Answers o r ∙ ap Some (sym e)
  locked_from v (own_recursive o r e) = locked-relock Counts o r ∙ locked_more_from v e
  locked_from v (free n o e) = locked-free n o ∙ ap Some (sym e)
  locked_from v (orphaned x e) = locked-orphaned x.0 x.1 x.2 ∙ ap Some (sym e)
  locked_from v (cycle x c e) = locked-cycle x.0 x.1 x.2 c ∙ ap Some (sym e)
  locked_from v (joins x c e) = locked-joins x.0 x.1 x.2 c ∙ ap Some (sym e)

  relock_to : (r : Relock) (v : World) → (mutex_at w m).owner ≡ t → relock_of (mutex_at w m).kind ≡ r → locked t m w ≡ Some v
      → Locks t m w v
  relock_to Deadlocks v o r e = own_normal o r (some_is (locked-relock Deadlocks o r) e)
  relock_to Answers v o r e = own_errorcheck o r (some_is (locked-relock Answers o r) e)
  relock_to Counts v o r e = own_recursive o r (locked_more_to v (sym (locked-relock Counts o r) ∙ e))

  pub locked_to : (v : World) → locked t m w ≡ Some v → Locks t m w v
  locked_to v e = by_owner (cases_eq (mutex_at w m).owner t)
    where
      by_chain : (mutex_at w m).owner ≢ t → (mutex_at w m).owner ≢ 0 → is_orphaned w m ≡ false
          → (leads_to w (mutex_at w m).owner t ≡ true) ⊎ (leads_to w (mutex_at w m).owner t ≡ false) → Locks t m w v
      by_chain n k l (inl c) = cycle (n, k, l) c (some_is (locked-cycle n k l c) e)
      by_chain n k l (inr c) = joins (n, k, l) c (some_is (locked-joins n k l c) e)

      by_loss : (mutex_at w m).owner ≢ t → (mutex_at w m).owner ≢ 0 → (is_orphaned w m ≡ true) ⊎ (is_orphaned w m ≡ false)
          → Locks t m w v
      by_loss n k (inl l) = orphaned (n, k, l) (some_is (locked-orphaned n k l) e)
      by_loss n k (inr l) = by_chain n k l (cases_Bool (leads_to w (mutex_at w m).owner t))

      by_freedom : (mutex_at w m).owner ≢ t → ((mutex_at w m).owner ≡ 0) ⊎ ((mutex_at w m).owner ≡ 0 → ⊥) → Locks t m w v
      by_freedom n (inl z) = free n z (some_is (locked-free n z) e)
      by_freedom n (inr k) = by_loss n k (cases_Bool (is_orphaned w m))

      by_owner : ((mutex_at w m).owner ≡ t) ⊎ ((mutex_at w m).owner ≡ t → ⊥) → Locks t m w v
      by_owner (inl o) = relock_to (relock_of (mutex_at w m).kind) v o refl e
      by_owner (inr n) = by_freedom n (cases_eq (mutex_at w m).owner 0)

  -- TRYING TO LOCK

  -- the owner may not lock it again
  busy_from : (r : Relock) → (mutex_at w m).owner ≢ 0 → (mutex_at w m).owner ≡ t → relock_of (mutex_at w m).kind ≡ r
      → r ≢ Counts → tried t m w ≡ Some (with_progress t (Has EBUSY) w)
  busy_from Deadlocks k o r n = tried-own Deadlocks k o r
  busy_from Answers k o r n = tried-own Answers k o r
  busy_from Counts k o r n = absurd (n refl)

  pub tried_from : (v : World) → t ≢ 0 → TriesToLock t m w v → tried t m w ≡ Some v
  tried_from v s (again o r e) = tried-own Counts (λ z. s (sym o ∙ z)) o r ∙ locked_more_from v e
  tried_from v s (busy k n e) = by_owner (cases_eq (mutex_at w m).owner t) ∙ ap Some (sym e)
    where
      by_owner : ((mutex_at w m).owner ≡ t) ⊎ ((mutex_at w m).owner ≡ t → ⊥) → tried t m w ≡ Some (with_progress t (Has EBUSY) w)
      by_owner (inl o) = busy_from (relock_of (mutex_at w m).kind) k o refl (n o)
      by_owner (inr o) = tried-busy k o
  tried_from v s (not_owned z e) = tried-free z ∙ ap Some (sym e)

  retry_to : (r : Relock) (v : World) → (mutex_at w m).owner ≢ 0 → (mutex_at w m).owner ≡ t → relock_of (mutex_at w m).kind ≡ r
      → tried t m w ≡ Some v → TriesToLock t m w v
  retry_to Deadlocks v k o r e = busy k (λ x z. let y : Deadlocks ≡ Counts = sym r ∙ z in cc) (some_is (tried-own Deadlocks k o r) e)
  retry_to Answers v k o r e = busy k (λ x z. let y : Answers ≡ Counts = sym r ∙ z in cc) (some_is (tried-own Answers k o r) e)
  retry_to Counts v k o r e = again o r (locked_more_to v (sym (tried-own Counts k o r) ∙ e))

  pub tried_to : (v : World) → tried t m w ≡ Some v → TriesToLock t m w v
  tried_to v e = by_freedom (cases_eq (mutex_at w m).owner 0)
    where
      by_owner : (mutex_at w m).owner ≢ 0 → ((mutex_at w m).owner ≡ t) ⊎ ((mutex_at w m).owner ≡ t → ⊥) → TriesToLock t m w v
      by_owner k (inl o) = retry_to (relock_of (mutex_at w m).kind) v k o refl e
      by_owner k (inr n) = busy k (λ o. absurd (n o)) (some_is (tried-busy k n) e)

      by_freedom : ((mutex_at w m).owner ≡ 0) ⊎ ((mutex_at w m).owner ≡ 0 → ⊥) → TriesToLock t m w v
      by_freedom (inl z) = not_owned z (some_is (tried-free z) e)
      by_freedom (inr k) = by_owner k (cases_eq (mutex_at w m).owner t)
