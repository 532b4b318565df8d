-- Making a mutex consistent, setting a priority, checking a wait, using a variable and expiring, as functions, are the
-- rules.
use Rattle.std.proofs.Common.{ℕ, ◌≡◌, ◌≢◌, ◌<◌, ◌⊎◌, ◌∙◌, true, false, Option, Some, None, refl, sym, ap, inl, inr, arith, if◌then◌else◌, nat_lt, ◌==◌}
use Rattle.std.proofs.lemmas.Bool.{ne_eqb, eq-eqb, lt-ltb, cases_eq, cases_order, cases_Bool}
use Rattle.pif_types.specs.declared.requests.Request.{Request}
use Rattle.pif_types.specs.declared.requests.Request.TheVariants.{Lock, Wait}
use Rattle.pif_model.specs.Graph.{is_priority}
use Rattle.pif_model.specs.NamedNumbers.{EPERM, EINVAL, ESRCH, EOVERFLOW}
use Rattle.pif_model.specs.World.Progress.{Has, Checked, Used}
use Rattle.pif_model.specs.World.Health.{Fine, Inconsistent, Unusable}
use Rattle.pif_model.specs.Posix.{World, Health, Progress, Call, thread_at, mutex_at, variable_at, is_living, with_progress, with_base, used, HasCome, MakesConsistent, SetsPriority, ChecksWait, Uses, Expires}
use Rattle.pif_model.specs.Posix.MakesConsistent.{not_robust, not_owner, not_inconsistent, made_fine as becomes_fine}
use Rattle.pif_model.specs.Posix.SetsPriority.{no_priority, not_living, changed}
use Rattle.pif_model.specs.Posix.ChecksWait.{other_mutex, not_owner as waits_without, held_more, checked}
use Rattle.pif_model.specs.Posix.Uses.{at_limit, counts}
use Rattle.pif_model.specs.Posix.Expires.{lock, wait}
use Rattle.pif_posix_steps.specs.Doing.{made_fine, made_consistent, priority_set, wait_checked, variable_used, expired_by, expired_call, expired}
use Rattle.pif_posix_steps.proofs.DoingCases.{choose_then, choose_else, some_is, none_is_not}

-- MAKING CONSISTENT

module _ (t m : ℕ) (w : World) where
  pub made_consistent-not_robust : (mutex_at w m).robust ≡ false → made_consistent t m w ≡ with_progress t (Has EINVAL) w
  made_consistent-not_robust r = choose_else (mutex_at w m).robust _ _ r

  pub made_consistent-not_owner : (mutex_at w m).robust ≡ true → (mutex_at w m).owner ≢ t
      → made_consistent t m w ≡ with_progress t (Has EPERM) w
  made_consistent-not_owner r n =
      choose_then (mutex_at w m).robust _ _ r ∙ choose_else ((mutex_at w m).owner == t) _ _ (ne_eqb (mutex_at w m).owner t n)

  pub made_consistent-owner : (h : Health) → (mutex_at w m).robust ≡ true → (mutex_at w m).owner ≡ t → (mutex_at w m).health ≡ h
      → made_consistent t m w ≡ made_fine h t m w
  made_consistent-owner h r o e =
      choose_then (mutex_at w m).robust _ _ r ∙ choose_then ((mutex_at w m).owner == t) _ _ (eq-eqb (mutex_at w m).owner t o)
      ∙ ap (λ (x : Health). made_fine x t m w) e

  not_made_fine : (h : Health) → h ≢ Inconsistent → made_fine h t m w ≡ with_progress t (Has EINVAL) w
  not_made_fine Fine n = refl
  not_made_fine Inconsistent n = absurd (n refl)
  not_made_fine Unusable n = refl

  pub made_consistent_from : (v : World) → MakesConsistent t m w v → v ≡ made_consistent t m w
  made_consistent_from v (not_robust r e) = e ∙ sym (made_consistent-not_robust r)
  made_consistent_from v (not_owner x e) = e ∙ sym (made_consistent-not_owner x.0 x.1)
  made_consistent_from v (not_inconsistent x n e) =
      e ∙ sym (made_consistent-owner (mutex_at w m).health x.0 x.1 refl ∙ not_made_fine (mutex_at w m).health n)
  made_consistent_from v (becomes_fine x i e) = e ∙ sym (made_consistent-owner Inconsistent x.0 x.1 i)

  pub made_consistent_to : (v : World) → v ≡ made_consistent t m w → MakesConsistent t m w v
  made_consistent_to v e = by_robustness (cases_Bool (mutex_at w m).robust)
    where
      by_health : (mutex_at w m).robust ≡ true → (mutex_at w m).owner ≡ t → (h : Health) → (mutex_at w m).health ≡ h
          → MakesConsistent t m w v
      by_health r o Fine h =
          not_inconsistent (r, o) (λ z. let y : Fine ≡ Inconsistent = sym h ∙ z in cc) (e ∙ made_consistent-owner Fine r o h)
      by_health r o Inconsistent h = becomes_fine (r, o) h (e ∙ made_consistent-owner Inconsistent r o h)
      by_health r o Unusable h =
          not_inconsistent (r, o) (λ z. let y : Unusable ≡ Inconsistent = sym h ∙ z in cc) (e ∙ made_consistent-owner Unusable r o h)

      by_owner : (mutex_at w m).robust ≡ true → ((mutex_at w m).owner ≡ t) ⊎ ((mutex_at w m).owner ≡ t → ⊥)
          → MakesConsistent t m w v
      by_owner r (inl o) = by_health r o (mutex_at w m).health refl
      by_owner r (inr n) = not_owner (r, n) (e ∙ made_consistent-not_owner r n)

      by_robustness : ((mutex_at w m).robust ≡ true) ⊎ ((mutex_at w m).robust ≡ false) → MakesConsistent t m w v
      by_robustness (inl r) = by_owner r (cases_eq (mutex_at w m).owner t)
      by_robustness (inr r) = not_robust r (e ∙ made_consistent-not_robust r)

-- SETTING A PRIORITY

module _ (t u p : ℕ) (w : World) where
  pub priority_set-no_priority : is_priority p ≡ false → priority_set t u p w ≡ with_progress t (Has EINVAL) w
  priority_set-no_priority e = choose_else (is_priority p) _ _ e

  pub priority_set-not_living : is_priority p ≡ true → is_living w u ≡ false → priority_set t u p w ≡ with_progress t (Has ESRCH) w
  priority_set-not_living e f = choose_then (is_priority p) _ _ e ∙ choose_else (is_living w u) _ _ f

  pub priority_set-changed : is_priority p ≡ true → is_living w u ≡ true
      → priority_set t u p w ≡ with_progress t (Has 0) (with_base u p w)
  priority_set-changed e f = choose_then (is_priority p) _ _ e ∙ choose_then (is_living w u) _ _ f

  pub priority_set_from : (v : World) → SetsPriority t u p w v → v ≡ priority_set t u p w
  priority_set_from v (no_priority e x) = x ∙ sym (priority_set-no_priority e)
  priority_set_from v (not_living e f x) = x ∙ sym (priority_set-not_living e f)
  priority_set_from v (changed e f x) = x ∙ sym (priority_set-changed e f)

  pub priority_set_to : (v : World) → v ≡ priority_set t u p w → SetsPriority t u p w v
  priority_set_to v x = by_priority (cases_Bool (is_priority p))
    where
      by_life : is_priority p ≡ true → (is_living w u ≡ true) ⊎ (is_living w u ≡ false) → SetsPriority t u p w v
      by_life e (inl f) = changed e f (x ∙ priority_set-changed e f)
      by_life e (inr f) = not_living e f (x ∙ priority_set-not_living e f)

      by_priority : (is_priority p ≡ true) ⊎ (is_priority p ≡ false) → SetsPriority t u p w v
      by_priority (inl e) = by_life e (cases_Bool (is_living w u))
      by_priority (inr e) = no_priority e (x ∙ priority_set-no_priority e)

-- CHECKING A WAIT

module _ (t c m : ℕ) (w : World) where
  pub wait_checked-other_mutex : (variable_at w c).mutex ≢ m → wait_checked t c m w ≡ Some (with_progress t (Has EINVAL) w)
  wait_checked-other_mutex n = choose_else ((variable_at w c).mutex == m) _ _ (ne_eqb (variable_at w c).mutex m n)

  pub wait_checked-not_owner : (variable_at w c).mutex ≡ m → (mutex_at w m).owner ≢ t
      → wait_checked t c m w ≡ Some (with_progress t (Has EPERM) w)
  wait_checked-not_owner b n =
      choose_then ((variable_at w c).mutex == m) _ _ (eq-eqb (variable_at w c).mutex m b)
      ∙ choose_else ((mutex_at w m).owner == t) _ _ (ne_eqb (mutex_at w m).owner t n)

  owned_by : (variable_at w c).mutex ≡ m → (mutex_at w m).owner ≡ t
      → wait_checked t c m w ≡ (if (mutex_at w m).count == 1 then Some (with_progress t Checked w)
      else (if nat_lt 1 (mutex_at w m).count then Some (with_progress t (Has EINVAL) w) else None))
  owned_by b o =
      choose_then ((variable_at w c).mutex == m) _ _ (eq-eqb (variable_at w c).mutex m b)
      ∙ choose_then ((mutex_at w m).owner == t) _ _ (eq-eqb (mutex_at w m).owner t o)

  pub wait_checked-held_more : (variable_at w c).mutex ≡ m → (mutex_at w m).owner ≡ t → 1 < (mutex_at w m).count
      → wait_checked t c m w ≡ Some (with_progress t (Has EINVAL) w)
  wait_checked-held_more b o k =
      owned_by b o ∙ choose_else ((mutex_at w m).count == 1) _ _ (ne_eqb (mutex_at w m).count 1 (λ z. omega arith))
      ∙ choose_then (nat_lt 1 (mutex_at w m).count) _ _ (lt-ltb 1 (mutex_at w m).count k)

  pub wait_checked-once : (variable_at w c).mutex ≡ m → (mutex_at w m).owner ≡ t → (mutex_at w m).count ≡ 1
      → wait_checked t c m w ≡ Some (with_progress t Checked w)
  wait_checked-once b o k = owned_by b o ∙ choose_then ((mutex_at w m).count == 1) _ _ (eq-eqb (mutex_at w m).count 1 k)

  pub wait_checked-none : (variable_at w c).mutex ≡ m → (mutex_at w m).owner ≡ t → (mutex_at w m).count ≡ 0
      → wait_checked t c m w ≡ None
  wait_checked-none b o k = owned_by b o ∙ rw k

  pub wait_checked_from : (v : World) → ChecksWait t c m w v → wait_checked t c m w ≡ Some v
  wait_checked_from v (other_mutex n e) = wait_checked-other_mutex n ∙ ap Some (sym e)
  wait_checked_from v (waits_without b n e) = wait_checked-not_owner b n ∙ ap Some (sym e)
  wait_checked_from v (held_more b o k e) = wait_checked-held_more b o k ∙ ap Some (sym e)
  wait_checked_from v (checked b o k e) = wait_checked-once b o k ∙ ap Some (sym e)

  pub wait_checked_to : (v : World) → wait_checked t c m w ≡ Some v → ChecksWait t c m w v
  wait_checked_to v e = by_binding (cases_eq (variable_at w c).mutex m)
    where
      by_count : (variable_at w c).mutex ≡ m → (mutex_at w m).owner ≡ t
          → ((mutex_at w m).count ≡ 1) ⊎ (((mutex_at w m).count < 1) ⊎ (1 < (mutex_at w m).count)) → ChecksWait t c m w v
      by_count b o (inl k) = checked b o k (some_is (wait_checked-once b o k) e)
      by_count b o (inr (inl k)) = absurd (none_is_not (wait_checked-none b o (omega arith)) e)
      by_count b o (inr (inr k)) = held_more b o k (some_is (wait_checked-held_more b o k) e)

      by_owner : (variable_at w c).mutex ≡ m → ((mutex_at w m).owner ≡ t) ⊎ ((mutex_at w m).owner ≡ t → ⊥) → ChecksWait t c m w v
      by_owner b (inl o) = by_count b o (cases_order (mutex_at w m).count 1)
      by_owner b (inr n) = waits_without b n (some_is (wait_checked-not_owner b n) e)

      by_binding : ((variable_at w c).mutex ≡ m) ⊎ ((variable_at w c).mutex ≡ m → ⊥) → ChecksWait t c m w v
      by_binding (inl b) = by_owner b (cases_eq (mutex_at w m).owner t)
      by_binding (inr n) = other_mutex n (some_is (wait_checked-other_mutex n) e)

-- USING A VARIABLE

module _ (t c : ℕ) (w : World) where
  pub variable_used-at_limit : (variable_at w c).uses ≡ w.signals → variable_used t c w ≡ with_progress t (Has EOVERFLOW) w
  variable_used-at_limit e = choose_then ((variable_at w c).uses == w.signals) _ _ (eq-eqb (variable_at w c).uses w.signals e)

  pub variable_used-counts : (variable_at w c).uses ≢ w.signals → variable_used t c w ≡ with_progress t Used (used c w)
  variable_used-counts n = choose_else ((variable_at w c).uses == w.signals) _ _ (ne_eqb (variable_at w c).uses w.signals n)

  pub variable_used_from : (v : World) → Uses t c w v → v ≡ variable_used t c w
  variable_used_from v (at_limit e x) = x ∙ sym (variable_used-at_limit e)
  variable_used_from v (counts n x) = x ∙ sym (variable_used-counts n)

  pub variable_used_to : (v : World) → v ≡ variable_used t c w → Uses t c w v
  variable_used_to v x = by_uses (cases_eq (variable_at w c).uses w.signals)
    where
      by_uses : ((variable_at w c).uses ≡ w.signals) ⊎ ((variable_at w c).uses ≡ w.signals → ⊥) → Uses t c w v
      by_uses (inl e) = at_limit e (x ∙ variable_used-at_limit e)
      by_uses (inr n) = counts n (x ∙ variable_used-counts n)

-- EXPIRING

module _ (t : ℕ) (w : World) where
  pub expired_of : (q : Request) (p : Progress) → HasCome w t q p → expired t w ≡ expired_by q t w
  expired_of q p h = ap (λ (o : Option Call). expired_call o t w) h

  pub expired_from : (v : World) → Expires t w v → expired t w ≡ Some v
  expired_from v (lock m p h e) = expired_of (Lock m) p h ∙ ap Some (sym e)
  expired_from v (wait c m p h e) = expired_of (Wait c m) p h ∙ ap Some (sym e)

  expires_by : (q : Request) (p : Progress) (v : World) → HasCome w t q p → expired_by q t w ≡ Some v → Expires t w v
  expires_by (Lock m) p v h e = lock m p h (some_is refl e)
  expires_by (Wait c m) p v h e = wait c m p h (some_is refl e)
  expires_by _ p v h e = absurd (none_is_not refl e)

  pub expired_to : (v : World) → expired t w ≡ Some v → Expires t w v
  expired_to v e = by_call (thread_at w t).call refl e
    where
      by_call : (o : Option Call) → (thread_at w t).call ≡ o → expired_call o t w ≡ Some v → Expires t w v
      by_call None h e = absurd (none_is_not refl e)
      by_call (Some x) h e = expires_by x.request x.progress v h e
