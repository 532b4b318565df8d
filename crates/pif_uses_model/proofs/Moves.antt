-- What a move does to variables: it leaves them, and is possible with others, or it is a use.
use Rattle.std.proofs.Common.{ℕ, ◌≡◌, ◌∙◌, true, List, [], ◌∷◌, refl, sym, ap}
use Rattle.pif_types.specs.declared.requests.Request.{Request}
use Rattle.pif_model.specs.Posix.{World, Variable, with_call_by, with_progress, after_unblocking, all_unblocked, used, variable_of, is_use, IsCalling, IsUsedUp, Locks, LocksAgain, TriesToLock, Passes, Unlocks, MakesConsistent, SetsPriority, ChecksWait, GivesUp, Chooses, Effect, Expires}
use Rattle.pif_model.specs.World.Progress.{Used}
use Rattle.pif_model.specs.Posix.Locks.{own_normal, own_errorcheck, own_recursive as lock_own_recursive, free as lock_free, orphaned as lock_orphaned, cycle, joins}
use Rattle.pif_model.specs.Posix.LocksAgain.{rises, at_limit}
use Rattle.pif_model.specs.Posix.TriesToLock.{own_recursive as try_own_recursive, busy as try_busy, free as try_free}
use Rattle.pif_model.specs.Posix.Passes.{to_nobody, to_next}
use Rattle.pif_model.specs.Posix.Unlocks.{not_owner, falls, becomes_unusable, released}
use Rattle.pif_model.specs.Posix.MakesConsistent.{not_robust, not_owner as consistent_not_owner, not_inconsistent, made_fine}
use Rattle.pif_model.specs.Posix.SetsPriority.{no_priority, not_living, changed}
use Rattle.pif_model.specs.Posix.ChecksWait.{other_mutex, not_owner as wait_not_owner, held_more, checked}
use Rattle.pif_model.specs.Posix.GivesUp.{becomes_unusable as wait_unusable, released as wait_released}
use Rattle.pif_model.specs.Posix.Uses.{at_limit as use_at_limit, counts as use_counts}
use Rattle.pif_model.specs.Posix.Chooses.{one, no_one, all}
use Rattle.pif_model.specs.Posix.Effect.{lock, try_lock, unlock, consistent, set_prio, check_wait, enlist, give_up, lock_again, use_variable, choose, leave}
use Rattle.pif_model.specs.Posix.Expires.{lock as lock_expires, wait as wait_expires}
use Rattle.pif_posix_steps.specs.Once.{Acts}
use Rattle.pif_posix_steps.specs.Once.Acts.{effect, expires, notes}
use Rattle.pif_uses_model.specs.Uses.{AreButForUses}
use Rattle.pif_uses_model.proofs.Variables.{same_bound}

-- the same state with other variables
abbrev pub other : List Variable → World → World
other xs w = record w { variables = xs }

-- a step from w to v leaves the variables, and is possible with others
pub record Keeps (P : World → World → Type 0) (w : World) (xs : List Variable) (v : World) : Type 0 where
  pub step : P (other xs w) (other xs v)
  pub variables : v.variables ≡ w.variables
  pub signals : v.signals ≡ w.signals

-- EFFECTS

module _ (w : World) (xs : List Variable) where
  -- a step that changes w into u
  abbrev pub keeps : (P : World → World → Type 0) (u v : World) → u.variables ≡ w.variables → u.signals ≡ w.signals → v ≡ u
      → P (other xs w) (other xs v) → Keeps P w xs v
  keeps P u v same limit e s = record {
    step = s;
    variables = ap (λ (x : World). x.variables) e ∙ same;
    signals = ap (λ (x : World). x.signals) e ∙ limit;
  }

  keeps_LocksAgain : (t m : ℕ) (v : World) → LocksAgain t m w v → Keeps (LocksAgain t m) w xs v
  keeps_LocksAgain t m v (rises may e) = keeps (LocksAgain t m) _ v refl refl e (rises may (ap (other xs) e))
  keeps_LocksAgain t m v (at_limit most e) = keeps (LocksAgain t m) _ v refl refl e (at_limit most (ap (other xs) e))

  keeps_Locks : (t m : ℕ) (v : World) → Locks t m w v → Keeps (Locks t m) w xs v
  keeps_Locks t m v (own_normal o r e) = keeps (Locks t m) _ v refl refl e (own_normal o r (ap (other xs) e))
  keeps_Locks t m v (own_errorcheck o r e) = keeps (Locks t m) _ v refl refl e (own_errorcheck o r (ap (other xs) e))
  keeps_Locks t m v (lock_own_recursive o r x) =
      let k = keeps_LocksAgain t m v x in
      record { step = lock_own_recursive o r k.step; variables = k.variables; signals = k.signals }
  keeps_Locks t m v (lock_free o f e) = keeps (Locks t m) _ v refl refl e (lock_free o f (ap (other xs) e))
  keeps_Locks t m v (lock_orphaned o e) = keeps (Locks t m) _ v refl refl e (lock_orphaned o (ap (other xs) e))
  keeps_Locks t m v (cycle o c e) = keeps (Locks t m) _ v refl refl e (cycle o c (ap (other xs) e))
  keeps_Locks t m v (joins o c e) = keeps (Locks t m) _ v refl refl e (joins o c (ap (other xs) e))

  keeps_TriesToLock : (t m : ℕ) (v : World) → TriesToLock t m w v → Keeps (TriesToLock t m) w xs v
  keeps_TriesToLock t m v (try_own_recursive o r x) =
      let k = keeps_LocksAgain t m v x in
      record { step = try_own_recursive o r k.step; variables = k.variables; signals = k.signals }
  keeps_TriesToLock t m v (try_busy o r e) = keeps (TriesToLock t m) _ v refl refl e (try_busy o r (ap (other xs) e))
  keeps_TriesToLock t m v (try_free o e) = keeps (TriesToLock t m) _ v refl refl e (try_free o (ap (other xs) e))

  pub keeps_Passes : (m : ℕ) (v : World) → Passes m w v → Keeps (Passes m) w xs v
  keeps_Passes m v (to_nobody n e) = keeps (Passes m) _ v refl refl e (to_nobody n (ap (other xs) e))
  keeps_Passes m v (to_next u n some e) = keeps (Passes m) _ v refl refl e (to_next u n some (ap (other xs) e))

  keeps_MakesConsistent : (t m : ℕ) (v : World) → MakesConsistent t m w v → Keeps (MakesConsistent t m) w xs v
  keeps_MakesConsistent t m v (not_robust x e) = keeps (MakesConsistent t m) _ v refl refl e (not_robust x (ap (other xs) e))
  keeps_MakesConsistent t m v (consistent_not_owner x e) =
      keeps (MakesConsistent t m) _ v refl refl e (consistent_not_owner x (ap (other xs) e))
  keeps_MakesConsistent t m v (not_inconsistent x y e) =
      keeps (MakesConsistent t m) _ v refl refl e (not_inconsistent x y (ap (other xs) e))
  keeps_MakesConsistent t m v (made_fine x y e) = keeps (MakesConsistent t m) _ v refl refl e (made_fine x y (ap (other xs) e))

  keeps_SetsPriority : (t u p : ℕ) (v : World) → SetsPriority t u p w v → Keeps (SetsPriority t u p) w xs v
  keeps_SetsPriority t u p v (no_priority x e) = keeps (SetsPriority t u p) _ v refl refl e (no_priority x (ap (other xs) e))
  keeps_SetsPriority t u p v (not_living x l e) = keeps (SetsPriority t u p) _ v refl refl e (not_living x l (ap (other xs) e))
  keeps_SetsPriority t u p v (changed x l e) = keeps (SetsPriority t u p) _ v refl refl e (changed x l (ap (other xs) e))

  keeps_Expires : (t : ℕ) (v : World) → Expires t w v → Keeps (Expires t) w xs v
  keeps_Expires t v (lock_expires m p c e) = keeps (Expires t) _ v refl refl e (lock_expires m p c (ap (other xs) e))
  keeps_Expires t v (wait_expires d m p c e) = keeps (Expires t) _ v refl refl e (wait_expires d m p c (ap (other xs) e))

module _ (w : World) (xs : List Variable) where
  keeps_Unlocks : (t m : ℕ) (v : World) → Unlocks t m w v → Keeps (Unlocks t m) w xs v
  keeps_Unlocks t m v (not_owner x e) = keeps w xs (Unlocks t m) _ v refl refl e (not_owner x (ap (other xs) e))
  keeps_Unlocks t m v (falls x y e) = keeps w xs (Unlocks t m) _ v refl refl e (falls x y (ap (other xs) e))
  keeps_Unlocks t m v (becomes_unusable x y z e) =
      keeps w xs (Unlocks t m) _ v refl refl e (becomes_unusable x y z (ap (other xs) e))
  keeps_Unlocks t m v (released x y z s) =
      let k = keeps_Passes _ xs m v s in
      record { step = released x y z k.step; variables = k.variables; signals = k.signals }

  keeps_GivesUp : (t m : ℕ) (still : _) (v : World) → GivesUp t m still w v → Keeps (GivesUp t m still) w xs v
  keeps_GivesUp t m still v (wait_unusable x y e) =
      keeps w xs (GivesUp t m still) _ v refl refl e (wait_unusable x y (ap (other xs) e))
  keeps_GivesUp t m still v (wait_released x y s) =
      let k = keeps_Passes _ xs m v s in
      record { step = wait_released x y k.step; variables = k.variables; signals = k.signals }

-- all of these threads are unblocked
module _ where
  keeps_unblocked : (us : List ℕ) (w : World) (xs : List Variable) → (all_unblocked us (other xs w) ≡ other xs (all_unblocked us w))
      × ((all_unblocked us w).variables ≡ w.variables) × ((all_unblocked us w).signals ≡ w.signals)
  unfolding all_unblocked
  keeps_unblocked [] w xs = (refl, refl, refl)
  keeps_unblocked (u ∷ us) w xs = keeps_unblocked us (with_call_by u after_unblocking w) xs

module _ (w : World) (xs : List Variable) where
  keeps_Chooses : (t : ℕ) (q : Request) (v : World) → Chooses t q w v → Keeps (Chooses t q) w xs v
  keeps_Chooses t q v (one c u is b none e) =
      keeps w xs (Chooses t q) _ v refl refl e (one c u is b none (ap (other xs) e))
  keeps_Chooses t q v (no_one c is none e) = keeps w xs (Chooses t q) _ v refl refl e (no_one c is none (ap (other xs) e))
  keeps_Chooses t q v (all c us is b among e) =
      let k = keeps_unblocked us _ xs in
      keeps w xs (Chooses t q) _ v k.1 k.2 e (all c us is b among (ap (other xs) e ∙ sym k.0))

module _ (w : World) (xs : List Variable) (a : AreButForUses w.variables xs) where
  keeps_ChecksWait : (t c m : ℕ) (v : World) → ChecksWait t c m w v → Keeps (ChecksWait t c m) w xs v
  keeps_ChecksWait t c m v (other_mutex x e) =
      keeps w xs (ChecksWait t c m) _ v refl refl e
      (other_mutex (λ i. x (same_bound w.variables xs a c ∙ i)) (ap (other xs) e))
  keeps_ChecksWait t c m v (wait_not_owner x y e) =
      keeps w xs (ChecksWait t c m) _ v refl refl e
      (wait_not_owner (sym (same_bound w.variables xs a c) ∙ x) y (ap (other xs) e))
  keeps_ChecksWait t c m v (held_more x y z e) =
      keeps w xs (ChecksWait t c m) _ v refl refl e
      (held_more (sym (same_bound w.variables xs a c) ∙ x) y z (ap (other xs) e))
  keeps_ChecksWait t c m v (checked x y z e) =
      keeps w xs (ChecksWait t c m) _ v refl refl e
      (checked (sym (same_bound w.variables xs a c) ∙ x) y z (ap (other xs) e))

-- MOVES

-- what a move of t from w to v does to variables: it leaves them, and is possible with others; or it is a use of one that
-- is used up, or of one that isn't
pub data Turns (P : World → World → Type 0) (t : ℕ) (w : World) (xs : List Variable) (v : World) : Type 0 where
  quiet : Keeps P w xs v → Turns P t w xs v
  refused : (c : ℕ) → IsUsedUp w c → v.variables ≡ w.variables → v.signals ≡ w.signals → Turns P t w xs v
  uses : (q : Request) → IsCalling w t q → is_use q ≡ true → v ≡ with_progress t Used (used (variable_of q) w) → Turns P t w xs v

module _ (w : World) (xs : List Variable) (a : AreButForUses w.variables xs) where
  turns_Effect : (t : ℕ) (v : World) → Effect t w v → Turns (Acts t) t w xs v
  turns_Effect t v (lock m c x) =
      let k = keeps_Locks w xs t m v x in
      quiet (record { step = effect (lock m c k.step); variables = k.variables; signals = k.signals })
  turns_Effect t v (try_lock m c x) =
      let k = keeps_TriesToLock w xs t m v x in
      quiet (record { step = effect (try_lock m c k.step); variables = k.variables; signals = k.signals })
  turns_Effect t v (unlock m c x) =
      let k = keeps_Unlocks w xs t m v x in
      quiet (record { step = effect (unlock m c k.step); variables = k.variables; signals = k.signals })
  turns_Effect t v (consistent m c x) =
      let k = keeps_MakesConsistent w xs t m v x in
      quiet (record { step = effect (consistent m c k.step); variables = k.variables; signals = k.signals })
  turns_Effect t v (set_prio u p c x) =
      let k = keeps_SetsPriority w xs t u p v x in
      quiet (record { step = effect (set_prio u p c k.step); variables = k.variables; signals = k.signals })
  turns_Effect t v (check_wait d m c x) =
      let k = keeps_ChecksWait w xs a t d m v x in
      quiet (record { step = effect (check_wait d m c k.step); variables = k.variables; signals = k.signals })
  turns_Effect t v (enlist d m c e) = quiet (keeps w xs (Acts t) _ v refl refl e (effect (enlist d m c (ap (other xs) e))))
  turns_Effect t v (give_up d m still c x) =
      let k = keeps_GivesUp w xs t m still v x in
      quiet (record { step = effect (give_up d m still c k.step); variables = k.variables; signals = k.signals })
  turns_Effect t v (lock_again d m c x) =
      let k = keeps_Locks w xs t m v x in
      quiet (record { step = effect (lock_again d m c k.step); variables = k.variables; signals = k.signals })
  turns_Effect t v (use_variable q c u (use_at_limit x e)) =
      refused (variable_of q) x (ap (λ (z : World). z.variables) e) (ap (λ (z : World). z.signals) e)
  turns_Effect t v (use_variable q c u (use_counts x e)) = uses q c u e
  turns_Effect t v (choose q c x) =
      let k = keeps_Chooses w xs t q v x in
      quiet (record { step = effect (choose q c k.step); variables = k.variables; signals = k.signals })
  turns_Effect t v (leave q c x) =
      let k = keeps_Passes _ xs _ v x in
      quiet (record { step = effect (leave q c k.step); variables = k.variables; signals = k.signals })

  pub turns : (t : ℕ) (v : World) → Acts t w v → Turns (Acts t) t w xs v
  turns t v (effect x) = turns_Effect t v x
  turns t v (expires due x) =
      let k = keeps_Expires w xs t v x in
      quiet (record { step = expires due k.step; variables = k.variables; signals = k.signals })
  turns t v (notes c m h e) = quiet (keeps w xs (Acts t) _ v refl refl e (notes c m h (ap (other xs) e)))
