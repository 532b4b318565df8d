-- Taking over a robust mutex, and clearing the pending field: each step is an entry of the POSIX machine and keeps the
-- invariant. Lock and trylock share these lines.
use Rattle.std.proofs.Common.{◌≡◌, ◌≢◌, ◌∷◌, ℕ, Bool, true, false, refl, sym, ap, ◌∙◌, subst, eq-eqb, ne_eqb, arith}
use Rattle.std.proofs.lemmas.Bool.{true≢false}
use Rattle.pif_types.specs.declared.requests.Request.{Request}
use Rattle.pif_types.specs.declared.requests.Request.TheVariants.{Lock, TryLock, Wait}
use Rattle.pif_model.specs.declared.events.Seen.TheVariants.{Went}
use Rattle.pif_model.specs.declared.lines.Line.TheVariants.{At}
use Rattle.pif_model.specs.declared.lines.Place.{Place}
use Rattle.pif_model.specs.declared.lines.Place.TheVariants.{Load, NamePending, CallKernel, StayQueued, Stop, StayStopped, Take, Link, Give, Clear, LoadUses, Park, StayParked}
use Rattle.pif_model.specs.declared.lines.TakeStep.{TakeStep}
use Rattle.pif_model.specs.declared.lines.TakeStep.TheVariants.{LoadWord, LoadHealth, StoreInconsistent, ClearDied}
use Rattle.pif_model.specs.declared.lines.LinkStep.{LinkStep}
use Rattle.pif_model.specs.declared.lines.LinkStep.TheVariants.{WriteNext, WriteHead}
use Rattle.pif_model.specs.declared.lines.GiveStep.TheVariants.{Release}
use Rattle.pif_model.specs.declared.lines.Purpose.TheVariants.{ToUnlock, ToPark, ToLeave}
use Rattle.pif_model.specs.declared.lines.Footing.{Footing}
use Rattle.pif_model.specs.declared.lines.Footing.TheVariants.{Linked, Unowned, HadStopped}
use Rattle.pif_model.specs.Word.{word_at, health_word_at}
use Rattle.pif_model.specs.Posix.{named_by, on_taking}
use Rattle.pif_model.specs.World.Progress.{Has}
use Rattle.pif_model.specs.PiKernel.{is_living}
use Rattle.pif_model.specs.RobustList.{robust_at, with_half_linked, with_listed}
use Rattle.pif_model.specs.Table.{Table, cell_at, has_mutex, status_at, library_at, with_word, with_health_word, with_lists}
use Rattle.pif_model.specs.Lines.{goes_to, take_load, take_health, take_line, link_line, clears}
use Rattle.pif_model.specs.Soundness.{use_at, MeetsAll, belongs, is_shared, is_locking, needs}
use Rattle.pif_model_lemmas.proofs.kernel.LineCases.{take_health_cases}
use Rattle.pif_model_simulation.proofs.Written.{mutex_of}
use Rattle.pif_model_simulation.proofs.Steps.{KeepsGo, GoKeeps, Going, going_met, going_behind, going_died, going_health, going_once, going_own, going_ready, going_robust}
use Rattle.pif_model_simulation.proofs.Agreement.{quiet}
use Rattle.pif_model_simulation.proofs.Does.{IsLocking}
use Rattle.pif_model_simulation.proofs.Does.IsLocking.{by_lock, by_try_lock, by_wait}
use Rattle.pif_model_simulation.proofs.Does.Does.{nothing}
use Rattle.pif_model_simulation.proofs.Healths.{health-unusable, health-inconsistent, health-behind, health-fine}
use Rattle.pif_model_simulation.proofs.LocalLines.{goes, goes_listed, clears_kept, robust_lists, row_same, row_stated, row_pending, row_own, settled_so_far}
use Rattle.pif_model_simulation.proofs.mutexes.TakingLines.{states, word_table, health_table}

-- a lock comes to each place of locking
pub lock_locking : (m : ℕ) (p : Place) → is_locking p ≡ true → belongs (Lock m) p ≡ true
lock_locking m Load e = refl
lock_locking m NamePending e = refl
lock_locking m _ e = e

-- and so does a wait
pub wait_locking : (c m : ℕ) (p : Place) → is_locking p ≡ true → belongs (Wait c m) p ≡ true
wait_locking c m Load e = refl
wait_locking c m LoadUses e = refl
wait_locking c m (Give x ToUnlock) e = e
wait_locking c m (Give x (ToPark v)) e = refl
wait_locking c m (Give x ToLeave) e = e
wait_locking c m (Park v) e = refl
wait_locking c m StayParked e = refl
wait_locking c m _ e = e

-- each shared place is one of locking
shared_locking : (p : Place) → is_shared p ≡ true → is_locking p ≡ true
shared_locking CallKernel e = refl
shared_locking StayQueued e = refl
shared_locking Stop e = refl
shared_locking StayStopped e = refl
shared_locking _ e = e

-- a trylock comes to each shared place
try_shared : (m : ℕ) (p : Place) → is_shared p ≡ true → belongs (TryLock m) p ≡ true
try_shared m Load e = refl
try_shared m NamePending e = refl
try_shared m CallKernel e = refl
try_shared m _ e = e

-- a request that locks comes to each shared place
pub shared_belongs : {m : ℕ} {q : Request} → IsLocking m q → (p : Place) → is_shared p ≡ true → belongs q p ≡ true
shared_belongs {m} {q} (by_lock r) p e = subst (λ x. belongs x p ≡ true) (sym r) (lock_locking m p (shared_locking p e))
shared_belongs {m} {q} (by_try_lock r) p e = subst (λ x. belongs x p ≡ true) (sym r) (try_shared m p e)
shared_belongs {m} {q} (by_wait c r) p e =
    subst (λ x. belongs x p ≡ true) (sym r) (wait_locking c m p (shared_locking p e))

-- numbers that differ
one_not_two : (h : ℕ) → h ≡ 1 → h ≢ 2
one_not_two h e f = absurd (omega arith)

pub two_not_one : (h : ℕ) → h ≡ 2 → h ≢ 1
two_not_one h e f = absurd (omega arith)

module _ (s : Table) (t : ℕ) (q : Request) (named : has_mutex s (named_by q) ≡ true)
    (l : IsLocking (named_by q) q) where
  abbrev m : ℕ
  m = named_by q

  -- TAKING OVER

  -- load the word
  take_load_kept : Going s t q (Take LoadWord) → GoKeeps s t (take_load q t m s)
  unfolding take_load
  take_load_kept g =
      let h = going_met g in
      goes g named (Take (LoadHealth (word_at s.words m).died)) (quiet refl refl) (going_ready g)
      (shared_belongs l (Take (LoadHealth (word_at s.words m).died)) refl) refl
      (going_ready g, (going_own g, (going_once g, (going_robust g, (going_behind g, ((λ o. refl), tt))))))
      (λ r. row_same g named r refl refl refl (λ o u. absurd (true≢false u)))

  -- load the health word
  take_health_kept : (d : Bool) → Going s t q (Take (LoadHealth d)) → GoKeeps s t (take_health q d t m s)
  take_health_kept d g = take_health_cases (GoKeeps s t) q d t m s
      (λ e. goes g named (Give Release ToLeave) (quiet refl refl) (going_ready g) (shared_belongs l (Give Release ToLeave) refl)
      (sym (ap on_taking (health-unusable (health_word_at s.words m) (word_at s.words m).died e)))
      (going_ready g, (own, (going_once g, (going_robust g, ((λ o. e), tt)))))
      (λ r. row_same g named r refl refl refl (λ o u. absurd (true≢false u))))
      (λ n e. goes g named (Take StoreInconsistent) (quiet refl refl) (going_ready g) (shared_belongs l (Take StoreInconsistent) refl)
      (sym (ap on_taking (health-behind (health_word_at s.words m) (word_at s.words m).died n (died ∙ e))))
      (going_ready g, (own, (going_once g, (going_robust g, ((λ o. n), ((λ o. died ∙ e), tt))))))
      (λ r. row_same g named r refl refl refl (λ o u. absurd (true≢false u))))
      (λ n e. goes g named (Link WriteNext 0) (quiet refl refl) (going_ready g) (shared_belongs l (Link WriteNext 0) refl)
      (sym (ap on_taking (health-fine (health_word_at s.words m) (word_at s.words m).died n
      (λ f. true≢false (sym (going_behind g own f) ∙ died ∙ e)) (died ∙ e))))
      (going_ready g, (own, (going_once g, (going_robust g, tt))))
      (λ r. row_same g named r refl refl refl (λ o u. (died ∙ e, n))))
    where
      h : MeetsAll (is_living s.kernel) t (status_at s t) (cell_at s m) (use_at s q) (needs (Take (LoadHealth d)))
      h = going_met g

      own : (word_at s.words m).number ≡ t
      own = going_own g

      died : (word_at s.words m).died ≡ d
      died = going_died g own

  -- the health word says that the mutex is inconsistent
  take_store_kept : Going s t q (Take StoreInconsistent)
      → GoKeeps s t (goes_to t q (Take ClearDied) (with_health_word m 1 s))
  take_store_kept g =
      let h = going_met g in
      let own : (word_at s.words m).number ≡ t = going_own g in
      let d : Bool = (word_at s.words m).died in
      subst (KeepsGo s t Went) (health_table g named (going_ready g) Went (At q (Take ClearDied)) 1)
      (states g named (going_ready g) Went (At q (Take ClearDied)) (quiet refl refl) d 1 (Has 130) (λ j e. e) own (going_robust g) (
        refl,
        shared_belongs l (Take ClearDied) refl,
        (
          going_ready g,
          (
            own,
            (going_once g, (going_robust g, ((λ o. refl), ((λ o. going_died g own), tt)))),
          ),
        ),
      )
      ((Take ClearDied), refl, refl)
      (row_stated g named d 1 (going_robust g) refl refl refl (λ o u. absurd (true≢false u)))
      (nothing refl (ap (λ x. record (mutex_of (cell_at s m)) { health = x })
      (health-inconsistent 1 d refl ∙ sym (health-behind (health_word_at s.words m) d (going_health g own)
      (going_died g own))))))

  -- OWNER_DIED is taken out of the word
  take_word_kept : Going s t q (Take ClearDied)
      → GoKeeps s t (goes_to t q (Link WriteNext 130) (with_word m (record (cell_at s m).word { died = false }) s))
  take_word_kept g =
      let h = going_met g in
      let own : (word_at s.words m).number ≡ t = going_own g in
      let one : health_word_at s.words m ≡ 1 = going_health g own in
      subst (KeepsGo s t Went) (word_table g named (going_ready g) Went (At q (Link WriteNext 130))
      (record (word_at s.words m) { died = false }))
      (states g named (going_ready g) Went (At q (Link WriteNext 130)) (quiet refl refl) false (health_word_at s.words m) (Has 130)
      (λ j e. e) own (going_robust g)
      (refl, shared_belongs l (Link WriteNext 130) refl, (going_ready g, (own, (going_once g, (going_robust g, tt)))))
      (Link WriteNext 130, refl, refl)
      (row_stated g named false (health_word_at s.words m) (going_robust g) refl refl refl
      (λ o u. (refl, one_not_two (health_word_at s.words m) one)))
      (nothing refl (ap (λ x. record (mutex_of (cell_at s m)) { health = x })
      (health-inconsistent (health_word_at s.words m) false one
      ∙ sym (health-inconsistent (health_word_at s.words m) (word_at s.words m).died one)))))

  -- the link of the mutex is written
  link_next_kept : (a : ℕ) → Going s t q (Link WriteNext a)
      → GoKeeps s t (goes_to t q (Link WriteHead a) (with_lists (with_half_linked t m s.lists) s))
  link_next_kept a g =
      let h = going_met g in
      let robust : (library_at s m).robust ≡ true = going_robust g in
      goes_listed g named (Link WriteHead a) (quiet refl refl) (record (robust_at s.lists t) { half_linked = m }) (going_ready g)
      (shared_belongs l (Link WriteHead a) refl) refl h
      (robust_lists g named refl robust robust (record {
        pending = row_pending g named robust;
        half_linked = refl;
        others = λ j d. refl;
        own = row_own g named robust;
        settled = λ o u. settled_so_far g named refl o;
      }))

  -- and then the head of the list
  link_head_kept : (a : ℕ) → Going s t q (Link WriteHead a)
      → GoKeeps s t (goes_to t q (Clear Linked a) (with_lists (with_listed t m s.lists) s))
  link_head_kept a g =
      let h = going_met g in
      let robust : (library_at s m).robust ≡ true = going_robust g in
      goes_listed g named (Clear Linked a) (quiet refl refl) (record (robust_at s.lists t)
      { listed = m ∷ (robust_at s.lists t).listed; half_linked = 0 })
      (going_ready g) (shared_belongs l (Clear Linked a) refl) refl h
      (robust_lists g named refl robust robust (record {
        pending = row_pending g named robust;
        half_linked = refl;
        others = λ j d. rw (ne_eqb j m d) refl;
        own = rw (eq-eqb m m refl, eq-eqb (word_at s.words m).number t (going_own g)) refl;
        settled = λ o u. settled_so_far g named refl o;
      }))

  -- each step of taking over
  pub take_kept : (x : TakeStep) → Going s t q (Take x) → GoKeeps s t (take_line q x t m s)
  unfolding take_line
  take_kept LoadWord g = take_load_kept g
  take_kept (LoadHealth d) g = take_health_kept d g
  take_kept StoreInconsistent g = take_store_kept g
  take_kept ClearDied g = take_word_kept g

  -- and of putting the mutex on the list
  pub link_kept : (x : LinkStep) (a : ℕ) → Going s t q (Link x a) → GoKeeps s t (link_line q x a t m s)
  unfolding link_line
  link_kept WriteNext a g = link_next_kept a g
  link_kept WriteHead a g = link_head_kept a g

-- the pending field is cleared, and the call answered
pub clear_kept : (s : Table) (t : ℕ) (q : Request) → has_mutex s (named_by q) ≡ true → (f : Footing) (a : ℕ)
    → Going s t q (Clear f a) → GoKeeps s t (clears a t s)
clear_kept s t q named Linked a g = let h = going_met g in clears_kept g named a (going_ready g) (going_robust g) refl refl refl refl
clear_kept s t q named Unowned a g = let h = going_met g in clears_kept g named a (going_ready g) (going_robust g) refl refl refl refl
clear_kept s t q named HadStopped a g = let h = going_met g in clears_kept g named a (going_ready g) (going_robust g) refl refl refl refl
