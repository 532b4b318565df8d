-- The lines of pthread_mutex_trylock: each step is an entry of the POSIX machine and keeps the invariant.
use Rattle.std.proofs.Common.{◌≡◌, ◌≢◌, ◌⊎◌, inl, inr, ℕ, true, length, Result, Ok, Err, refl, sym, ap, ◌∙◌, subst, arith, eq-eqb, ne_eqb, true≢false}
use Rattle.std.proofs.lemmas.Bool.{cases_eq}
use Rattle.pif_types.specs.declared.errors.Errno.{Errno}
use Rattle.pif_types.specs.declared.errors.Errno.TheVariants.{Again}
use Rattle.pif_types.specs.declared.requests.Request.TheVariants.{TryLock}
use Rattle.pif_model.specs.declared.lines.Place.TheVariants.{Load, NamePending, Exchange, CallKernel, Take, Clear}
use Rattle.pif_model.specs.declared.lines.TakeStep.TheVariants.{LoadWord}
use Rattle.pif_model.specs.declared.lines.Footing.TheVariants.{Unowned}
use Rattle.pif_model.specs.Word.{has_word, word_at, taken_word}
use Rattle.pif_model.specs.PiKernel.{is_living, try_lock_answer, words_after_try_lock}
use Rattle.pif_model.specs.Table.{Table, cell_at, status_at, with_kernel, with_word}
use Rattle.pif_model.specs.Lines.{Outcome, goes_to, try_load, try_by, try_kernel, with_pending_field}
use Rattle.pif_model.specs.Soundness.{use_at, MeetsAll, needs}
use Rattle.pif_model_lemmas.proofs.kernel.LineCases.{try_load_cases, ends_by_cases}
use Rattle.pif_model_lemmas.proofs.Numbers.{above_0, below, from_within}
use Rattle.pif_model_simulation.proofs.Steps.{GoKeeps, Going, going_named, going_met, going_called, going_other, going_ready, going_robust}
use Rattle.pif_model_simulation.proofs.Agreement.{quiet}
use Rattle.pif_model.specs.Posix.{Mutex}
use Rattle.pif_model.specs.World.Progress.{Has}
use Rattle.pif_model.specs.Posix.Effect.{try_lock}
use Rattle.pif_model.specs.Posix.TriesToLock.{busy}
use Rattle.pif_model_simulation.proofs.Shown.{mutex_seen}
use Rattle.pif_model_simulation.proofs.Local.{going_cell, going_added}
use Rattle.pif_model_simulation.proofs.LocalLines.{goes, goes_alone, answers_local, pending_kept, row_same, row_other, settled_so_far}
use Rattle.pif_model_simulation.proofs.Does.IsLocking.{by_try_lock}
use Rattle.pif_model_simulation.proofs.Does.Does.{tries_owned}
use Rattle.pif_model_simulation.proofs.Owning.{state_from_none}
use Rattle.pif_model_simulation.proofs.mutexes.TakingLines.{takes_stalled, takes_to_load, locked_again_kept}

module _ (s : Table) (t m : ℕ) where
  -- trylock: load the word
  pub try_load_kept : Going s t (TryLock m) Load → GoKeeps s t (try_load t m s)
  try_load_kept g = try_load_cases (GoKeeps s t) t m s
      (λ own kind. locked_again_kept g (going_named g) (going_ready g) refl own
      (λ r. row_same g (going_named g) r refl refl refl (λ o u. settled_so_far g (going_named g) refl o))
      (by_try_lock refl) kind)
      (λ own kind. answers_local g (going_named g) 16 (going_ready g)
      (tries_owned refl refl (λ z. above_0 t (length s.kernel.seats) (going_added g (going_named g)) (sym own ∙ z))
      (λ e. kind) refl refl)
      (λ r. row_same g (going_named g) r refl refl refl (λ o u. settled_so_far g (going_named g) refl o)))
      (λ other robust. goes g (going_named g) NamePending (quiet refl refl) (going_ready g) refl refl (going_ready g, (other, (robust, tt)))
      (λ r. row_other g (going_named g) r refl refl other other))
      (λ other stalled. goes g (going_named g) Exchange (quiet refl refl) (going_ready g) refl refl (going_ready g, (other, tt))
      (λ r. absurd (true≢false (sym r ∙ stalled))))
    where
      h : MeetsAll (is_living s.kernel) t (status_at s t) (cell_at s m) (use_at s (TryLock m)) (needs Load)
      h = going_met g

  -- trylock: name the mutex in the pending field
  pub try_name_pending_kept : Going s t (TryLock m) NamePending
      → GoKeeps s t (goes_to t (TryLock m) Exchange (with_pending_field t m s))
  try_name_pending_kept g =
      let h = going_met g in
      pending_kept g (going_named g) Exchange (quiet refl refl) (going_ready g) (going_robust g) refl refl (going_ready g, (going_other g, tt)) refl refl refl refl refl

  -- m is there, and has a word
  word_there : (g : Going s t (TryLock m) CallKernel) → has_word s.words m ≡ true
  word_there g = from_within m (length s.words.mutexes) (above_0 m (length s.mutexes) (going_named g))
      (omega (
        arith,
        below m (length s.mutexes) (going_named g),
        g.sound.all.shape.words,
        g.sound.all.shape.few_mutexes,
      ))

  -- what trylock_pi answers if nobody owns m
  answer_free : (g : Going s t (TryLock m) CallKernel) → (cell_at s m).word.number ≡ 0
      → try_lock_answer t m s.words s.kernel ≡ Ok (record {})
  unfolding try_lock_answer
  answer_free g zero = rw (
    word_there g,
    ne_eqb (cell_at s m).word.number t (going_other g),
    eq-eqb (cell_at s m).word.number 0 zero,
    eq-eqb (cell_at s m).state_owner 0 (state_from_none (going_cell g (going_named g))
        ((going_cell g (going_named g)).free zero)),
  ) refl

  -- what it answers if another thread owns m
  answer_owned : (g : Going s t (TryLock m) CallKernel) → (cell_at s m).word.number ≢ 0
      → try_lock_answer t m s.words s.kernel ≡ Err Again
  unfolding try_lock_answer
  answer_owned g owned = rw (
    word_there g,
    ne_eqb (cell_at s m).word.number t (going_other g),
    ne_eqb
        (cell_at s m).word.number 0 owned,
  ) refl

  -- the line, by its kernel call's answer
  abbrev by_call : Result (record {}) Errno → Outcome
  by_call r = try_by r t m (with_kernel (words_after_try_lock t m r s.words) s.kernel s)

  -- trylock: the kernel call trylock_pi
  pub try_kernel_kept : Going s t (TryLock m) CallKernel → GoKeeps s t (try_kernel t m s)
  unfolding try_kernel try_by words_after_try_lock
  try_kernel_kept g = go (cases_eq (cell_at s m).word.number 0)
    where
      h : MeetsAll (is_living s.kernel) t (status_at s t) (cell_at s m) (use_at s (TryLock m)) (needs CallKernel)
      h = going_met g

      go : ((cell_at s m).word.number ≡ 0) ⊎ ((cell_at s m).word.number ≢ 0)
          → GoKeeps s t (by_call (try_lock_answer t m s.words s.kernel))
      go (inl zero) = subst (λ r. GoKeeps s t (by_call r)) (sym (answer_free g zero))
          (ends_by_cases (GoKeeps s t) (TryLock m) (Take LoadWord) 0 t m (with_word m (taken_word t (word_at s.words m)) s)
          (λ robust. takes_to_load g (going_named g) (going_ready g) refl zero (by_try_lock refl) robust refl refl refl)
          (λ stalled. takes_stalled g (going_named g) (going_ready g) refl zero (by_try_lock refl) stalled))
      go (inr owned) = subst (λ r. GoKeeps s t (by_call r)) (sym (answer_owned g owned))
          (ends_by_cases (GoKeeps s t) (TryLock m) (Clear Unowned 16) 16 t m s
          (λ robust. goes_alone g (going_named g) (Has 16) (Clear Unowned 16) (quiet refl refl)
          (λ j e. absurd (true≢false (sym e))) (going_ready g) refl refl (going_ready g, (going_other g, (robust, tt)))
          (λ y. try_lock m (going_called g y)
          (busy (λ z. owned (sym (ap (λ (x : Mutex). x.owner) (mutex_seen g.sound.all.shape y m)) ∙ z))
          (λ e. absurd (going_other g (sym (ap (λ (x : Mutex). x.owner) (mutex_seen g.sound.all.shape y m)) ∙ e))) refl))
          (λ r. row_other g (going_named g) r refl refl (going_other g) (going_other g)))
          (λ stalled. answers_local g (going_named g) 16 (going_ready g)
          (tries_owned refl refl owned (λ e. absurd (going_other g e)) refl refl)
          (λ r. absurd (true≢false (sym r ∙ stalled)))))
