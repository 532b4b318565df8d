-- The kernel's waiting, effective priorities and next waiters are those of the POSIX machine.
use Rattle.std.proofs.Common.{◌≡◌, ◌≢◌, ℕ, ◌<◌, ◌≤◌, true, length, refl, sym, ap, ◌∙◌, if◌then◌else◌, ◌⊎◌, inl, inr}
use Rattle.std.proofs.Math.Path.{fun_ext}
use Rattle.std.proofs.lemmas.Bool.{cases_eq, cases_lt, true≢false}
use Rattle.pif_model.specs.Graph.{reaches_within, waited_by, has_waiter, next_waiter}
use Rattle.pif_model.specs.Posix.{Mutex, waits_for, effective_of, next_of, leads_to}
use Rattle.pif_model.specs.PiKernel.{IsKernel, state_at, effective_in, next_in, waits_for as kernel_waits_for}
use Rattle.pif_model.specs.Word.{Word, word_at}
use Rattle.pif_model.specs.Table.{Table}
use Rattle.pif_model.specs.Projection.{HistoryVariables, world_of}
use Rattle.pif_model.specs.Soundness.{SoundExcept, IsSound}
use Rattle.pif_model_lemmas.proofs.Waiting.{paired-from_waited, has_waiter-from_pair}
use Rattle.pif_model_lemmas.proofs.Numbers.{from_within}
use Rattle.pif_model_lemmas.proofs.Greatest.{effective_same}
use Rattle.pif_model_lemmas.proofs.kernel.Facts.{waited-status}
use Rattle.pif_model_simulation.proofs.Shown.{threads_shown, base_seen, mutex_seen}

module _ {Exempt : ℕ → Type 0} {s : Table} (h : SoundExcept Exempt s) (kernel : IsKernel s.kernel) where
  -- if threads wait, the kernel's owner state names the owner in the word
  pub state_is_number_but : (m : ℕ) → m ≢ 0 → has_waiter s.kernel.waiters m ≡ true
      → state_at s.kernel m ≡ (word_at s.words m).number
  state_is_number_but m n w = go (cases_lt m (length s.mutexes))
    where
      go : (m < length s.mutexes) ⊎ (length s.mutexes ≤ m) → state_at s.kernel m ≡ (word_at s.words m).number
      go (inl l) = (h.mutexes m (from_within m (length s.mutexes) n l)).state
          ∙ ap (λ b. if b then (word_at s.words m).number else 0) w
      go (inr k) = absurd (true≢false (sym w ∙ (h.shape.unmade m k).2))

  -- the owner of the mutex for which u waits, in both
  owner_waited : (u m : ℕ) → waited_by s.kernel.waiters u ≡ m → (m ≡ 0) ⊎ (m ≢ 0)
      → state_at s.kernel m ≡ (word_at s.words m).number
  owner_waited u m e (inl z) = ap (state_at s.kernel) z ∙ kernel.shape.no_mutex
      ∙ sym (ap (λ j. (word_at s.words j).number) z ∙ ap (λ (w : Word). w.number) h.shape.no_word)
  owner_waited u m e (inr n) = state_is_number_but m n (has_waiter-from_pair s.kernel.waiters u m
      (paired-from_waited s.kernel.waiters u m n e))

  -- a thread waits in the kernel for whom it waits in the POSIX machine
  pub waits_seen_but : (y : HistoryVariables) → kernel_waits_for s.kernel ≡ waits_for (world_of s y)
  waits_seen_but y = fun_ext (λ u.
      ap (state_at s.kernel) (sym (waited-status s.kernel kernel u))
      ∙ owner_waited u (waited_by s.kernel.waiters u) refl (cases_eq (waited_by s.kernel.waiters u) 0)
      ∙ sym (ap (λ (m : Mutex). m.owner) (mutex_seen h.shape y (waited_by s.kernel.waiters u))))

  -- both machines have the same effective priorities
  pub effective_seen_but : (y : HistoryVariables) → effective_in s.kernel ≡ effective_of (world_of s y)
  effective_seen_but y = fun_ext (λ t. effective_same _ _ _ _ _ _ t (sym (threads_shown h.shape y ∙ h.shape.lines))
      (λ u. ap (λ f. f u) (waits_seen_but y))
      (λ u. sym (base_seen h.shape y u)))

  -- both machines have the same next waiter
  pub next_seen_but : (y : HistoryVariables) (m : ℕ) → next_of (world_of s y) m ≡ next_in s.kernel m
  next_seen_but y m = ap (λ f. next_waiter f s.kernel.waiters m) (sym (effective_seen_but y))

  -- both machines have the same chains
  pub leads_seen_but : (y : HistoryVariables) (u t : ℕ) → leads_to (world_of s y) u t ≡ reaches_within (length s.kernel.seats)
      (kernel_waits_for s.kernel) u t
  leads_seen_but y u t = λ i. reaches_within ((threads_shown h.shape y ∙ h.shape.lines) i)
      (sym (waits_seen_but y) i) u t

module _ {s : Table} (h : IsSound s) (y : HistoryVariables) where
  -- and so they have in a sound table
  pub effective_seen : effective_in s.kernel ≡ effective_of (world_of s y)
  effective_seen = effective_seen_but h.all h.kernel y

  pub next_seen : (m : ℕ) → next_of (world_of s y) m ≡ next_in s.kernel m
  next_seen = next_seen_but h.all h.kernel y

  pub leads_seen : (u t : ℕ) → leads_to (world_of s y) u t ≡ reaches_within (length s.kernel.seats)
      (kernel_waits_for s.kernel) u t
  leads_seen = leads_seen_but h.all h.kernel y
