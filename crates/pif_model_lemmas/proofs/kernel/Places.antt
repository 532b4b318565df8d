-- What a kernel has at each place once a thread was queued, and once a mutex was handed over: its threads, owner states
-- and queue.
use Rattle.std.proofs.Common.{◌≡◌, ◌≢◌, ◌<◌, ℕ, true, [], ◌∷◌, ◌++◌, length, if◌then◌else◌, refl, get_or-set_same, arith}
use Rattle.pif_model.specs.declared.lines.Status.TheVariants.{Ready, Queued}
use Rattle.pif_model.specs.declared.lines.Woken.TheVariants.{Owns as WokenOwns}
use Rattle.pif_model.specs.Graph.{has_waiter, without}
use Rattle.pif_model.specs.PiKernel.{Kernel, IsKernel, seat_at, has_seat, state_at, kernel_after_queueing, kernel_after_hand_over}
use Rattle.pif_model_lemmas.proofs.kernel.Queued.{length-queueing, has-queueing, seat-queueing_other, seat-queueing_same, base-queueing, state-queueing_other}
use Rattle.pif_model_lemmas.proofs.kernel.Handed.{length-handed, has-handed, seat-handed_other, seat-handed_same, state-handed_other}

-- QUEUEING

module _ (t m n : ℕ) (k : Kernel) where
  -- the kernel after
  abbrev after_queueing : Kernel
  after_queueing = kernel_after_queueing t m n k

  -- the limits are what they were
  pub queued_limits : after_queueing.limits ≡ k.limits
  unfolding kernel_after_queueing
  queued_limits = refl

  -- as many threads
  pub queued_length : length after_queueing.seats ≡ length k.seats
  unfolding kernel_after_queueing
  queued_length = length-queueing t m n k

  -- the same threads were added
  pub queued_has : (u : ℕ) → has_seat after_queueing u ≡ has_seat k u
  unfolding kernel_after_queueing
  queued_has u = has-queueing t m n k u

  -- the other threads are as they were
  pub queued_seat_other : (u : ℕ) → u ≢ t → seat_at after_queueing u ≡ seat_at k u
  unfolding kernel_after_queueing
  queued_seat_other u d = seat-queueing_other t m n k u d

  -- t is queued on m
  pub queued_seat_same : has_seat k t ≡ true → seat_at after_queueing t ≡ record (seat_at k t) { status = Queued m }
  unfolding kernel_after_queueing
  queued_seat_same added = seat-queueing_same t m n k added

  -- each has the base priority that it had
  pub queued_base : (u : ℕ) → (seat_at after_queueing u).base ≡ (seat_at k u).base
  unfolding kernel_after_queueing
  queued_base u = base-queueing t m n k u

  -- the other owner states are as they were
  pub queued_state_other : (i : ℕ) → i ≢ m → state_at after_queueing i ≡ state_at k i
  unfolding kernel_after_queueing
  queued_state_other i d = state-queueing_other t m n k i d

  -- t is the last in the queue
  pub queued_waiters : after_queueing.waiters ≡ k.waiters ++ (t, m) ∷ []
  unfolding kernel_after_queueing
  queued_waiters = refl

-- HANDING OVER

module _ (u m : ℕ) (k : Kernel) where
  -- the kernel after
  abbrev after_hand_over : Kernel
  after_hand_over = kernel_after_hand_over u m k

  -- the limits are what they were
  pub handed_limits : after_hand_over.limits ≡ k.limits
  unfolding kernel_after_hand_over
  handed_limits = refl

  -- as many threads
  pub handed_length : length after_hand_over.seats ≡ length k.seats
  unfolding kernel_after_hand_over
  handed_length = length-handed u m k

  -- the same threads were added
  pub handed_has : (v : ℕ) → has_seat after_hand_over v ≡ has_seat k v
  unfolding kernel_after_hand_over
  handed_has v = has-handed u m k v

  -- the other threads are as they were
  pub handed_seat_other : (v : ℕ) → v ≢ u → seat_at after_hand_over v ≡ seat_at k v
  unfolding kernel_after_hand_over
  handed_seat_other v d = seat-handed_other u m k v d

  -- u is ready
  pub handed_seat_same : has_seat k u ≡ true
      → seat_at after_hand_over u ≡ record (seat_at k u) { status = Ready WokenOwns }
  unfolding kernel_after_hand_over
  handed_seat_same added = seat-handed_same u m k added

  -- the other owner states are as they were
  pub handed_state_other : (i : ℕ) → i ≢ m → state_at after_hand_over i ≡ state_at k i
  unfolding kernel_after_hand_over
  handed_state_other i d = state-handed_other u m k i d

  -- the owner state of m names u, if others are queued on it
  pub handed_state_same : IsKernel k → m < 1025
      → state_at after_hand_over m ≡ (if has_waiter (without k.waiters u) m then u else 0)
  unfolding kernel_after_hand_over
  handed_state_same h few =
      get_or-set_same k.states m (if has_waiter (without k.waiters u) m then u else 0) 0 (omega (arith, h.shape.states))

  -- u is not in the queue
  pub handed_waiters : after_hand_over.waiters ≡ without k.waiters u
  unfolding kernel_after_hand_over
  handed_waiters = refl

  -- the same threads are parked
  pub handed_parked : after_hand_over.parked ≡ k.parked
  unfolding kernel_after_hand_over
  handed_parked = refl
