-- Each call of the kernel keeps what a kernel keeps.
use Rattle.std.proofs.Common.{◌≡◌, ◌≢◌, ◌<◌, ◌≤◌, ℕ, true, false, length, Ok}
use Rattle.pif_types.specs.Bounds.{Bounds}
use Rattle.pif_model.specs.Graph.{is_priority, reaches_within}
use Rattle.pif_model.specs.PiKernel.{Kernel, IsKernel, seat_at, has_seat, is_living, is_ready, state_at, waits_for, next_in, new_kernel, kernel_after_add, kernel_after_queueing, kernel_after_hand_over, kernel_after_set_prio, kernel_after_stop}
use Rattle.pif_model_lemmas.proofs.kernel.Facts.{next-queued, living-added}
use Rattle.pif_model_lemmas.proofs.kernel.New.{kernel-new}
use Rattle.pif_model_lemmas.proofs.kernel.Added.{kernel-added}
use Rattle.pif_model_lemmas.proofs.kernel.Queued.{kernel-queued}
use Rattle.pif_model_lemmas.proofs.kernel.Handed.{kernel-handed}
use Rattle.pif_model_lemmas.proofs.kernel.Rebased.{kernel-rebased}
use Rattle.pif_model_lemmas.proofs.kernel.Rested.{kernel-stopped}

-- a kernel to which nothing was added is one
pub new_kernel_kept : (l : Bounds) → IsKernel (new_kernel l)
new_kernel_kept l = kernel-new l

-- a thread is added, if there is room
pub add_kept : (p : ℕ) (k : Kernel) → IsKernel k → is_priority p ≡ true → length k.seats ≤ k.limits.threads
    → IsKernel (kernel_after_add p k)
add_kept p k h ranged room = kernel-added p k h ranged room

-- a thread that may run is queued on a mutex whose owner does not wait for it
pub queueing_kept : (t m n : ℕ) (k : Kernel) → IsKernel k → has_seat k t ≡ true → is_ready (seat_at k t).status ≡ true
    → m ≢ 0 → m < 1025
    → is_living k n ≡ true → (state_at k m ≢ 0 → state_at k m ≡ n)
    → reaches_within (length k.seats) (waits_for k) n t ≡ false
    → IsKernel (kernel_after_queueing t m n k)
queueing_kept t m n k h added ready some few owner agrees free =
    kernel-queued t m n k h added ready some few (living-added k n owner) agrees free

-- a mutex that has an owner state is handed to its next waiter
pub hand_over_kept : (m : ℕ) (k : Kernel) → IsKernel k → state_at k m ≢ 0
    → IsKernel (kernel_after_hand_over (next_in k m) m k)
hand_over_kept m k h some = kernel-handed (next_in k m) m k h some (next-queued k h m some)

-- a thread gets another base priority
pub set_prio_kept : (t p : ℕ) (k : Kernel) → IsKernel k → is_priority p ≡ true → is_living k t ≡ true
    → IsKernel (kernel_after_set_prio t p (Ok (record {})) k)
set_prio_kept t p k h ranged living = kernel-rebased t p k h ranged (living-added k t living)

-- a thread that may run stops for good
pub stop_kept : (t : ℕ) (k : Kernel) → IsKernel k → has_seat k t ≡ true → is_ready (seat_at k t).status ≡ true
    → IsKernel (kernel_after_stop t k)
stop_kept t k h added ready = kernel-stopped t k h added ready
