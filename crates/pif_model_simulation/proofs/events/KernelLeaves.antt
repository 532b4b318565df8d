-- What the kernel's calls leave: the limits, how many threads there are, and who may run.
use Rattle.std.proofs.Common.{◌≡◌, ℕ, suc, true, false, ◌==◌, nat_lt, Bool, Result, Ok, Err, length, if◌then◌else◌, refl, ap, ◌∙◌, length-set}
use Rattle.pif_types.specs.declared.errors.Errno.{Errno}
use Rattle.pif_model.specs.declared.lines.Status.TheVariants.{Ended}
use Rattle.pif_model.specs.declared.lines.Took.{Took}
use Rattle.pif_model.specs.declared.lines.Took.TheVariants.{Owns as TookOwns, Queued as TookQueued}
use Rattle.pif_model.specs.Word.{Words}
use Rattle.pif_model.specs.PiKernel.{Kernel, has_seat, state_at, next_in, kernel_after_queueing, kernel_after_lock, kernel_after_hand_over, kernel_after_unlock, kernel_after_set_prio, kernel_after_stop, kernel_after_expire, kernel_after_parking, kernel_after_wait_requeue, after_requeue, kernel_after_leaving}
use Rattle.pif_model_lemmas.proofs.kernel.Left.{limits-left, length-left_seats}
use Rattle.pif_model_lemmas.proofs.kernel.Expired.{limits-expired, length-expired}
use Rattle.pif_model_lemmas.proofs.kernel.Requeued.{takings-limits, takings-length}

-- a kernel under the same limits and of as many threads as another
pub record IsAlike (k j : Kernel) : Type 0 where
  pub limits : j.limits ≡ k.limits
  pub seats : length j.seats ≡ length k.seats

-- each kernel is alike itself
pub alike : (k : Kernel) → IsAlike k k
alike k = record { limits = refl; seats = refl }

-- a kernel alike one that is alike a third is alike that
pub alike_twice : (k j i : Kernel) → IsAlike k j → IsAlike j i → IsAlike k i
alike_twice k j i h g = record { limits = g.limits ∙ h.limits; seats = g.seats ∙ h.seats }

-- a thread of a kernel is one of each kernel alike
pub alike_keeps_threads : (k j : Kernel) (u : ℕ) → IsAlike k j → has_seat k u ≡ true → has_seat j u ≡ true
alike_keeps_threads k j u h known = ap (λ (n : ℕ). if u == 0 then false else nat_lt u n) h.seats ∙ known

-- HOW MANY THREADS

-- after lock_pi
pub lock_alike : (t m : ℕ) (r : Result Took Errno) (ws : Words) (k : Kernel) → IsAlike k (kernel_after_lock t m r ws k)
unfolding kernel_after_lock kernel_after_queueing
lock_alike t m (Ok TookOwns) ws k = alike k
lock_alike t m (Ok TookQueued) ws k = record { limits = refl; seats = length-set k.seats t _ }
lock_alike t m (Err e) ws k = alike k

-- if a mutex is handed over
pub hand_over_alike : (u m : ℕ) (k : Kernel) → IsAlike k (kernel_after_hand_over u m k)
unfolding kernel_after_hand_over
hand_over_alike u m k = record { limits = refl; seats = length-set k.seats u _ }

-- after unlock_pi
pub unlock_alike : (m : ℕ) (r : Result (record {}) Errno) (k : Kernel) → IsAlike k (kernel_after_unlock m r k)
unfolding kernel_after_unlock
unlock_alike m (Ok x) k = by_state (state_at k m == 0)
  where
    by_state : (b : Bool) → IsAlike k (if b then k else kernel_after_hand_over (next_in k m) m k)
    by_state true = alike k
    by_state false = hand_over_alike (next_in k m) m k
unlock_alike m (Err e) k = alike k

-- after set_prio
pub set_prio_alike : (t p : ℕ) (r : Result (record {}) Errno) (k : Kernel) → IsAlike k (kernel_after_set_prio t p r k)
unfolding kernel_after_set_prio
set_prio_alike t p (Ok x) k = record { limits = refl; seats = length-set k.seats t _ }
set_prio_alike t p (Err e) k = alike k

-- after stop
pub stop_alike : (t : ℕ) (k : Kernel) → IsAlike k (kernel_after_stop t k)
unfolding kernel_after_stop
stop_alike t k = record { limits = refl; seats = length-set k.seats t _ }

-- after expire
pub expire_alike : (t : ℕ) (k : Kernel) → IsAlike k (kernel_after_expire t k)
expire_alike t k = record { limits = limits-expired t k; seats = length-expired t k }

-- after wait_requeue_pi
pub wait_requeue_alike : (t c m : ℕ) (r : Result (record {}) Errno) (k : Kernel)
    → IsAlike k (kernel_after_wait_requeue t c m r k)
unfolding kernel_after_wait_requeue kernel_after_parking
wait_requeue_alike t c m (Ok x) k = record { limits = refl; seats = length-set k.seats t _ }
wait_requeue_alike t c m (Err e) k = alike k

-- after cmp_requeue_pi
pub requeue_alike : (c m more : ℕ) (r : Result ℕ Errno) (ws : Words) (k : Kernel)
    → IsAlike k (after_requeue c m more r ws k).kernel
unfolding after_requeue
requeue_alike c m more (Ok n) ws k = record {
  limits = takings-limits (suc more) c m (record { words = ws; kernel = k });
  seats = takings-length (suc more) c m (record { words = ws; kernel = k });
}
requeue_alike c m more (Err e) ws k = alike k

-- and after a thread has left all that it waits for
pub leaving_alike : (t : ℕ) (k : Kernel) → IsAlike k (kernel_after_leaving t k)
leaving_alike t k = record { limits = limits-left Ended t k; seats = length-left_seats Ended t k }

-- WHO WAS ADDED

-- after lock_pi
pub lock_keeps_threads : (t m : ℕ) (r : Result Took Errno) (ws : Words) (k : Kernel) (u : ℕ) → has_seat k u ≡ true
    → has_seat (kernel_after_lock t m r ws k) u ≡ true
lock_keeps_threads t m r ws k u = alike_keeps_threads k (kernel_after_lock t m r ws k) u (lock_alike t m r ws k)

-- after unlock_pi
pub unlock_keeps_threads : (m : ℕ) (r : Result (record {}) Errno) (k : Kernel) (u : ℕ) → has_seat k u ≡ true
    → has_seat (kernel_after_unlock m r k) u ≡ true
unlock_keeps_threads m r k u = alike_keeps_threads k (kernel_after_unlock m r k) u (unlock_alike m r k)

-- after set_prio
pub set_prio_keeps_threads : (t p : ℕ) (r : Result (record {}) Errno) (k : Kernel) (u : ℕ) → has_seat k u ≡ true
    → has_seat (kernel_after_set_prio t p r k) u ≡ true
set_prio_keeps_threads t p r k u = alike_keeps_threads k (kernel_after_set_prio t p r k) u (set_prio_alike t p r k)

-- after stop
pub stop_keeps_threads : (t : ℕ) (k : Kernel) (u : ℕ) → has_seat k u ≡ true → has_seat (kernel_after_stop t k) u ≡ true
stop_keeps_threads t k u = alike_keeps_threads k (kernel_after_stop t k) u (stop_alike t k)

-- after expire
pub expire_keeps_threads : (t : ℕ) (k : Kernel) (u : ℕ) → has_seat k u ≡ true
    → has_seat (kernel_after_expire t k) u ≡ true
expire_keeps_threads t k u = alike_keeps_threads k (kernel_after_expire t k) u (expire_alike t k)

-- after wait_requeue_pi
pub wait_requeue_keeps_threads : (t c m : ℕ) (r : Result (record {}) Errno) (k : Kernel) (u : ℕ) → has_seat k u ≡ true
    → has_seat (kernel_after_wait_requeue t c m r k) u ≡ true
wait_requeue_keeps_threads t c m r k u =
    alike_keeps_threads k (kernel_after_wait_requeue t c m r k) u (wait_requeue_alike t c m r k)

-- after cmp_requeue_pi
pub requeue_keeps_threads : (c m more : ℕ) (r : Result ℕ Errno) (ws : Words) (k : Kernel) (u : ℕ) → has_seat k u ≡ true
    → has_seat (after_requeue c m more r ws k).kernel u ≡ true
requeue_keeps_threads c m more r ws k u =
    alike_keeps_threads k (after_requeue c m more r ws k).kernel u (requeue_alike c m more r ws k)
