-- How far a call has come changes nobody's effective priority, and so no next waiter.
use Rattle.std.proofs.Common.{◌≡◌, ℕ, Option, refl, ap}
use Rattle.std.proofs.Math.Path.{fun_ext}
use Rattle.std.proofs.lemmas.List.{length-set}
use Rattle.pif_model.specs.Graph.{next_waiter}
use Rattle.pif_model.specs.Posix.{Progress, Call, World, nobody, thread_at, with_thread, with_progress, at_progress, effective_of, next_of}
use Rattle.pif_model_lemmas.proofs.Places.{kept_at}
use Rattle.pif_model_lemmas.proofs.Greatest.{effective_same}

-- another call of a thread changes nobody's effective priority
pub effective-with_call : (w : World) (t : ℕ) (c : Option Call)
    → effective_of (with_thread t (record (thread_at w t) { call = c }) w) ≡ effective_of w
effective-with_call w t c =
    fun_ext (λ u. effective_same _ _ _ _ _ _ u (length-set w.threads t (record (thread_at w t) { call = c }))
    (λ x. refl)
    (kept_at (λ x. x.base) w.threads t (record (thread_at w t) { call = c }) nobody refl))

-- how far a call has come changes no next waiter
pub next-with_progress : (w : World) (t : ℕ) (p : Progress) (m : ℕ) → next_of (with_progress t p w) m ≡ next_of w m
next-with_progress w t p m = ap (λ f. next_waiter f w.waiters m)
    (effective-with_call w t (at_progress p (thread_at w t).call))
