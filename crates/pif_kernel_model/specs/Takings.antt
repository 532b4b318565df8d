-- What is known of threads that are taken from a condition variable, and of the word of their mutex.
use Rattle.std.specs.Prelude.{◌≡◌, ◌≢◌, ℕ, ◌+◌, ◌==◌, Bool, true, nat_lt, if◌then◌else◌, List, Option, Some, None, Result, Ok, Err, min}
use Rattle.std.specs.List.{list_all}
use Rattle.pif_types.specs.declared.errors.Errno.{Errno}
use Rattle.pif_model.specs.Graph.{has_waiter, next_waiter}
use Rattle.pif_model.specs.Word.{word_at}
use Rattle.pif_model.specs.PiKernel.{Kernel, System, Parking, state_at, is_living, parked_count}

-- the first of greatest priority of those that are parked on c, in this order; None if none is
abbrev pub first_parked : (ℕ → ℕ) → List (ℕ × ℕ) → ℕ → Option ℕ
first_parked effective ws c = if has_waiter ws c then Some (next_waiter effective ws c) else None

-- whether t is taken before one that came earlier: there is none, or its priority is lower
abbrev pub goes_before : (ℕ → ℕ) → ℕ → Option ℕ → Bool
goes_before effective t None = true
goes_before effective t (Some u) = nat_lt (effective u) (effective t)

-- whether each thread that is parked on c has the target m
abbrev pub have_target : List Parking → ℕ → ℕ → Bool
have_target ps c m = list_all (λ (p : Parking). if p.cond == c then p.target == m else true) ps

-- word and owner state of m fit together: if there is an owner state, the word has a number, and if that is of a
-- living thread, the owner state names it
pub record FitsWord (m : ℕ) (x : System) : Type 0 where
  pub some : state_at x.kernel m ≢ 0 → (word_at x.words m).number ≢ 0
  pub owner : state_at x.kernel m ≢ 0 → is_living x.kernel (word_at x.words m).number ≡ true
      → state_at x.kernel m ≡ (word_at x.words m).number

-- what cmp_requeue_pi answers on c, by its tests
abbrev pub requeue_test_answer : Result (Unit {0}) Errno → ℕ → ℕ → Kernel → Result ℕ Errno
requeue_test_answer (Ok x) c more k = Ok (min (parked_count k c) (more + 1))
requeue_test_answer (Err e) c more k = Err e
