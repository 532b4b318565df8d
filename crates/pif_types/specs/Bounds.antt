-- How many threads, mutexes, condition variables and signals a core may take.
use Rattle.std.specs.Prelude.{ℕ, ◌≤◌}

-- the four limits of a core
pub record Bounds : Type 0 where
  -- threads ever added
  pub threads : ℕ
  -- mutexes
  pub mutexes : ℕ
  -- condition variables
  pub conds : ℕ
  -- signals and broadcasts together that one condition variable takes
  pub signals : ℕ

-- the ranges that limits keep
pub record IsWithin (b : Bounds) : Type 0 where
  pub some_thread : 1 ≤ b.threads
  pub threads : b.threads ≤ 1024
  pub mutexes : b.mutexes ≤ 1024
  pub conds : b.conds ≤ 256
  pub some_signal : 1 ≤ b.signals
  pub signals : b.signals ≤ 4294967295
