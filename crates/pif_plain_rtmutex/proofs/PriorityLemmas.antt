-- What is known of a thread once one of its priorities is another one.
use Rattle.std.proofs.Common.{◌≡◌, ◌∙◌, ℕ, Option, ap}
use Rattle.pif_kernel_model.specs.Owners.{Task, Wait}
use Rattle.pif_rtmutex.specs.Priorities.{ThreadPriorities}

-- what is known of a thread that has these priorities and waits for this
abbrev pub task_of : ThreadPriorities → Option Wait → Task
task_of p w = record { base = p.base; local = p.local; wait = w }

module _ (p q : ThreadPriorities) (w : Option Wait) (x : Task) (prio : ℕ) (known : task_of p w ≡ x) where
  pub task-base : q ≡ record p { base = prio } → task_of q w ≡ record x { base = prio }
  task-base e = ap (λ r. task_of r w) e ∙ ap (λ (y : Task). record y { base = prio }) known

  pub task-local : q ≡ record p { local = prio } → task_of q w ≡ record x { local = prio }
  task-local e = ap (λ r. task_of r w) e ∙ ap (λ (y : Task). record y { local = prio }) known
