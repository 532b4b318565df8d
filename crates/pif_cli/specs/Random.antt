-- What `random` writes.
use Rattle.std.specs.Prelude.{ℕ, List, Option, Result, Ok, Err}
use Rattle.pif_job_random.specs.Lines.{WritesScript}
use Rattle.pif_cli_messages.specs.declared.statuses.JobFault.{JobFault}
use Rattle.pif_cli_messages.specs.declared.statuses.JobFault.TheVariants.{Cli, Threads, Unsettled, Undecided, PosixAllows, PosixUndefined, NotOnCore, NoCall, Mistake, Faulty, Parts}

-- what `random` writes: a random script; nothing if it is out of memory; a proper part of a script if a write fails
abbrev pub WritesRandom : ℕ → (held holds : Option (List ℕ)) → Result (Unit {0}) JobFault → Type 0
WritesRandom lines held holds (Ok x) = WritesScript lines held holds (Ok x)
WritesRandom lines held holds (Err (Cli fault)) = WritesScript lines held holds (Err fault)
WritesRandom lines held holds (Err Threads) = ⊥
WritesRandom lines held holds (Err Unsettled) = ⊥
WritesRandom lines held holds (Err (Undecided line)) = ⊥
WritesRandom lines held holds (Err (PosixAllows line)) = ⊥
WritesRandom lines held holds (Err (NotOnCore mutex)) = ⊥
WritesRandom lines held holds (Err (PosixUndefined line)) = ⊥
WritesRandom lines held holds (Err NoCall) = ⊥
WritesRandom lines held holds (Err (Mistake line noted)) = ⊥
WritesRandom lines held holds (Err Faulty) = ⊥
WritesRandom lines held holds (Err (Parts fault)) = ⊥
