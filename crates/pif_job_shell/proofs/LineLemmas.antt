-- What is read, one part after the other.
use Rattle.std.proofs.Common.{ℕ, List, ◌++◌, Option}
use Rattle.std.proofs.KnownBytes.{Consumes-trans}
use Rattle.pif_job_shell.specs.Lines.{Reads}

pub reads_more : (a b c : Option (List ℕ)) → Reads a b → Reads b c → Reads a c
reads_more a b c p q = (p.0 ++ q.0, Consumes-trans a b c p.0 q.0 p.1 q.1)
