-- The recorded answer is right if it has the bytes of the one that is given.
use Rattle.std.proofs.Common.{rules}
use Rattle.pif_job_replay.proofs.replaying.compare.Goals as goal

pub returns-then-eq : goal.returns-then-eq
returns-then-eq c = search rules
