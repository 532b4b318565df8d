use Rattle.std.proofs.Common.{take}
use Rattle.pif_job_explore.specs.Starts.{IsBuilt}
use Rattle.pif_job_explore.proofs.starts.built.Given as goal

abbrev pub invariant-loop-addition : goal.invariant-loop-addition
invariant-loop-addition l = IsBuilt l.limits (take l.addition-index l.additions) l.world
