use Rattle.std.proofs.Common.{◌≡◌}
use Rattle.pif_job_explore.specs.Looking.{fates}
use Rattle.pif_job_explore.proofs.player.Player.fates.Given as goal

abbrev pub invariant-loop-before : goal.invariant-loop-before
invariant-loop-before l = l.all.items ≡ fates l.plan l.self l.before
