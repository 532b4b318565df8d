use Rattle.std.proofs.Common.{◌≡◌}
use Rattle.pif_job_explore.specs.Looking.{standings}
use Rattle.pif_job_explore.proofs.player.Player.standings.Given as goal

abbrev pub invariant-loop-before : goal.invariant-loop-before
invariant-loop-before l = l.all.items ≡ standings l.self l.before
