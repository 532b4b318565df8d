-- A core to which nothing was added stands after the empty history.
use Rattle.std.proofs.Common.{rules}
use Rattle.pif_model.specs.Posix.{empty_world}
use Rattle.pif_model_simulation.proofs.StandingLaws.{new_stands}
use Rattle.pif_core.proofs.cores.Core.new.Goals as goal

pub returns-clause-stands : goal.returns-clause-stands
returns-clause-stands c =
    (empty_world c.args.limits.signals, rw c.in_ok-parts.ensures (new_stands _ (search rules)))
