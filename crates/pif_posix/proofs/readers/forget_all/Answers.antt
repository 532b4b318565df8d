use Rattle.std.proofs.Common.{arith}
use Rattle.pif_model.specs.World.{Variable}
use Rattle.pif_posix.proofs.Loops.{all_changed, changed_more}
use Rattle.pif_posix.proofs.readers.forget_all.Goals as goal

pub returns : goal.returns
returns c =
    all_changed (λ (x : Variable). record x { uses = 0 }) c.args.variables.now c.loop-variable.variables c.loop-variable.variable-index (omega arith) c.loop-variable.invariant

pub loop-variable-preserved : goal.loop-variable-preserved
loop-variable-preserved c =
    changed_more (λ (x : Variable). record x { uses = 0 }) c.args.variables.now c.loop-variable.variables c.loop-variable.variable-index c.variable-item.result c.forget.new.self
    (omega (arith, c.loop-variable-test.true)) c.loop-variable.invariant c.forget.ensures
