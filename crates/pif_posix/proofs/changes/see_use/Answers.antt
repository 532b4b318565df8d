use Rattle.std.proofs.Common.{arith}
use Rattle.pif_model.specs.Posix.{after_use}
use Rattle.pif_posix.proofs.Loops.{all_changed, changed_more}
use Rattle.pif_posix.proofs.changes.see_use.Goals as goal

pub returns : goal.returns
returns c = all_changed (after_use c.args.variable) c.args.threads.now c.loop-task.threads c.loop-task.task-index (omega arith) c.loop-task.invariant

pub loop-task-preserved : goal.loop-task-preserved
loop-task-preserved c =
    changed_more (after_use c.args.variable) c.args.threads.now c.loop-task.threads c.loop-task.task-index c.task-item.result c.see_use.new.self
    (omega (arith, c.loop-task-test.true)) c.loop-task.invariant c.see_use.ensures
