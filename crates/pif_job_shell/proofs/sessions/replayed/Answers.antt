use Rattle.pif_job_shell.proofs.SessionLemmas.{replayed_next}
use Rattle.pif_job_shell.proofs.sessions.replayed.Goals as goal

pub loop-command-preserved : goal.loop-command-preserved
loop-command-preserved c =
    replayed_next c.args.commands.now c.loop-command.command-index c.command-item.result c.loop-command.core
    c.answer.new.core c.in-Ok.field-0 c.loop-command-test.true c.command-item.is c.loop-command.invariant c.in-Ok.ensures
