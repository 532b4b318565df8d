use Rattle.pif_history_machine.proofs.refused.Told.by.Goals as goal

pub loop-line-init : goal.loop-line-init
loop-line-init c = c.nothing-told.ensures c.args.thread
