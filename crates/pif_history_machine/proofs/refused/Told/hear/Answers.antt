use Rattle.pif_history_machine.proofs.Telling.{told_end}
use Rattle.pif_history_machine.proofs.refused.Told.hear.Goals as goal

pub returns-in-End : goal.returns-in-End
returns-in-End c = λ lines h. rw (c.end_if.ensures, c.get.ensures.value, c.get-in-End.ensures.value, c.in-End.is) (told_end c.args.thread c.in-End.t lines c.args.self.now h)
