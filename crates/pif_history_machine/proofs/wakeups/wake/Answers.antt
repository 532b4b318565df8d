use Rattle.std.proofs.Common.{arith}
use Rattle.std.proofs.lemmas.List.{take_all, drop_all}
use Rattle.std.proofs.lemmas.List.Edits.{map_over_more}
use Rattle.std.proofs.lemmas.Grind.{common_steps}
use Rattle.pif_history_machine.specs.Wakeups.{once_used}
use Rattle.pif_history_machine.proofs.wakeups.wake.Goals as goal

pub returns : goal.returns
returns c = grind (arith, common_steps, take_all, drop_all)

pub loop-call-preserved : goal.loop-call-preserved
loop-call-preserved c = grind (arith, common_steps, map_over_more (once_used c.args.variable))
