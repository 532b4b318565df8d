use Rattle.std.proofs.Common.{arith}
use Rattle.std.proofs.lemmas.Grind.{common_steps}
use Rattle.pif_nodes_model.proofs.LevelWithLemmas.{queued-by_level}
use Rattle.pif_runq.proofs.queue.RunQueue.level.Goals as goal

pub returns-then-get-self-clause-level : goal.returns-then-get-self-clause-level
returns-then-get-self-clause-level c = grind (arith, common_steps)

pub returns-in_err-list-clause-level : goal.returns-in_err-list-clause-level
returns-in_err-list-clause-level c = grind (arith, common_steps)

pub returns-then-number-self-clause-level : goal.returns-then-number-self-clause-level
returns-then-number-self-clause-level c = grind (arith, common_steps)

pub returns-clause-level : goal.returns-clause-level
returns-clause-level c = grind (arith, common_steps)

pub returns-then-get-self-clause-queued : goal.returns-then-get-self-clause-queued
returns-then-get-self-clause-queued c = queued-by_level c.args.self.now c.args.table.now c.args.t _ c.requires.holds (returns-then-get-self-clause-level c)

pub returns-in_err-list-clause-queued : goal.returns-in_err-list-clause-queued
returns-in_err-list-clause-queued c = queued-by_level c.args.self.now c.args.table.now c.args.t _ c.requires.holds (returns-in_err-list-clause-level c)

pub returns-then-number-self-clause-queued : goal.returns-then-number-self-clause-queued
returns-then-number-self-clause-queued c = queued-by_level c.args.self.now c.args.table.now c.args.t _ c.requires.holds (returns-then-number-self-clause-level c)

pub returns-clause-queued : goal.returns-clause-queued
returns-clause-queued c = queued-by_level c.args.self.now c.args.table.now c.args.t c.new.result c.requires.holds (returns-clause-level c)
