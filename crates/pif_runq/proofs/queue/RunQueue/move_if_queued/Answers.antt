use Rattle.std.proofs.Common.{sym, ap, ◌∙◌}
use Rattle.std.specs.Option.{is_some}
use Rattle.pif_nodes_model.proofs.LevelWithLemmas.{queued_found}
use Rattle.pif_runq.proofs.queue.RunQueue.move_if_queued.Goals as goal

pub move_to-requires-clause-queued : goal.move_to-requires-clause-queued
move_to-requires-clause-queued c =
    queued_found c.args.self.now c.args.table.now c.args.t c.requires (sym (ap is_some c.level.ensures.level) ∙ sym c.is_some.ensures ∙ c.if-is_some.true)
