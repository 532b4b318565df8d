use Rattle.std.proofs.Common.{sym, ap, ◌∙◌}
use Rattle.std.specs.Option.{is_some}
use Rattle.pif_nodes_model.proofs.LevelWithLemmas.{queued_found}
use Rattle.pif_test_core.proofs.foundation.run_queue.take_out.Goals as goal

pub take_out-requires-clause-queued : goal.take_out-requires-clause-queued
take_out-requires-clause-queued c =
    queued_found c.args.queue.now c.args.table.now c.args.t c.requires
    (sym (ap is_some c.level.ensures.level) ∙ sym c.is_some-queued.ensures ∙ c.if-queued.true)
