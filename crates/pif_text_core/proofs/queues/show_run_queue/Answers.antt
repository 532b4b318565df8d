use Rattle.std.proofs.Common.{ap}
use Rattle.std.specs.Prelude.{option_copied}
use Rattle.pif_text_core.proofs.ChangeLemmas.{ready_new, ready_old}
use Rattle.pif_text_core.proofs.TellingLemmas.{nothing, same}
use Rattle.pif_text_core.proofs.queues.show_run_queue.Goals as goal

pub returns-then-not-is_same_queue : goal.returns-then-not-is_same_queue
returns-then-not-is_same_queue g c =
    same (ready_new c.args.names.now (option_copied c.args.before) c.in-Some.before.now c.args.core.now (ap option_copied c.in-Some.is)
    c.is_same_queue.result c.is_same_queue.ensures c.if-not-is_same_queue.true) c.show_ready.ensures

pub returns-else-not-is_same_queue : goal.returns-else-not-is_same_queue
returns-else-not-is_same_queue g c =
    same (ready_old c.args.names.now (option_copied c.args.before) c.in-Some.before.now c.args.core.now (ap option_copied c.in-Some.is)
    c.is_same_queue.result c.is_same_queue.ensures c.if-not-is_same_queue.false) (nothing _ _)
