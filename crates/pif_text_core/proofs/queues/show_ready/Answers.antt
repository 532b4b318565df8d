use Rattle.std.proofs.Common.{◌++◌, ◌∙◌, ap, sym}
use Rattle.std.specs.Prelude.{codes}
use Rattle.pif_model.specs.declared.events.Order.TheVariants as order
use Rattle.pif_text_core.specs.Waiting.{order_in}
use Rattle.pif_text_core.specs.Texts.{line_if, threads_text}
use Rattle.pif_text_core.proofs.TellingLemmas.{same, then}
use Rattle.pif_text_core.proofs.queues.show_ready.Goals as goal

pub returns-in-Some : goal.returns-in-Some
returns-in-Some g c =
    let line = threads_text c.args.names.now (codes "  run queue: ") (order_in order.Ready c.args.core.now) ++ codes "\n" in
    same (ap (line_if c.args.empty.now line) (sym (sym c.pick.ensures.value ∙ c.in-Some.is)))
    (then c.show_queue.ensures c.words.ensures)
