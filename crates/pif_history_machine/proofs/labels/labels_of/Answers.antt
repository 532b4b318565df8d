use Rattle.std.proofs.Common.{◌∙◌, ◌++◌, ◌∷◌, [], List, take, ap, sym}
use Rattle.std.proofs.lemmas.List.{map_more}
use Rattle.pif_history_model.specs.declared.lines.Line.{Line}
use Rattle.pif_history_model.specs.declared.labels.Label.{Label}
use Rattle.pif_history_model.specs.declared.labels.Label.TheVariants.{Shown}
use Rattle.pif_history_machine.proofs.labels.labels_of.Goals as goal

pub loop-line-preserved : goal.loop-line-preserved
loop-line-preserved c =
    c.in_ok-push.ensures
    ∙ (λ i. c.loop-line.invariant i ++ Shown (c.line-item.is i) ∷ [])
    ∙ sym (map_more (λ (x : Line). Shown x) c.args.lines.now c.loop-line.line-index c.line-item.result c.loop-line-test.true)
