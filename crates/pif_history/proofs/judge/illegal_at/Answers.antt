use Rattle.std.proofs.Common.{◌-◌, ◌∙◌, List, ap, take}
use Rattle.std.proofs.lemmas.List.{take-map}
use Rattle.pif_history_model.specs.declared.labels.Label.{Label}
use Rattle.pif_history_model.specs.declared.lines.Line.{Line}
use Rattle.pif_history_model.specs.declared.labels.Label.TheVariants.{Shown}
use Rattle.pif_history.proofs.judge.illegal_at.Goals as goal

pub plain_witness-requires : goal.plain_witness-requires
plain_witness-requires g c =
    ap (λ (ls : List Label). take (c.args.count - 1) ls) c.requires.labels
    ∙ take-map (λ (z : Line). Shown z) (c.args.count - 1) c.args.lines.now
