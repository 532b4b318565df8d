use Rattle.std.proofs.Common.{◌∙◌, sym, arith}
use Rattle.std.proofs.lemmas.List.{take_all}
use Rattle.pif_parts.proofs.resting.are_same.Goals as goal

pub returns : goal.returns
returns g c =
    λ h. sym (take_all c.loop-place.place c.args.items.now (omega arith)) ∙ c.loop-place.invariant
    ∙ take_all c.loop-place.place c.args.others.now (omega arith)
