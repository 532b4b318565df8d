use Rattle.std.proofs.Common.{◌∙◌, ap, arith, map, sym}
use Rattle.std.proofs.lemmas.List.{take_all}
use Rattle.pif_parts.specs.Resting.{unused_cond}
use Rattle.pif_parts.proofs.resting.are_bound_alike.Goals as goal

pub returns : goal.returns
returns c =
    λ h. ap (map unused_cond) (sym (take_all c.loop-place.place c.args.conds.now (omega arith))) ∙ c.loop-place.invariant
    ∙ ap (map unused_cond) (take_all c.loop-place.place c.args.others.now (omega arith))
