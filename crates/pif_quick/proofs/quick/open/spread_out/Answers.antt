use Rattle.std.proofs.Common.{◌++◌, ap, sym, ◌∙◌}
use Rattle.pif_quick.specs.Quick.{spaced}
use Rattle.pif_quick.proofs.Opening.{spread-end}
use Rattle.pif_quick.proofs.quick.open.spread_out.Goals as goal

pub loop-value-preserved : goal.loop-value-preserved
loop-value-preserved g c = c.in_ok-push_spaced.ensures ∙ ap (λ l. l ++ spaced c.in-Some.value) c.loop-value.invariant
    ∙ sym (spread-end _ _)
