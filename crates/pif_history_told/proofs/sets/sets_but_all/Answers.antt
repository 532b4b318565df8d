use Rattle.std.proofs.Common.{◌∙◌, List, ◌++◌, ap, sym}
use Rattle.pif_rules_model.specs.declared.rules.Rule.{Rule}
use Rattle.pif_history_told.specs.Sets.{sets_of_size}
use Rattle.pif_history_told.proofs.SetLemmas.{below_more, below_none}
use Rattle.pif_history_told.proofs.sets.sets_but_all.Goals as goal

pub loop-size-init : goal.loop-size-init
loop-size-init c =
    c.new-sets.ensures.items ∙ sym (below_none c.args.asked.now c.args.base.now c.in_ok-rules.rules.items)

pub loop-size-preserved : goal.loop-size-preserved
loop-size-preserved c =
    let old = c.loop-size.sets.items in
    let size = c.loop-size.size in
    below_more c.args.asked.now size c.args.base.now c.in_ok-rules.rules.items old c.push_sets.new.sets.items
    c.loop-size.invariant
    (c.in_ok-push_sets.ensures
    ∙ ap (λ (rules : List Rule). old ++ sets_of_size c.args.asked.now size c.args.base.now rules) c.as_slice.ensures.value)
