use Rattle.pif_history_told.proofs.SetLemmas.{all_in_order}
use Rattle.pif_history_told.proofs.leading.all_sets.Goals as goal

pub returns : goal.returns
returns c =
    all_in_order c.no_rules.result c.no_rules-2.result c.args.rules.now c.both.result c.in_ok-sets.sets.items c.push.new.items.items
    c.in_ok-sets.ensures c.no_rules.ensures c.no_rules-2.ensures c.both.ensures c.in_ok-push.ensures
