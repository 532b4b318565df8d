use Rattle.std.proofs.Common.{arith}
use Rattle.pif_history_told.proofs.SetLemmas.{first_of, more_pushed, none_pushed, some_pushed}
use Rattle.pif_history_told.proofs.sets.+push_sets.Goals as goal

pub returns-then-size-eq0 : goal.returns-then-size-eq0
returns-then-size-eq0 t c =
    none_pushed c.push.result c.args.asked.now c.args.size c.args.held c.args.rules.now c.args.sets.now.items
    c.push.new.items.items (omega (arith, c.if-size-eq0.true)) c.push.ensures

pub returns-in-empty : goal.returns-in-empty
returns-in-empty t c =
    some_pushed c.args.asked.now c.args.size c.args.held c.args.rules.now c.args.sets.now.items
    (omega (arith, c.if-size-eq0.false)) (omega (arith, c.in-empty.len_below))

pub returns-in_ok-push_sets-in-len1-up : goal.returns-in_ok-push_sets-in-len1-up
returns-in_ok-push_sets-in-len1-up t c =
    more_pushed c.push_sets-in-len1-up.result c.args.asked.now c.args.size c.args.held c.args.rules.now _ _ c.only.result
    c.both-more.result c.args.sets.now.items c.push_sets.new.sets.items c.push_sets-in-len1-up.new.sets.items
    (omega (arith, c.if-size-eq0.false)) (first_of c.args.rules.now _ (omega (arith, c.in-len1-up.len_at_least)))
    c.only.ensures.is c.both-more.ensures c.in_ok-push_sets-in-len1-up.ensures c.push_sets-in-len1-up.ensures
