use Rattle.std.proofs.lemmas.Result.{on_ok_weaker}
use Rattle.pif_explore_told.proofs.TellingLemmas.{held_more}
use Rattle.pif_explore_told.proofs.lines.push_held.Goals as goal

pub returns-else-owner-eq0 : goal.returns-else-owner-eq0
returns-else-owner-eq0 c =
    on_ok_weaker c.push_numbers.result (held_more c.push_numbers.new.out.items c.args.out.now.items c.args.owner c.if-owner-eq0.false)
    c.push_numbers.ensures
