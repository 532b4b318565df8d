use Rattle.std.proofs.Common.{List, subst, sym}
use Rattle.std.specs.List.{All}
use Rattle.pif_history_model.specs.declared.facts.Fact.{Fact}
use Rattle.pif_history_model.proofs.ShownLines.{some_of}
use Rattle.pif_judge_reasons.specs.InTheWay.{IsSoBehind}
use Rattle.pif_judge_reasons.proofs.in_the_way.in_the_way_behind.Goals as goal

pub returns-in-Some : goal.returns-in-Some
returns-in-Some g c =
    let P = IsSoBehind c.args.terms.now.rules c.args.terms.now.limits c.args.before.now in
    let certain = some_of _ _ c.in-Some.found c.in-Some.is c.in_ok-found.ensures.so in
    c.obstacle_in.ensures c.args.terms.now.rules c.args.terms.now.limits c.args.before.now
    (subst (λ (fs : List Fact). All P fs) (sym c.as_slice.ensures.value) certain)
