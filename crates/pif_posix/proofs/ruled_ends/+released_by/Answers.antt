use Rattle.std.proofs.Common.{◌≡◌, ◌++◌, ◌-◌, ◌∙◌, List, ap, sym}
use Rattle.std.specs.List.{flat_map}
use Rattle.std.proofs.lemmas.Iterator.Adapters.{YieldsList-from_vec}
use Rattle.std.proofs.lemmas.Iterator.Consumers.{YieldsList-end}
use Rattle.std.proofs.lemmas.List.{map-id}
use Rattle.pif_model.specs.Posix.{World}
use Rattle.pif_rules_model.specs.Ruled.{released_by}
use Rattle.pif_posix.proofs.Inheriting.{released-all}
use Rattle.pif_posix.proofs.ruled_ends.+released_by.Goals as goal

pub returns : goal.returns
returns t c =
    let each = YieldsList-from_vec {s = c.into_iter-next-iterator.result} c.in_ok-passed.passed.items
    c.into_iter-next-iterator.ensures.into_iter_gives.0 (c.into_iter-next-iterator.ensures.into_iter_gives.1 ∙ c.in_ok-passed.passed.ok.0) in
    let ended = YieldsList-end each c.loop-next.yielded c.loop-next.next-iterator c.loop-next.yielded_by c.next.result c.next.new.self c.in-None.is c.next.ensures.steps in
    let all : c.loop-next.yielded ≡ c.in_ok-passed.passed.items = sym (map-id c.loop-next.yielded) ∙ ended.0 in
    released-all c.args.rules.now c.args.thread c.args.state.now c.args.left c.args.all.now.items c.in_ok-passed.passed.items
    c.loop-next.all.items c.stay_if.new.all.items c.if-left-eq0.false c.in_ok-passed.ensures
    (c.loop-next.invariant ∙ ap (λ (ws : List World). c.args.all.now.items ++ flat_map (released_by c.args.rules.now (c.args.left - 1) c.args.thread) ws) all)
    c.in_ok-stay_if.ensures
