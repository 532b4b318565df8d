use Rattle.pif_components.specs.Groups.{name_of}
use Rattle.pif_components.proofs.GroupLemmas.{joined_after}
use Rattle.pif_components.proofs.groups.Groups.join.Goals as goal

pub returns : goal.returns
returns c = λ e.
    joined_after (name_of c.args.one) (name_of c.args.other) c.args.self.now c.enter.new.self c.enter-2.new.self c.unite.new.self
    c.number-first.result c.number-second.result (c.in_ok-enter.ensures c.if-not-branch.false)
    (c.in_ok-enter-2.ensures c.if-not-branch-2.false) c.number-first.ensures c.number-second.ensures c.unite.ensures
