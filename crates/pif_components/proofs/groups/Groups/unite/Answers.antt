use Rattle.pif_components.proofs.GroupLemmas.{united_down, united_up}
use Rattle.pif_components.proofs.groups.Groups.unite.Goals as goal

pub returns-then-first-second : goal.returns-then-first-second
returns-then-first-second c = λ a b.
    united_up c.args.first c.args.second c.args.self.now c.merge.new.self c.merge.ensures c.if-first-second.true a b

pub returns-then-second-first : goal.returns-then-second-first
returns-then-second-first c = λ a b.
    united_down c.args.second c.args.first c.args.self.now c.merge-then-second-first.new.self c.merge-then-second-first.ensures
    c.if-second-first.true a b
