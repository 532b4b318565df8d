-- The first copy moves, and the second one behind it.
use Rattle.std.proofs.Common.{rules}
use Rattle.pif_c.proofs.InPlace.{moves_alike}
use Rattle.pif_c.proofs.kept.Kept.go_unseen.Goals as goal

pub returns-clause-went : goal.returns-clause-went
returns-clause-went c =
    λ _. moves_alike c.args.hidden.now c.args.thread c.replace-first.result c.replace-first.new.dest c.in-Some-moved_unseen.next
    c.args.self.now.world c.replace-before.new.dest (search rules) (search rules) (search rules) c.in-Some-moved_unseen.ensures

pub invariant_of-self-2 : goal.invariant_of-self-2
invariant_of-self-2 c =
    c.in_step.ensures
    (moves_alike c.args.hidden.now c.args.thread c.replace-first.result c.replace-first.new.dest c.in-Some-moved_unseen.next
    c.replace-before.result c.replace-before.new.dest (search rules) (search rules) (search rules) c.in-Some-moved_unseen.ensures)
