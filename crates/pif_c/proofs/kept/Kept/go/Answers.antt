-- It moves as the plain machine does, to which the hidden mutexes look free.
use Rattle.std.proofs.Common.{rules}
use Rattle.pif_c.proofs.InPlace.{moved_alone}
use Rattle.pif_c.proofs.kept.Kept.go.Goals as goal

pub returns-in-Some-clause-went : goal.returns-in-Some-clause-went
returns-in-Some-clause-went c =
    λ e. moved_alone c.args.thread c.args.self.now c.go_unseen.new.self c.as_slice.result.now (search rules)
    (c.go_unseen.ensures.went e) c.go_unseen.ensures.beside
