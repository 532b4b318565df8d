use Rattle.std.proofs.Common.{◌≡◌, Bool, true, [], ◌∷◌}
use Rattle.std.proofs.lemmas.Result.{IfOk-weaker}
use Rattle.pif_posix_steps.specs.Once.{MovesOnce}
use Rattle.pif_posix_steps.specs.Doing.{moved}
use Rattle.pif_posix.proofs.Nobody.{one_move}
use Rattle.pif_posix.proofs.state.State.go.Goals as goal

pub returns-clause-sound : goal.returns-clause-sound
returns-clause-sound c =
    IfOk-weaker c.went.result (λ (b : Bool). b ≡ true → moved c.args.thread c.args.self.now ≡ c.went.new.self ∷ [])
    (λ (b : Bool). b ≡ true → MovesOnce c.args.thread c.args.self.now c.went.new.self)
    (λ b only h. one_move c.args.thread c.args.self.now c.went.new.self (only h)) c.went.ensures
