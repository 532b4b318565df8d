use Rattle.std.proofs.Common.{◌≡◌, ◌∙◌, Bool, ap}
use Rattle.std.proofs.lemmas.Result.{IfOk-weaker}
use Rattle.pif_posix_steps.specs.Doing.{wait_effects, locked, Does}
use Rattle.pif_posix.specs.declared.progress.Progress.{Progress}
use Rattle.pif_posix.specs.Results.{if_done}
use Rattle.pif_posix.specs.Shapes.{progress_of}
use Rattle.pif_posix.proofs.Results.{done_by_rule}
use Rattle.pif_posix.proofs.state.State.act_on_wait.Goals as goal

pub returns-in-Reacquiring : goal.returns-in-Reacquiring
returns-in-Reacquiring c =
    IfOk-weaker c.lock.result (λ (b : Bool). Does c.args.self.now (locked c.args.thread c.args.mutex c.args.self.now) b c.lock.new.self)
    (λ (b : Bool). wait_effects (progress_of c.args.progress) c.args.thread c.args.mutex c.args.self.now ≡ if_done b c.lock.new.self)
    (λ b d. ap (λ (p : Progress). wait_effects (progress_of p) c.args.thread c.args.mutex c.args.self.now) c.in-Reacquiring.is ∙ done_by_rule d) c.lock.ensures
