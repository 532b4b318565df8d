use Rattle.std.proofs.Common.{◌≡◌}
use Rattle.std.specs.List.{All, Contains}
use Rattle.std.proofs.lemmas.Result.{IfOk-weaker}
use Rattle.pif_model.specs.Posix.{World}
use Rattle.pif_posix_steps.specs.Once.{Enters}
use Rattle.pif_posix_steps.specs.Doing.{entered}
use Rattle.pif_posix_steps.proofs.AllResults.{only_entered, each_entered}
use Rattle.pif_posix.proofs.state.State.enter.Goals as goal

pub returns-clause-sound : goal.returns-clause-sound
returns-clause-sound c =
    IfOk-weaker c.entered.result (λ vs. vs.items ≡ entered c.args.limits.now c.args.self.now c.args.entry.now)
    (λ vs. All (λ v. Enters c.args.limits.now c.args.self.now c.args.entry.now v) vs.items)
    (λ vs e. only_entered c.args.limits.now c.args.self.now c.args.entry.now vs.items e) c.entered.ensures

pub returns-clause-complete : goal.returns-clause-complete
returns-clause-complete c =
    IfOk-weaker c.entered.result (λ vs. vs.items ≡ entered c.args.limits.now c.args.self.now c.args.entry.now)
    (λ vs. (v : World) → Enters c.args.limits.now c.args.self.now c.args.entry.now v → Contains vs.items v)
    (λ vs e. each_entered c.args.limits.now c.args.self.now c.args.entry.now vs.items e) c.entered.ensures
