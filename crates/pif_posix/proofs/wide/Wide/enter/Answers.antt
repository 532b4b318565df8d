use Rattle.std.proofs.Common.{◌≡◌}
use Rattle.std.specs.List.{All, Contains}
use Rattle.std.proofs.lemmas.Result.{IfOk-weaker}
use Rattle.pif_rules_model.specs.Rules.{Wide, WideEnters}
use Rattle.pif_rules_model.specs.Ruled.{widely_entered}
use Rattle.pif_posix.proofs.Listed.{only_widely_entered, each_widely_entered}
use Rattle.pif_posix.proofs.wide.Wide.enter.Goals as goal

pub returns-clause-sound : goal.returns-clause-sound
returns-clause-sound c =
    IfOk-weaker c.widely_entered.result (λ vs. vs.items ≡ widely_entered c.args.rules.now c.args.limits.now c.args.self.now c.args.entry.now)
    (λ vs. All (λ v. WideEnters c.args.rules.now c.args.limits.now c.args.self.now c.args.entry.now v) vs.items)
    (λ vs e. only_widely_entered c.args.rules.now c.args.limits.now c.args.self.now c.args.entry.now vs.items e) c.widely_entered.ensures

pub returns-clause-complete : goal.returns-clause-complete
returns-clause-complete c =
    IfOk-weaker c.widely_entered.result (λ vs. vs.items ≡ widely_entered c.args.rules.now c.args.limits.now c.args.self.now c.args.entry.now)
    (λ vs. (v : Wide) → WideEnters c.args.rules.now c.args.limits.now c.args.self.now c.args.entry.now v → Contains vs.items v)
    (λ vs e. each_widely_entered c.args.rules.now c.args.limits.now c.args.self.now c.args.entry.now vs.items e) c.widely_entered.ensures
