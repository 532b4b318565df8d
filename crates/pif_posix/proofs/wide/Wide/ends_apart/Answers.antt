use Rattle.std.proofs.Common.{◌≡◌}
use Rattle.std.specs.List.{All, Contains}
use Rattle.std.proofs.lemmas.Result.{IfOk-weaker}
use Rattle.pif_rules_model.specs.Rules.{Wide, WideEndsApart}
use Rattle.pif_rules_model.specs.Ruled.{ended_apart}
use Rattle.pif_posix.proofs.Listed.{only_ends_apart, each_end_apart}
use Rattle.pif_posix.proofs.wide.Wide.ends_apart.Goals as goal

pub returns-clause-sound : goal.returns-clause-sound
returns-clause-sound c =
    IfOk-weaker c.ended_apart.result (λ vs. vs.items ≡ ended_apart c.args.rules.now c.args.thread c.args.self.now)
    (λ vs. All (λ v. WideEndsApart c.args.rules.now c.args.thread c.args.self.now v) vs.items)
    (λ vs e. only_ends_apart c.args.rules.now c.args.thread c.args.self.now vs.items e) c.ended_apart.ensures

pub returns-clause-complete : goal.returns-clause-complete
returns-clause-complete c =
    IfOk-weaker c.ended_apart.result (λ vs. vs.items ≡ ended_apart c.args.rules.now c.args.thread c.args.self.now)
    (λ vs. (v : Wide) → WideEndsApart c.args.rules.now c.args.thread c.args.self.now v → Contains vs.items v)
    (λ vs e. each_end_apart c.args.rules.now c.args.thread c.args.self.now vs.items e) c.ended_apart.ensures
