use Rattle.std.proofs.Common.{◌≡◌}
use Rattle.std.specs.List.{All, Contains}
use Rattle.std.proofs.lemmas.Result.{IfOk-weaker}
use Rattle.pif_rules_model.specs.Rules.{Wide, WideMoves}
use Rattle.pif_rules_model.specs.Ruled.{widely_moved}
use Rattle.pif_posix.proofs.Listed.{only_wide_moves, each_wide_move}
use Rattle.pif_posix.proofs.wide.Wide.moves.Goals as goal

pub returns-clause-sound : goal.returns-clause-sound
returns-clause-sound c =
    IfOk-weaker c.widely_moved.result (λ vs. vs.items ≡ widely_moved c.args.rules.now c.args.thread c.args.self.now)
    (λ vs. All (λ v. WideMoves c.args.rules.now c.args.thread c.args.self.now v) vs.items)
    (λ vs e. only_wide_moves c.args.rules.now c.args.thread c.args.self.now vs.items e) c.widely_moved.ensures

pub returns-clause-complete : goal.returns-clause-complete
returns-clause-complete c =
    IfOk-weaker c.widely_moved.result (λ vs. vs.items ≡ widely_moved c.args.rules.now c.args.thread c.args.self.now)
    (λ vs. (v : Wide) → WideMoves c.args.rules.now c.args.thread c.args.self.now v → Contains vs.items v)
    (λ vs e. each_wide_move c.args.rules.now c.args.thread c.args.self.now vs.items e) c.widely_moved.ensures
