use Rattle.std.proofs.Common.{ℕ, ◌≡◌, ◌∙◌, List, [], ◌++◌, map, ap, if◌then◌else◌}
use Rattle.std.proofs.lemmas.Result.{IfOk-weaker}
use Rattle.pif_model.specs.Posix.{World}
use Rattle.pif_rules_model.specs.declared.rules.Rules.{Rules}
use Rattle.pif_rules_model.specs.Rules.{Wide, has_ended_apart}
use Rattle.pif_rules_model.specs.Ruled.{beside, remembering_apart, left_apart, passed_apart, ended_in_steps}
use Rattle.pif_posix.proofs.wide.Wide.ended_in_steps.Goals as goal

-- the steps of an end: it lives no more, and then its mutexes pass on
abbrev both : Rules → ℕ → Wide → World → List Wide
both r t s w =
    map (remembering_apart t s) (left_apart r t w) ++ (if has_ended_apart s t then map (beside s) (passed_apart r t s.world) else [])

pub returns : goal.returns
returns c =
    IfOk-weaker c.joined.result (λ v. v.items ≡ both c.args.rules.now c.args.thread c.args.self.now c.self.inside.state)
    (λ v. v.items ≡ ended_in_steps c.args.rules.now c.args.thread c.args.self.now)
    (λ v h. h ∙ ap (both c.args.rules.now c.args.thread c.args.self.now) (ap (λ (x : Wide). x.world) c.self.view_is))
    (c.joined.ensures _ _ (c.remembering_apart.ensures _ c.left_apart-left.ensures) c.passed_apart.ensures)
