use Rattle.std.proofs.Common.{◌≡◌, ◌∙◌, ℕ, List, [], ap, sym}
use Rattle.pif_model.specs.World.{effective_of}
use Rattle.pif_rules_model.specs.Lending.{looking_free}
use Rattle.pif_rules_model.specs.Rules.{Wide}
use Rattle.pif_posix.proofs.wide.Wide.effective.Goals as goal

-- if each mutex inherits, lending sees the state as it is
plainly : (s : Wide) (t n : ℕ) → s.prio_none ≡ [] → n ≡ effective_of s.world t
    → n ≡ effective_of (looking_free s.prio_none s.world) t
plainly s t n none e = e ∙ sym (ap (λ (ms : List ℕ). effective_of (looking_free ms s.world) t) none)

pub returns-then-inherits : goal.returns-then-inherits
returns-then-inherits c =
    plainly c.args.self.now c.args.thread c.effective.result (c.inherits.ensures.0 c.if-inherits.true)
    (c.effective.ensures ∙ ap (λ (s : Wide). effective_of s.world c.args.thread) c.self.view_is)
