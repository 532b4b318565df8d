use Rattle.std.proofs.Common.{◌≡◌, map, subst}
use Rattle.std.specs.Prelude.{IfOk}
use Rattle.pif_rules_model.specs.Rules.{Wide, owned_as_before}
use Rattle.pif_posix.specs.Deeds.{done_as}
use Rattle.pif_posix.proofs.wide.Wide.done_behind.Goals as goal

pub returns : goal.returns
returns c =
    subst (λ (s : Wide). IfOk c.owned_as_before.result (λ v. v.items ≡ map (owned_as_before c.args.hidden.now c.args.self.now)
    (done_as c.args.deed.now c.args.rules.now c.args.thread c.args.none.now s)))
    c.in_ok-seen.ensures (c.owned_as_before.ensures _ c.done_as-done.ensures)
