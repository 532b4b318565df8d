use Rattle.std.proofs.Common.{subst, sym}
use Rattle.std.specs.Prelude.{IfOk, IfSome}
use Rattle.pif_rules_model.specs.declared.rules.Rules.{Rules}
use Rattle.pif_history_machine.specs.Verdicts.{IsVerdictOf}
use Rattle.pif_history.proofs.judge.early_verdict.Goals as goal

pub returns-then-are_none : goal.returns-then-are_none
returns-then-are_none g c =
    subst (λ (r : Rules). IfOk c.plain_verdict.result (λ o. IfSome o (IsVerdictOf r c.args.limits c.args.lines.now)))
    (sym (c.are_none.ensures.0 c.if-are_none.true)) c.plain_verdict.ensures
