use Rattle.std.proofs.Common.{subst}
use Rattle.pif_rules_model.specs.declared.rules.Rules.{Rules}
use Rattle.pif_history_model.specs.Verdicts.{IsLegal}
use Rattle.pif_history_model.proofs.Judging.{legal_too}
use Rattle.pif_history_model.proofs.ShownLines.{some_of}
use Rattle.pif_history.proofs.judge.witness_of.Goals as goal

pub returns-in-Some : goal.returns-in-Some
returns-in-Some g c =
    legal_too c.args.rules.now c.args.limits c.args.lines.now c.in-Some.witness.items
    (subst (λ (r : Rules). IsLegal r c.args.limits c.args.lines.now c.in-Some.witness.items) c.without_rules-plain.ensures
    (some_of _ c.in_ok-witness.field-0 c.in-Some.witness c.in-Some.is c.in_ok-witness.ensures))
