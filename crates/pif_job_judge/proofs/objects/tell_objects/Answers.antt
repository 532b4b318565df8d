use Rattle.std.proofs.Common.{List, arith, subst, sym}
use Rattle.pif_history_model.specs.declared.labels.Label.{Label}
use Rattle.pif_history_model.specs.Verdicts.{IsLegal}
use Rattle.pif_history_machine.specs.declared.verdicts.Verdict.{Verdict}
use Rattle.pif_history_machine.specs.Verdicts.{IsVerdictOf}
use Rattle.pif_history_text.specs.Histories.{limits_of}
use Rattle.pif_history_text.specs.Reading.{heard_of}
use Rattle.pif_job_judge.proofs.objects.tell_objects.Goals as goal

pub append_legal_history-requires-clause-legal : goal.append_legal_history-requires-clause-legal
append_legal_history-requires-clause-legal g c =
    let h = heard_of c.args.history.now in
    subst (λ (ls : List Label). IsLegal h.allowed (limits_of h) h.shown ls) (sym c.as_slice.ensures.value)
    (subst (λ (v : Verdict). IsVerdictOf h.allowed (limits_of h) h.shown v) c.in-Legal.is c.requires.verdict)

pub append_illegal_history-requires-clause-verdict : goal.append_illegal_history-requires-clause-verdict
append_illegal_history-requires-clause-verdict g c =
    let h = heard_of c.args.history.now in
    subst (λ (v : Verdict). IsVerdictOf h.allowed (limits_of h) h.shown v) c.in-Illegal.is c.requires.verdict

pub append_undecided_history-requires-clause-some : goal.append_undecided_history-requires-clause-some
append_undecided_history-requires-clause-some g c =
    let h = heard_of c.args.history.now in
    let v = subst (λ (v : Verdict). IsVerdictOf h.allowed (limits_of h) h.shown v) c.in-Undecided.is c.requires.verdict in
    omega (arith, v.0, v.1, c.args.history.now.shown.ok.0)
