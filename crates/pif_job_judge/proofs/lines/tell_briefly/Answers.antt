use Rattle.std.proofs.Common.{subst, arith}
use Rattle.pif_history_machine.specs.declared.verdicts.Verdict.{Verdict}
use Rattle.pif_history_machine.specs.Verdicts.{IsVerdictOf}
use Rattle.pif_history_text.specs.Histories.{limits_of}
use Rattle.pif_history_text.specs.Reading.{heard_of}
use Rattle.pif_job_judge.proofs.AskedLemmas.{not_legal}
use Rattle.pif_job_judge.proofs.JudgingLemmas.{brief_illegal, brief_undecided, if_ok}
use Rattle.pif_job_judge.proofs.lines.tell_briefly.Goals as goal

pub returns-in-Legal : goal.returns-in-Legal
returns-in-Legal g c = absurd (not_legal c.args.verdict _ c.in-Legal.is c.requires.wrong)

pub returns-in-Illegal : goal.returns-in-Illegal
returns-in-Illegal g c =
    let h = heard_of c.args.history.now in
    if_ok c.tell_illegal_line.result _ _
    (λ end. brief_illegal h c.in-Illegal.count c.args.out.now.items c.tell_illegal_line.new.out.items end
    (subst (λ (v : Verdict). IsVerdictOf h.allowed (limits_of h) h.shown v) c.in-Illegal.is c.requires.verdict))
    c.tell_illegal_line.ensures

pub returns-in-Undecided : goal.returns-in-Undecided
returns-in-Undecided g c =
    if_ok c.tell_verdict_undecided.result _ _
    (λ end. brief_undecided (heard_of c.args.history.now) c.args.out.now.items c.tell_verdict_undecided.new.out.items end)
    c.tell_verdict_undecided.ensures

pub tell_illegal_line-requires-clause-within : goal.tell_illegal_line-requires-clause-within
tell_illegal_line-requires-clause-within g c =
    let h = heard_of c.args.history.now in
    let v = subst (λ (v : Verdict). IsVerdictOf h.allowed (limits_of h) h.shown v) c.in-Illegal.is c.requires.verdict in
    (v.0, omega (arith, v.1, c.args.history.now.shown.ok.0))

pub tell_verdict_undecided-requires-clause-some : goal.tell_verdict_undecided-requires-clause-some
tell_verdict_undecided-requires-clause-some g c =
    let h = heard_of c.args.history.now in
    let v = subst (λ (v : Verdict). IsVerdictOf h.allowed (limits_of h) h.shown v) c.in-Undecided.is c.requires.verdict in
    omega (arith, v.0, v.1, c.args.history.now.shown.ok.0)
