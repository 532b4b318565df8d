use Rattle.std.proofs.Common.{List, subst, sym, arith}
use Rattle.pif_history_model.specs.declared.labels.Label.{Label}
use Rattle.pif_history_machine.specs.declared.verdicts.Verdict.{Verdict}
use Rattle.pif_history_machine.specs.Verdicts.{IsVerdictOf}
use Rattle.pif_history_told.specs.Ways.{IsRun}
use Rattle.pif_history_text.specs.Histories.{limits_of}
use Rattle.pif_history_text.specs.Reading.{heard_of}
use Rattle.pif_job_judge.proofs.JudgingLemmas.{if_ok, told_illegal, told_legal, told_undecided}
use Rattle.pif_job_judge.proofs.lines.tell_lines.Goals as goal

pub returns-in-Legal : goal.returns-in-Legal
returns-in-Legal g c =
    if_ok c.tell_verdict_legal.result _ _
    (told_legal c.args.asked.now.form (heard_of c.args.history.now) c.args.verdict c.in-Legal.witness c.as_slice.result.now
    c.args.out.now.items c.tell_verdict_legal.new.out.items c.as_slice.ensures.value c.in-Legal.is c.requires.verdict)
    c.tell_verdict_legal.ensures

pub returns-in-Illegal : goal.returns-in-Illegal
returns-in-Illegal g c =
    let h = heard_of c.args.history.now in
    if_ok c.tell_illegal.result _ _
    (told_illegal c.args.asked.now.form h c.in-Illegal.count c.args.out.now.items c.tell_illegal.new.out.items
    (subst (λ (v : Verdict). IsVerdictOf h.allowed (limits_of h) h.shown v) c.in-Illegal.is c.requires.verdict))
    c.tell_illegal.ensures

pub returns-in-Undecided : goal.returns-in-Undecided
returns-in-Undecided g c =
    if_ok c.tell_verdict_undecided.result _ _
    (λ end. told_undecided c.args.asked.now.form (heard_of c.args.history.now) c.args.out.now.items
    c.tell_verdict_undecided.new.out.items end)
    c.tell_verdict_undecided.ensures

pub tell_illegal-requires-clause-within : goal.tell_illegal-requires-clause-within
tell_illegal-requires-clause-within g c =
    let h = heard_of c.args.history.now in
    let v = subst (λ (v : Verdict). IsVerdictOf h.allowed (limits_of h) h.shown v) c.in-Illegal.is c.requires.verdict in
    (v.0, omega (arith, v.1, c.args.history.now.shown.ok.0))

pub tell_verdict_undecided-requires-clause-some : goal.tell_verdict_undecided-requires-clause-some
tell_verdict_undecided-requires-clause-some g c =
    let h = heard_of c.args.history.now in
    let v = subst (λ (v : Verdict). IsVerdictOf h.allowed (limits_of h) h.shown v) c.in-Undecided.is c.requires.verdict in
    omega (arith, v.0, v.1, c.args.history.now.shown.ok.0)

pub tell_verdict_legal-requires-clause-run : goal.tell_verdict_legal-requires-clause-run
tell_verdict_legal-requires-clause-run g c =
    let h = heard_of c.args.history.now in
    let v = subst (λ (v : Verdict). IsVerdictOf h.allowed (limits_of h) h.shown v) c.in-Legal.is c.requires.verdict in
    subst (λ (ls : List Label). IsRun h.allowed (limits_of h) ls) (sym c.as_slice.ensures.value) (v.last, v.run)
