use Rattle.pif_history_text.specs.Reading.{heard_of}
use Rattle.pif_job_judge.proofs.AskedLemmas.{forbidden_with}
use Rattle.pif_job_judge.proofs.ObjectLemmas.{on_ok}
use Rattle.pif_job_judge.proofs.asked.tell_forbidden.Goals as goal

pub returns : goal.returns
returns g c =
    on_ok c.tell_why_at.result _ _
    (forbidden_with c.args.base.now (heard_of c.args.history.now) c.args.says.now c.args.number c.args.count c.as_slice-numbers.result.now
    c.args.out.now.items c.push_says.new.out.items c.tell_why_at.new.out.items c.as_slice-numbers.ensures.value c.in_ok-push_says.ensures)
    c.tell_why_at.ensures
