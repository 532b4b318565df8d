use Rattle.pif_history_text.specs.Reading.{heard_of}
use Rattle.pif_job_judge.specs.Asked.{IsFirst, IsRest}
use Rattle.pif_job_judge.proofs.AskedLemmas.{together}
use Rattle.pif_job_judge.proofs.asked.tell_asked_lines.Goals as goal

pub returns : goal.returns
returns g c =
    let h = heard_of c.args.history in
    let form = c.args.asked.now.form in
    together h (IsFirst form h) (IsRest form h) c.args.says.now c.number_of-number.result c.in_ok-told.told c.end_of.result
    c.args.out.now.items c.tell_first.new.out.items c.tell_said.new.out.items c.requires.said c.number_of-number.ensures
    c.in_ok-told.ensures c.in_ok-tell_said.ensures c.end_of.ensures
