use Rattle.pif_history_text.specs.Reading.{heard_of}
use Rattle.pif_job_judge.proofs.AskedLemmas.{asked_lines, asked_objects}
use Rattle.pif_job_judge.proofs.JudgingLemmas.{if_ok}
use Rattle.pif_job_judge.proofs.asked.tell_asked.Goals as goal

pub returns-in-Text : goal.returns-in-Text
returns-in-Text g c =
    if_ok c.tell_asked_lines.result _ _
    (asked_lines c.args.asked.now.form (heard_of c.args.history) c.args.out.now.items c.tell_asked_lines.new.out.items c.in-Text.is)
    c.tell_asked_lines.ensures

pub returns-in-Json : goal.returns-in-Json
returns-in-Json g c =
    if_ok c.tell_asked_objects.result _ _
    (asked_objects c.args.asked.now.form (heard_of c.args.history) c.args.out.now.items c.tell_asked_objects.new.out.items c.in-Json.is)
    c.tell_asked_objects.ensures
