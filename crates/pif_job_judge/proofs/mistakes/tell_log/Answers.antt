use Rattle.pif_history_text.specs.Reading.{heard_of}
use Rattle.pif_job_judge.proofs.JudgingLemmas.{if_ok}
use Rattle.pif_job_judge.proofs.MistakeLemmas.{log_in_lines, log_in_objects}
use Rattle.pif_job_judge.proofs.mistakes.tell_log.Goals as goal

pub returns-in-Text : goal.returns-in-Text
returns-in-Text c =
    if_ok c.tell_log_line.result _ _
    (log_in_lines c.args.form (heard_of c.args.history.now) c.args.out.now.items c.tell_log_line.new.out.items c.in-Text.is)
    c.tell_log_line.ensures

pub returns-in-Json : goal.returns-in-Json
returns-in-Json c =
    if_ok c.append_log_history.result _ _
    (log_in_objects c.args.form (heard_of c.args.history.now) c.args.out.now.items c.append_log_history.new.out.items c.in-Json.is)
    c.append_log_history.ensures
