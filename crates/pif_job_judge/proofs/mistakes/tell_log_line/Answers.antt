use Rattle.pif_history_text.specs.Reading.{heard_of}
use Rattle.pif_job_judge.proofs.MistakeLemmas.{log_line}
use Rattle.pif_job_judge.proofs.mistakes.tell_log_line.Goals as goal

pub returns : goal.returns
returns c =
    let m = c.args.mistake.now in
    log_line (heard_of c.args.history.now) m.count c.number_at-number.result c.line_at-line.result m.why m.labels.items
    c.in_ok-end.end c.args.out.now.items c.push_log.new.out.items c.requires.mistake c.number_at-number.ensures
    c.line_at-line.ensures c.in_ok-end.ensures c.in_ok-push_log.ensures
