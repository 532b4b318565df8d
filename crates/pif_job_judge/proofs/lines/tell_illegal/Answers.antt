use Rattle.pif_history_text.specs.Reading.{heard_of}
use Rattle.pif_job_judge.proofs.JudgingLemmas.{tells_illegal}
use Rattle.pif_job_judge.proofs.lines.tell_illegal.Goals as goal

pub returns : goal.returns
returns g c =
    tells_illegal (heard_of c.args.history.now) c.args.count c.args.out.now.items c.tell_illegal_line.new.out.items
    c.tell_why_at.new.out.items c.in_ok-end.end c.in_ok-end.ensures c.in_ok-tell_why_at.ensures
