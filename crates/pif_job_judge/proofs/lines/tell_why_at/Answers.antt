use Rattle.pif_history_text.specs.Reading.{heard_of}
use Rattle.pif_job_judge.proofs.JudgingLemmas.{tells_why}
use Rattle.pif_job_judge.proofs.lines.tell_why_at.Goals as goal

pub returns : goal.returns
returns g c =
    tells_why (heard_of c.args.history.now) c.args.count c.args.out.now.items c.tell_why.new.out.items c.tell_clues.new.out.items
    c.line_at-line.result c.in_ok-known.known c.began_before-began.result c.in_ok-clues.clues c.line_at-line.ensures
    c.in_ok-known.ensures c.began_before-began.ensures c.in_ok-clues.ensures c.in_ok-tell_why.ensures c.in_ok-tell_clues.ensures
