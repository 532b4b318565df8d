use Rattle.std.specs.Prelude.{option_copied}
use Rattle.pif_history_text.specs.Reading.{heard_of}
use Rattle.pif_job_judge.proofs.JudgingLemmas.{shown_told}
use Rattle.pif_job_judge.proofs.judging.told_all.Goals as goal

pub returns : goal.returns
returns g c =
    shown_told c.args.asked.now.plain c.args.asked.now.form (option_copied c.args.asked.now.name) (heard_of c.args.history)
    c.in_ok-end.end c.in_ok-out.out.items c.tell_all.new.out.items c.in_ok-text.text.items c.in_ok-out.ensures
    c.in_ok-end.ensures c.in_ok-text.ensures
