use Rattle.std.proofs.Common.{List, ℕ, subst}
use Rattle.std.specs.Prelude.{option_copied}
use Rattle.pif_history_text.specs.Reading.{heard_of}
use Rattle.pif_job_judge.specs.Judging.{WritesText, front_of}
use Rattle.pif_job_judge.proofs.JudgingLemmas.{judged}
use Rattle.pif_job_judge.proofs.judging.write_all.Goals as goal

pub returns-in-Ok : goal.returns-in-Ok
returns-in-Ok g c =
    let held = g.W.Write.contents c.args.writer.now in
    let holds = g.W.Write.contents c.write_told.new.writer in
    let written = subst (λ (l : List ℕ). WritesText held holds l c.as_result.result c.write_told.result)
    c.as_slice.ensures.value c.write_told.ensures in
    judged c.args.asked.now.plain c.args.asked.now.form (heard_of c.args.history) held holds (front_of (option_copied c.args.asked.now.name) c.args.asked.now.form)
    _ _ c.as_result.result c.write_told.result c.in-Ok.ensures c.as_result.ensures written
