use Rattle.std.proofs.Common.{Option, ap, ◌∙◌}
use Rattle.pif_history_text.specs.Reading.{heard_of}
use Rattle.pif_history_told.specs.declared.verdicts.Began.{Began}
use Rattle.pif_job_judge.specs.Objects.{began_with}
use Rattle.pif_job_judge.proofs.ObjectLemmas.{illegal_told}
use Rattle.pif_job_judge.proofs.objects.append_illegal_history.Goals as goal

pub returns : goal.returns
returns g c =
    let known = c.in_ok-known.known in
    let call = c.began_with-began.ensures ∙ ap (λ (o : Option Began). began_with known o) c.began_before.ensures in
    rw c.from.ensures (illegal_told c.args.asked.now.form (heard_of c.args.history.now) c.args.count
    c.number_at-number.result c.line_at-line.result known c.began_with-began.result c.in_ok-clues.clues c.left_out-left.result
    c.in_ok-written.field-0 c.args.out.now.items c.append_illegal.new.out.items c.append_before.new.out.items
    c.requires.verdict c.line_at-line.ensures c.number_at-number.ensures c.in_ok-known.ensures call c.in_ok-clues.ensures
    c.left_out-left.ensures c.in_ok-written.ensures c.in_ok-append_illegal.ensures
    c.in_ok-append_before.ensures)
