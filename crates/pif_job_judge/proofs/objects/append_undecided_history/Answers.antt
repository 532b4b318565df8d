use Rattle.pif_history_text.specs.Reading.{heard_of}
use Rattle.pif_job_judge.proofs.ObjectLemmas.{undecided_told}
use Rattle.pif_job_judge.proofs.objects.append_undecided_history.Goals as goal

pub returns : goal.returns
returns g c =
    rw c.from.ensures (undecided_told c.args.asked.now.form (heard_of c.args.history.now) c.args.front.now c.in_ok-unfound.unfound
    c.count_of.result c.left_out-left.result c.in_ok-written.field-0 c.args.out.now.items c.append_undecided.new.out.items
    c.append_front.new.out.items c.in_ok-unfound.ensures c.count_of.ensures c.left_out-left.ensures c.in_ok-written.ensures
    c.in_ok-append_undecided.ensures c.in_ok-append_front.ensures)
