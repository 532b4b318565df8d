use Rattle.std.proofs.Common.{subst}
use Rattle.pif_history_text.specs.Histories.{Heard}
use Rattle.pif_history_text.specs.Reading.{heard_of}
use Rattle.pif_job_judge.specs.Asked.{AreRestObjects}
use Rattle.pif_job_judge.specs.Objects.{AppendsObjects, AreObjects}
use Rattle.pif_job_judge.proofs.AskedLemmas.{behind_line, said_under, together}
use Rattle.pif_job_judge.proofs.asked.tell_asked_objects.Goals as goal

pub returns : goal.returns
returns g c =
    let h = heard_of c.args.history in
    let form = c.args.asked.now.form in
    let said = c.args.says in
    let number = c.number_of-number.result in
    let more = subst (λ (k : Heard). AppendsObjects form k c.in_ok-append_behind.field-0 c.append_says.new.out.items c.append_behind.new.out.items)
    c.under-history.ensures.heard c.in_ok-append_behind.ensures in
    let rest = behind_line h form said number c.tell_objects.new.out.items c.append_says.new.out.items c.append_behind.new.out.items
    c.in_ok-append_says.ensures (more.0, (c.in_ok-append_behind.field-0, more.1), more.2) in
    together h (λ says first told. AreObjects form h first told) (AreRestObjects form h) said number c.in_ok-told.told c.end_of-end.result
    c.args.out.now.items c.tell_objects.new.out.items c.append_behind.new.out.items c.requires.said c.number_of-number.ensures
    c.in_ok-told.ensures rest c.end_of-end.ensures

pub append_behind-requires-clause-verdict : goal.append_behind-requires-clause-verdict
append_behind-requires-clause-verdict g c =
    let k = heard_of c.under-history.result in
    rw c.verdict_said.ensures
    (said_under (heard_of c.args.history) k c.args.says c.requires.said c.under-history.ensures.heard)
