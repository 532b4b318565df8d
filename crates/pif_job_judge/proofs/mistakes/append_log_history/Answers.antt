use Rattle.std.proofs.Common.{List, subst, sym}
use Rattle.pif_history_model.specs.declared.labels.Label.{Label}
use Rattle.pif_history_text.specs.Histories.{limits_of}
use Rattle.pif_history_text.specs.Reading.{heard_of}
use Rattle.pif_history_told.specs.Ways.{IsRun}
use Rattle.pif_job_judge.proofs.MistakeLemmas.{log_objects}
use Rattle.pif_job_judge.proofs.mistakes.append_log_history.Goals as goal

pub returns : goal.returns
returns c =
    let m = c.args.mistake.now in
    log_objects c.args.form (heard_of c.args.history.now) m.count c.number_at-number.result c.line_at-line.result m.why
    m.labels.items c.as_slice.result.now c.left_out-left.result c.in_ok-written.field-0 c.in_ok-end.end c.args.out.now.items
    c.append_log.new.out.items c.append_steps.new.out.items c.requires.mistake c.number_at-number.ensures c.line_at-line.ensures
    c.in_ok-end.ensures c.left_out-left.ensures c.in_ok-written.ensures c.as_slice.ensures.value c.in_ok-append_log.ensures
    c.in_ok-append_steps.ensures

pub append_steps-requires : goal.append_steps-requires
append_steps-requires c =
    let h = heard_of c.args.history.now in
    let run : IsRun h.allowed (limits_of h) c.args.mistake.now.labels.items = (c.requires.mistake.1.last, c.requires.mistake.1.run) in
    subst (λ (ls : List Label). IsRun h.allowed (limits_of h) ls) (sym c.as_slice.ensures.value) run
