use Rattle.std.proofs.Common.{◌∙◌, ◌++◌, ap}
use Rattle.pif_history_text.specs.Texts.{line_text}
use Rattle.pif_job_judge.proofs.MistakeLemmas.{log_appended}
use Rattle.pif_job_judge.proofs.mistakes.append_log.Goals as goal

pub returns : goal.returns
returns c =
    let text = c.as_slice.ensures.value ∙ c.line_text.ensures.written ∙ ap (λ l. l ++ line_text c.args.line) c.new-text.ensures in
    log_appended c.args.number c.args.line c.args.why c.args.left_out c.as_slice.result.now c.refusal_word.result.now
    c.args.out.now.items c.append_members.new.out.items c.append_members-2.new.out.items c.extend_from_slice.new.self.items
    text c.refusal_word.ensures c.in_ok-append_members.ensures c.in_ok-append_members-2.ensures
    c.in_ok-extend_from_slice.ensures.items
