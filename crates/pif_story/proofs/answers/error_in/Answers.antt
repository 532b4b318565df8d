use Rattle.std.proofs.Common.{◌<◌, length, sym, ◌∙◌, arith, bytes_eq}
use Rattle.pif_text_model.specs.Errors.{errors}
use Rattle.pif_text_model.proofs.Finding.{find_behind}
use Rattle.pif_script_model.specs.Answers.{error_answer}
use Rattle.pif_story.proofs.answers.error_in.Goals as goal

pub loop-errno-preserved : goal.loop-errno-preserved
loop-errno-preserved c =
    let at = c.loop-errno-test.true in
    let within : c.loop-errno.errno-index < length errors = omega (arith, at) in
    c.loop-errno.invariant
    ∙ find_behind (λ errno. bytes_eq c.args.text.now (error_answer c.args.form errno)) errors c.loop-errno.errno-index _
    within (sym c.is_error_answer.ensures ∙ c.if-is_error_answer.false)
