use Rattle.std.proofs.Common.{◌≡◌, drop, bytes_eq}
use Rattle.std.specs.Prelude.{find}
use Rattle.pif_text_model.specs.Errors.{errors}
use Rattle.pif_script_model.specs.Answers.{error_answer, error_in}
use Rattle.pif_story.proofs.answers.error_in.Given as goal

abbrev pub invariant-loop-errno : goal.invariant-loop-errno
invariant-loop-errno l =
    error_in l.form l.text ≡ find (λ errno. bytes_eq l.text (error_answer l.form errno)) (drop l.errno-index errors)
