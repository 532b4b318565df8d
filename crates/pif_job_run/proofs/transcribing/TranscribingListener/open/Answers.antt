use Rattle.std.proofs.Common.{refl, sym, subst, ◌∙◌}
use Rattle.pif_script_model.specs.Transcripts.{Transcribed}
use Rattle.pif_script_model.proofs.TranscriptLemmas.{Opens-no_command, Opens-limits, Opens-no_memory, Opens-done}
use Rattle.pif_job_run.proofs.transcribing.TranscribingListener.open.Goals as goal

pub returns-in_default-clause-answer : goal.returns-in_default-clause-answer
returns-in_default-clause-answer c =
    (Opens-no_command c.args.line.now (sym c.command_of.ensures ∙ c.in_default.is), refl)

pub returns-in_default-first_limits-clause-answer : goal.returns-in_default-first_limits-clause-answer
returns-in_default-first_limits-clause-answer c = (
  Opens-limits c.args.line.now c.in-Some.command (sym c.command_of.ensures ∙ c.in-Some.is)
      (sym c.first_limits.ensures ∙ c.in_default-first_limits.is),
  refl,
)

pub returns-in_default-new-clause-answer : goal.returns-in_default-new-clause-answer
returns-in_default-new-clause-answer c = (
  Opens-no_memory c.args.line.now c.in-Some.command c.in-Some-first_limits.limits
      (sym c.command_of.ensures ∙ c.in-Some.is) (sym c.first_limits.ensures ∙ c.in-Some-first_limits.is),
  refl,
)

pub returns-clause-answer : goal.returns-clause-answer
returns-clause-answer c =
    let done = subst (λ s. Transcribed c.in-Some.command s c.transcribe.new.core c.append.new.output.items
    c.transcribe.new.output.items c.transcribe.result) c.in-Ok.ensures.made c.transcribe.ensures.answer in
    Opens-done c.args.line.now c.args.output.now.items c.as_slice.result.now c.append.new.output.items
    c.transcribe.new.output.items c.in-Some.command c.in-Some-first_limits.limits c.transcribe.new.core
    c.transcribe.result (sym c.command_of.ensures ∙ c.in-Some.is)
    (sym c.first_limits.ensures ∙ c.in-Some-first_limits.is)
    (c.as_slice.ensures.value ∙ c.front_lines-front.ensures.written) c.append.ensures done
