use Rattle.std.proofs.Common.{refl, sym, ◌∙◌}
use Rattle.pif_script_model.proofs.TranscriptLemmas.{with_text-no_command, Hears-done, Hears-limits}
use Rattle.pif_job_run.proofs.transcribing.TranscribingListener.hear.Goals as goal
use Rattle.pif_job_run.proofs.transcribing.TranscribingListener.hear.Goals.{in-Some-transcribe, in-None}

pub returns-in_default-clause-answer : goal.returns-in_default-clause-answer
returns-in_default-clause-answer c =
    (with_text-no_command c.args.self.now c.args.line.now (sym c.command_of.ensures ∙ c.in_default.is), refl)

pub returns-clause-answer : goal.returns-clause-answer
returns-clause-answer c =
    let read = sym c.command_of.ensures ∙ c.in-Some.is in
    elim c.match-transcribe.branch [
      | in-Some-transcribe w ↦ rw (w.result-is, ← c.self.view_is) (Hears-done c.self.inside.core c.transcribe.new.core
          c.args.line.now c.args.output.now.items c.transcribe.new.output.items
          c.in-Some.command w.in-Some-transcribe.field-0 read w.in-Some-transcribe.ensures.answer)
      | in-None w ↦ rw (w.result-is, ← c.self.view_is) (Hears-limits c.self.inside.core c.transcribe.new.core
          c.args.line.now c.args.output.now.items c.transcribe.new.output.items
          c.in-Some.command read w.in-None.ensures.answer)
    ]
