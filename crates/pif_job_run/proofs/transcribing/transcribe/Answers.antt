use Rattle.std.proofs.Common.{◌++◌, ap, ◌∙◌, arith}
use Rattle.pif_script_model.specs.Transcripts.{command_entries}
use Rattle.pif_script_model.proofs.EntryLemmas.{run-answer, single-lines}
use Rattle.pif_job_run.proofs.transcribing.transcribe.Goals as goal

pub returns-in-Run-clause-answer : goal.returns-in-Run-clause-answer
unfolding command_entries
returns-in-Run-clause-answer c =
    rw c.in-Run.is (
      run-answer c.in-Run.thread c.in-Run.request c.args.core.now c.run.new.core c.run.result c.run.ensures.seen
          c.run.ensures.after,
      c.run.ensures.told,
    )

pub returns-in-Some : goal.returns-in-Some
returns-in-Some c = record {
  answer = (
    c.in-Some.ensures,
    c.append_single.ensures.told ∙ ap (λ l. c.args.output.now.items ++ l)
        (single-lines c.args.command c.args.core.now c.obey.new.core c.in-Some.reply c.in_default.not-Run
        c.in-Some.ensures),
  );
  room = omega (arith, c.append_single.ensures.room);
}
