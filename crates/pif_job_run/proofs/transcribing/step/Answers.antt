use Rattle.std.proofs.Common.{◌++◌, ◌∙◌, ap}
use Rattle.pif_script_model.proofs.EntryLemmas.{step-row}
use Rattle.pif_job_run.proofs.transcribing.step.Goals as goal

pub returns-clause-told : goal.returns-clause-told
returns-clause-told c =
    c.append_row.ensures.told ∙ ap (λ l. c.args.output.now.items ++ l)
    (step-row c.args.event c.args.core.now c.step-seen.result c.step-seen.ensures.seen)
