use Rattle.std.proofs.Common.{◌∙◌, ap, subst}
use Rattle.pif_script_model.specs.Rows.{filling_end}
use Rattle.pif_script_model.proofs.StoryRunningLemmas.{end_of_large, end_of_small}
use Rattle.pif_job_check.specs.Rows.{EndsSo}
use Rattle.pif_job_check.proofs.rows.fill_rows.Goals as goal

pub returns-then-story-gt-MOST-clause-filled : goal.returns-then-story-gt-MOST-clause-filled
returns-then-story-gt-MOST-clause-filled c =
    rw c.last_line.ensures (end_of_large c.args.story.now c.if-story-gt-MOST.true)

pub returns-clause-filled : goal.returns-clause-filled
returns-clause-filled c =
    subst (λ end. EndsSo end c.run_rows.result)
    (ap filling_end c.requires.lines ∙ end_of_small c.args.story.now c.if-story-gt-MOST.false) c.run_rows.ensures.filled
