use Rattle.pif_script_model.proofs.LinesLemmas.{front_counts, front_fits}
use Rattle.pif_job_check.proofs.checking.judge.Goals as goal

pub slice_bounds-line_at_end-end : goal.slice_bounds-line_at_end-end
slice_bounds-line_at_end-end c = front_counts 16777216 c.args.story.now c.if-story-gt-MOST.true

pub line_at_end-requires : goal.line_at_end-requires
line_at_end-requires c = front_fits 16777216 c.args.story.now
