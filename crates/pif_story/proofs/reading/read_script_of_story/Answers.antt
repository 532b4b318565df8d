use Rattle.pif_script_model.proofs.LinesLemmas.{front_counts, front_fits}
use Rattle.pif_story.proofs.reading.read_script_of_story.Goals as goal

pub slice_bounds-line_at_end-end : goal.slice_bounds-line_at_end-end
slice_bounds-line_at_end-end g c = front_counts 16777216 c.as_slice-text.result.now c.if-text-gt-MOST.true

pub line_at_end-requires : goal.line_at_end-requires
line_at_end-requires g c = front_fits 16777216 c.as_slice-text.result.now
