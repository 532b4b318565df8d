-- The writer was empty before.
use Rattle.std.proofs.Common.{ℕ, Some, List, subst}
use Rattle.pif_job_explore.specs.Exploring.{ExploresTo}
use Rattle.pif_c.proofs.explores.explore_whole.Goals as goal

pub returns : goal.returns
returns c = (Some c.explore_text-done.new.reader.now, subst (λ (held : List ℕ). ExploresTo c.args.asked.now (Some c.args.program.now) (Some c.explore_text-done.new.reader.now) (Some held) (Some c.explore_text-done.new.writer.items) c.explore_text-done.result) c.new-text.ensures.items c.explore_text-done.ensures)
