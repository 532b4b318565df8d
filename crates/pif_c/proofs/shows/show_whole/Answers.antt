-- The writer was empty before.
use Rattle.std.proofs.Common.{ℕ, Some, List, subst}
use Rattle.pif_c.specs.Shows.{ShowsTold}
use Rattle.pif_c.proofs.shows.show_whole.Goals as goal

pub returns : goal.returns
returns c = (Some c.show-done.new.reader.now, subst (λ (held : List ℕ). ShowsTold c.args.detail (Some c.args.story.now) (Some c.show-done.new.reader.now) (Some held) (Some c.show-done.new.writer.items) c.show-done.result) c.new-text.ensures.items c.show-done.ensures)
