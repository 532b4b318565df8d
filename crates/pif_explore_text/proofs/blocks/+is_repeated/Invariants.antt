-- Each call of itself has one block less.
use Rattle.std.proofs.Common.{length}
use Rattle.pif_explore_text.proofs.blocks.+is_repeated.Given as goal

abbrev pub decreases-is_repeated : goal.decreases-is_repeated
decreases-is_repeated l = length l.outside.now
