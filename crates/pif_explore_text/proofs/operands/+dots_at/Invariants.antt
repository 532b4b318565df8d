-- Each call of itself has one byte less.
use Rattle.std.proofs.Common.{length}
use Rattle.pif_explore_text.proofs.operands.+dots_at.Given as goal

abbrev pub decreases-dots_at : goal.decreases-dots_at
decreases-dots_at l = length l.text.now
