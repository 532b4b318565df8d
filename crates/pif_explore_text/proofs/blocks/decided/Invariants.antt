use Rattle.std.proofs.Common.{◌≡◌, length}
use Rattle.pif_explore_text.specs.Programs.{decided}
use Rattle.pif_explore_text.specs.Trees.{body_of}
use Rattle.pif_explore_text.specs.Views.{branches_of}
use Rattle.pif_explore_text.proofs.blocks.decided.Given as goal

abbrev pub invariant-loop-branch : goal.invariant-loop-branch
invariant-loop-branch l =
    decided (branches_of l.fn.branches.items) (body_of l.fn.last)
    ≡ decided (branches_of l.branches.items) (body_of l.chosen)

abbrev pub decreases-loop-branch : goal.decreases-loop-branch
decreases-loop-branch l = length l.branches.items
