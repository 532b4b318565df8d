use Rattle.std.proofs.Common.{◌≡◌, drop}
use Rattle.pif_choose.specs.Choices.{threads_of, first_with}
use Rattle.pif_choose.proofs.choice.first_with.Given as goal

abbrev pub invariant-loop-place : goal.invariant-loop-place
invariant-loop-place l = first_with l.sought (threads_of (drop l.place l.can)) ≡ first_with l.sought (threads_of l.can)
