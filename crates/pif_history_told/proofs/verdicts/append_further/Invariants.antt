use Rattle.std.proofs.Common.{◌≡◌, ◌++◌, codes, decimal, flat_map, take}
use Rattle.pif_history_told.proofs.verdicts.append_further.Given as goal

abbrev pub invariant-loop-number : goal.invariant-loop-number
invariant-loop-number l =
    l.out.items ≡ l.initial.out.items ++ flat_map (λ k. codes "," ++ decimal k) (take l.number-index l.numbers)
