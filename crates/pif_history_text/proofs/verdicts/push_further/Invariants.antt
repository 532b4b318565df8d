use Rattle.std.proofs.Common.{◌≡◌, ◌++◌, codes, take}
use Rattle.std.specs.List.{flat_map}
use Rattle.pif_history_text.specs.Verdicts.{number_text}
use Rattle.pif_history_text.proofs.verdicts.push_further.Given as goal

abbrev pub invariant-loop-number : goal.invariant-loop-number
invariant-loop-number l =
    l.out.items ≡ l.initial.out.items ++ flat_map (λ k. codes ", " ++ number_text l.line k) (take l.number-index l.numbers)
