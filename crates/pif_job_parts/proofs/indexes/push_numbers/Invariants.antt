use Rattle.std.proofs.Common.{◌≡◌, ◌++◌, codes, decimal, take}
use Rattle.std.specs.List.{flat_map}
use Rattle.pif_job_parts.proofs.indexes.push_numbers.Given as goal

abbrev pub invariant-loop-number : goal.invariant-loop-number
invariant-loop-number l = l.out.items ≡ l.initial.out.items ++ flat_map (λ n. codes " " ++ decimal n) (take l.number-index l.numbers)
