use Rattle.std.proofs.Common.{◌≡◌, ◌++◌, drop, map}
use Rattle.pif_explore_told.specs.Pieces.{numbers_told}
use Rattle.pif_explore_told.proofs.pieces.push_numbers.Given as goal

abbrev pub invariant-loop-words : goal.invariant-loop-words
invariant-loop-words l =
    l.out.items ++ numbers_told (map (λ x. (x.0.now, x.1)) (drop l.words-index l.numbers)) l.behind
    ≡ l.initial.out.items ++ numbers_told (map (λ x. (x.0.now, x.1)) l.numbers) l.behind
