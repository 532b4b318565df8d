use Rattle.std.proofs.Common.{◌≡◌, ◌++◌, length, map}
use Rattle.pif_cli_words.specs.Defaults.{with_numbers}
use Rattle.pif_cli_words.proofs.defaults.push_with_numbers.Given as goal

-- the words so far, and those that are left
abbrev pub invariant-loop-rest : goal.invariant-loop-rest
invariant-loop-rest g l =
    map (λ word. word.now) l.out.items ++ with_numbers (map g.S.AsStr.text l.rest)
    ≡ map (λ word. word.now) l.initial.out.items ++ with_numbers (map g.S.AsStr.text l.words)

abbrev pub decreases-loop-rest : goal.decreases-loop-rest
decreases-loop-rest g l = length l.rest
