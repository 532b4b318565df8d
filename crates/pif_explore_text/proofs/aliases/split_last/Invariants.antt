use Rattle.std.proofs.Common.{◌≡◌, ◌∷◌, ◌++◌, length}
use Rattle.pif_explore_text.specs.Aliases.{last_word, text_before_last}
use Rattle.pif_explore_text.specs.Words.{filled}
use Rattle.pif_explore_text.proofs.aliases.split_last.Given as goal

abbrev pub invariant-loop-word : goal.invariant-loop-word
invariant-loop-word l =
    (l.front.items ++ text_before_last (l.last ∷ filled l.rest) ≡ text_before_last (filled l.text))
    × (last_word (l.last ∷ filled l.rest) ≡ last_word (filled l.text))

abbrev pub decreases-loop-word : goal.decreases-loop-word
decreases-loop-word l = length (filled l.rest)
