use Rattle.std.proofs.Common.{◌≡◌, ◌++◌, length, map}
use Rattle.pif_explore_text.specs.Aliases.{meant_text}
use Rattle.pif_explore_text.specs.Views.{alias_of}
use Rattle.pif_explore_text.specs.Words.{filled}
use Rattle.pif_explore_text.proofs.aliases.meant_text.Given as goal

abbrev pub invariant-loop-word : goal.invariant-loop-word
invariant-loop-word l =
    l.out.items ++ meant_text (map alias_of l.aliases) (filled l.rest) ≡ meant_text (map alias_of l.aliases) (filled l.text)

abbrev pub decreases-loop-word : goal.decreases-loop-word
decreases-loop-word l = length (filled l.rest)
