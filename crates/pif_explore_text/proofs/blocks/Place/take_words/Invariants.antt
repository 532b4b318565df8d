use Rattle.std.proofs.Common.{◌≡◌, length}
use Rattle.pif_explore_text.specs.Programs.{place_from}
use Rattle.pif_explore_text.specs.Views.{place_of}
use Rattle.pif_explore_text.specs.Words.{filled}
use Rattle.pif_explore_text.proofs.blocks.Place.take_words.Given as goal

abbrev pub invariant-loop-word : goal.invariant-loop-word
invariant-loop-word l =
    place_from l.names (place_of l.initial.self) (filled l.text) ≡ place_from l.names (place_of l.self) (filled l.rest)

abbrev pub decreases-loop-word : goal.decreases-loop-word
decreases-loop-word l = length (filled l.rest)
