use Rattle.std.proofs.Common.{◌≡◌, drop, map}
use Rattle.pif_explore_text.specs.Vocabulary.{is_among}
use Rattle.pif_explore_text.proofs.vocabulary.is_among.Given as goal

abbrev pub invariant-loop-own : goal.invariant-loop-own
invariant-loop-own l =
    is_among (map (λ w. w.now) l.words) l.word ≡ is_among (map (λ w. w.now) (drop l.own-index l.words)) l.word
