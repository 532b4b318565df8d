use Rattle.std.proofs.Common.{ℕ, ◌∙◌, ap, sym, arith}
use Rattle.pif_model.specs.Word.{word_of, mark_word}
use Rattle.pif_quick.proofs.PlaceSteps.{mark_allowed}
use Rattle.pif_quick.proofs.place.mark.Goals as goal

pub compare_exchange-requires : goal.compare_exchange-requires
compare_exchange-requires g c =
    let marks = ap word_of c.from.ensures ∙ (c.mark_word.ensures
    ∙ ap (λ (b : ℕ). mark_word (word_of b)) (sym c.from-old.ensures)) in
    (c.requires.table, c.requires.inside.0, mark_allowed _ _ _ _ c.requires _ _ (omega arith) marks _)
