use Rattle.std.proofs.Common.{◌∙◌, ap, refl, arith}
use Rattle.pif_model.specs.Word.{word_of, mark_word}
use Rattle.pif_model_lemmas.proofs.WordBits.{word_of-number}
use Rattle.pif_quick.proofs.PlaceSteps.{hand_allowed, closed_place}
use Rattle.pif_quick.proofs.place.hand_over.Goals as goal

pub compare_exchange-requires : goal.compare_exchange-requires
compare_exchange-requires g c =
    let h = c.requires.place in
    let own = ap word_of c.from.ensures ∙ word_of-number c.args.pass h.numbered.1 in
    let marks = ap word_of c.from-marked.ensures ∙ (c.mark_word.ensures ∙ ap mark_word own) in
    let to = ap word_of c.from-new.ensures ∙ c.handed_word.ensures in (
      c.put_down.ensures.0
          ∙ h.table,
      h.inside.0,
      hand_allowed _ _ _ _ h c.put_down.new.place _ c.put_down.ensures.1
          c.requires.open_turn _ _ marks (omega arith) (c.first-next.result, to) _,
    )

pub returns-then-compare_exchange-marked-clause-place : goal.returns-then-compare_exchange-marked-clause-place
returns-then-compare_exchange-marked-clause-place g c =
    let h = c.requires.place in
    let done = c.compare_exchange.ensures.2.2.given c.if-compare_exchange-marked.true _
    (ap (λ m. m.1) c.put_down.ensures.1) in
    closed_place _ _ _ _ h c.put_down.new.place _ c.put_down.ensures.1 c.requires.open_turn _ done _
    (c.compare_exchange.ensures.0 ∙ (c.put_down.ensures.0 ∙ h.table)) refl
