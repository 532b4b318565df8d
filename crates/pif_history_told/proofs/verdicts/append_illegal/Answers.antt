use Rattle.std.proofs.Common.{◌∙◌, ◌++◌, refl, ap}
use Rattle.std.specs.Prelude.{decimal}
use Rattle.std.proofs.lemmas.Result.{on_ok_weaker}
use Rattle.pif_text.specs.Json.{quoted}
use Rattle.pif_history_text.specs.Texts.{line_text}
use Rattle.pif_history_told.specs.Clues.{clues_members}
use Rattle.pif_history_told.specs.Verdicts.{began_member, illegal_end, illegal_front, known_member}
use Rattle.pif_history_told.proofs.Appending.{grown_first, grown_more, grown_same, on_ok_grown}
use Rattle.pif_history_told.proofs.Pieces.{illegal_pieces}
use Rattle.pif_history_told.proofs.verdicts.append_illegal.Goals as goal

pub returns : goal.returns
unfolding illegal_front illegal_end
returns c =
    let text = c.as_slice.ensures.value ∙ c.line_text.ensures.written ∙ ap (λ l. l ++ line_text c.args.line.now) c.new-text.ensures in
    let h1 = grown_first c.args.out.now.items _ _ c.in_ok-append_members.ensures in
    let h2 = grown_more _ _ _ _ _ h1 c.in_ok-append_known.ensures in
    let h3 = grown_more _ _ _ _ _ h2 c.in_ok-append_began.ensures in
    let h4 = grown_more _ _ _ _ _ h3 c.in_ok-append_clues.ensures in
    on_ok_weaker c.extend_from_slice.result
    (λ e.
    grown_same _ _ _ _ (grown_more _ _ _ _ _ h4 e)
    (illegal_pieces (decimal c.args.number) (quoted c.as_slice.result.now) (decimal c.args.left_out)
    (known_member c.args.known.now) (began_member c.args.began) (clues_members c.args.clues.now) ∙ rw text refl))
    (on_ok_grown c.extend_from_slice.result _ _ _ c.extend_from_slice.ensures.items)
