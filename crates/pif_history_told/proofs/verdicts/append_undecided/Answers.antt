use Rattle.std.proofs.Common.{◌∙◌, ◌++◌, refl, ap}
use Rattle.std.specs.Prelude.{decimal}
use Rattle.std.proofs.lemmas.Result.{on_ok_weaker}
use Rattle.pif_text.specs.Json.{number_or_null, quoted}
use Rattle.pif_history_text.specs.Texts.{line_text}
use Rattle.pif_history_told.specs.Verdicts.{found_member, undecided_front}
use Rattle.pif_history_told.proofs.Appending.{grown_first, grown_more, grown_same, on_ok_grown}
use Rattle.pif_history_told.proofs.Pieces.{undecided_pieces}
use Rattle.pif_history_told.proofs.verdicts.append_undecided.Goals as goal

pub returns : goal.returns
unfolding undecided_front
returns c =
    let text = c.as_slice.ensures.value ∙ c.line_text.ensures.written ∙ ap (λ l. l ++ line_text c.args.unfound.now.line) c.new-text.ensures in
    let h1 = grown_first c.args.out.now.items _ _ c.in_ok-append_members.ensures in
    let h2 = grown_more _ _ _ _ _ h1 c.in_ok-append_found.ensures in
    on_ok_weaker c.extend_from_slice.result
    (λ e.
    grown_same _ _ _ _ (grown_more _ _ _ _ _ h2 e)
    (undecided_pieces (decimal c.args.unfound.now.number) (quoted c.as_slice.result.now) (decimal c.args.left_out)
    (number_or_null c.args.unfound.now.up_to) (found_member c.args.unfound.now.found) ∙ rw text refl))
    (on_ok_grown c.extend_from_slice.result _ _ _ c.extend_from_slice.ensures.items)
