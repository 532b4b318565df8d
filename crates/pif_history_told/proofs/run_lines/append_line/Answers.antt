use Rattle.std.proofs.Common.{◌∙◌, ◌++◌, refl, ap}
use Rattle.std.specs.Prelude.{decimal}
use Rattle.pif_text.specs.Json.{bool_text, quoted}
use Rattle.pif_history_text.specs.Texts.{line_text}
use Rattle.pif_history_told.specs.Runs.{rule_members}
use Rattle.pif_history_told.specs.StateObjects.{change_members}
use Rattle.pif_history_told.proofs.Appending.{grown_first, grown_more, grown_same, line_appended}
use Rattle.pif_history_told.proofs.Pieces.{line_pieces}
use Rattle.pif_history_told.proofs.run_lines.append_line.Goals as goal

pub returns : goal.returns
returns c =
    let h1 = grown_first c.args.out.now.items _ _ c.in_ok-append_members.ensures in
    let h2 = grown_more _ _ _ _ _ h1 c.in_ok-append_members-2.ensures in
    let h3 = grown_more _ _ _ _ _ h2 c.in_ok-append_rules.ensures in
    let h4 = grown_more _ _ _ _ _ h3 c.in_ok-append_changes.ensures in
    let h5 = grown_more _ _ _ _ _ h4 c.in_ok-extend_from_slice.ensures.items in
    let text = c.as_slice.ensures.value ∙ c.line_text.ensures.written ∙ ap (λ l. l ++ line_text c.args.line.now) c.new-text.ensures in
    line_appended c.args.change.now.is_whole c.args.number c.args.line.now c.args.moves.now c.args.names.now c.args.change.now.from.now
    c.args.change.now.to.now c.args.out.now.items _ c.args.number c.as_slice.result.now refl text
    (grown_same _ _ _ _ h5
    (line_pieces (decimal c.args.number) (quoted c.as_slice.result.now) c.args.moves.now (bool_text c.args.change.now.is_whole)
    (rule_members c.args.names.now) (change_members c.args.change.now.is_whole c.args.change.now.from.now c.args.change.now.to.now)))
