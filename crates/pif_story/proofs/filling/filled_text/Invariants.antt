use Rattle.std.proofs.Common.{◌≡◌, ◌+◌, ◌++◌, length}
use Rattle.std.specs.Prelude.{option_copied}
use Rattle.std.specs.List.{join_with_byte}
use Rattle.std.specs.Option.{option_map_or}
use Rattle.pif_script_model.specs.Filling.{filled_lines, filled_text}
use Rattle.pif_script_model.specs.Lines.{lines, lines_behind}
use Rattle.pif_story.proofs.filling.filled_text.Given as goal

abbrev pub invariant-lines : goal.invariant-lines
invariant-lines l =
    filled_text l.fn.story (lines l.fn.output)
    ≡ l.text.items
    ++ join_with_byte 10
    (filled_lines l.width l.form (lines_behind (option_copied l.rest)) (lines_behind (option_copied l.answers)))

abbrev pub decreases-lines : goal.decreases-lines
decreases-lines l = option_map_or (λ text. length text.now + 1) l.rest 0
