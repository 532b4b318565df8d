use Rattle.std.proofs.Common.{◌≡◌, ◌+◌, length}
use Rattle.std.specs.Prelude.{option_copied, slice_get}
use Rattle.std.specs.Option.{option_map_or}
use Rattle.pif_script_model.specs.Lines.{lines_behind}
use Rattle.pif_story.specs.Notes.{line_in, line_or_empty}
use Rattle.pif_story.proofs.places.line_in.Given as goal

abbrev pub invariant-lines : goal.invariant-lines
invariant-lines l =
    line_in l.fn.text l.fn.number ≡ line_or_empty (slice_get (lines_behind (option_copied l.rest)) l.before)

abbrev pub decreases-lines : goal.decreases-lines
decreases-lines l = option_map_or (λ text. length text.now + 1) l.rest 0
