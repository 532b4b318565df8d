use Rattle.std.proofs.Common.{◌≡◌, ◌+◌, ◌≤◌, length}
use Rattle.std.specs.Prelude.{option_copied}
use Rattle.std.specs.Option.{option_map_or}
use Rattle.pif_script_model.specs.Lines.{lines, lines_behind}
use Rattle.pif_script_model.specs.Stories.{rows_from}
use Rattle.pif_story.specs.Notes.{notes_of_rows}
use Rattle.pif_story.proofs.NoteLemmas.{notes_left}
use Rattle.pif_story.proofs.notes.notes_of.Given as goal

abbrev pub invariant-lines : goal.invariant-lines
invariant-lines l = record {
  same : notes_of_rows l.fn.story (rows_from 1 (lines l.fn.words)) (lines l.fn.output)
      ≡ notes_left l.fn.story l.notes.items l.known (l.number + 1) (lines_behind (option_copied l.rest))
      (lines_behind (option_copied l.answers));
  within : l.number + option_map_or (λ text. length text.now + 1) l.rest 0 ≤ 16777217;
}

abbrev pub decreases-lines : goal.decreases-lines
decreases-lines l = option_map_or (λ text. length text.now + 1) l.rest 0
