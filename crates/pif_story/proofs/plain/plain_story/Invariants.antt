use Rattle.std.proofs.Common.{◌≡◌, ◌+◌, ◌++◌, ◌≤◌, length, map}
use Rattle.std.specs.Prelude.{option_copied}
use Rattle.std.specs.List.{join_with_byte}
use Rattle.std.specs.Option.{option_map_or}
use Rattle.pif_script_model.specs.Lines.{lines_behind, plain_line, plain_lines}
use Rattle.pif_story.proofs.plain.plain_story.Given as goal

abbrev pub invariant-lines : goal.invariant-lines
invariant-lines l = record {
  same : join_with_byte 10 (plain_lines l.fn.story)
      ≡ l.text.items ++ join_with_byte 10 (map plain_line (lines_behind (option_copied l.rest)));
  fits : length l.text.items + option_map_or (λ text. length text.now) l.rest 0 ≤ length l.fn.story;
}

abbrev pub decreases-lines : goal.decreases-lines
decreases-lines l = option_map_or (λ text. length text.now + 1) l.rest 0
