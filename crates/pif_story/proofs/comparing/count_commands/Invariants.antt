use Rattle.std.proofs.Common.{◌≡◌, ◌+◌, ◌≤◌, length}
use Rattle.std.specs.Prelude.{option_copied}
use Rattle.std.specs.Option.{option_map_or}
use Rattle.pif_script_model.specs.Lines.{lines, lines_behind}
use Rattle.pif_script_model.specs.Stories.{count_in}
use Rattle.pif_story.proofs.comparing.count_commands.Given as goal

abbrev pub invariant-lines : goal.invariant-lines
invariant-lines l = record {
  same : count_in (lines l.story) ≡ l.count + count_in (lines_behind (option_copied l.rest));
  within : l.count + option_map_or (λ text. length text.now + 1) l.rest 0 ≤ length l.story + 1;
}

abbrev pub decreases-lines : goal.decreases-lines
decreases-lines l = option_map_or (λ text. length text.now + 1) l.rest 0
