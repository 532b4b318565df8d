use Rattle.std.proofs.Common.{◌≡◌, ◌+◌, ◌++◌, ◌≤◌, length}
use Rattle.std.specs.Prelude.{option_copied}
use Rattle.std.specs.Option.{option_map_or}
use Rattle.pif_script_model.specs.Lines.{lines, lines_behind}
use Rattle.pif_script_model.specs.Stories.{rows_from}
use Rattle.pif_script_model.specs.Verdicts.{flaws_of, flaws_of_rows}
use Rattle.pif_script_model.proofs.ComparingLemmas.{flaws_from}
use Rattle.pif_story.proofs.comparing.compare.Given as goal

abbrev pub invariant-lines : goal.invariant-lines
invariant-lines l = record {
  same : flaws_of_rows l.strict (length (lines l.story)) l.fault (rows_from 1 (lines l.story)) (lines_behind (option_copied l.fn.output))
      ≡ flaws_of l.flaws.items
      ++ flaws_from l.strict (length (lines l.story)) l.fault l.commands
      (rows_from (l.number + 1) (lines_behind (option_copied l.rest))) (lines_behind (option_copied l.answers));
  last : l.number + length (lines_behind (option_copied l.rest)) ≡ length (lines l.story);
  fewer : l.commands ≤ l.number;
  within : l.number + option_map_or (λ text. length text.now + 1) l.rest 0 ≤ 16777217;
}

abbrev pub decreases-lines : goal.decreases-lines
decreases-lines l = option_map_or (λ text. length text.now + 1) l.rest 0
