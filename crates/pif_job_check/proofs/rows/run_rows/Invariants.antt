use Rattle.std.proofs.Common.{◌≡◌, ◌+◌, ◌++◌, ◌≤◌, length}
use Rattle.std.specs.Prelude.{map, option_copied}
use Rattle.std.specs.Option.{option_map_or}
use Rattle.pif_script_model.specs.Lines.{lines, lines_behind}
use Rattle.pif_script_model.specs.Rows.{asked_by, asked_in, filling_end}
use Rattle.pif_script_model.specs.Stories.{rows_from}
use Rattle.pif_script_model.proofs.StoryRunningLemmas.{rows_end}
use Rattle.pif_job_check.proofs.rows.run_rows.Given as goal

abbrev pub invariant-lines : goal.invariant-lines
invariant-lines l = record {
  ends : filling_end (lines l.plain)
      ≡ rows_end l.core l.taken (rows_from (l.line + 1) (lines_behind (option_copied l.rest)));
  rows : map asked_by (rows_from 1 (lines l.plain))
      ≡ map asked_in l.rows.items ++ map asked_by (rows_from (l.line + 1) (lines_behind (option_copied l.rest)));
  fits : l.taken ≤ 16777216;
  within : l.line + option_map_or (λ text. length text.now + 1) l.rest 0 ≤ 16777217;
  unnoted : l.notice ≡ l.fn.notice;
}

abbrev pub decreases-lines : goal.decreases-lines
decreases-lines l = option_map_or (λ text. length text.now + 1) l.rest 0
