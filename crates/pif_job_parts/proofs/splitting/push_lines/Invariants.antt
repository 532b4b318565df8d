use Rattle.std.proofs.Common.{◌≡◌, ◌++◌, take}
use Rattle.pif_job_parts.specs.Splitting.{lines_text}
use Rattle.pif_job_parts.proofs.splitting.push_lines.Given as goal

abbrev pub invariant-loop-line : goal.invariant-loop-line
invariant-loop-line l = l.out.items ≡ l.initial.out.items ++ lines_text (take l.line-index l.lines)
