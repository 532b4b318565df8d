-- The end so far is within the line.
use Rattle.std.proofs.Common.{◌≤◌, length}
use Rattle.pif_text_errors.proofs.walk.end_of_parts.Given as goal

abbrev pub invariant-loop : goal.invariant-loop
invariant-loop l = l.at ≤ length l.line
