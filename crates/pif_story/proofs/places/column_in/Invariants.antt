use Rattle.std.proofs.Common.{◌≡◌, ◌+◌, ◌≤◌, true, drop, length}
use Rattle.pif_story.specs.Notes.{column_from}
use Rattle.pif_story.proofs.places.column_in.Given as goal

abbrev pub invariant-loop-place : goal.invariant-loop-place
invariant-loop-place l = record {
  same : column_from 1 true l.word l.line ≡ column_from (l.place + 1) l.begins l.word (drop l.place l.line);
  within : l.place ≤ length l.line;
}
