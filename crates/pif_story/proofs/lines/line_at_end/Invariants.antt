use Rattle.std.proofs.Common.{◌≡◌, ◌+◌, ◌==◌, count_by, take}
use Rattle.pif_story.proofs.lines.line_at_end.Given as goal

abbrev pub invariant-loop-byte : goal.invariant-loop-byte
invariant-loop-byte l = l.number ≡ count_by (λ byte. byte == 10) (take l.byte-index l.text) + 1
