use Rattle.std.proofs.Common.{◌≡◌, map, take}
use Rattle.pif_parts.specs.Parts.{AreOfParts, span_of}
use Rattle.pif_parts_judged.proofs.judging.judge_all.Given as goal

abbrev pub invariant-loop-number : goal.invariant-loop-number
invariant-loop-number g l =
    (l.spans.items ≡ map span_of (take l.number l.parts)) × AreOfParts l.limits l.lines (take l.number l.parts) l.verdicts.items
