use Rattle.std.proofs.Common.{◌≡◌, map, take}
use Rattle.pif_parts.specs.Parts.{span_of}
use Rattle.pif_job_parts.proofs.splitting.spans_of.Given as goal

abbrev pub invariant-loop-part : goal.invariant-loop-part
invariant-loop-part l = l.spans.items ≡ map span_of (take l.part-index l.parts)
