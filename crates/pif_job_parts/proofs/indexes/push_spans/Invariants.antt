use Rattle.std.proofs.Common.{◌≡◌, ◌++◌, take}
use Rattle.std.specs.List.{flat_map}
use Rattle.pif_job_parts.specs.Indexes.{span_row}
use Rattle.pif_job_parts.proofs.indexes.push_spans.Given as goal

abbrev pub invariant-loop-span : goal.invariant-loop-span
invariant-loop-span l = l.out.items ≡ l.initial.out.items ++ flat_map span_row (take l.span-index l.spans)
