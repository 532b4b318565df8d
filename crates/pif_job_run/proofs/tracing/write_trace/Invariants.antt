use Rattle.std.proofs.Common.{◌++◌, take}
use Rattle.std.specs.Prelude.{flat_map}
use Rattle.std.specs.Io.KnownBytes.{Appends}
use Rattle.pif_script_model.specs.Traces.{entry_line, front_lines}
use Rattle.pif_job_run.proofs.tracing.write_trace.Given as goal

abbrev pub invariant-loop-entry : goal.invariant-loop-entry
invariant-loop-entry g l =
    Appends (g.W.Write.contents l.fn.writer) (g.W.Write.contents l.writer)
    (front_lines l.fn.limits ++ flat_map entry_line (take l.entry-index l.entries))
