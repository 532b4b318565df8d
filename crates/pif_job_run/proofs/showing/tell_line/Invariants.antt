use Rattle.std.proofs.Common.{◌≡◌, ◌≤◌, ◌+◌, ◌++◌, map, take}
use Rattle.std.specs.Prelude.{codes}
use Rattle.arrayvec.specs.ArrayVec.{array_vec_len}
use Rattle.pif_script_model.specs.Verdicts.{printable}
use Rattle.pif_job_run.proofs.showing.tell_line.Given as goal

abbrev pub invariant-loop-byte : goal.invariant-loop-byte
invariant-loop-byte l =
    (l.output.items ≡ codes "> " ++ map printable (take l.byte-index l.line)) × (array_vec_len l.output ≤ 2 + l.byte-index)
