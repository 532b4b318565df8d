use Rattle.std.proofs.Common.{drop}
use Rattle.pif_script.specs.Scanners.{scan_of}
use Rattle.pif_script_model.proofs.MigrateLemmas.{EndsSo}
use Rattle.pif_job_replay.proofs.migrating.fault_of_form.Given as goal

abbrev pub invariant-loop-byte : goal.invariant-loop-byte
invariant-loop-byte l = EndsSo l.bytes (scan_of l.scanner) (drop l.byte-index l.bytes)
