-- How the answers of the tests of a call read as those of the call.
use Rattle.std.specs.Prelude.{Result, Ok, Err}
use Rattle.pif_types.specs.declared.errors.Errno.{Errno}
use Rattle.pif_model.specs.declared.lines.Took.{Took}
use Rattle.pif_model.specs.declared.lines.Took.TheVariants.{Queued}

-- a call's answer, by a test that says on success what it found
abbrev pub test_answer : {A : Type 0} → Result A Errno → Result (record {}) Errno
test_answer (Ok x) = Ok (record {})
test_answer (Err e) = Err e

-- what lock_pi answers, by whether a thread may wait
abbrev pub wait_test_answer : Result (Unit {0}) Errno → Result Took Errno
wait_test_answer (Ok x) = Ok Queued
wait_test_answer (Err e) = Err e
