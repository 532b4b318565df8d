-- How the answers of the code read as those of the kernel by itself.
use Rattle.std.specs.Prelude.{Result, Ok, Err}
use Rattle.pif_types.specs.declared.errors.Errno.{Errno}

-- a call's answer, if success says no more
abbrev pub unit_answer : Result (Unit {0}) Errno → Result (record {}) Errno
unit_answer (Ok x) = Ok (record {})
unit_answer (Err e) = Err e
