-- The statuses of the program.
use Rattle.std.specs.Prelude.{ℕ, Bool, true, false, Result, Ok, Err}
use Rattle.pif_script_model.specs.declared.faults.CliFault.{CliFault}
use Rattle.pif_cli_messages.specs.declared.parts.InParts.{InParts}
use Rattle.pif_cli_messages.specs.declared.parts.InParts.TheVariants.{File}
use Rattle.pif_cli_messages.specs.declared.statuses.JobFault.{JobFault}
use Rattle.pif_cli_messages.specs.declared.statuses.JobFault.TheVariants.{Cli, Threads, Unsettled, Undecided, PosixAllows, PosixUndefined, NotOnCore, NoCall, Mistake, Faulty, Parts}
use Rattle.pif_script_model.specs.declared.faults.CliFault.TheVariants.{Read, Write, NoMemory, Script, Differs}

-- the status of a fault: 2 for one of the script or trace, 3 if a read or a write failed, 4 for out of memory, 5 for a
-- difference
abbrev pub fault_status : CliFault → ℕ
fault_status (Script line cause) = 2
fault_status Read = 3
fault_status Write = 3
fault_status NoMemory = 4
fault_status (Differs line) = 5

-- the status after a fault of parts: 3 if a file of theirs can't be read or written, and else 2
abbrev pub parts_status : InParts → ℕ
parts_status File = 3
parts_status fault = 2

-- the status if a job was not done: 5 if a fault of a program is reported and none was to be, 6 if a thread could not be
-- started, or the desk didn't settle, 7 if a history was not decided or begins no call, 8 if POSIX allows what the
-- machine doesn't, 9 if it may leave it undefined, and 10 for a mistake of a log; 2 if the core can't play a program
abbrev pub job_fault_status : JobFault → ℕ
job_fault_status (Cli fault) = fault_status fault
job_fault_status Threads = 6
job_fault_status Unsettled = 6
job_fault_status (Undecided line) = 7
job_fault_status (PosixAllows line) = 8
job_fault_status (PosixUndefined line) = 9
job_fault_status (Mistake line noted) = 10
job_fault_status (NotOnCore mutex) = 2
job_fault_status NoCall = 7
job_fault_status Faulty = 5
job_fault_status (Parts fault) = parts_status fault

-- the status of a job: 0 if it was done
abbrev pub job_status : Result (Unit {0}) JobFault → ℕ
job_status (Ok x) = 0
job_status (Err e) = job_fault_status e

-- a fault of the output: a write to it failed
abbrev pub is_output : JobFault → Bool
is_output (Cli Write) = true
is_output _ = false
