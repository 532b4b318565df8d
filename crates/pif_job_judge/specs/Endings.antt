-- How judging a history ends, by what was told of it.
use Rattle.std.specs.Prelude.{ℕ, ◌==◌, Bool, true, false, Result, Ok, Err, if◌then◌else◌}
use Rattle.pif_script_model.specs.declared.faults.CliFault.TheVariants.{Differs}
use Rattle.pif_history_machine.specs.declared.verdicts.Verdict.{Verdict}
use Rattle.pif_history_machine.specs.declared.verdicts.Verdict.TheVariants.{Legal, Illegal, Undecided}
use Rattle.pif_job_judge.specs.declared.faults.Ended.{Ended}
use Rattle.pif_job_judge.specs.declared.faults.Ended.TheVariants as ended
use Rattle.pif_job_judge.specs.declared.faults.JudgeFault.{JudgeFault}
use Rattle.pif_job_judge.specs.declared.faults.JudgeFault.TheVariants as fault

-- Whether a verdict is that lines are legal.
abbrev pub is_legal : Verdict → Bool
is_legal (Legal witness) = true
is_legal (Illegal n) = false
is_legal (Undecided n) = false

-- A legal history that begins so many calls was judged if there are some.
abbrev pub legal_end : (calls : ℕ) → Ended
legal_end calls = if calls == 0 then ended.NoCall else ended.Legal

-- Well if it is legal, and begins a call; and else with the line up to which there is no run, at which the search was
-- given up, with which a call begins whose behaviour POSIX leaves undefined, or which is a mistake of the log.
abbrev pub result_of : Ended → Result (Unit {0}) JudgeFault
result_of ended.Legal = Ok tt
result_of ended.NoCall = Err fault.NoCall
result_of (ended.Illegal line) = Err (fault.Cli (Differs line))
result_of (ended.Undecided line) = Err (fault.Undecided line)
result_of (ended.PosixAllows line) = Err (fault.PosixAllows line)
result_of (ended.Log line note) = Err (fault.Log line note)
result_of (ended.PosixUndefined line) = Err (fault.PosixUndefined line)
