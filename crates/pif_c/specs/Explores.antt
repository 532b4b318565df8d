-- How a program is explored, and how that ends, in numbers.
use Rattle.std.specs.Prelude.{ℕ, Bool, true, false, None, Result, Ok, Err}
use Rattle.pif_job_explore.specs.declared.exploring.Exploring.{Exploring}
use Rattle.pif_job_explore.specs.declared.faults.ExploreFault.{ExploreFault}
use Rattle.pif_job_explore.specs.declared.faults.ExploreFault.TheVariants.{Cli, Faulty, NotOnCore, Undecided}
use Rattle.pif_job_explore.specs.declared.forms.Form.TheVariants.{Lines}
use Rattle.pif_c_numbers.specs.Codes as pif
use Rattle.pif_c.specs.Texts.{fault_number}

-- how exploring ended
abbrev pub explored_number : Result (Unit {0}) ExploreFault → ℕ
explored_number (Ok x) = pif.whole
explored_number (Err (Cli fault)) = fault_number fault
explored_number (Err Undecided) = pif.undecided
explored_number (Err (NotOnCore mutex)) = pif.fault
explored_number (Err Faulty) = pif.fault

-- how a program is explored, with at most so many states kept, and with a schedule for each outcome if that is asked for
abbrev pub exploring_of : (states : ℕ) → (witness : Bool) → Exploring
exploring_of states witness = record {
  form = Lines (record { schedules = witness; calls = false });
  answers = true;
  states = states;
  core = None;
  strict = false;
}
