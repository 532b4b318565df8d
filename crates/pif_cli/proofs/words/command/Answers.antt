use Rattle.std.proofs.Common.{◌≡◌, inl, inr, ℕ, ◌≤◌, List, Option, Result, Ok, Err, arith, rules, subst}
use Rattle.clap.specs.Words.{Text, kind_of}
use Rattle.pif_script_model.specs.declared.faults.CliFault.{CliFault}
use Rattle.pif_script_model.specs.declared.faults.CliFault.TheVariants.{Read, Write, NoMemory, Script, Differs}
use Rattle.pif_cli_messages.specs.declared.parts.InParts.{InParts}
use Rattle.pif_cli_messages.specs.declared.parts.InParts.TheVariants.{File, Foreign, Index, Missing, Rules, Uncut}
use Rattle.pif_cli_messages.specs.declared.statuses.JobFault.{JobFault}
use Rattle.pif_cli_messages.specs.declared.statuses.JobFault.TheVariants.{Cli, Threads, Unsettled, Undecided, PosixAllows, PosixUndefined, NotOnCore, NoCall, Mistake, Faulty, Parts}
use Rattle.pif_cli_messages.specs.Messages.{TellsAt, TellsFault, TellsLine, TellsOf}
use Rattle.pif_cli_messages.specs.Statuses.{fault_status, job_fault_status, job_status, parts_status}
use Rattle.pif_story.specs.Notes.{notes_text}
use Rattle.pif_cli_words.specs.declared.jobs.Job.{Job}
use Rattle.pif_cli.specs.Names.{noted_name}
use Rattle.pif_cli.specs.Words.{Did, RefusesInput, no_file_text}
use Rattle.pif_cli.proofs.WordsLemmas.{EndsIf-refused, refusal_tells}
use Rattle.pif_cli.proofs.words.command.Goals as goal

-- one line, at a status from 2 to 10
tells_line : (status given : ℕ) (held holds : Option (List ℕ)) → 2 ≤ given → given ≤ 10 → status ≡ given
    → TellsLine held holds → TellsAt status held holds
tells_line status given held holds low high is told =
    inr (inr (inl (omega (arith, is, low), omega (arith, is, high), told)))

-- what a fault of a script or a trace tells the errors
cli_fault_tells : (fault : CliFault) (status : ℕ) (held holds : Option (List ℕ)) → status ≡ fault_status fault
    → TellsFault (Cli fault) held holds → TellsAt status held holds
cli_fault_tells Read status held holds is told = tells_line status 3 held holds (omega arith) (omega arith) is told
cli_fault_tells Write status held holds is told =
    elim told [
      | inl line ↦ tells_line status 3 held holds (omega arith) (omega arith) is line
      | inr quiet ↦ inr (inr (inr (inr (is, quiet))))
    ]
cli_fault_tells NoMemory status held holds is told = tells_line status 4 held holds (omega arith) (omega arith) is told
cli_fault_tells (Script line cause) status held holds is told =
    tells_line status 2 held holds (omega arith) (omega arith) is told
cli_fault_tells (Differs line) status held holds is told =
    tells_line status 5 held holds (omega arith) (omega arith) is told

-- what a fault of parts tells them
parts_fault_tells : (fault : InParts) (status : ℕ) (held holds : Option (List ℕ)) → status ≡ parts_status fault
    → TellsLine held holds → TellsAt status held holds
parts_fault_tells File status held holds is told = tells_line status 3 held holds (omega arith) (omega arith) is told
parts_fault_tells Rules status held holds is told = tells_line status 2 held holds (omega arith) (omega arith) is told
parts_fault_tells (Uncut n) status held holds is told = tells_line status 2 held holds (omega arith) (omega arith) is told
parts_fault_tells (Index n) status held holds is told = tells_line status 2 held holds (omega arith) (omega arith) is told
parts_fault_tells (Foreign n) status held holds is told =
    tells_line status 2 held holds (omega arith) (omega arith) is told
parts_fault_tells (Missing k) status held holds is told =
    tells_line status 2 held holds (omega arith) (omega arith) is told

-- what a fault of a job tells them
fault_tells : (fault : JobFault) (status : ℕ) (held holds : Option (List ℕ)) → status ≡ job_fault_status fault
    → TellsFault fault held holds → TellsAt status held holds
fault_tells (Cli fault) status held holds is told = cli_fault_tells fault status held holds is told
fault_tells Threads status held holds is told = tells_line status 6 held holds (omega arith) (omega arith) is told
fault_tells Unsettled status held holds is told = tells_line status 6 held holds (omega arith) (omega arith) is told
fault_tells (Undecided line) status held holds is told = tells_line status 7 held holds (omega arith) (omega arith) is told
fault_tells (PosixAllows line) status held holds is told =
    tells_line status 8 held holds (omega arith) (omega arith) is told
fault_tells (NotOnCore mutex) status held holds is told = tells_line status 2 held holds (omega arith) (omega arith) is told
fault_tells (PosixUndefined line) status held holds is told =
    tells_line status 9 held holds (omega arith) (omega arith) is told
fault_tells (Mistake line noted) status held holds is told = tells_line status 10 held holds (omega arith) (omega arith) is told
fault_tells Faulty status held holds is told = tells_line status 5 held holds (omega arith) (omega arith) is told
fault_tells (Parts fault) status held holds is told = parts_fault_tells fault status held holds is told
fault_tells NoCall status held holds is told = tells_line status 7 held holds (omega arith) (omega arith) is told

-- what a job tells them
job_tells : (notes : List ℕ) (result : Result (Unit {0}) JobFault) (status : ℕ) (held holds : Option (List ℕ))
    → status ≡ job_status result → TellsOf notes result held holds → TellsAt status held holds
job_tells notes (Ok x) status held holds is told = inl (is, (notes, told))
job_tells notes (Err end) status held holds is told = fault_tells end status held holds is told

did_tells : (job : Job) (name : Text) (a b h k e f : Option (List ℕ)) (status : ℕ) → Did job name a b h k e f status
    → TellsAt status e f
did_tells job name a b h k e f status did =
    job_tells (notes_text (noted_name name) did.1) did.0 status e f did.4 did.5

-- what refusing the standard input tells them
input_tells : (status : ℕ) (held holds : Option (List ℕ)) → RefusesInput held holds status → TellsAt status held holds
input_tells status held holds told =
    elim told [
      | inl t ↦ inr (inl (t.0, (no_file_text, t.1)))
      | inr t ↦ inr (inr (inr (inl (t.0, (no_file_text, t.1)))))
    ]

pub returns-then-asked-clause-errors : goal.returns-then-asked-clause-errors
returns-then-asked-clause-errors g c = input_tells c.refuse_input.result _ _ c.refuse_input.ensures

pub returns-in-Ok-clause-errors : goal.returns-in-Ok-clause-errors
returns-in-Ok-clause-errors g c =
    let did = c.do_and_tell.ensures.did in
    subst (λ errors. TellsAt c.do_and_tell.result (g.E.Write.contents c.args.errors.now) (g.E.Write.contents errors))
    (search rules) (did_tells _ _ _ _ _ _ _ _ c.do_and_tell.result did)

pub returns-clause-errors : goal.returns-clause-errors
returns-clause-errors g c = refusal_tells (kind_of c.in-Err.error) _ _ _ _ _ c.refuse.ensures

pub returns-clause-ends : goal.returns-clause-ends
returns-clause-ends g c =
    EndsIf-refused _ _ (kind_of c.in-Err.error) _ _ _ _ _ _ c.in-Err.ensures.refusals c.refuse.ensures
