-- What the program does by its words, what is written, and its status.
use Rattle.std.specs.Prelude.{ℕ, ◌≡◌, ◌⊎◌, ◌==◌, ◌||◌, MatchBool, OnOk, Bool, List, [], ◌∷◌, Option, Some, None, Result, Ok, Err, not, codes, bytes_eq, if◌then◌else◌}
use Rattle.std.specs.Io.KnownBytes.{Appends, Keeps}
use Rattle.clap.specs.Words.{IsAmong, Kinds, Text}
use Rattle.clap.specs.declared.error.kind.ErrorKind.{ErrorKind}
use Rattle.clap.specs.declared.error.kind.ErrorKind.TheVariants.{DisplayHelp, DisplayVersion}
use Rattle.std.specs.declared.io.ErrorKind.{ErrorKind as IoErrorKind}
use Rattle.std.specs.declared.io.ErrorKind.TheVariants.{OutOfMemory, InvalidData}
use Rattle.pif_script_model.specs.declared.faults.CliFault.{CliFault}
use Rattle.pif_script_model.specs.Migrating.{MigratesTo}
use Rattle.pif_script_model.specs.Running.{RunsTo}
use Rattle.pif_script_model.specs.Traces.{ReplaysTo}
use Rattle.pif_script_model.specs.Runs.{WritesPart}
use Rattle.pif_script_model.specs.StoryShowing.{ShowsStoryTo, TracesStoryTo}
use Rattle.pif_script_model.specs.Checks.{TellsTo, check_telling, fill_telling, strict_telling, titled_telling}
use Rattle.pif_story.specs.declared.missing.Note.{Note}
use Rattle.pif_story.specs.Notes.{ShowsNoting, TellsNoting, notes_text}
use Rattle.pif_job_draw.specs.Pictures.{DrawsTo, PicturesTo}
use Rattle.pif_job_explore.specs.declared.exploring.Exploring.{Exploring as Explored}
use Rattle.pif_job_explore.specs.declared.forms.Form.{Form as FoundForm}
use Rattle.pif_job_explore.specs.declared.forms.Form.TheVariants as found
use Rattle.pif_job_explore.specs.declared.faults.ExploreFault.{ExploreFault}
use Rattle.pif_job_explore.specs.declared.faults.ExploreFault.TheVariants as explore_fault
use Rattle.pif_job_explore.specs.Exploring.{ExploresTo}
use Rattle.pif_job_run.specs.Noting.{RunsNoting}
use Rattle.pif_job_judge.specs.declared.faults.JudgeFault.{JudgeFault}
use Rattle.pif_job_judge.specs.declared.faults.JudgeFault.TheVariants as judge_fault
use Rattle.pif_job_judge.specs.declared.forms.Form.{Form}
use Rattle.pif_job_judge.specs.declared.forms.Form.TheVariants as form
use Rattle.pif_job_judge.specs.Judging.{JudgesTo, front_of}
use Rattle.pif_job_judge.specs.Least.{JudgesLeastTo}
use Rattle.pif_job_shell.specs.Talks.{TalksTo}
use Rattle.pif_cli_words.specs.declared.jobs.Exploring.{Exploring}
use Rattle.pif_cli_words.specs.declared.jobs.Judging.{Judging}
use Rattle.pif_cli_words.specs.declared.jobs.Job.{Job}
use Rattle.pif_cli_words.specs.declared.jobs.Job.TheVariants.{Run, Replay, Trace, Migrate, Show, Picture, Draw, Shell, Check, Strict, Fill, FillSeveral, Judge, Split, Joined, Follow, Explore, Random, Drive}
use Rattle.pif_cli_words.specs.Words.{files_of, inputs_of, job_of, refusals_of, rewrites, standard_name}
use Rattle.pif_cli_messages.specs.declared.statuses.JobFault.{JobFault}
use Rattle.pif_cli_messages.specs.declared.statuses.JobFault.TheVariants.{Cli, NotOnCore, PosixAllows, PosixUndefined, Undecided, NoCall, Mistake, Faulty, Parts}
use Rattle.pif_cli_messages.specs.Messages.{TellsLine, TellsOf}
use Rattle.pif_cli.specs.Names.{noted_name, shown_name}
use Rattle.pif_cli.specs.Parts.{FollowsInto, JoinsBy, SplitsInto}
use Rattle.pif_cli.specs.Random.{WritesRandom}
use Rattle.pif_cli_messages.specs.Statuses.{job_status}
use Rattle.pif_cli.specs.Driving.{Drives}

-- a text was shown, which has this status if all of it was written, or else a write failed after a proper part of it
abbrev pub Shows : (held holds : Option (List ℕ)) → (text : List ℕ) → (shown status : ℕ) → Type 0
Shows held holds text shown status = ((status ≡ shown) × Appends held holds text) ⊎ ((status ≡ 3) × WritesPart held holds text)

-- how a job over a script or a trace ends
abbrev pub as_job : Result (Unit {0}) CliFault → Result (Unit {0}) JobFault
as_job (Ok x) = Ok x
as_job (Err e) = Err (Cli e)

-- a job over a script or a trace ended so
abbrev pub EndsAsCli : (Result (Unit {0}) CliFault → Type 0) → Result (Unit {0}) JobFault → Type 0
EndsAsCli ends result = (done : Result (Unit {0}) CliFault) × ends done × (result ≡ as_job done)

-- how a job over a history ends
abbrev pub as_judged : Result (Unit {0}) JudgeFault → Result (Unit {0}) JobFault
as_judged (Ok x) = Ok x
as_judged (Err (judge_fault.Cli e)) = Err (Cli e)
as_judged (Err (judge_fault.Undecided line)) = Err (Undecided line)
as_judged (Err (judge_fault.PosixAllows line)) = Err (PosixAllows line)
as_judged (Err (judge_fault.PosixUndefined line)) = Err (PosixUndefined line)
as_judged (Err (judge_fault.Log line noted)) = Err (Mistake line noted)
as_judged (Err judge_fault.NoCall) = Err NoCall

-- the form in which a verdict is told
abbrev pub form_of : Judging → Form
form_of asked =
    if asked.html then form.Page else (if asked.json then form.Json else (if asked.witness then form.Witness else form.Text))

-- a history was judged in the form that the words ask for, with their rules beside its own, or which of these it needs
abbrev pub JudgesAs : Judging → (name : Option (List ℕ)) → (before after held holds : Option (List ℕ))
    → Result (Unit {0}) JudgeFault → Type 0
JudgesAs asked name before after held holds done =
    MatchBool asked.least (JudgesLeastTo asked.plain asked.allowed before after held holds (front_of name form.Text) done)
    (JudgesTo asked.plain (form_of asked) asked.allowed before after held holds (front_of name (form_of asked)) done)

-- the name with which a history is told, if there are several, or if a page has it in its title
abbrev pub told_name : Judging → Text → Option Text
told_name asked name = if asked.several || asked.html then Some name else None

-- a history of this name was judged
abbrev pub JudgesNamed : Judging → (name : Text) → (before after held holds : Option (List ℕ))
    → Result (Unit {0}) JobFault → Type 0
JudgesNamed asked name before after held holds result =
    (done : Result (Unit {0}) JudgeFault)
    × JudgesAs asked (told_name asked name) before after held holds done
    × (result ≡ as_judged done)

-- how exploring a program ends. If it has more states than may be kept, its first line stands for all of it
abbrev pub as_explored : Result (Unit {0}) ExploreFault → Result (Unit {0}) JobFault
as_explored (Ok x) = Ok x
as_explored (Err (explore_fault.Cli e)) = Err (Cli e)
as_explored (Err explore_fault.Undecided) = Err (Undecided 1)
as_explored (Err (explore_fault.NotOnCore mutex)) = Err (NotOnCore mutex)
as_explored (Err explore_fault.Faulty) = Err Faulty

-- the form in which is told what was found
abbrev pub found_form : Exploring → FoundForm
found_form asked =
    if asked.html then found.Page
    else (if asked.json then found.Json
    else found.Lines (record { schedules = asked.witness; calls = asked.calls }))

-- how a program is explored, by what the words ask for
abbrev pub exploring_of : Exploring → Explored
exploring_of asked = record {
  form = found_form asked;
  answers = not asked.claims;
  states = asked.states;
  core = asked.core;
  strict = asked.strict;
}

-- a program was explored
abbrev pub ExploresAsked : Exploring → (before after held holds : Option (List ℕ)) → Result (Unit {0}) JobFault → Type 0
ExploresAsked asked before after held holds result =
    (done : Result (Unit {0}) ExploreFault) × ExploresTo (exploring_of asked) before after held holds done
    × (result ≡ as_explored done)

-- a job over an input that is told under this name, by the bytes that were read and written; `random` and `drive` read
-- nothing
abbrev pub Does : Job → (name : Text) → (before after held holds : Option (List ℕ)) → Result (Unit {0}) JobFault
    → Type 0
Does Run name before after held holds result = EndsAsCli (RunsTo before after held holds) result
Does Replay name before after held holds result = EndsAsCli (ReplaysTo before after held holds) result
Does Trace name before after held holds result = EndsAsCli (TracesStoryTo before after held holds) result
Does Migrate name before after held holds result = EndsAsCli (MigratesTo before after held holds) result
Does (Show detail) name before after held holds result = EndsAsCli (ShowsStoryTo before after held holds) result
Does (Picture picture) name before after held holds result = EndsAsCli (PicturesTo picture before after held holds) result
Does (Draw drawn) name before after held holds result = EndsAsCli (DrawsTo drawn.html before after held holds) result
Does Shell name before after held holds result = EndsAsCli (TalksTo before after held holds) result
Does Check name before after held holds result = EndsAsCli (TellsTo (check_telling name) before after held holds) result
Does Strict name before after held holds result = EndsAsCli (TellsTo (strict_telling name) before after held holds) result
Does Fill name before after held holds result = EndsAsCli (TellsTo (fill_telling name) before after held holds) result
Does FillSeveral name before after held holds result =
    EndsAsCli (TellsTo (titled_telling name) before after held holds) result
Does (Judge asked) name before after held holds result = JudgesNamed asked name before after held holds result
Does (Split least) name before after held holds result = SplitsInto before after held holds result
Does Joined name before after held holds result = JoinsBy before after held holds result
Does (Follow asked) name before after held holds result = FollowsInto before after held holds result
Does (Explore asked) name before after held holds result = ExploresAsked asked before after held holds result
Does (Random recipe) name before after held holds result =
    Keeps before after × WritesRandom recipe.lines held holds result
Does (Drive clients) name before after held holds result = Keeps before after × Drives clients held holds result

-- the notes of a job that was done over an input that is told under this name: those on the script that was run, or the
-- story that was checked, or shown; other jobs have none. A strict check that is done has none either, since each
-- refusal has its answer
abbrev pub HasNotes : Job → (name : Text) → (before after held holds : Option (List ℕ)) → List Note → Type 0
HasNotes Run name before after held holds notes = RunsNoting before after held holds notes
HasNotes Check name before after held holds notes =
    TellsNoting (check_telling name) before after held holds (Ok notes)
HasNotes (Show detail) name before after held holds notes = ShowsNoting before after held holds (Ok notes)
HasNotes job name before after held holds notes = notes ≡ []

-- the job was done over an input of this name, and the errors were told how it ended
abbrev pub Did : Job → (name : Text) → (before after held holds errors_held errors_hold : Option (List ℕ)) → ℕ → Type 0
Did job name before after held holds errors_held errors_hold status =
    (result : Result (Unit {0}) JobFault) × (notes : List Note) × Does job (shown_name name) before after held holds result
    × OnOk result (HasNotes job (shown_name name) before after held holds notes) × (status ≡ job_status result)
    × TellsOf (notes_text (noted_name name) notes) result errors_held errors_hold

-- the standard input is no file into which something can be written, which is said
abbrev pub no_file_text : List ℕ
no_file_text = codes "error: 'check --write' writes into files; the standard input is not one\n"

abbrev pub RefusesInput : (errors_held errors_hold : Option (List ℕ)) → ℕ → Type 0
RefusesInput errors_held errors_hold status = Shows errors_held errors_hold no_file_text 1 status

-- a job over an input of this name; or what it makes is to be written into the input's file, and there is none
abbrev pub DidOrRefused : (rewrite : Bool) → Job → (name : Text)
    → (before after held holds errors_held errors_hold : Option (List ℕ)) → ℕ → Type 0
DidOrRefused rewrite job name before after held holds errors_held errors_hold status =
    MatchBool rewrite (Keeps before after × Keeps held holds × RefusesInput errors_held errors_hold status)
    (Did job name before after held holds errors_held errors_hold status)

-- out of memory, of which the errors were told: nothing was written to the output
abbrev pub HadNoMemory : (held holds errors_held errors_hold : Option (List ℕ)) → ℕ → Type 0
HadNoMemory held holds errors_held errors_hold status = (status ≡ 4) × Keeps held holds × TellsLine errors_held errors_hold

-- a text of help was shown, or a write failed after a proper part of it, of which the errors were told
abbrev pub ShowsHelp : (held holds errors_held errors_hold : Option (List ℕ)) → (text : List ℕ) → ℕ → Type 0
ShowsHelp held holds errors_held errors_hold text status =
    ((status ≡ 0) × Appends held holds text × Keeps errors_held errors_hold)
    ⊎ ((status ≡ 3) × WritesPart held holds text × TellsLine errors_held errors_hold)

-- help was shown, or a write failed in it
abbrev pub ShowedHelp : (held holds errors_held errors_hold : Option (List ℕ)) → ℕ → Type 0
ShowedHelp held holds errors_held errors_hold status =
    (text : List ℕ) × ShowsHelp held holds errors_held errors_hold text status

-- the words were refused, or a write failed in it
abbrev pub Refused : (held holds errors_held errors_hold : Option (List ℕ)) → ℕ → Type 0
Refused held holds errors_held errors_hold status = Keeps held holds × ((text : List ℕ) × Shows errors_held errors_hold text 1 status)

-- words that are refused for this reason end the program so
abbrev pub RefusedFor : ErrorKind → (held holds errors_held errors_hold : Option (List ℕ)) → ℕ → Type 0
RefusedFor DisplayHelp held holds errors_held errors_hold status = ShowedHelp held holds errors_held errors_hold status
RefusedFor DisplayVersion held holds errors_held errors_hold status = ShowedHelp held holds errors_held errors_hold status
RefusedFor k held holds errors_held errors_hold status = Refused held holds errors_held errors_hold status

-- words of these refusals end the program so: if there is none they ask for what was done, else nothing is read and
-- they are refused for one of them; and memory may run out
abbrev pub EndsIf : Kinds → (done : Type 0) → (before after held holds errors_held errors_hold : Option (List ℕ)) → ℕ
    → Type 0
EndsIf [] done before after held holds errors_held errors_hold status =
    done ⊎ (Keeps before after × HadNoMemory held holds errors_held errors_hold status)
EndsIf (k ∷ more) done before after held holds errors_held errors_hold status =
    Keeps before after
    × (((why : ErrorKind) × IsAmong why (k ∷ more) × RefusedFor why held holds errors_held errors_hold status) ⊎ HadNoMemory held holds errors_held errors_hold status)

-- words of these refusals that ask for this job over an input of this name end the program so
abbrev pub EndsBy : Kinds → (rewrite : Bool) → Job → (name : Text)
    → (before after held holds errors_held errors_hold : Option (List ℕ)) → ℕ → Type 0
EndsBy kinds rewrite job name before after held holds errors_held errors_hold status =
    EndsIf kinds (DidOrRefused rewrite job name before after held holds errors_held errors_hold status) before after held holds
    errors_held errors_hold status

-- ---- files

-- a job over a file of this name, of whose bytes nothing is known; or it cannot be read, of which the errors are told
abbrev pub DidFile : Job → (name : Text) → (held holds errors_held errors_hold : Option (List ℕ)) → ℕ → Type 0
DidFile job name held holds errors_held errors_hold status =
    ((before : Option (List ℕ)) × (after : Option (List ℕ))
    × Did job name before after held holds errors_held errors_hold status)
    ⊎ ((status ≡ 3) × Keeps held holds × TellsLine errors_held errors_hold)

-- the answers of the story in the file of this name were written into it, of whose bytes nothing is known, and the
-- errors may be told of those that were replaced; or it has a fault, and that is told as of a story that is filled in;
-- or it stays as it is for another reason, of which the errors are told
abbrev pub RewroteFile : (name : Text) → (held holds errors_held errors_hold : Option (List ℕ)) → ℕ → Type 0
RewroteFile name held holds errors_held errors_hold status =
    ((status ≡ 0) × Keeps held holds × (Keeps errors_held errors_hold ⊎ TellsLine errors_held errors_hold))
    ⊎ (((before : Option (List ℕ)) × (after : Option (List ℕ))
    × Did Fill name before after held holds errors_held errors_hold status)
    ⊎ (((status ≡ 3) ⊎ (status ≡ 4)) × Keeps held holds × TellsLine errors_held errors_hold))

-- a job over the file of this name; `-` names the standard input, which a file leaves as it is
abbrev pub DidOver : (rewrite : Bool) → Job → (name : Text)
    → (before after held holds errors_held errors_hold : Option (List ℕ)) → ℕ → Type 0
DidOver rewrite job name before after held holds errors_held errors_hold status =
    MatchBool (bytes_eq name standard_name)
    (DidOrRefused rewrite job name before after held holds errors_held errors_hold status)
    (Keeps before after
    × MatchBool rewrite (RewroteFile name held holds errors_held errors_hold status)
    (DidFile job name held holds errors_held errors_hold status))

-- the first of two statuses that isn't 0
abbrev pub first_status : ℕ → ℕ → ℕ
first_status first second = if first == 0 then second else first

-- a job over each of these files in turn
abbrev pub DidAll : (rewrite : Bool) → Job → (names : List Text)
    → (before after held holds errors_held errors_hold : Option (List ℕ)) → ℕ → Type 0
DidAll rewrite job [] before after held holds errors_held errors_hold status =
    (status ≡ 0) × (after ≡ before) × (holds ≡ held) × (errors_hold ≡ errors_held)
DidAll rewrite job (name ∷ names) before after held holds errors_held errors_hold status =
    (b : Option (List ℕ)) × (h : Option (List ℕ)) × (e : Option (List ℕ)) × (first : ℕ) × (more : ℕ)
    × DidOver rewrite job name before b held h errors_held e first × DidAll rewrite job names b after h holds e errors_hold more
    × (status ≡ first_status first more)

-- the words of the program could not be had, for this reason: out of memory, or as one of them is no text, which
-- is said, or as they cannot be read; of the first and the last the errors are told
abbrev pub HadNoWords : IoErrorKind → (errors_held errors_hold : Option (List ℕ)) → ℕ → Type 0
HadNoWords kind errors_held errors_hold status =
    ((kind ≡ OutOfMemory) × (status ≡ 4) × TellsLine errors_held errors_hold)
    ⊎ (((kind ≡ InvalidData) × Shows errors_held errors_hold (codes "error: a word is not UTF-8\n") 1 status)
    ⊎ ((kind ≡ OutOfMemory → ⊥) × (kind ≡ InvalidData → ⊥) × (status ≡ 3) × TellsLine errors_held errors_hold))

-- a program of these words, or whose words could not be had, for a reason, ends so: its job is done over each of its
-- inputs in turn; without words nothing is read, and nothing is written to the output
abbrev pub EndsOver : Result (List (List ℕ)) IoErrorKind
    → (before after held holds errors_held errors_hold : Option (List ℕ)) → ℕ → Type 0
EndsOver (Ok words) before after held holds errors_held errors_hold status =
    EndsIf (refusals_of words)
    (DidAll (rewrites words) (job_of words) (inputs_of (files_of words)) before after held holds errors_held errors_hold
    status) before
    after held holds errors_held errors_hold status
EndsOver (Err kind) before after held holds errors_held errors_hold status =
    Keeps before after × Keeps held holds × HadNoWords kind errors_held errors_hold status
