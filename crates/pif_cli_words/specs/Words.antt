-- The words of the program: its commands, and the job, the files and the refusals of words.
use Rattle.std.specs.Prelude.{ℕ, Bool, true, false, ◌&&◌, ◌||◌, nat_lt, length, List, [], ◌∷◌, Option, Some, None, unwrap_or, codes, bytes_eq, if◌then◌else◌}
use Rattle.clap.specs.Kinds.{or_else}
use Rattle.clap.specs.Lexer.{usize_max}
use Rattle.clap.specs.Words.{App, Kinds, Row, Rule, Text, all_of, fault_of, first_of, new_app, new_rule, subcommand_of, with_rule, with_subcommand}
use Rattle.clap.specs.declared.builder.value_parser.ValueParser.TheVariants.{Unsigned}
use Rattle.clap.specs.declared.error.kind.ErrorKind.TheVariants.{ArgumentConflict, InvalidValue, TooManyValues}
use Rattle.pif_script_model.specs.declared.details.Detail.TheVariants.{Changes, All}
use Rattle.pif_script_model.specs.declared.pictures.Picture.TheVariants.{States, Graph}
use Rattle.pif_cli_words.specs.declared.clashes.Clash.{Clash}
use Rattle.pif_cli_words.specs.declared.clashes.Clash.TheVariants.{Least, Forms, Json, Files, Parts, PartsOfOne, Rules, Checks, Range, Page, Objects, Answers}
use Rattle.pif_cli_words.specs.declared.jobs.Drawn.{Drawn}
use Rattle.pif_cli_words.specs.declared.jobs.Exploring.{Exploring}
use Rattle.pif_cli_words.specs.declared.jobs.Followed.{Followed}
use Rattle.pif_cli_words.specs.declared.jobs.Judging.{Judging}
use Rattle.pif_cli_words.specs.declared.jobs.Job.{Job}
use Rattle.pif_cli_words.specs.declared.jobs.Job.TheVariants.{Run, Replay, Trace, Migrate, Show, Picture, Draw, Shell, Check, Strict, Fill, FillSeveral, Judge, Split, Joined, Follow, Explore, Random, Drive}
use Rattle.pif_cli_words.specs.Defaults.{completed}
use Rattle.pif_cli_words.specs.Options.{chosen_rule, flag_in, flag_rule, is_named, name_rule, number_between, number_rule, unless_zero}
use Rattle.pif_cli_words.specs.Random.{random_app, recipe_in}
use Rattle.pif_cli_words.specs.Rules.{allow_rule, allowed_in, are_rules}

-- the file of a command over one input, which may be left out
abbrev pub file_rule : Rule
file_rule = new_rule (codes "FILE")

-- a command over one input
abbrev pub file_app : List ℕ → App
file_app name = with_rule (new_app name) file_rule

-- a program with one more command over one input, as clap has it
abbrev pub with_job : App → List ℕ → App
with_job pif name = with_subcommand pif (file_app name).top

-- the program without its commands, as clap has it: one of them must be given, or its version asked for
abbrev pub bare_program : App
bare_program =
    let pif : App = new_app (codes "pif") in
    record pif { top = record pif.top { has_version = true; subcommand_required = true } }

-- how many clients `drive` has: a number from 1 to 64, which must be given
abbrev pub clients_rule : Rule
clients_rule = record (new_rule (codes "N")) { required = true; parser = Some (Unsigned 1 64) }

-- the command `drive`
abbrev pub drive_app : App
drive_app = with_rule (new_app (codes "drive")) clients_rule

-- the files of a command over any number of inputs
abbrev pub files_rule : Rule
files_rule =
    record (new_rule (codes "FILE")) { range = Some (record { start_inclusive = 0; end_inclusive = usize_max }) }

-- the command `check`, with its flags: for an answer beside each refusal, and for stories that are filled in, and not
-- checked
abbrev pub checked_app : App
checked_app =
    with_rule (with_rule (with_rule (new_app (codes "check")) (flag_rule (codes "strict"))) (flag_rule (codes "print")))
    (flag_rule (codes "write"))

abbrev pub check_app : App
check_app = with_rule checked_app files_rule

-- the command `judge` for a person or, by a flag, for programs or with a page; its flag for the rules that histories need,
-- and that for the verdict alone; its options for how many states may be made for a line, for how many seconds the search
-- goes on, and for how many histories are judged side by side; and that for rules
abbrev pub flagged_app : App
flagged_app =
    with_rule (with_rule (with_rule (with_rule (with_rule (new_app (codes "judge")) (flag_rule (codes "witness")))
    (flag_rule (codes "json"))) (flag_rule (codes "html"))) (flag_rule (codes "least"))) (flag_rule (codes "plain"))

abbrev pub judged_app : App
judged_app =
    with_rule (with_rule (with_rule flagged_app (chosen_rule (codes "states") 1 16777216 (codes "200000")))
    (number_rule (codes "seconds") 0 86400)) (number_rule (codes "jobs") 1 64)

-- and for its parts: the folder into which they are written, how many lines each has at least, and their index; and the
-- flag for a history that is followed
abbrev pub parted_app : App
parted_app =
    with_rule (with_rule (with_rule (with_rule (with_rule judged_app allow_rule) (name_rule (codes "split")))
    (chosen_rule (codes "lines") 1 4294967295 (codes "10000"))) (name_rule (codes "joined"))) (flag_rule (codes "follow"))

abbrev pub judge_app : App
judge_app = with_rule parted_app files_rule

-- the command `explore`, with its flags for schedules, for calls, for claims alone, for programs, for a page, and for
-- faults; its options
-- for how many states may be kept, for how many seconds the search goes on, and for how many schedules are played on cores
abbrev pub telling_app : App
telling_app =
    with_rule (with_rule (with_rule (with_rule (with_rule (with_rule (new_app (codes "explore")) (flag_rule (codes "witness")))
    (flag_rule (codes "calls"))) (flag_rule (codes "claims"))) (flag_rule (codes "json"))) (flag_rule (codes "html"))) (flag_rule (codes "strict"))

abbrev pub explored_app : App
explored_app =
    with_rule (with_rule (with_rule telling_app (chosen_rule (codes "states") 1 16777216 (codes "1000000")))
    (number_rule (codes "seconds") 0 86400)) (number_rule (codes "core") 1 1000000)

abbrev pub explore_app : App
explore_app = with_rule explored_app file_rule

-- the command `show` for a person, with its flag for all there is
abbrev pub shown_app : App
shown_app = with_rule (new_app (codes "show")) (flag_rule (codes "all"))

-- the command `show`, for a person or, by a flag, for programs
abbrev pub show_app : App
show_app = with_rule (with_rule (with_rule shown_app (flag_rule (codes "json"))) (flag_rule (codes "dot"))) file_rule

-- the command `draw`, with its flag for a page, and its options for the lines of the story that are drawn
abbrev pub draw_app : App
draw_app =
    with_rule (with_rule (with_rule (with_rule (new_app (codes "draw")) (flag_rule (codes "html")))
    (number_rule (codes "from") 1 4294967295)) (number_rule (codes "to") 1 4294967295)) file_rule

-- the command `shell`, which takes no words
abbrev pub shell_app : App
shell_app = new_app (codes "shell")

-- a program with the commands that run a script and show its states: `run`, `show` and `draw`
abbrev pub with_states : App → App
with_states pif = with_subcommand (with_subcommand (with_job pif (codes "run")) show_app.top) draw_app.top

-- a program with the commands over scripts, stories, histories and programs that show answers: these, `shell`, `check`,
-- `judge` and `explore`
abbrev pub with_runs : App → App
with_runs pif =
    with_subcommand
    (with_subcommand (with_subcommand (with_subcommand (with_states pif) shell_app.top) check_app.top) judge_app.top)
    explore_app.top

-- a program with the commands over traces: `replay`, `trace` and `migrate`
abbrev pub with_traces : App → App
with_traces pif = with_job (with_job (with_job pif (codes "replay")) (codes "trace")) (codes "migrate")

-- the program's commands: `run`, `show`, `draw`, `shell`, `check`, `judge`, `explore`, `replay`, `trace`, `migrate`,
-- `random` and `drive`
abbrev pub program : App
program = with_subcommand (with_subcommand (with_traces (with_runs bare_program)) random_app.top) drive_app.top

-- how a script is shown: for a person, with what changes or with all there is, or as a picture that a flag names; of
-- several flags the first of `--json`, `--dot` and `--all` counts
abbrev pub shown_in : List Row → Job
shown_in rows =
    if flag_in (codes "json") rows then Picture States
    else (if flag_in (codes "dot") rows then Picture Graph
    else (if flag_in (codes "all") rows then Show All else Show Changes))

-- what of a story is drawn, and how; 0 stands for a line that isn't named
abbrev pub drawn_in : List Row → Drawn
drawn_in rows = record {
  html = flag_in (codes "html") rows;
  from = number_between 1 4294967295 (first_of (codes "from") rows);
  to = number_between 1 4294967295 (first_of (codes "to") rows);
}

-- whether several files are given to a command
abbrev pub has_several : List Row → Bool
has_several rows = nat_lt 1 (length (unwrap_or (all_of (codes "FILE") rows) []))

-- how histories are judged
abbrev pub judging_in : List Row → Judging
judging_in rows = record {
  witness = flag_in (codes "witness") rows;
  json = flag_in (codes "json") rows;
  html = flag_in (codes "html") rows;
  least = flag_in (codes "least") rows;
  plain = flag_in (codes "plain") rows;
  states = number_between 1 16777216 (first_of (codes "states") rows);
  seconds = unless_zero (number_between 0 86400 (first_of (codes "seconds") rows));
  jobs = unless_zero (number_between 1 64 (first_of (codes "jobs") rows));
  several = has_several rows;
  allowed = allowed_in rows;
}

-- how a history is followed
abbrev pub followed_in : List Row → Followed
followed_in rows = record {
  least = number_between 1 4294967295 (first_of (codes "lines") rows);
  states = number_between 1 16777216 (first_of (codes "states") rows);
}

-- what is done with histories: they are judged; or one is written in parts or followed, or their verdicts are joined
abbrev pub histories_in : List Row → Job
histories_in rows =
    if is_named (codes "split") rows then Split (number_between 1 4294967295 (first_of (codes "lines") rows))
    else (if is_named (codes "joined") rows then Joined
    else (if flag_in (codes "follow") rows then Follow (followed_in rows) else Judge (judging_in rows)))

-- how lines of JSON clash: they have a run already
abbrev pub json_clash : List Row → Option Clash
json_clash rows = if flag_in (codes "json") rows && flag_in (codes "witness") rows then Some Json else None

-- how the form of a verdict clashes: a page holds the lines of JSON and a run, so that nothing else is written beside
-- it, and it is one of one history
abbrev pub form_clash : List Row → Option Clash
form_clash rows =
    if flag_in (codes "html") rows
    then (if flag_in (codes "json") rows || flag_in (codes "witness") rows then Some Forms
    else (if has_several rows then Some Files else None)) else json_clash rows

-- whether a form is given to `judge` that isn't its first one
abbrev pub has_form : List Row → Bool
has_form rows = flag_in (codes "json") rows || (flag_in (codes "html") rows || flag_in (codes "witness") rows)

-- whether parts are written or followed, or their verdicts joined
abbrev pub has_parts : List Row → Bool
has_parts rows = is_named (codes "split") rows || (is_named (codes "joined") rows || flag_in (codes "follow") rows)

-- whether two of these are asked for
abbrev pub has_two : List Row → Bool
has_two rows =
    (is_named (codes "split") rows && is_named (codes "joined") rows)
    || (flag_in (codes "follow") rows && (is_named (codes "split") rows || is_named (codes "joined") rows))

-- whether what is asked for besides can't be had of parts: both at once, another form, a search or rules
abbrev pub has_more : List Row → Bool
has_more rows =
    has_two rows
    || (has_form rows || (flag_in (codes "least") rows || (flag_in (codes "plain") rows
    || (is_named (codes "seconds") rows || (is_named (codes "jobs") rows || is_named (codes "allow") rows)))))

-- how parts clash: nothing else is asked for, and they are those of one history
abbrev pub parts_clash : List Row → Option Clash
parts_clash rows = if has_more rows then Some Parts else (if has_several rows then Some PartsOfOne else None)

-- how `judge` clashes: what is allowed has to be rules, and the rules that a history needs are told in lines
abbrev pub judging_clash : List Row → Option Clash
judging_clash rows =
    if has_parts rows then parts_clash rows else if are_rules rows then (if flag_in (codes "least") rows
    then (if has_form rows then Some Least else None) else form_clash rows) else Some Rules

-- whether something is given to `explore` that lines alone have
abbrev pub has_lines : List Row → Bool
has_lines rows =
    flag_in (codes "witness") rows
    || (flag_in (codes "calls") rows || nat_lt 0 (number_between 1 1000000 (first_of (codes "core") rows)))

-- how the form of an exploration clashes: lines of JSON and a page have all schedules and calls, and nothing of cores
abbrev pub found_clash : List Row → Option Clash
found_clash rows =
    if flag_in (codes "html") rows
    then (if flag_in (codes "json") rows || has_lines rows then Some Page else None)
    else (if flag_in (codes "json") rows && has_lines rows then Some Objects else None)

-- how `explore` clashes: answers of calls that are left out can't be told
abbrev pub exploring_clash : List Row → Option Clash
exploring_clash rows = if flag_in (codes "claims") rows && flag_in (codes "calls") rows then Some Answers else found_clash rows

-- how `check` clashes: stories are checked strictly, printed or written, and two of these are not done at once
abbrev pub checking_clash : List Row → Option Clash
checking_clash rows =
    if (flag_in (codes "strict") rows && flag_in (codes "print") rows)
    || ((flag_in (codes "strict") rows || flag_in (codes "print") rows) && flag_in (codes "write") rows)
    then Some Checks else None

-- the first line that is to be drawn, and the last; 0 stands for one that isn't named
abbrev pub first_drawn : List Row → ℕ
first_drawn rows = number_between 1 4294967295 (first_of (codes "from") rows)

abbrev pub last_drawn : List Row → ℕ
last_drawn rows = number_between 1 4294967295 (first_of (codes "to") rows)

-- how `draw` clashes: the last line that is to be drawn doesn't stand before the first
abbrev pub drawing_clash : List Row → Option Clash
drawing_clash rows =
    if nat_lt 0 (last_drawn rows) && nat_lt (last_drawn rows) (first_drawn rows) then Some Range else None

-- the kind of error of a clash, if there is one
abbrev pub clash_kinds : Option Clash → Kinds
clash_kinds None = []
clash_kinds (Some Least) = ArgumentConflict ∷ []
clash_kinds (Some Forms) = ArgumentConflict ∷ []
clash_kinds (Some Json) = ArgumentConflict ∷ []
clash_kinds (Some Files) = TooManyValues ∷ []
clash_kinds (Some Parts) = ArgumentConflict ∷ []
clash_kinds (Some PartsOfOne) = TooManyValues ∷ []
clash_kinds (Some Rules) = InvalidValue ∷ []
clash_kinds (Some Checks) = ArgumentConflict ∷ []
clash_kinds (Some Range) = InvalidValue ∷ []
clash_kinds (Some Page) = ArgumentConflict ∷ []
clash_kinds (Some Objects) = ArgumentConflict ∷ []
clash_kinds (Some Answers) = ArgumentConflict ∷ []

-- how words of a command clash, by its name and what was given to it
abbrev pub clash_by : Option (Text × List Row) → Option Clash
clash_by (Some command) =
    if bytes_eq command.0 (codes "judge") then judging_clash command.1
    else (if bytes_eq command.0 (codes "check") then checking_clash command.1
    else (if bytes_eq command.0 (codes "explore") then exploring_clash command.1
    else (if bytes_eq command.0 (codes "draw") then drawing_clash command.1 else None)))
clash_by None = None

-- the command that the words name, and what was given to it
abbrev pub command_of : List (List ℕ) → Option (Text × List Row)
command_of words = subcommand_of program (completed words)

-- why the words are refused, the program's name first; none if they ask for a job
abbrev pub refusals_of : List (List ℕ) → Kinds
refusals_of words = or_else (fault_of program (completed words)) (clash_kinds (clash_by (command_of words)))

-- how programs are explored
abbrev pub exploring_in : List Row → Exploring
exploring_in rows = record {
  witness = flag_in (codes "witness") rows;
  calls = flag_in (codes "calls") rows;
  claims = flag_in (codes "claims") rows;
  json = flag_in (codes "json") rows;
  html = flag_in (codes "html") rows;
  strict = flag_in (codes "strict") rows;
  states = number_between 1 16777216 (first_of (codes "states") rows);
  seconds = unless_zero (number_between 0 86400 (first_of (codes "seconds") rows));
  core = unless_zero (number_between 1 1000000 (first_of (codes "core") rows));
}

-- how stories are filled in and printed: several are told apart
abbrev pub filling_in : List Row → Job
filling_in rows = if has_several rows then FillSeveral else Fill

-- what is done with stories: those that are written into their files are filled in; two flags at once are refused
abbrev pub checking_in : List Row → Job
checking_in rows =
    if flag_in (codes "write") rows then Fill
    else (if flag_in (codes "print") rows then filling_in rows
    else (if flag_in (codes "strict") rows then Strict else Check))

-- the job of this name, with what was given to it
abbrev pub job_named : Text → List Row → Job
job_named name rows =
    if bytes_eq name (codes "replay") then Replay
    else (if bytes_eq name (codes "trace") then Trace
    else (if bytes_eq name (codes "migrate") then Migrate
    else (if bytes_eq name (codes "show") then shown_in rows
    else (if bytes_eq name (codes "draw") then Draw (drawn_in rows)
    else (if bytes_eq name (codes "shell") then Shell
    else (if bytes_eq name (codes "check") then checking_in rows
    else (if bytes_eq name (codes "judge") then histories_in rows
    else (if bytes_eq name (codes "explore") then Explore (exploring_in rows)
    else (if bytes_eq name (codes "random") then Random (recipe_in rows)
    else (if bytes_eq name (codes "drive") then Drive (number_between 1 64 (first_of (codes "N") rows)) else Run))))))))))

-- the job of a command, by its name and what was given to it
abbrev pub job_by : Option (Text × List Row) → Job
job_by (Some command) = job_named command.0 command.1
job_by None = Run

-- the job that the words ask for
abbrev pub job_of : List (List ℕ) → Job
job_of words = job_by (command_of words)

-- the files that are given to a command
abbrev pub files_in : List Row → List Text
files_in rows = unwrap_or (all_of (codes "FILE") rows) []

abbrev pub files_by : Option (Text × List Row) → List Text
files_by (Some command) = files_in command.1
files_by None = []

-- the files that the words name, in their order
abbrev pub files_of : List (List ℕ) → List Text
files_of words = files_by (command_of words)

-- whether what is made of each file is to take its place
abbrev pub rewrites_by : Option (Text × List Row) → Bool
rewrites_by (Some command) = bytes_eq command.0 (codes "check") && flag_in (codes "write") command.1
rewrites_by None = false

-- whether the words ask for that
abbrev pub rewrites : List (List ℕ) → Bool
rewrites words = rewrites_by (command_of words)

-- the folder or the index that is given to a command, if one is
abbrev pub aside_in : List Row → Text
aside_in rows = unwrap_or (first_of (codes "split") rows) (unwrap_or (first_of (codes "joined") rows) [])

abbrev pub aside_by : Option (Text × List Row) → Text
aside_by (Some command) = aside_in command.1
aside_by None = []

-- the folder of `judge --split`, or the index of `judge --joined`
abbrev pub aside_of : List (List ℕ) → Text
aside_of words = aside_by (command_of words)

-- the name of the standard input
abbrev pub standard_name : Text
standard_name = codes "-"

-- the name of the one input: that of the first file, if there is one
abbrev pub first_name : List Text → Text
first_name [] = standard_name
first_name (file ∷ files) = file

-- the name of the one input that the words give it
abbrev pub name_of : List (List ℕ) → Text
name_of words = first_name (files_of words)

-- the inputs of a command: its files, or the standard input if it has none
abbrev pub inputs_of : List Text → List Text
inputs_of [] = standard_name ∷ []
inputs_of (file ∷ files) = file ∷ files
