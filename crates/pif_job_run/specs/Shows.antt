-- What is written of a script that is shown to a person: of each line the line itself, what it is answered, and what is
-- told of the core behind it.
use Rattle.std.specs.Prelude.{ℕ, zero, suc, ◌≡◌, ◌<◌, ◌≤◌, Bool, List, [], ◌∷◌, ◌++◌, Option, Some, None, Result, Ok, Err, codes, map, option_map, unwrap_or, if◌then◌else◌}
use Rattle.std.specs.Io.KnownBytes.{Appends, Consumes}
use Rattle.pif_model.specs.Table.{Table}
use Rattle.pif_text_model.specs.declared.replies.Cause.{Cause}
use Rattle.pif_text_model.specs.declared.replies.Cause.TheVariants as cause
use Rattle.pif_text_model.specs.Commands.{command_in}
use Rattle.pif_text_model.specs.Replies.{named_text}
use Rattle.pif_script_model.specs.Stories.{script_of}
use Rattle.pif_script_model.specs.Verdicts.{printable}
use Rattle.pif_story.specs.Names.{name_of, names_in}
use Rattle.pif_text.specs.Json.{numbers}
use Rattle.pif_script_model.specs.declared.details.Detail.{Detail}
use Rattle.pif_script_model.specs.declared.details.Detail.TheVariants.{All, Changes}
use Rattle.pif_script_model.specs.declared.ending.Ending.TheVariants.{Fault}
use Rattle.pif_script_model.specs.Running.{Answer, answer_or_fault, command_answer, first_answer, made_by}
use Rattle.pif_script_model.specs.Runs.{end_line}
use Rattle.pif_script_model.specs.Scripts.{FirstMeaning, Hearing, Meaning, Scan, reading_of, start}
use Rattle.pif_text_core.specs.Changes.{lines_text}
use Rattle.pif_text_core.specs.Texts.{state_text}

-- ---- a core that is shown

-- a core behind a command, and as it was before it; there was none before the first command
pub record Moment : Type 0 where
  pub before : Option Table
  pub core : Table

-- ---- what a line is answered

-- an answer as a line, and the core behind it, by what was there before
abbrev pub named_line : Option Table → Result Answer Cause → Meaning Moment
named_line before (Ok a) = Ok (named_text a.0 ++ 10 ∷ [], record { before = before; core = a.1 })
named_line before (Err c) = Err (Fault c)

-- what the first line of a script means
unfoldable pub first_named : List ℕ → FirstMeaning Moment
first_named line =
    elim (command_in line) [
      | None ↦ Err (Fault cause.Command)
      | Some c ↦ made_by (named_line None (first_answer c))
    ]

-- what a later line means to a core
unfoldable pub later_named : Table → List ℕ → Meaning Moment
later_named s line =
    elim (command_in line) [
      | None ↦ Err (Fault cause.Command)
      | Some c ↦ named_line (Some s) (answer_or_fault (command_answer c s))
    ]

-- how a script is heard, so that errors have their names
abbrev pub named : Hearing Moment
named = record {
  first_meaning = λ version line. first_named line;
  meaning = λ m line. later_named m.core line;
  end_text = λ number. Ok [];
  said_of = end_line;
}

-- ---- what is told of a line

-- the line itself
abbrev pub line_told : List ℕ → List ℕ
line_told line = codes "> " ++ map printable line ++ 10 ∷ []

-- what is told of a core: all of it, or what has changed
abbrev pub core_told : Detail → (names : List (List ℕ)) → Moment → List ℕ
core_told All names m = state_text names m.core
core_told Changes names m = lines_text names m.before m.core

-- the line, its answer, and what is told of the core behind it
abbrev pub all_told : Detail → (names : List (List ℕ)) → (line answer : List ℕ) → Moment → List ℕ
all_told detail names line answer m = line_told line ++ answer ++ core_told detail names m

abbrev pub first_told : Detail → (names : List (List ℕ)) → (line : List ℕ) → FirstMeaning Moment → FirstMeaning Moment
first_told detail names line (Ok (Some m)) = Ok (Some (all_told detail names line m.0 m.1, m.1))
first_told detail names line (Ok None) = Ok None
first_told detail names line (Err e) = Err e

abbrev pub later_told : Detail → (names : List (List ℕ)) → (line : List ℕ) → Meaning Moment → Meaning Moment
later_told detail names line (Ok m) = Ok (all_told detail names line m.0 m.1, m.1)
later_told detail names line (Err e) = Err e

-- how a script is heard that is shown
abbrev pub showing : Detail → (names : List (List ℕ)) → Hearing Moment
showing detail names = record {
  first_meaning = λ version line. first_told detail names line (first_named line);
  meaning = λ m line. later_told detail names line (later_named m.core line);
  end_text = λ number. Ok [];
  said_of = end_line;
}

-- ---- the whole

-- what is written of a script that has no fault: what is told of each line
unfoldable pub shown_text : Detail → (names : List (List ℕ)) → (script : List ℕ) → List ℕ
shown_text detail names script = (reading_of (showing detail names) start script).text

-- the name of a thread by the comments that name threads; an empty one if they give it none
abbrev pub person_name : (comments : List ℕ) → ℕ → List ℕ
person_name comments t = unwrap_or (name_of comments t) []

-- the names of the threads by such comments, that of t1 first: as many as there are threads under any limits, or none
-- if there are no comments
abbrev pub person_names : (comments : List ℕ) → List (List ℕ)
person_names [] = []
person_names (byte ∷ bytes) = map (person_name (byte ∷ bytes)) (numbers 1024)

-- what is written of a story that has no fault: what is told of each line of the script that is left of it, with the
-- names that its comments give
abbrev pub story_text : Detail → (story : List ℕ) → List ℕ
story_text detail story = shown_text detail (person_names (names_in story)) (script_of story)

-- it stands behind what the writer held, by what the reader had and has left
abbrev pub WritesStory : Detail → (before after held holds : Option (List ℕ)) → Type 0
WritesStory detail before after held holds =
    (story : List ℕ) × Consumes before after story × Appends held holds (story_text detail story)

-- ---- on the way

-- where a script stands, as a run has it
abbrev pub core_scan : Scan Moment → Scan Table
core_scan s = record {
  listener = option_map (λ m. m.core) s.listener;
  version = s.version;
  line = s.line;
  number = s.number;
  taken = s.taken;
}

-- how many bytes are read at once: one LF, or some of those before the first LF
abbrev pub IsPart : (plain count : ℕ) → Type 0
IsPart zero count = count ≡ 1
IsPart (suc n) count = (0 < count) × (count ≤ suc n)

-- what stands in front of an answer: the line, if these bytes end it
abbrev pub front_told : (ends_line : Bool) → (line : List ℕ) → List ℕ
front_told ends_line line = if ends_line then line_told line else []

-- what is written behind bytes of which this was told: that and what is told of the core, if they ended a line
abbrev pub behind_part : Detail → (names : List (List ℕ)) → (ends_line : Bool) → (told : List ℕ) → Option Moment → List ℕ
behind_part detail names ends_line told None = []
behind_part detail names ends_line told (Some m) = if ends_line then told ++ core_told detail names m else []
