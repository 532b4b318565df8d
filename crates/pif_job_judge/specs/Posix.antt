-- What POSIX says of a history that wasn't found to be legal: the machine is asked with the rules that hold and with
-- all those of POSIX.
use Rattle.std.specs.Prelude.{⊤, ℕ, Bool, true, false, Option, Some, None, ◌≤◌, ◌-◌, List, [], ◌++◌, length, take, codes, decimal, if◌then◌else◌}
use Rattle.pif_types.specs.Bounds.{Bounds}
use Rattle.pif_rules_model.specs.declared.rules.Rules.{Rules}
use Rattle.pif_rules_model.specs.Sets.{no_rules, posix_rules}
use Rattle.pif_rules.specs.Sets.{both, is_any, names_of}
use Rattle.pif_history_model.specs.declared.lines.Line.{Line}
use Rattle.pif_history_model.specs.declared.lines.Line.TheVariants.{Begin}
use Rattle.pif_history_model.specs.Verdicts.{IsIllegal}
use Rattle.pif_history_machine.specs.declared.verdicts.Verdict.{Verdict}
use Rattle.pif_history_machine.specs.declared.verdicts.Verdict.TheVariants as verdict
use Rattle.pif_history_text.specs.Histories.{Heard}
use Rattle.pif_history_text.specs.Texts.{line_text}
use Rattle.pif_history_text.specs.Verdicts.{colon_line}
use Rattle.pif_history_told.specs.declared.unlisted.Unlisted.{Unlisted}
use Rattle.pif_history_told.specs.Texts.{but_for_text, needs_text, rule_names}
use Rattle.pif_text.specs.Json.{bool_text, quoted}
use Rattle.pif_history_told.specs.Why.{IsNumbered}
use Rattle.pif_job_judge.specs.declared.posix.Says.{Says}
use Rattle.pif_job_judge.specs.declared.posix.Says.TheVariants.{Least, Found, Forbids, Undefined, Undecided}
use Rattle.pif_job_judge.specs.declared.undefined.Begun.{Begun}
use Rattle.pif_job_judge.specs.Undefined.{IsUndefinedBefore}
use Rattle.pif_job_judge.specs.declared.faults.Ended.{Ended}
use Rattle.pif_job_judge.specs.declared.faults.Ended.TheVariants as ended
use Rattle.pif_job_judge.specs.LeastRules.{IsBehindIllegal, IsEnough}

-- What is said of lines, if the rules of base hold in any case: the first set of the rules of POSIX with which they are
-- legal; a set with which they are; the first line up to which no run with all of them shows the lines, perhaps with a
-- call before it whose behaviour POSIX leaves undefined in some run; or the line at which the search with all was given
-- up.
abbrev pub IsSaid : (base : Rules) → Bounds → List Line → Says → Type 0
IsSaid base l lines (Least e) = IsEnough l lines e × IsBehindIllegal base posix_rules l lines e.set
IsSaid base l lines (Found e) = IsEnough l lines e
IsSaid base l lines (Forbids n) = (1 ≤ n) × (n ≤ length lines) × IsIllegal (both posix_rules base) l lines n
IsSaid base l lines (Undefined n b) =
    (1 ≤ n) × (n ≤ length lines) × IsIllegal (both posix_rules base) l lines n
    × IsUndefinedBefore (both posix_rules base) l (take (n - 1) lines) b
IsSaid base l lines (Undecided n) = (1 ≤ n) × (n ≤ length lines)

-- The line that is named, if one is, has this number in the text.
abbrev pub IsNumberedBy : Heard → Says → (number : ℕ) → Type 0
IsNumberedBy h (Least e) number = ⊤
IsNumberedBy h (Found e) number = ⊤
IsNumberedBy h (Forbids n) number = IsNumbered h n number
IsNumberedBy h (Undefined n b) number = IsNumbered h b.count number
IsNumberedBy h (Undecided n) number = IsNumbered h n number

-- Of these rules those that POSIX doesn't allow.
abbrev pub against : Rules → Rules
against r = record no_rules {
  steal = r.steal;
  own_errorcheck = r.own_errorcheck;
  any_consistent = r.any_consistent;
  lost_signal = r.lost_signal;
  revives = r.revives;
}

-- The rules that hold against POSIX, after a word, if there are some.
abbrev pub beside_text : (word : List ℕ) → (base : Rules) → List ℕ
beside_text word base = if is_any (against base) then word ++ names_of (against base) else []

-- POSIX allows it, with rules of r beside those of base, and perhaps fewer.
abbrev pub allows_front : (base r : Rules) → (fewer : List ℕ) → List ℕ
allows_front base r fewer = codes "POSIX allows it" ++ beside_text (codes " with") base ++ needs_text base r ++ fewer

-- It does so by a run with this answer that no page has, if it has one. The lines have these numbers in the text.
abbrev pub allows_text : (base r : Rules) → (fewer numbers : List ℕ) → Option Unlisted → List ℕ
allows_text base r fewer numbers found = allows_front base r fewer ++ but_for_text numbers found ++ codes "\n"

-- POSIX forbids it from the line of this number on.
abbrev pub forbids_text : (base : Rules) → (number : ℕ) → List ℕ
forbids_text base number =
    codes "POSIX" ++ beside_text (codes " and") base
    ++ (if is_any (against base) then codes " forbid it from " else codes " forbids it from ") ++ decimal number ++ codes "\n"

-- POSIX may leave it undefined, since a call begins at the line of this number.
abbrev pub undefined_text : (base : Rules) → (number : ℕ) → Begun → List ℕ
undefined_text base number b =
    codes "POSIX" ++ beside_text (codes " and") base ++ codes " may leave it undefined: " ++ decimal number
    ++ colon_line (Begin b.thread b.request)

-- The search was given up.
abbrev pub undecided_text : (base : Rules) → List ℕ
undecided_text base = codes "POSIX" ++ beside_text (codes " and") base ++ codes ": undecided\n"

-- The line that tells what is said, which names the line of this number if it names one; and the first answer that no
-- page has, if it allows the lines by a run that has one. These have these numbers in the text.
abbrev pub posix_text : (base : Rules) → Says → (number : ℕ) → (numbers : List ℕ) → Option Unlisted → List ℕ
posix_text base (Least e) number numbers found = allows_text base e.rules [] numbers found
posix_text base (Found e) number numbers found = allows_text base e.rules (codes ", perhaps fewer") numbers found
posix_text base (Forbids n) number numbers found = forbids_text base number
posix_text base (Undefined n b) number numbers found = undefined_text base number b
posix_text base (Undecided n) number numbers found = undecided_text base

-- How it ends if POSIX allows what the machine doesn't.
abbrev pub allowed_at : Ended → Ended
allowed_at (ended.Illegal line) = ended.PosixAllows line
allowed_at (ended.Undecided line) = ended.PosixAllows line
allowed_at other = other

-- How it ends by what is said, which names the line of this number if it names one.
abbrev pub posix_end : Ended → Says → (number : ℕ) → Ended
posix_end end (Least e) number = allowed_at end
posix_end end (Found e) number = allowed_at end
posix_end end (Forbids n) number = ended.Illegal number
posix_end end (Undefined n b) number = ended.PosixUndefined number
posix_end end (Undecided n) number = ended.Undecided number

-- The line from which on it forbids them, if it does, and nothing is undefined before.
abbrev pub forbidden_from : Says → Option ℕ
forbidden_from (Forbids n) = Some n
forbidden_from other = None

-- The rules with which POSIX says it: those that make the lines legal, or all of its own beside those of base.
abbrev pub rules_said : (base : Rules) → Says → Rules
rules_said base (Least e) = e.rules
rules_said base (Found e) = e.rules
rules_said base (Forbids n) = both posix_rules base
rules_said base (Undefined n b) = both posix_rules base
rules_said base (Undecided n) = both posix_rules base

-- A history with these rules.
abbrev pub under : Says → Heard → Heard
under says h = record h { allowed = rules_said h.allowed says }

-- What is said, as a verdict with these rules: a run shows the lines; a line is the first up to which there is none; or
-- the search was given up there.
abbrev pub verdict_said : Says → Verdict
verdict_said (Least e) = verdict.Legal e.labels
verdict_said (Found e) = verdict.Legal e.labels
verdict_said (Forbids n) = verdict.Illegal n
verdict_said (Undefined n b) = verdict.Illegal n
verdict_said (Undecided n) = verdict.Undecided n

-- IN JSON

-- A word of what is said, and the rules that hold against POSIX.
unfoldable pub said_front : (word : List ℕ) → (base : Rules) → List ℕ
said_front word base =
    codes "{\"posix\":" ++ quoted word ++ codes ",\"with\":" ++ quoted (rule_names no_rules (against base))

-- POSIX allows it, with rules of r beside those of base. Are they the first set?
abbrev pub allows_object : (base r : Rules) → (least : Bool) → List ℕ
allows_object base r least =
    said_front (codes "allows") base
    ++ (codes ",\"rules\":" ++ quoted (rule_names base r) ++ codes ",\"least\":" ++ bool_text least) ++ codes "}\n"

-- POSIX forbids it from the line of this number on, or the search was given up there.
abbrev pub line_said_object : (word : List ℕ) → (base : Rules) → (number : ℕ) → List ℕ
line_said_object word base number = said_front word base ++ (codes ",\"line\":" ++ decimal number) ++ codes "}\n"

-- POSIX may leave it undefined, since a call begins at the line of this number.
abbrev pub undefined_object : (base : Rules) → (number : ℕ) → Begun → List ℕ
undefined_object base number b =
    said_front (codes "undefined") base
    ++ (codes ",\"line\":" ++ decimal number ++ codes ",\"text\":" ++ quoted (line_text (Begin b.thread b.request)))
    ++ codes "}\n"

-- The line of JSON that tells what is said.
abbrev pub posix_object : (base : Rules) → Says → (number : ℕ) → List ℕ
posix_object base (Least e) number = allows_object base e.rules true
posix_object base (Found e) number = allows_object base e.rules false
posix_object base (Forbids n) number = line_said_object (codes "forbids") base number
posix_object base (Undefined n b) number = undefined_object base number b
posix_object base (Undecided n) number = line_said_object (codes "undecided") base number
