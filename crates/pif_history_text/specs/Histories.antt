-- Histories as bytes: their limits and their lines, or their first fault.
use Rattle.std.specs.Prelude.{ℕ, ◌+◌, ◌==◌, ◌||◌, nat_le, Bool, true, false, not, is_some, List, [], ◌∷◌, ◌++◌, length, map, take, Option, Some, None, Result, Ok, Err, if◌then◌else◌}
use Rattle.pif_types.specs.Bounds.{Bounds}
use Rattle.pif_text_model.specs.declared.replies.Cause.{Cause}
use Rattle.pif_text_model.specs.declared.replies.Cause.TheVariants.{Size, Long, Command, Limits as OutOfRange}
use Rattle.pif_script_model.specs.Lines.{lines}
use Rattle.pif_text_model.specs.Words.{words}
use Rattle.pif_script_model.specs.Verdicts.{Fault}
use Rattle.std.specs.List.{list_any}
use Rattle.pif_rules_model.specs.declared.rules.Rules.{Rules}
use Rattle.pif_rules_model.specs.Sets.{no_rules}
use Rattle.pif_history_model.specs.Lines.{adds_no_none, is_no_extra}
use Rattle.pif_history_model.specs.declared.lines.Line.{Line}
use Rattle.pif_history_model.specs.declared.lines.Line.TheVariants.{Begin, Process}
use Rattle.pif_rules.specs.Sets.{both, have_common, is_any}
use Rattle.pif_rules.specs.Words.{are_beyond}
use Rattle.pif_history_text.specs.declared.said.Said.{Said}
use Rattle.pif_history_text.specs.declared.said.Said.TheVariants.{Allow, Limits, Nothing, Shown}
use Rattle.pif_history_text.specs.Lines.{said_in, several_in, text_of_line, threads_in, is_long}

-- A history, or the front of one.
pub record Heard : Type 0 where
  -- The limits that its first line names, if it does.
  pub named : Option Bounds
  -- The rules that it allows.
  pub allowed : Rules
  -- Its lines: all but limits, `allow`, comments and empty lines.
  pub shown : List Line
  -- The number of each of them in the text, from 1.
  pub numbers : List ℕ
  -- How many lines of the text there are, all of them counted.
  pub count : ℕ

-- Before its first line.
abbrev pub unheard : Heard
unheard = record { named = None; allowed = no_rules; shown = []; numbers = []; count = 0 }

-- The greatest limits that a line can write, which no history of this size reaches.
abbrev pub most : Bounds
most = record { threads = 4294967295; mutexes = 4294967295; conds = 4294967295; signals = 4294967295 }

-- The limits of a history: the greatest, if it names none.
abbrev pub limits_of : Heard → Bounds
limits_of h = elim h.named [ Some b ↦ b | None ↦ most ]

-- The number of the next line.
abbrev pub next_number : Heard → ℕ
next_number h = h.count + 1

-- Whether there was a line already that is no comment and not empty.
abbrev pub has_begun : Heard → Bool
has_begun h = is_some h.named || is_any h.allowed || not (length h.shown == 0)

-- Limits, which stand only before all but comments and empty lines.
abbrev pub after_limits : Heard → Bounds → Result Heard Cause
after_limits h b = if has_begun h then Err Command else Ok (record h { named = Some b; count = next_number h })

-- Whether a call was begun already.
abbrev pub is_begin : Line → Bool
is_begin (Begin t q) = true
is_begin _ = false

-- More rules, which stand only before the first call that is begun, each once in a history.
abbrev pub after_allow : Heard → Rules → Result Heard Cause
after_allow h r =
    if list_any is_begin h.shown then Err Command
    else if have_common h.allowed r then Err Command
    else if are_beyond r.recursion then Err OutOfRange
    else Ok (record h { allowed = both h.allowed r; count = next_number h })

-- These rules, and whether mutexes of PTHREAD_PRIO_NONE may be added, and the lines `process`, `halted` and `resumed`
-- may stand: a line that does so allows it.
abbrev pub allowed_by : Rules → Line → Rules
allowed_by r l = record r {
  prio_none = r.prio_none || not (adds_no_none l);
  extra_lines = r.extra_lines || not (is_no_extra l);
}

-- One line more that is shown by runs, or by none.
abbrev pub after_shown : Heard → Line → Heard
after_shown h l = record h {
  allowed = allowed_by h.allowed l;
  shown = h.shown ++ l ∷ [];
  numbers = h.numbers ++ next_number h ∷ [];
  count = next_number h;
}

-- One line of the text that names the threads of a process: a line more for each of them.
abbrev pub after_process : Heard → List ℕ → Heard
after_process h ts = record h {
  allowed = record h.allowed { extra_lines = true };
  shown = h.shown ++ map Process ts;
  numbers = h.numbers ++ map (λ t. next_number h) ts;
  count = next_number h;
}

-- The same, if there are such threads.
abbrev pub after_threads : Heard → Option (List ℕ) → Result Heard Cause
after_threads h None = Err Command
after_threads h (Some ts) = Ok (after_process h ts)

-- One more line of the text, by what it says.
abbrev pub after_said : Heard → Option Said → Result Heard Cause
after_said h None = Err Command
after_said h (Some Nothing) = Ok (record h { count = next_number h })
after_said h (Some (Limits t m c s)) =
    after_limits h (record { threads = t; mutexes = m; conds = c; signals = s })
after_said h (Some (Allow r)) = after_allow h r
after_said h (Some (Shown l)) = Ok (after_shown h l)

-- One more line of this text: several threads of a process, or what it says.
unfoldable pub after_text : Heard → List ℕ → Result Heard Cause
after_text h text =
    elim (several_in (words text)) [ Some names ↦ after_threads h (threads_in names) | None ↦ after_said h (said_in text) ]

-- One more line of the text, of these bytes.
unfoldable pub after_line : Heard → List ℕ → Result Heard Cause
after_line h bytes =
    if is_long (next_number h) bytes then Err Long
    else after_text h (text_of_line (next_number h) bytes)

-- A fault of the next line.
abbrev pub fault_at : Heard → Cause → Result Heard Fault
fault_at h cause = Err (next_number h, cause)

abbrev pub numbered : Heard → Result Heard Cause → Result Heard Fault
numbered h (Ok m) = Ok m
numbered h (Err cause) = fault_at h cause

-- The end of the text, after which there is nothing: what stands after the last LF is a line, unless it is empty.
abbrev pub at_end : Heard → List ℕ → Result Heard Fault
at_end h [] = Ok h
at_end h (b ∷ bs) = numbered h (after_line h (b ∷ bs))

-- The end of the bytes that a history may have, with more after it: the line that stands there is too long already, or
-- the history is too large.
abbrev pub cut_off : Heard → List ℕ → Result Heard Fault
cut_off h bytes = if is_long (next_number h) bytes then fault_at h Long else fault_at h Size

-- What comes after a line, if the line is no fault.
abbrev pub goes_behind : (Heard → Result Heard Fault) → Result Heard Fault → Result Heard Fault
goes_behind more (Ok m) = more m
goes_behind more (Err fault) = Err fault

-- These lines, up to the first fault. The last one has no LF, and after it is nothing if all is read.
unfoldable pub heard_from : (is_all : Bool) → Heard → List (List ℕ) → Result Heard Fault
heard_from is_all h [] = Ok h
heard_from is_all h (bytes ∷ []) = if is_all then at_end h bytes else cut_off h bytes
heard_from is_all h (bytes ∷ next ∷ more) =
    goes_behind (λ m. heard_from is_all m (next ∷ more)) (numbered h (after_line h bytes))

-- The most bytes of a history.
abbrev pub most_bytes : ℕ
most_bytes = 268435456

-- The history of these bytes, or its first fault.
unfoldable pub history_of : List ℕ → Result Heard Fault
history_of bytes = heard_from (nat_le (length bytes) most_bytes) unheard (lines (take most_bytes bytes))
