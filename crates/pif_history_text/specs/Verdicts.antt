-- What is told of a history, line by line.
use Rattle.std.specs.Prelude.{ℕ, List, [], ◌∷◌, ◌++◌, flat_map, codes, decimal}
use Rattle.pif_types.specs.declared.requests.Request.{Request}
use Rattle.pif_text_model.specs.declared.replies.Cause.{Cause}
use Rattle.pif_text_model.specs.Errors.{error_of}
use Rattle.pif_text_model.specs.Replies.{add_fault_word, error_text, refusal_word, fault_of}
use Rattle.pif_history_model.specs.declared.lines.Line.{Line}
use Rattle.pif_history_model.specs.declared.lines.Line.TheVariants.{Answer, Begin}
use Rattle.pif_history_model.specs.declared.refusals.LineRefusal.{LineRefusal}
use Rattle.pif_history_model.specs.declared.refusals.LineRefusal.TheVariants.{Addition, Event, Halt}
use Rattle.pif_history_text.specs.Texts.{line_text}

-- A number after what it counts or numbers.
abbrev pub at_number : (head : List ℕ) → ℕ → List ℕ
at_number head number = head ++ decimal number

-- A line of a history after its number, and the end of the line.
abbrev pub colon_line : Line → List ℕ
colon_line line = codes ": " ++ line_text line ++ codes "\n"

-- A history of so many lines is legal.
abbrev pub legal_line : (lines : ℕ) → List ℕ
legal_line lines = at_number (codes "legal ") lines ++ codes "\n"

-- The line of this number is the first up to which there is no run.
abbrev pub illegal_line : (number : ℕ) → Line → List ℕ
illegal_line number line = at_number (codes "illegal at ") number ++ colon_line line

-- The line of this number is the first fault.
abbrev pub fault_line : (number : ℕ) → Cause → List ℕ
fault_line number cause = fault_of number cause ++ codes "\n"

-- Why no run has a line, whatever was answered, in the word of scripts.
abbrev pub line_refusal_word : LineRefusal → List ℕ
line_refusal_word (Addition why) = add_fault_word why
line_refusal_word (Event why) = refusal_word why
line_refusal_word Halt = codes "halted"

-- No run has the line, whatever was answered.
abbrev pub refused_line : LineRefusal → List ℕ
refused_line why = codes "refused " ++ line_refusal_word why ++ codes "\n"

-- An answer, and after it the name of its error, if it is one.
abbrev pub answer_text : ℕ → List ℕ
answer_text a = decimal a ++ error_text (error_of a)

-- A number that may stand in a line: of an `answer` with its name, of a `prio` alone.
abbrev pub number_text : Line → ℕ → List ℕ
number_text (Answer t a) n = answer_text n
number_text line n = decimal n

-- Numbers that may stand in a line, with a comma between them, or `none` if there are none.
abbrev pub numbers_text : Line → List ℕ → List ℕ
numbers_text line [] = codes "none"
numbers_text line (n ∷ ns) = number_text line n ++ flat_map (λ k. codes ", " ++ number_text line k) ns

-- These may stand in a line in place of its answer or its priority.
abbrev pub possible_line : Line → List ℕ → List ℕ
possible_line line ns = codes "possible there: " ++ numbers_text line ns ++ codes "\n"

-- The search for such numbers was given up.
abbrev pub possible_undecided : List ℕ
possible_undecided = codes "possible there: undecided\n"

-- With these in place of its answer or its priority a search found a run. It claims nothing of others.
abbrev pub found_line : Line → List ℕ → List ℕ
found_line line ns = codes "found there: " ++ numbers_text line ns ++ codes "\n"

-- The open call of a thread began at the line of this number.
abbrev pub began_line : (number thread : ℕ) → Request → List ℕ
began_line number thread request =
    at_number (codes "its call began at ") number ++ colon_line (Begin thread request)
