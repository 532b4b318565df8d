-- What is told of the least set of rules.
use Rattle.std.specs.Prelude.{ℕ, ◌-◌, ◌==◌, List, [], ◌∷◌, ◌++◌, Option, Some, None, get_or, codes, count_by, decimal, if◌then◌else◌}
use Rattle.std.specs.List.{flat_map}
use Rattle.pif_types.specs.declared.errors.Errno.{Errno}
use Rattle.pif_types.specs.declared.requests.Request.{Request}
use Rattle.pif_text_model.specs.Calls.{kind_of, row_of}
use Rattle.pif_text_model.specs.Errors.{errno_name, error_of}
use Rattle.pif_history_text.specs.Histories.{Heard, is_begin}
use Rattle.pif_history_told.specs.declared.unlisted.Unlisted.{Unlisted}
use Rattle.pif_rules_model.specs.declared.rules.Rules.{Rules}
use Rattle.pif_rules_model.specs.declared.rules.HoldLimits.{HoldLimits}
use Rattle.pif_rules_model.specs.declared.rules.Rule.{Rule}
use Rattle.pif_rules_model.specs.declared.rules.Rule.TheVariants.{Recursion}
use Rattle.pif_rules.specs.Sets.{name_of}
use Rattle.pif_history_told.specs.Sets.{added}

-- The bounds after the name of `recursion`: those from 255 on by their greatest number alone.
abbrev pub least_text : (least : ℕ) → List ℕ
least_text least = if least == 255 then [] else decimal least ++ codes ".."

abbrev pub limits_text : Option HoldLimits → List ℕ
limits_text None = []
limits_text (Some x) = codes "=" ++ least_text x.least ++ decimal x.most

abbrev pub bounds_text : Rules → Rule → List ℕ
bounds_text r Recursion = limits_text r.recursion
bounds_text r x = []

-- A rule of a set, after a space.
abbrev pub rule_text : Rules → Rule → List ℕ
rule_text r x = codes " " ++ name_of x ++ bounds_text r x

-- The rules of r that add to those of base.
abbrev pub names_of : (base r : Rules) → List ℕ
names_of base r = flat_map (rule_text r) (added base r)

-- Names after a word, if there are any, and the end of the line.
abbrev pub with_names : (word names : List ℕ) → List ℕ
with_names word [] = codes "\n"
with_names word (x ∷ names) = word ++ x ∷ names ++ codes "\n"

-- How many calls a history begins.
abbrev pub calls_in : Heard → ℕ
calls_in h = count_by is_begin h.shown

-- So many calls, if there are some.
abbrev pub calls_word : (calls : ℕ) → List ℕ
calls_word calls = if calls == 1 then codes " call" else codes " calls"

abbrev pub some_calls : (calls : ℕ) → List ℕ
some_calls calls = codes ", " ++ decimal calls ++ calls_word calls

-- The same, or that there is none: nothing was judged then.
abbrev pub calls_text : (calls : ℕ) → List ℕ
calls_text calls = if calls == 0 then codes ", with no call" else some_calls calls

-- A history of so many lines, which begin so many calls, is legal.
abbrev pub legal_front : (lines calls : ℕ) → List ℕ
legal_front lines calls = codes "legal " ++ decimal lines ++ calls_text calls

-- It is legal with the rules of r.
abbrev pub legal_with : (lines calls : ℕ) → (base r : Rules) → List ℕ
legal_with lines calls base r = legal_front lines calls ++ with_names (codes ", with") (names_of base r)

-- The name of an error, of which this is the number.
abbrev pub error_word : Option Errno → List ℕ
error_word None = []
error_word (Some e) = errno_name e

-- The word of a call.
abbrev pub call_word : Request → List ℕ
call_word q = (row_of (kind_of q)).name

-- The line of an answer that no page has, and the answer, and the word of its call, if there is one. The lines have
-- these numbers in the text.
abbrev pub but_for_text : (numbers : List ℕ) → Option Unlisted → List ℕ
but_for_text numbers None = []
but_for_text numbers (Some x) =
    codes ", but for " ++ decimal (get_or numbers (x.line - 1) 0) ++ codes ": " ++ error_word (error_of x.answer) ++ codes " of "
    ++ call_word x.request

-- It is legal, by a run with this answer that no page has, if it has one.
abbrev pub legal_text : (lines calls : ℕ) → (numbers : List ℕ) → Option Unlisted → List ℕ
legal_text lines calls numbers found = legal_front lines calls ++ but_for_text numbers found ++ codes "\n"

-- At the line of this number the search was given up with the rules of r.
abbrev pub undecided_with : (number : ℕ) → (base r : Rules) → List ℕ
undecided_with number base r = codes "undecided at " ++ decimal number ++ with_names (codes " with") (names_of base r)

-- What stands after the first one.
abbrev pub behind_first : List ℕ → List ℕ
behind_first [] = []
behind_first (x ∷ names) = names

-- The rules of r that add to those of base, with a space between them.
abbrev pub rule_names : (base r : Rules) → List ℕ
rule_names base r = behind_first (names_of base r)

-- The rules of r that add to those of base, after a colon, if there are some.
abbrev pub colon_names : List ℕ → List ℕ
colon_names [] = []
colon_names (x ∷ names) = codes ":" ++ x ∷ names

abbrev pub needs_text : (base r : Rules) → List ℕ
needs_text base r = colon_names (names_of base r)
