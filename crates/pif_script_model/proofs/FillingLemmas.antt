-- Stories that are filled in, line by line.
use Rattle.std.proofs.Common.{◌≡◌, ℕ, ◌==◌, Bool, true, false, cond, List, [], ◌∷◌, ◌++◌, length, max, Option, Some, None, refl, sym, ap, ◌∙◌, append-nil, append_assoc}
use Rattle.std.specs.Prelude.{is_some, option_copied}
use Rattle.std.specs.Borrow.{Bor}
use Rattle.std.specs.List.{join_with_byte}
use Rattle.pif_script_model.specs.declared.forms.Form.{Form}
use Rattle.pif_script_model.specs.declared.forms.Form.TheVariants.{Number}
use Rattle.pif_script_model.specs.Filling.{answers_behind, filled_line, filled_lines, form_from, form_of_row, form_or, form_written, width_from}
use Rattle.std.proofs.lemmas.Bool.{false≢true}
use Rattle.pif_script_model.specs.Lines.{StoryRow, lines, lines_behind, row_in}
use Rattle.pif_script_model.proofs.LinesLemmas.{some_line}

pub width_from_nothing : (least : ℕ) → width_from least [] ≡ least
unfolding width_from
width_from_nothing least = refl

pub width_from_passed : (least : ℕ) (line : List ℕ) (lines : List (List ℕ)) → row_in line ≡ None
    → width_from least (line ∷ lines) ≡ width_from least lines
unfolding width_from
width_from_passed least line lines e = rw e refl

pub width_from_row : (least : ℕ) (line : List ℕ) (lines : List (List ℕ)) (row : StoryRow) → row_in line ≡ Some row
    → width_from least (line ∷ lines) ≡ width_from (max least (length row.0)) lines
unfolding width_from
width_from_row least line lines row e = rw e refl

-- with no line, it is that by numbers
pub form_from_nothing : form_from [] ≡ Number
unfolding form_from
form_from_nothing = refl

pub form_from_passed : (line : List ℕ) (more : List (List ℕ)) → row_in line ≡ None
    → form_from (line ∷ more) ≡ form_from more
unfolding form_from
form_from_passed line more e = ap (λ row. form_of_row row (form_from more)) e

pub form_from_row : (line : List ℕ) (more : List (List ℕ)) (row : StoryRow) → row_in line ≡ Some row
    → form_from (line ∷ more) ≡ form_or (form_written row.1) (form_from more)
unfolding form_from
form_from_row line more row e = ap (λ row. form_of_row row (form_from more)) e

-- the last line
pub filled_last : (width : ℕ) (form : Form) (line : List ℕ) (answers : List (List ℕ))
    → join_with_byte 10 (filled_lines width form (line ∷ []) answers) ≡ filled_line width form line answers
unfolding filled_lines
filled_last width form line answers = refl

-- a line with more behind it
pub filled_more : (width : ℕ) (form : Form) (line text : List ℕ) (answers : List (List ℕ))
    → join_with_byte 10 (filled_lines width form (line ∷ lines text) answers)
    ≡ filled_line width form line answers
    ++ 10 ∷ join_with_byte 10 (filled_lines width form (lines text) (answers_behind line answers))
unfolding filled_lines
filled_more width form line text answers = let some = some_line text in rw some.2 refl

-- with no line left, nothing is left
pub filled_nothing : (width : ℕ) (form : Form) (answers : List (List ℕ)) → join_with_byte 10 (filled_lines width form [] answers) ≡ []
unfolding filled_lines
filled_nothing width form answers = refl

-- a story that is filled in as far as a line, and that line behind it: with an LF if more stands behind
pub filled_on : (width : ℕ) (form : Form) (whole text line : List ℕ) (behind : Option (List ℕ)) (answers left : List (List ℕ))
    → is_some behind ≡ true → left ≡ answers_behind line answers
    → whole ≡ text ++ join_with_byte 10 (filled_lines width form (line ∷ lines_behind behind) answers)
    → whole ≡ ((text ++ filled_line width form line answers) ++ 10 ∷ [])
    ++ join_with_byte 10 (filled_lines width form (lines_behind behind) left)
filled_on width form whole text line None answers left s l e = absurd (false≢true s)
filled_on width form whole text line (Some more) answers left s l e =
    let here = filled_line width form line answers in
    let rest = join_with_byte 10 (filled_lines width form (lines more) (answers_behind line answers)) in
    e ∙ ap (λ t. text ++ t) (filled_more width form line more answers) ∙ sym (append_assoc text here (10 ∷ rest))
    ∙ sym (append_assoc (text ++ here) (10 ∷ []) rest)
    ∙ ap (λ a. ((text ++ here) ++ 10 ∷ []) ++ join_with_byte 10 (filled_lines width form (lines more) a)) (sym l)

pub filled_out : (width : ℕ) (form : Form) (whole text line : List ℕ) (behind : Option (List ℕ)) (answers left : List (List ℕ))
    → is_some behind ≡ false
    → whole ≡ text ++ join_with_byte 10 (filled_lines width form (line ∷ lines_behind behind) answers)
    → whole ≡ (text ++ filled_line width form line answers)
    ++ join_with_byte 10 (filled_lines width form (lines_behind behind) left)
filled_out width form whole text line None answers left s e =
    let here = filled_line width form line answers in
    e ∙ ap (λ t. text ++ t) (filled_last width form line answers) ∙ sym (append-nil (text ++ here))
    ∙ ap (λ t. (text ++ here) ++ t) (sym (filled_nothing width form left))
filled_out width form whole text line (Some more) answers left s e = absurd (false≢true (sym s))

pub filled_whole : (width : ℕ) (form : Form) (whole text : List ℕ) (answers : List (List ℕ))
    → whole ≡ text ++ join_with_byte 10 (filled_lines width form [] answers) → text ≡ whole
filled_whole width form whole text answers e =
    sym (e ∙ ap (λ t. text ++ t) (filled_nothing width form answers) ∙ append-nil text)

-- whether what is left of a text is some, as the code has it
pub some_copied : (o : Option (Bor (List ℕ))) → is_some (option_copied o) ≡ is_some o
some_copied None = refl
some_copied (Some text) = refl
