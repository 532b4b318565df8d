-- The script and the commands of lines, line by line.
use Rattle.std.proofs.Common.{◌≡◌, ℕ, suc, ◌+◌, List, [], ◌∷◌, ◌++◌, Option, Some, None, refl, sym, ap, ◌∙◌, ◌⊎◌, inl, inr, append-nil, append_assoc}
use Rattle.pif_script_model.specs.Lines.{StoryRow, plain_lines, row_in}
use Rattle.pif_script_model.specs.Stories.{NumberedRow, count_in, rows_from, script_by, script_of}

pub rows_from_nothing : (number : ℕ) → rows_from number [] ≡ []
unfolding rows_from
rows_from_nothing number = refl

pub rows_from_passed : (number : ℕ) (line : List ℕ) (lines : List (List ℕ)) → row_in line ≡ None
    → rows_from number (line ∷ lines) ≡ rows_from (number + 1) lines
unfolding rows_from
rows_from_passed number line lines e = rw e refl

pub rows_from_row : (number : ℕ) (line : List ℕ) (lines : List (List ℕ)) (row : StoryRow) → row_in line ≡ Some row
    → rows_from number (line ∷ lines) ≡ (number, row) ∷ rows_from (number + 1) lines
unfolding rows_from
rows_from_row number line lines row e = rw e refl

pub count_in_nothing : count_in [] ≡ 0
unfolding count_in
count_in_nothing = refl

pub count_in_passed : (line : List ℕ) (lines : List (List ℕ)) → row_in line ≡ None
    → count_in (line ∷ lines) ≡ count_in lines
unfolding count_in
count_in_passed line lines e = rw e refl

pub count_in_row : (line : List ℕ) (lines : List (List ℕ)) (row : StoryRow) → row_in line ≡ Some row
    → count_in (line ∷ lines) ≡ suc (count_in lines)
unfolding count_in
count_in_row line lines row e = rw e refl

pub script_by_nothing : script_by [] ≡ []
unfolding script_by
script_by_nothing = refl

pub script_by_row : (row : NumberedRow) (rows : List NumberedRow)
    → script_by (row ∷ rows) ≡ (row.1.0 ++ 10 ∷ []) ++ script_by rows
unfolding script_by
script_by_row row rows = refl

-- the script that lines leave
pub script_in : List (List ℕ) → List ℕ
script_in lines = script_by (rows_from 1 lines)

pub by_option : {A : Type 0} (o : Option A) → (o ≡ None) ⊎ ((x : A) × (o ≡ Some x))
by_option None = inl refl
by_option (Some x) = inr (x, refl)

-- whatever their numbers are
script-same : (m n : ℕ) (lines : List (List ℕ)) → script_by (rows_from m lines) ≡ script_by (rows_from n lines)
script-same m n [] = ap script_by (rows_from_nothing m ∙ sym (rows_from_nothing n))
script-same m n (line ∷ lines) =
    let more = script-same (m + 1) (n + 1) lines in
    elim (by_option (row_in line)) [
      | inl e ↦
          ap script_by (rows_from_passed m line lines e) ∙ more ∙ sym (ap script_by (rows_from_passed n line lines e))
      | inr e ↦
          ap script_by (rows_from_row m line lines e.0 e.1) ∙ script_by_row (m, e.0) (rows_from (m + 1) lines)
          ∙ ap (λ l. (e.0.0 ++ 10 ∷ []) ++ l) more ∙ sym (script_by_row (n, e.0) (rows_from (n + 1) lines))
          ∙ sym (ap script_by (rows_from_row n line lines e.0 e.1))
    ]

pub script_in_nothing : script_in [] ≡ []
unfolding script_in
script_in_nothing = ap script_by (rows_from_nothing 1) ∙ script_by_nothing

pub script_in_passed : (line : List ℕ) (lines : List (List ℕ)) → row_in line ≡ None
    → script_in (line ∷ lines) ≡ script_in lines
unfolding script_in
script_in_passed line lines e = ap script_by (rows_from_passed 1 line lines e) ∙ script-same 2 1 lines

pub script_in_row : (line : List ℕ) (lines : List (List ℕ)) (row : StoryRow) → row_in line ≡ Some row
    → script_in (line ∷ lines) ≡ (row.0 ++ 10 ∷ []) ++ script_in lines
unfolding script_in
script_in_row line lines row e =
    ap script_by (rows_from_row 1 line lines row e) ∙ script_by_row (1, row) (rows_from 2 lines)
    ∙ ap (λ l. (row.0 ++ 10 ∷ []) ++ l) (script-same 2 1 lines)

pub script_in_all : (story : List ℕ) → script_of story ≡ script_in (plain_lines story)
unfolding script_of script_in
script_in_all story = refl

pub script_in_whole : (lines : List (List ℕ)) → script_by (rows_from 1 lines) ≡ script_in lines
unfolding script_in
script_in_whole lines = refl

-- a script that was made as far as a line with a command, and the command and LF behind it
pub script_grown : (whole script line : List ℕ) (behind : List (List ℕ)) (row : StoryRow)
    → whole ≡ script ++ script_in (line ∷ behind) → row_in line ≡ Some row
    → whole ≡ ((script ++ row.0) ++ 10 ∷ []) ++ script_in behind
script_grown whole script line behind row e r =
    e ∙ ap (λ l. script ++ l) (script_in_row line behind row r)
    ∙ sym (append_assoc script (row.0 ++ 10 ∷ []) (script_in behind))
    ∙ ap (λ l. l ++ script_in behind) (sym (append_assoc script row.0 (10 ∷ [])))

-- with no line left, it is whole
pub script_made : (whole script : List ℕ) → whole ≡ script ++ script_in [] → script ≡ whole
script_made whole script e = sym (e ∙ ap (λ l. script ++ l) script_in_nothing ∙ append-nil script)
