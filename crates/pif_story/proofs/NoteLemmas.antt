-- Notes, one command at a time, and columns, one byte at a time.
use Rattle.std.proofs.Common.{◌≡◌, ◌<◌, ◌≤◌, ℕ, zero, suc, ◌+◌, ◌-◌, ◌&&◌, Bool, true, false, List, [], ◌∷◌, Option, Some, None, refl, sym, ap, ◌∙◌, drop, get_or, length, if◌then◌else◌, arith}
use Rattle.std.proofs.lemmas.List.{drop_all, drop_more}
use Rattle.std.specs.Prelude.{slice_get}
use Rattle.std.specs.List.{cons_option, zip}
use Rattle.pif_script_model.specs.Filling.{more_answers}
use Rattle.pif_script_model.specs.Lines.{StoryRow, is_blank, row_in}
use Rattle.pif_script_model.specs.Stories.{NumberedRow, rows_from}
use Rattle.pif_script_model.proofs.StoriesLemmas.{rows_from_nothing, rows_from_passed, rows_from_row}
use Rattle.pif_story.specs.declared.missing.Known.{Known}
use Rattle.pif_story.specs.declared.missing.Missing.{Missing}
use Rattle.pif_story.specs.declared.missing.Note.{Note}
use Rattle.pif_story.specs.Notes.{begins_with, column_from, is_same, is_told, line_or_empty, nothing_known, notes_of_rows, row_known, row_note, rows_notes, with_found, with_note, with_notes}
use Rattle.pif_story.specs.Rows.{next_known, next_note}

module _ (story : List ℕ) where
  -- the notes that are told once the commands of these lines have theirs, behind those that are told
  unfoldable pub notes_left : List Note → Known → ℕ → (lines answers : List (List ℕ)) → List Note
  notes_left told known number lines answers =
      with_notes told (rows_notes story known (zip (rows_from number lines) answers))

  pub notes_start : (lines answers : List (List ℕ))
      → notes_of_rows story (rows_from 1 lines) answers ≡ notes_left [] nothing_known 1 lines answers
  unfolding notes_of_rows notes_left
  notes_start lines answers = refl

  -- a line without a command
  pub notes_passed : (told : List Note) (known : Known) (number : ℕ) (line : List ℕ) (lines answers : List (List ℕ))
      → row_in line ≡ None
      → notes_left told known number (line ∷ lines) answers ≡ notes_left told known (number + 1) lines answers
  unfolding notes_left
  notes_passed told known number line lines answers e = rw (rows_from_passed number line lines e) refl

  found : (told : List Note) (o : Option Note) (more : List Note)
      → with_notes told (cons_option o more) ≡ with_notes (with_found told o) more
  unfolding with_notes
  found told None more = refl
  found told (Some note) more = refl

  zip-none : {A B : Type 0} (xs : List A) → zip {X = B} xs [] ≡ []
  zip-none [] = refl
  zip-none (x ∷ xs) = refl

  row-left : (told : List Note) (known : Known) (row : NumberedRow) (rows : List NumberedRow) (answers : List (List ℕ))
      → with_notes told (rows_notes story known (zip (row ∷ rows) answers))
      ≡ with_notes (with_found told (next_note story known row.0 row.1 answers))
      (rows_notes story (next_known known row.1 answers) (zip rows (more_answers answers)))
  unfolding rows_notes
  row-left told known row rows [] = rw (zip-none {B = List ℕ} rows) refl
  row-left told known row rows (given ∷ more) =
      found told (row_note story known row.0 row.1 given)
      (rows_notes story (row_known known row.1.0 given) (zip rows more))

  -- a line with a command
  pub notes_row : (whole told new : List Note) (known after : Known) (number : ℕ) (row : StoryRow) (line : List ℕ)
      (lines answers left : List (List ℕ))
      → row_in line ≡ Some row → new ≡ with_found told (next_note story known number row answers)
      → after ≡ next_known known row answers → left ≡ more_answers answers
      → whole ≡ notes_left told known number (line ∷ lines) answers
      → whole ≡ notes_left new after (number + 1) lines left
  unfolding notes_left
  notes_row whole told new known after number row line lines answers left r n k l e =
      e ∙ ap (λ rows. with_notes told (rows_notes story known (zip rows answers))) (rows_from_row number line lines row r)
      ∙ row-left told known (number, row) (rows_from (number + 1) lines) answers
      ∙ sym (rw (n, k, l) refl)

  -- no line is left
  pub notes_end : (told : List Note) (known : Known) (number : ℕ) (answers : List (List ℕ))
      → notes_left told known number [] answers ≡ told
  unfolding notes_left with_notes rows_notes
  notes_end told known number answers = rw (rows_from_nothing number) refl

-- ---- whether something was told

module _ (missing : Missing) (notes : List Note) (i : ℕ) where
  -- the next note is on it
  pub told_here : (d : Note) → i < length notes → is_same (get_or notes i d).missing missing ≡ true
      → is_told missing (drop i notes) ≡ true
  unfolding is_told
  told_here d lt e = ap (is_told missing) (drop_more notes i d lt) ∙ rw e refl

  -- it is not
  pub told_behind : (d : Note) → i < length notes → is_same (get_or notes i d).missing missing ≡ false
      → is_told missing (drop i notes) ≡ is_told missing (drop (i + 1) notes)
  unfolding is_told
  told_behind d lt e = ap (is_told missing) (drop_more notes i d lt) ∙ rw e refl

  -- there is none
  pub told_none : length notes ≤ i → is_told missing (drop i notes) ≡ false
  unfolding is_told
  told_none past = ap (is_told missing) (drop_all i notes past)

-- ---- columns

module _ (word line : List ℕ) (i : ℕ) (begins : Bool) where
  -- the word stands here
  pub column_here : i < length line → begins && begins_with word (drop i line) ≡ true
      → column_from (i + 1) begins word (drop i line) ≡ i + 1
  unfolding column_from
  column_here lt e =
      let cut = drop_more line i 0 lt in
      ap (column_from (i + 1) begins word) cut ∙ rw (rw cut at e) refl

  -- it does not
  pub column_behind : i < length line → begins && begins_with word (drop i line) ≡ false
      → column_from (i + 1) begins word (drop i line)
      ≡ column_from (i + 1 + 1) (is_blank (get_or line i 0)) word (drop (i + 1) line)
  unfolding column_from
  column_behind lt e =
      let cut = drop_more line i 0 lt in
      ap (column_from (i + 1) begins word) cut ∙ rw (rw cut at e) refl

  -- the line ends
  pub column_end : i ≤ length line → length line ≤ i
      → column_from (i + 1) begins word (drop i line) ≡ length line + 1
  unfolding column_from
  column_end within past =
      let all : i ≡ length line = omega (arith, within, past) in
      ap (column_from (i + 1) begins word) (drop_all i line past) ∙ ap (λ n. n + 1) all

-- ---- lines by their numbers

pub line_first : (line : List ℕ) (lines : List (List ℕ)) → line_or_empty (slice_get (line ∷ lines) 0) ≡ line
line_first line lines = refl

pub line_later : (n : ℕ) (line : List ℕ) (lines : List (List ℕ))
    → slice_get (line ∷ lines) (suc n) ≡ slice_get lines n
line_later n line lines = refl

pub line_missing : (n : ℕ) → line_or_empty (slice_get [] n) ≡ []
line_missing zero = refl
line_missing (suc n) = refl
