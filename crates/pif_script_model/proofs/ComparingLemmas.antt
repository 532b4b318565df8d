-- Comparing commands from one of them on.
use Rattle.std.proofs.Common.{◌≡◌, ℕ, zero, suc, ◌+◌, ◌-◌, ◌<◌, ◌≤◌, nat_le, Bool, true, false, List, [], ◌∷◌, ◌++◌, take, Option, Some, None, refl, sym, ap, ◌∙◌, append_assoc, arith, if◌then◌else◌}
use Rattle.std.specs.Prelude.{filter_map, slice_get}
use Rattle.std.specs.List.{cons_option, zip}
use Rattle.std.proofs.lemmas.Bool.Decides.{nat_tests}
use Rattle.pif_text_model.specs.declared.replies.Cause.{Cause}
use Rattle.pif_script_model.specs.Lines.{StoryRow, row_in}
use Rattle.pif_script_model.specs.Stories.{rows_from}
use Rattle.pif_script_model.proofs.StoriesLemmas.{rows_from_row}
use Rattle.pif_script_model.specs.Comparing.{cause_at, row_flaws}
use Rattle.pif_script_model.specs.Filling.{more_answers}
use Rattle.pif_script_model.specs.Verdicts.{Fault, Flaw, fault_at, faulty, flaw_at, flaws_of_rows}

-- the commands that are answered, behind so many
abbrev pub rows_left : Option Fault → ℕ → List (ℕ × StoryRow) → List (ℕ × StoryRow)
rows_left None before rows = rows
rows_left (Some fault) before rows = take (fault.0 - 1 - before) rows

-- the flaw of the fault, behind so many commands
abbrev pub fault_left : ℕ → Option Fault → ℕ → List (ℕ × StoryRow) → List Flaw
fault_left last None before rows = []
fault_left last (Some fault) before rows = fault_at last fault.1 (slice_get rows (fault.0 - 1 - before)) ∷ []

-- the flaws of commands behind so many
unfoldable pub flaws_from : (strict : Bool) → ℕ → Option Fault → ℕ → List (ℕ × StoryRow) → List (List ℕ) → List Flaw
flaws_from strict last fault before rows answers =
    filter_map (flaw_at strict) (zip (rows_left fault before rows) answers) ++ fault_left last fault before rows

pub flaws_start : (strict : Bool) (last : ℕ) (fault : Option Fault) (rows : List (ℕ × StoryRow))
    (answers : List (List ℕ))
    → flaws_of_rows strict last fault rows answers ≡ flaws_from strict last fault 0 rows answers
unfolding flaws_of_rows flaws_from
flaws_start strict last None rows answers = refl
flaws_start strict last (Some fault) rows answers =
    let same : fault.0 - 1 - 0 ≡ fault.0 - 1 = omega arith in rw same refl

zip-none : {A B : Type 0} (xs : List A) → zip {X = B} xs [] ≡ []
zip-none [] = refl
zip-none (x ∷ xs) = refl

module _ (strict : Bool) (last before : ℕ) (row : ℕ × StoryRow) (rows : List (ℕ × StoryRow)) where
  -- the next command is a fault
  pub flaws_faulty : (fault : Option Fault) (answers : List (List ℕ)) (cause : Cause)
      → cause_at fault (before + 1) ≡ Some cause
      → flaws_from strict last fault before (row ∷ rows) answers ≡ faulty row.0 row.1.0 cause ∷ []
  unfolding flaws_from
  flaws_faulty None answers cause e = cc
  flaws_faulty (Some fault) answers cause e = by_test (nat_le fault.0 (before + 1)) refl e
    where
      by_test : (b : Bool) → nat_le fault.0 (before + 1) ≡ b
          → (if b then Some fault.1 else None) ≡ Some cause
          → flaws_from strict last (Some fault) before (row ∷ rows) answers ≡ faulty row.0 row.1.0 cause ∷ []
      by_test true t e =
          let le : fault.0 ≤ before + 1 = grind (arith, nat_tests) in
          let none : fault.0 - 1 - before ≡ 0 = omega arith in
          let same : fault.1 ≡ cause = cc in
          rw (none, same) refl
      by_test false t e = cc

  first-flaw : (o : Option Flaw) (pairs : List ((ℕ × StoryRow) × List ℕ)) (given : List ℕ) (end : List Flaw)
      → flaw_at strict (row, given) ≡ o
      → filter_map (flaw_at strict) ((row, given) ∷ pairs) ++ end
      ≡ cons_option o [] ++ (filter_map (flaw_at strict) pairs ++ end)
  first-flaw None pairs given end e = rw e refl
  first-flaw (Some flaw) pairs given end e = rw e refl

  -- it is none, and is compared
  answered : (fault : Option Fault) (given : List ℕ) (more : List (List ℕ)) → cause_at fault (before + 1) ≡ None
      → flaws_from strict last fault before (row ∷ rows) (given ∷ more)
      ≡ row_flaws strict row.0 row.1 (given ∷ more) ++ flaws_from strict last fault (before + 1) rows more
  unfolding flaws_from
  answered None given more e = first-flaw _ (zip rows more) given [] refl
  answered (Some fault) given more e = by_test (nat_le fault.0 (before + 1)) refl e
    where
      by_test : (t : Bool) → nat_le fault.0 (before + 1) ≡ t → (if t then Some fault.1 else None) ≡ None
          → flaws_from strict last (Some fault) before (row ∷ rows) (given ∷ more)
          ≡ row_flaws strict row.0 row.1 (given ∷ more) ++ flaws_from strict last (Some fault) (before + 1) rows more
      by_test true t e = cc
      by_test false t e =
          let gt : before + 1 < fault.0 = grind (arith, nat_tests) in
          let left : fault.0 - 1 - before ≡ suc (fault.0 - 1 - (before + 1)) = omega arith in
          rw left (first-flaw _ (zip (take (fault.0 - 1 - (before + 1)) rows) more) given _ refl)

  -- it is none, and nothing is printed for it
  unanswered : (fault : Option Fault) → cause_at fault (before + 1) ≡ None
      → flaws_from strict last fault before (row ∷ rows) [] ≡ flaws_from strict last fault (before + 1) rows []
  unfolding flaws_from
  unanswered None e = rw (zip-none {B = List ℕ} rows) refl
  unanswered (Some fault) e = by_test (nat_le fault.0 (before + 1)) refl e
    where
      by_test : (t : Bool) → nat_le fault.0 (before + 1) ≡ t → (if t then Some fault.1 else None) ≡ None
          → flaws_from strict last (Some fault) before (row ∷ rows) []
          ≡ flaws_from strict last (Some fault) (before + 1) rows []
      by_test true t e = cc
      by_test false t e =
          let gt : before + 1 < fault.0 = grind (arith, nat_tests) in
          let left : fault.0 - 1 - before ≡ suc (fault.0 - 1 - (before + 1)) = omega arith in
          rw (left, zip-none {B = List ℕ} (take (fault.0 - 1 - (before + 1)) rows)) refl

  -- so it has its flaw, and the others theirs
  pub flaws_next : (fault : Option Fault) (answers : List (List ℕ)) → cause_at fault (before + 1) ≡ None
      → flaws_from strict last fault before (row ∷ rows) answers
      ≡ row_flaws strict row.0 row.1 answers
      ++ flaws_from strict last fault (before + 1) rows (more_answers answers)
  flaws_next fault [] e = unanswered fault e
  flaws_next fault (given ∷ more) e = answered fault given more e

-- at the end
pub flaws_end : (strict : Bool) (last before : ℕ) (fault : Option Fault) (answers : List (List ℕ))
    → flaws_from strict last fault before [] answers
    ≡ (elim fault [ None ↦ [] | Some f ↦ faulty last [] f.1 ∷ [] ])
unfolding flaws_from
flaws_end strict last before None answers = refl
flaws_end strict last before (Some fault) answers = rw (take-none (fault.0 - 1 - before)) refl
  where
    take-none : (n : ℕ) → ◌≡◌ {A = List (ℕ × StoryRow)} (take n []) []
    take-none zero = refl
    take-none (suc n) = refl

-- ---- what was found so far, and what is left

-- the next command is a fault
pub found_faulty : (strict : Bool) (last before number : ℕ) (row : StoryRow) (line : List ℕ) (behind : List (List ℕ))
    (fault : Option Fault) (answers : List (List ℕ)) (cause : Cause) (whole found : List Flaw)
    → row_in line ≡ Some row → cause_at fault (before + 1) ≡ Some cause
    → whole ≡ found ++ flaws_from strict last fault before (rows_from number (line ∷ behind)) answers
    → found ++ faulty number row.0 cause ∷ [] ≡ whole
found_faulty strict last before number row line behind fault answers cause whole found r c e =
    sym (e
    ∙ ap (λ rows. found ++ flaws_from strict last fault before rows answers) (rows_from_row number line behind row r)
    ∙ ap (λ l. found ++ l) (flaws_faulty strict last before (number, row) (rows_from (number + 1) behind) fault answers cause c))

-- it is none
pub found_next : (strict : Bool) (last before number : ℕ) (row : StoryRow) (line : List ℕ) (behind : List (List ℕ))
    (fault : Option Fault) (answers left : List (List ℕ)) (whole found new : List Flaw)
    → row_in line ≡ Some row → cause_at fault (before + 1) ≡ None → left ≡ more_answers answers
    → new ≡ found ++ row_flaws strict number row answers
    → whole ≡ found ++ flaws_from strict last fault before (rows_from number (line ∷ behind)) answers
    → whole ≡ new ++ flaws_from strict last fault (before + 1) (rows_from (number + 1) behind) left
found_next strict last before number row line behind fault answers left whole found new r c l n e =
    let rest = rows_from (number + 1) behind in
    e
    ∙ ap (λ rows. found ++ flaws_from strict last fault before rows answers) (rows_from_row number line behind row r)
    ∙ ap (λ flaws. found ++ flaws) (flaws_next strict last before (number, row) rest fault answers c)
    ∙ sym (append_assoc found (row_flaws strict number row answers) _)
    ∙ ap (λ flaws. flaws ++ flaws_from strict last fault (before + 1) rest (more_answers answers)) (sym n)
    ∙ ap (λ answers. new ++ flaws_from strict last fault (before + 1) rest answers) (sym l)
