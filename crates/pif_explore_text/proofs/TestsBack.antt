-- A test is read back from its words.
use Rattle.std.proofs.Common.{◌≡◌, ℕ, ◌<◌, true, false, List, [], ◌∷◌, ◌++◌, Option, Some, None, Ok, refl, ap, ◌∙◌, append_assoc, append-nil, codes, decimal}
use Rattle.std.specs.Prelude.{bytes_eq, option_map}
use Rattle.pif_types.specs.Numbers.{number_of}
use Rattle.pif_history_text.specs.Lines.{answer_in}
use Rattle.pif_text_model.specs.Errors.{error_named}
use Rattle.pif_text_model.specs.Numbers.{number_in}
use Rattle.pif_explore_model.specs.declared.programs.Wanted.{Wanted}
use Rattle.pif_explore_model.specs.declared.programs.Wanted.TheVariants.{Is, IsBelow, IsAbove}
use Rattle.pif_explore_text.specs.declared.programs.Guard.{Guard}
use Rattle.pif_explore_text.specs.declared.programs.Guard.TheVariants.{Answered, Holds}
use Rattle.pif_explore_text.specs.declared.operands.Sign.TheVariants as sign
use Rattle.pif_explore_text.specs.declared.tests.Want.{Want}
use Rattle.pif_explore_text.specs.declared.tests.Want.TheVariants as want
use Rattle.pif_explore_text.specs.Brackets.{Level, blank, level_end, level_with}
use Rattle.pif_explore_text.specs.Tests.{Tested, begun_by, joined_by, tested_by, tested_from, trials, untested, with_answer}
use Rattle.pif_explore_text.specs.Trees.{Trial, asks, opposite, all_of, one_of}
use Rattle.pif_explore_text.specs.Written.{IsCell, IsWritten, cell_name, operand_word}
use Rattle.pif_explore_text.specs.WrittenTests.{IsAsked, asked_words, enclosed_words}
use Rattle.pif_explore_text.proofs.ConditionsBack.{answer_said, between, cell_said, no_number, no_word, not_not, operand_said}

-- in these brackets, where the next word may be this
abbrev at : Level Trial → List (Level Trial) → Want → Tested
at a o w = record { nest = record { level = a; outside = o }; want = w }

-- one word more
step : (a : Level Trial) (o : List (Level Trial)) (w : Want) (word : List ℕ) (rest : List (List ℕ)) (s : Tested)
    → tested_by (at a o w) w word ≡ Ok s
    → tested_from (at a o w) (word ∷ rest) ≡ tested_from s rest
unfolding tested_from
step a o w word rest s is = rw is refl

-- a word at the front of a test that is neither `not` nor `(`
front : (s : Tested) (word : List ℕ) → bytes_eq word (codes "not") ≡ false → bytes_eq word (codes "(") ≡ false
    → begun_by s word ≡ with_answer s word (answer_in word)
unfolding begun_by
front s word is_not is_bracket = rw (is_not, is_bracket) refl

-- the name of a cell is no answer
no_answer : (x : ℕ) → answer_in (cell_name x) ≡ None
unfolding answer_in error_named
no_answer x =
    ap (λ (o : Option ℕ). elim o [ Some n ↦ Some n | None ↦ option_map number_of (error_named (cell_name x)) ])
    (no_number (decimal x))

-- its words ask one thing more
abbrev AsOperand : Trial → Type 0
AsOperand t = (a : Level Trial) (o : List (Level Trial)) (rest : List (List ℕ))
    → tested_from (at a o want.Guard) (enclosed_words t (asked_words t) ++ rest)
    ≡ tested_from (at (level_with trials a t) o want.Connective) rest

-- its words come from the front of brackets to a place at which it is all that stands there
record IsWhole (t : Trial) (o : List (Level Trial)) (rest : List (List ℕ)) : Type 0 where
  asked : Level Trial
  comes : tested_from (at blank o want.Guard) (asked_words t ++ rest)
      ≡ tested_from (at asked o want.Connective) rest
  ends : level_end trials asked asked.ands ≡ Ok t

abbrev AsWhole : Trial → Type 0
AsWhole t = (o : List (Level Trial)) (rest : List (List ℕ)) → IsWhole t o rest

of_an_answer : (n : ℕ) → n < 4294967296 → AsOperand (asks (Answered n))
unfolding number_in
of_an_answer n fits a o rest =
    step a o want.Guard (decimal n) rest _
    (front (at a o want.Guard) (decimal n) (no_word n (codes "not") fits refl) (no_word n (codes "(") fits refl)
    ∙ rw (answer_said n fits) refl)

of_a_cell : (x : ℕ) → IsCell x → (a : Level Trial) (o : List (Level Trial)) (rest : List (List ℕ))
    → tested_from (at a o want.Guard) (cell_name x ∷ rest)
    ≡ tested_from (at a o (want.Sign x)) rest
of_a_cell x is a o rest =
    step a o want.Guard (cell_name x) rest (at a o (want.Sign x))
    (front (at a o want.Guard) (cell_name x) refl refl
    ∙ rw (no_answer x, cell_said x is) refl)

of_a_value : (x : ℕ) → IsCell x → (wanted : Wanted) → IsWritten wanted → AsOperand (asks (Holds x wanted))
of_a_value x is (Is z) fits a o rest =
    of_a_cell x is a o (codes "=" ∷ operand_word z ∷ rest)
    ∙ step a o (want.Sign x) (codes "=") (operand_word z ∷ rest) _ refl
    ∙ step a o (want.Operand x sign.Is) (operand_word z) rest _ (rw (operand_said z fits) refl)
of_a_value x is (IsBelow z) fits a o rest =
    of_a_cell x is a o (codes "<" ∷ operand_word z ∷ rest)
    ∙ step a o (want.Sign x) (codes "<") (operand_word z ∷ rest) _ refl
    ∙ step a o (want.Operand x sign.IsBelow) (operand_word z) rest _ (rw (operand_said z fits) refl)
of_a_value x is (IsAbove z) fits a o rest =
    of_a_cell x is a o (codes ">" ∷ operand_word z ∷ rest)
    ∙ step a o (want.Sign x) (codes ">") (operand_word z ∷ rest) _ refl
    ∙ step a o (want.Operand x sign.IsAbove) (operand_word z) rest _ (rw (operand_said z fits) refl)

of_a_guard : (guard : Guard) → IsAsked (asks guard) → AsOperand (asks guard)
of_a_guard (Answered n) asked = of_an_answer n asked
of_a_guard (Holds x wanted) asked = of_a_value x asked.0 wanted asked.1

-- brackets around all that stands in them
in_brackets : (t : Trial) → AsWhole t → (a : Level Trial) (o : List (Level Trial)) (rest : List (List ℕ))
    → tested_from (at a o want.Guard) ((codes "(" ∷ (asked_words t ++ codes ")" ∷ [])) ++ rest)
    ≡ tested_from (at (level_with trials a t) o want.Connective) rest
unfolding begun_by joined_by
in_brackets t whole a o rest =
    let inner = whole (a ∷ o) (codes ")" ∷ rest) in
    step a o want.Guard (codes "(") ((asked_words t ++ codes ")" ∷ []) ++ rest) (at blank (a ∷ o) want.Guard) refl
    ∙ rw (append_assoc (asked_words t) (codes ")" ∷ []) rest) inner.comes
    ∙ step inner.asked (a ∷ o) want.Connective (codes ")") rest _ (rw inner.ends refl)

as_operand : (t : Trial) → IsAsked t → AsWhole t → AsOperand t
as_operand (asks guard) asked whole = of_a_guard guard asked
as_operand (opposite t) asked whole = in_brackets (opposite t) whole
as_operand (all_of t u) asked whole = in_brackets (all_of t u) whole
as_operand (one_of t u) asked whole = in_brackets (one_of t u) whole

as_whole : (t : Trial) → IsAsked t → AsWhole t
unfolding begun_by joined_by
as_whole (asks guard) asked o rest = record {
  asked = level_with trials blank (asks guard);
  comes = of_a_guard guard asked blank o rest;
  ends = refl;
}
as_whole (opposite t) asked o rest =
    let part = as_operand t asked (as_whole t asked) in
    record {
      asked = level_with trials (record { ors = None; ands = None; denies = true }) t;
      comes = step blank o want.Guard (codes "not") (enclosed_words t (asked_words t) ++ rest) _ refl
          ∙ part (record { ors = None; ands = None; denies = true }) o rest;
      ends = refl;
    }
as_whole (all_of t u) asked o rest =
    let one = as_operand t asked.0 (as_whole t asked.0) in
    let other = as_operand u asked.1 (as_whole u asked.1) in
    record {
      asked = level_with trials (level_with trials blank t) u;
      comes = rw (between (enclosed_words t (asked_words t)) (enclosed_words u (asked_words u)) (codes "and") rest)
          (one blank o (codes "and" ∷ (enclosed_words u (asked_words u) ++ rest))
          ∙ step (level_with trials blank t) o want.Connective (codes "and") (enclosed_words u (asked_words u) ++ rest) _ refl
          ∙ other (level_with trials blank t) o rest);
      ends = refl;
    }
as_whole (one_of t u) asked o rest =
    let one = as_operand t asked.0 (as_whole t asked.0) in
    let other = as_operand u asked.1 (as_whole u asked.1) in
    record {
      asked = level_with trials (record { ors = Some t; ands = None; denies = false }) u;
      comes = rw (between (enclosed_words t (asked_words t)) (enclosed_words u (asked_words u)) (codes "or") rest)
          (one blank o (codes "or" ∷ (enclosed_words u (asked_words u) ++ rest))
          ∙ step (level_with trials blank t) o want.Connective (codes "or") (enclosed_words u (asked_words u) ++ rest) _ refl
          ∙ other (record { ors = Some t; ands = None; denies = false }) o rest);
      ends = refl;
    }

-- each test is read back from its words
pub test_back : (t : Trial) → IsAsked t → tested_from untested (asked_words t) ≡ Ok t
unfolding tested_from
test_back t asked =
    let whole = as_whole t asked [] [] in
    rw (← append-nil (asked_words t)) (whole.comes ∙ whole.ends)

-- two `not`s in a row ask nothing
pub nots-test : (s : Tested) (rest : List (List ℕ)) → s.want ≡ want.Guard
    → tested_from s (codes "not" ∷ codes "not" ∷ rest) ≡ tested_from s rest
unfolding tested_from begun_by
nots-test s rest front = rw (front, not_not s.nest.level.denies) refl
