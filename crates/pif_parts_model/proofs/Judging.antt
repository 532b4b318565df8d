-- Verdicts of parts are those of the whole.
use Rattle.std.proofs.Common.{ℕ, suc, ◌≡◌, ◌≤◌, ◌+◌, ◌-◌, ◌∙◌, List, [], ◌∷◌, ◌++◌, take, reverse, length, length-append, refl, sym, ap, subst, arith}
use Rattle.std.proofs.lemmas.List.{take-append-le, reverse-append}
use Rattle.pif_types.specs.Bounds.{Bounds}
use Rattle.pif_rules_model.specs.Sets.{no_rules}
use Rattle.pif_model.specs.Posix.{World}
use Rattle.pif_posix_steps.specs.Alike.{IsAlike}
use Rattle.pif_history_model.specs.declared.lines.Line.{Line}
use Rattle.pif_history_model.specs.Shown.{IsShown}
use Rattle.pif_history_model.specs.Verdicts.{IsShownBy, IsIllegal}
use Rattle.pif_history_model.specs.Verdicts.IsShownBy.{plainly}
use Rattle.pif_history_model.proofs.Completeness.{reached-from_cut}
use Rattle.pif_history_model.proofs.Widening.{plain-from_shown}
use Rattle.pif_history_model.specs.Lines.{dying_by}
use Rattle.pif_parts_model.specs.Quiet.{IsQuiet}
use Rattle.pif_parts_model.specs.Resting.{world_by, rest_by}
use Rattle.pif_parts_model.specs.Parts.{IsShownFrom, IsIllegalFrom}
use Rattle.pif_parts_model.proofs.Cutting.{tells_state, cut_there, join_there}

-- LISTS

take_more : {A : Type 0} (xs : List A) (n : ℕ) (ys : List A) → take (length xs + n) (xs ++ ys) ≡ xs ++ take n ys
take_more {A} [] n ys = ap (λ k. take k ys) (let e : length {A = A} [] + n ≡ n = omega arith in e)
take_more (x ∷ xs) n ys =
    ap (λ k. take k (x ∷ (xs ++ ys))) (let e : length (x ∷ xs) + n ≡ suc (length xs + n) = omega arith in e)
    ∙ ap (λ zs. x ∷ zs) (take_more xs n ys)

reverse_more : {A : Type 0} (xs : List A) (n : ℕ) (ys : List A)
    → reverse (take (length xs + n) (xs ++ ys)) ≡ reverse (take n ys) ++ reverse xs
reverse_more xs n ys = ap reverse (take_more xs n ys) ∙ reverse-append xs (take n ys)

-- VERDICTS

-- a verdict on the first part is one on the whole
pub illegal_in_first : (l : Bounds) (first second : List Line) (n : ℕ) → IsIllegal no_rules l first n
    → IsIllegal no_rules l (first ++ second) n
illegal_in_first l first second n x = record {
  some = x.some;
  within = omega (arith, x.within, length-append first second);
  illegal = λ y. x.illegal (subst (λ (zs : List Line). IsShownBy no_rules l (reverse zs)) (take-append-le n first second x.within) y);
  legal = subst (λ (zs : List Line). IsShownBy no_rules l (reverse zs))
      (sym (take-append-le (n - 1) first second (omega (arith, x.within)))) x.legal;
}

module _ (l : Bounds) (first : List Line) (q : IsQuiet (reverse first)) (legal : IsShown l (reverse first)) (second : List Line) where
  pub legal_behind : IsShownFrom l (rest_by l (reverse first)) (reverse second) → IsShown l (reverse (first ++ second))
  legal_behind x =
      subst (λ (zs : List Line). IsShown l zs) (sym (reverse-append first second))
      (join_there l (reverse first) q (reverse second) legal x)

  pub illegal_behind : (n : ℕ) → IsIllegalFrom l (rest_by l (reverse first)) second n
      → IsIllegal no_rules l (first ++ second) (length first + n)
  illegal_behind n x = record {
    some = omega (arith, x.some);
    within = omega (arith, x.within, length-append first second);
    illegal = λ y.
        x.illegal (cut_there l (reverse first) q (reverse (take n second))
        (subst (λ (zs : List Line). IsShown l zs) (reverse_more first n second)
        (plain-from_shown l (reverse (take (length first + n) (first ++ second))) y))).1;
    legal = plainly refl (subst (λ (zs : List Line). IsShown l zs)
        (sym (ap (λ k. reverse (take k (first ++ second))) less ∙ reverse_more first (n - 1) second))
        (join_there l (reverse first) q (reverse (take (n - 1) second)) legal x.legal));
  }
    where
      less : (length first + n) - 1 ≡ length first + (n - 1)
      less = omega (arith, x.some)

-- and back: a part whose nth line is the first illegal one of the whole
module _ (l : Bounds) (first : List Line) (q : IsQuiet (reverse first)) (second : List Line) (n : ℕ) (some : 1 ≤ n)
    (x : IsIllegal no_rules l (first ++ second) (length first + n)) where
  less_one : (length first + n) - 1 ≡ length first + (n - 1)
  less_one = omega (arith, some)

  before_that : IsShown l (reverse (take (n - 1) second) ++ reverse first)
  before_that =
      subst (λ (zs : List Line). IsShown l zs) (ap (λ k. reverse (take k (first ++ second))) less_one ∙ reverse_more first (n - 1) second)
      (plain-from_shown l (reverse (take ((length first + n) - 1) (first ++ second))) x.legal)

  pub illegal_from : IsIllegalFrom l (rest_by l (reverse first)) second n
  illegal_from = (let cut = cut_there l (reverse first) q (reverse (take (n - 1) second)) before_that in record {
    some = some;
    within = omega (arith, x.within, length-append first second);
    illegal = λ y.
        x.illegal (plainly refl (subst (λ (zs : List Line). IsShown l zs) (sym (reverse_more first n second))
        (join_there l (reverse first) q (reverse (take n second)) cut.0 y)));
    legal = cut.1;
  })

-- the last state of a run that shows quiet lines
pub state_of_run : (l : Bounds) (lines : List Line) → IsQuiet lines → (x : IsShown l lines) → IsAlike x.last (world_by l lines)
state_of_run l lines q x =
    (tells_state l lines q (record { world = x.last; dying = dying_by lines })
    (reached-from_cut l lines x.history x.before x.last x.run x.cut)).world

-- two histories that rest in one state go on alike
pub go_on_alike : (l : Bounds) (before others later : List Line) → IsQuiet before → IsQuiet others
    → world_by l before ≡ world_by l others → IsShown l others → IsShown l (later ++ before) → IsShown l (later ++ others)
go_on_alike l before others later q r same legal x =
    join_there l others r later legal
    (subst (λ (w : World). IsShownFrom l (record { world = w; dying = [] }) later) same (cut_there l before q later x).1)
