-- The levels after a walk are those of the kernel by itself once it is settled.
use Rattle.std.proofs.Common.{◌≡◌, ◌⊎◌, ℕ, zero, suc, ◌-◌, ◌<◌, ◌≤◌, ◌==◌, ◌&&◌, Bool, true, false, not, if◌then◌else◌, List, [], ◌∷◌, ◌++◌, length, Option, Some, None, refl, sym, ap, ap₂, ◌∙◌, inl, inr, arith, append-nil}
use Rattle.std.proofs.Math.Path.{fun_ext}
use Rattle.std.specs.List.{filter, list_any}
use Rattle.std.proofs.lemmas.Bool.{cases_eq, true≢false}
use Rattle.std.proofs.lemmas.Bool.Decides.{nat_tests}
use Rattle.std.proofs.lemmas.List.Elements.{filter-append}
use Rattle.pif_nodes_model.specs.Lists.{has}
use Rattle.pif_nodes_model.specs.Table.{NodeLists}
use Rattle.pif_nodes_model.specs.Levels.{Queue, Holds, IsLevel, level_of, level_with}
use Rattle.pif_nodes_model.proofs.LevelWithLemmas.{level_with-from_listed, listed-from_level_with}
use Rattle.pif_kernel_model.specs.Owners.{Owners}
use Rattle.pif_kernel_model.specs.Boosts.{greatest_base, is_other, joins}
use Rattle.pif_kernel_model.specs.Boosts.{level_after_walk}
use Rattle.pif_model.specs.Graph.{is_priority}
use Rattle.pif_model.specs.PiKernel.{is_among, numbers, level_at, moves_to, effective_levels}
use Rattle.pif_model_lemmas.proofs.kernel.Settled.{priority-range}
use Rattle.pif_model_lemmas.proofs.kernel.Numbers.{any_number, no_number, numbers-more}
use Rattle.pif_kernel_model.proofs.Levels.{range_numbers, level-levels_by}
use Rattle.pif_kernel_model.proofs.Picked.{levels_of, among_has, level_seen}

-- numbers of which none passes may be left out
filter_fewer : (f : ℕ → Bool) (n more : ℕ) → n ≤ more → ((u : ℕ) → n < u → f u ≡ false)
    → filter f (numbers more) ≡ filter f (numbers n)
filter_fewer f n zero le h = let e : n ≡ 0 = omega arith in ap (λ (m : ℕ). filter f (numbers m)) (sym e)
filter_fewer f n (suc more) le h = by_place (cases_eq n (suc more)) (λ less. filter_fewer f n more less h)
  where
    by_place : ((n ≡ suc more) ⊎ (n ≡ suc more → ⊥)) → (n ≤ more → filter f (numbers more) ≡ filter f (numbers n))
        → filter f (numbers (suc more)) ≡ filter f (numbers n)
    by_place (inl e) ih = ap (λ (m : ℕ). filter f (numbers m)) (sym e)
    by_place (inr ne) ih =
        let out : f (suc more) ≡ false = h (suc more) (omega arith) in
        ap (filter f) (numbers-more more) ∙ filter-append f (numbers more) (suc more ∷ [])
        ∙ rw out (append-nil (filter f (numbers more))) ∙ ih (omega arith)

module _ (v : Owners) (q : Queue) (tb : NodeLists) (levels : List (List ℕ)) (n : ℕ) (effective : ℕ → ℕ) (holds : Holds q tb)
    (seen : (r : ℕ) → level_at levels r ≡ levels_of q tb r)
    (same : (u : ℕ) → greatest_base v u ≡ effective u) (few : n ≤ length v.seats - 1)
    (off : (u r : ℕ) → n < u → is_among (level_at levels r) u ≡ false) where
  here : (r : ℕ) → IsLevel r → level_at levels r ≡ level_of q tb r
  here r l = seen r ∙ level_seen q tb r l

  abbrev any : ℕ → Bool
  any u = list_any (λ r. is_among (level_at levels r) u) (numbers 99)

  -- the level on which a thread is
  on_level : (u r : ℕ) → is_among (level_at levels r) u ≡ true → level_with q tb u ≡ Some r
  on_level u r e = by_test (is_priority r) refl
    where
      by_test : (b : Bool) → is_priority r ≡ b → level_with q tb u ≡ Some r
      by_test true x =
          let l : IsLevel r = priority-range r x in
          level_with-from_listed q tb u r holds l
          (ap (has u) (sym (here r l)) ∙ sym (among_has (level_at levels r) u) ∙ e)
      by_test false x =
          let none : is_among (level_at levels r) u ≡ false
          = ap (λ (xs : List ℕ). is_among xs u) (seen r) ∙ rw x refl in
          absurd (true≢false (sym e ∙ none))

  other_level : (p u : ℕ) → is_other p (level_with q tb u) ≡ (if is_among (level_at levels p) u then false else any u)
  other_level p u = by_level (level_with q tb u) refl
    where
      not_among : (o : Option ℕ) (r : ℕ) → level_with q tb u ≡ o → (o ≡ Some r → ⊥)
          → is_among (level_at levels r) u ≡ false
      not_among o r e n = by_test (is_among (level_at levels r) u) refl
        where
          by_test : (b : Bool) → is_among (level_at levels r) u ≡ b → is_among (level_at levels r) u ≡ false
          by_test false x = x
          by_test true x = absurd (n (sym e ∙ on_level u r x))

      by_level : (o : Option ℕ) → level_with q tb u ≡ o
          → is_other p o ≡ (if is_among (level_at levels p) u then false else any u)
      by_level None e =
          let none : (r : ℕ) → is_among (level_at levels r) u ≡ false = λ r. not_among None r e (λ x. cc) in
          rw (none p) (sym (no_number (λ (r : ℕ). is_among (level_at levels r) u) 99 none))
      by_level (Some r) e = by_same (cases_eq r p)
        where
          listed : IsLevel r × (has u (level_of q tb r) ≡ true)
          listed = listed-from_level_with q tb u r holds e

          on : is_among (level_at levels r) u ≡ true
          on = among_has (level_at levels r) u ∙ ap (has u) (here r listed.0) ∙ listed.1

          by_same : ((r ≡ p) ⊎ (r ≡ p → ⊥)) → not (r == p) ≡ (if is_among (level_at levels p) u then false else any u)
          by_same (inl x) =
              let at : is_among (level_at levels p) u ≡ true
              = ap (λ (s : ℕ). is_among (level_at levels s) u) (sym x) ∙ on in
              let eq : (r == p) ≡ true = grind (arith, nat_tests) in rw (at, eq) refl
          by_same (inr x) =
              let at : is_among (level_at levels p) u ≡ false
              = not_among (Some r) p e (λ y. x (let z : r ≡ p = cc in z)) in
              let eq : (r == p) ≡ false = grind (arith, nat_tests) in
              let all : any u ≡ true
              = any_number (λ (s : ℕ). is_among (level_at levels s) u) 99 r listed.0.0 listed.0.1 on in
              rw (at, eq, all) refl

  joins_moves : (p u : ℕ) → joins v q tb p u ≡ moves_to effective levels p u
  joins_moves p u =
      ap₂ (λ (a b : Bool). a && b) (ap (λ (x : ℕ). x == p) (same u)) (other_level p u) ∙ by_test (effective u == p)
    where
      by_test : (b : Bool) → (b && (if is_among (level_at levels p) u then false else any u))
          ≡ (if b then (if is_among (level_at levels p) u then false else any u) else false)
      by_test true = refl
      by_test false = refl

  still : (p u : ℕ) → ((r : ℕ) → is_among (level_at levels r) u ≡ false) → moves_to effective levels p u ≡ false
  still p u h = rw (h p, no_number (λ (r : ℕ). is_among (level_at levels r) u) 99 h) (by_test (effective u == p))
    where
      by_test : (b : Bool) → (if b then false else false) ≡ false
      by_test true = refl
      by_test false = refl

  level_walked : (p : ℕ) → IsLevel p
      → level_after_walk v q tb p ≡ filter (λ u. effective u == p) (level_at levels p) ++ filter
      (moves_to effective levels p) (numbers n)
  level_walked p l =
      ap₂ (λ (a b : List ℕ). a ++ b)
      (ap₂ (λ (f : ℕ → Bool) (xs : List ℕ). filter f xs) (fun_ext (λ u. ap (λ (x : ℕ). x == p) (same u)))
      (sym (here p l)))
      (ap₂ (λ (f : ℕ → Bool) (xs : List ℕ). filter f xs) (fun_ext (joins_moves p)) (range_numbers (length v.seats - 1))
      ∙ filter_fewer (moves_to effective levels p) n (length v.seats - 1) few (λ u less. still p u (λ r. off u r less)))

  pub levels_settled : (q' : Queue) (tb' : NodeLists)
      → ((p : ℕ) → IsLevel p → level_of q' tb' p ≡ level_after_walk v q tb p) → (p : ℕ)
      → levels_of q' tb' p ≡ level_at (effective_levels n effective levels) p
  levels_settled q' tb' walks p = by_test (is_priority p) refl
      ∙ sym (level-levels_by (λ r. filter (λ u. effective u == r) (level_at levels r) ++ filter
      (moves_to effective levels r) (numbers n)) p)
    where
      by_test : (b : Bool) → is_priority p ≡ b → (if is_priority p then level_of q' tb' p else [])
          ≡ (if is_priority p then filter (λ u. effective u == p) (level_at levels p) ++ filter
          (moves_to effective levels p) (numbers n) else [])
      by_test false e = rw e refl
      by_test true e = let l : IsLevel p = priority-range p e in rw e (walks p l ∙ level_walked p l)
