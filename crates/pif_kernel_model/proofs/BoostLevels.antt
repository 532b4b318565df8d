-- Lemmas on the levels of a run queue while a walk moves one thread after the other: so far the threads up to k.
use Rattle.std.proofs.Common.{◌≡◌, ◌≢◌, ◌⊎◌, ℕ, zero, suc, ◌<◌, ◌≤◌, ◌+◌, ◌-◌, Bool, true, false, ◌==◌, eqb, nat_lt, nat_eq, not, ◌&&◌, ◌||◌, cond, List, [], ◌∷◌, ◌++◌, length, Option, Some, None, refl, sym, ap, ◌∙◌, subst, inl, inr, if◌then◌else◌, append_assoc, append-nil, arith}
use Rattle.std.specs.List.{filter, range_with_len}
use Rattle.std.specs.Option.{is_some}
use Rattle.std.proofs.lemmas.Bool.{cases_eq, cases_Bool, eq-eqb, ne_eqb, eqb-true, or_left, or_right, or_cases, and_left, and_right, false_from_ne_true, true≢false}
use Rattle.std.proofs.lemmas.Bool.Decides.{nat_tests}
use Rattle.std.proofs.lemmas.List.Elements.{filter-append}
use Rattle.pif_nodes_model.specs.Lists.{has, list_without}
use Rattle.pif_nodes_model.specs.Table.{NodeLists}
use Rattle.pif_nodes_model.proofs.ListLemmas.{has-head, has-append, without_absent}
use Rattle.pif_nodes_model.specs.Levels.{Queue, IsLevel, level_of, level_with, Holds, level_after_move}
use Rattle.std.proofs.lemmas.Option.{same_Some}
use Rattle.pif_nodes_model.proofs.LevelWithLemmas.{level_with-from_listed, listed-from_level_with}
use Rattle.pif_kernel_model.specs.Owners.{Owners}
use Rattle.pif_kernel_model.specs.Boosts.{greatest_base, is_other, joins, level_after_walk}

-- LISTS

-- two tests that agree on the numbers of a list keep the same ones
pub filter_on : (f g : ℕ → Bool) (xs : List ℕ) → ((x : ℕ) → has x xs ≡ true → f x ≡ g x) → filter f xs ≡ filter g xs
filter_on f g [] h = refl
filter_on f g (x ∷ xs) h =
    let head : f x ≡ g x = h x (has-head x xs) in
    let rest : filter f xs ≡ filter g xs = filter_on f g xs (λ y m. h y (or_right (eqb y x) (has y xs) m)) in
    λ i. cond (head i) (x ∷ rest i) (rest i)

-- what a filter keeps was there and passes
pub has-filter : (f : ℕ → Bool) (u : ℕ) (xs : List ℕ) → has u (filter f xs) ≡ true → (has u xs ≡ true) × (f u ≡ true)
has-filter f u [] h = absurd (true≢false (sym h))
has-filter f u (x ∷ xs) h = by_test (has-filter f u xs) (cases_Bool (f x))
  where
    by_place : (has u (filter f xs) ≡ true → (has u xs ≡ true) × (f u ≡ true)) → f x ≡ true → ((eqb u x ≡ true) ⊎ (has u (filter f xs) ≡ true))
        → (has u (x ∷ xs) ≡ true) × (f u ≡ true)
    by_place ih y (inl e) = (or_left (eqb u x) (has u xs) e, ap f (eqb-true u x e) ∙ y)
    by_place ih y (inr m) = let r = ih m in (or_right (eqb u x) (has u xs) r.0, r.1)

    by_test : (has u (filter f xs) ≡ true → (has u xs ≡ true) × (f u ≡ true)) → ((f x ≡ true) ⊎ (f x ≡ false)) → (has u (x ∷ xs) ≡ true) × (f u ≡ true)
    by_test ih (inl y) =
        let k : has u (x ∷ filter f xs) ≡ true = subst (λ (b : Bool). has u (cond b (x ∷ filter f xs) (filter f xs)) ≡ true) y h in
        by_place ih y (or_cases (eqb u x) (has u (filter f xs)) k)
    by_test ih (inr n) =
        let k : has u (filter f xs) ≡ true = subst (λ (b : Bool). has u (cond b (x ∷ filter f xs) (filter f xs)) ≡ true) n h in
        let r = ih k in (or_right (eqb u x) (has u xs) r.0, r.1)

-- what passes it keeps
filter-has : (f : ℕ → Bool) (u : ℕ) (xs : List ℕ) → f u ≡ true → has u xs ≡ true → has u (filter f xs) ≡ true
filter-has f u [] y h = h
filter-has f u (x ∷ xs) y h = by_place (filter-has f u xs y) (or_cases (eqb u x) (has u xs) h)
  where
    by_test : (has u xs ≡ true → has u (filter f xs) ≡ true) → has u xs ≡ true → (b : Bool) → has u (cond b (x ∷ filter f xs) (filter f xs)) ≡ true
    by_test ih m true = or_right (eqb u x) (has u (filter f xs)) (ih m)
    by_test ih m false = ih m

    by_place : (has u xs ≡ true → has u (filter f xs) ≡ true) → ((eqb u x ≡ true) ⊎ (has u xs ≡ true)) → has u (filter f (x ∷ xs)) ≡ true
    by_place ih (inl e) =
        let t : f x ≡ true = ap f (sym (eqb-true u x e)) ∙ y in
        subst (λ (b : Bool). has u (cond b (x ∷ filter f xs) (filter f xs)) ≡ true) (sym t) (or_left (eqb u x) (has u (filter f xs)) e)
    by_place ih (inr m) = by_test ih m (f x)

-- a filter after a filter
filter_twice : (f g : ℕ → Bool) (xs : List ℕ) → filter f (filter g xs) ≡ filter (λ x. g x && f x) xs
filter_twice f g [] = refl
filter_twice f g (x ∷ xs) = by_test (g x) (filter_twice f g xs)
  where
    by_test : (b : Bool) → filter f (filter g xs) ≡ filter (λ y. g y && f y) xs
        → filter f (cond b (x ∷ filter g xs) (filter g xs)) ≡ cond (b && f x) (x ∷ filter (λ y. g y && f y) xs) (filter (λ y. g y && f y) xs)
    by_test true ih = ap (λ (r : List ℕ). cond (f x) (x ∷ r) r) ih
    by_test false ih = ih

-- one number more
range_more : (a n : ℕ) → range_with_len a (n + 1) ≡ range_with_len a n ++ (a + n) ∷ []
range_more a zero = ap (λ (k : ℕ). k ∷ []) (omega arith)
range_more a (suc n) =
    let s : suc n + 1 ≡ suc (n + 1) = omega arith in
    let t : (a + 1) + n ≡ a + suc n = omega arith in
    ap (range_with_len a) s ∙ ap (λ (r : List ℕ). a ∷ r) (range_more (a + 1) n) ∙ ap (λ (k : ℕ). a ∷ (range_with_len (a + 1) n ++ k ∷ [])) t

-- the numbers from a on
pub has-range : (a n u : ℕ) → has u (range_with_len a n) ≡ true → (a ≤ u) × (u < a + n)
has-range a zero u h = absurd (true≢false (sym h))
has-range a (suc n) u h = by_place (has-range (a + 1) n u) (or_cases (eqb u a) (has u (range_with_len (a + 1) n)) h)
  where
    by_place : (has u (range_with_len (a + 1) n) ≡ true → (a + 1 ≤ u) × (u < (a + 1) + n)) → ((eqb u a ≡ true) ⊎ (has u (range_with_len (a + 1) n) ≡ true)) → (a ≤ u) × (u < a + suc n)
    by_place ih (inl e) = let s : u ≡ a = eqb-true u a e in (omega arith, omega arith)
    by_place ih (inr m) = let r = ih m in (omega (arith, r.0), omega (arith, r.1))

-- the numbers up to k that pass, and one more
filter_more : (f : ℕ → Bool) (k u : ℕ) → u ≡ k + 1 → filter f (range_with_len 1 (k + 1)) ≡ filter f (range_with_len 1 k) ++ cond (f u) (u ∷ []) []
filter_more f k u e =
    let s : 1 + k ≡ u = omega arith in
    ap (filter f) (range_more 1 k ∙ ap (λ (x : ℕ). range_with_len 1 k ++ x ∷ []) s) ∙ filter-append f (range_with_len 1 k) (u ∷ [])

-- ONE LEVEL

-- a thread behind k, or one that keeps its level
abbrev stays : ℕ → (ℕ → ℕ) → ℕ → ℕ → Bool
stays k f p x = nat_lt k x || (f x == p)

-- level p once the threads up to k were moved: xs as it was, f what each thread is to have, and who joins
abbrev stage : ℕ → (ℕ → ℕ) → ℕ → (ℕ → Bool) → List ℕ → List ℕ
stage k f p joining xs = filter (stays k f p) xs ++ filter joining (range_with_len 1 k)

-- the test is the same for all but the next thread
stays_other : (k u : ℕ) (f : ℕ → ℕ) (p x : ℕ) → u ≡ k + 1 → x ≢ u → stays k f p x ≡ stays (k + 1) f p x
stays_other k u f p x e ne = let same : nat_lt k x ≡ nat_lt (k + 1) x = grind (arith, nat_tests) in ap (λ b. b || (f x == p)) same

-- and for that one if it keeps its level
stays_same : (k u : ℕ) (f : ℕ → ℕ) (p x : ℕ) → u ≡ k + 1 → f u ≡ p → stays k f p x ≡ stays (k + 1) f p x
stays_same k u f p x e keeps = by_place (cases_eq x u)
  where
    by_place : ((x ≡ u) ⊎ (x ≡ u → ⊥)) → stays k f p x ≡ stays (k + 1) f p x
    by_place (inl s) =
        let t : (f x == p) ≡ true = eq-eqb (f x) p (ap f s ∙ keeps) in
        or_right (nat_lt k x) (f x == p) t ∙ sym (or_right (nat_lt (k + 1) x) (f x == p) t)
    by_place (inr ne) = stays_other k u f p x e ne

-- if it leaves, the test takes it out
stays_left : (k u : ℕ) (f : ℕ → ℕ) (p x : ℕ) → u ≡ k + 1 → f u ≢ p → (stays k f p x && not (nat_eq u x)) ≡ stays (k + 1) f p x
stays_left k u f p x e leaves = by_place (cases_eq x u)
  where
    by_place : ((x ≡ u) ⊎ (x ≡ u → ⊥)) → (stays k f p x && not (nat_eq u x)) ≡ stays (k + 1) f p x
    by_place (inl s) =
        let t : (f x == p) ≡ false = ne_eqb (f x) p (λ z. leaves (ap f (sym s) ∙ z)) in
        let here : nat_eq u x ≡ true = eq-eqb u x (sym s) in
        let past : nat_lt (k + 1) x ≡ false = grind (arith, nat_tests) in
        and_right (stays k f p x) (not (nat_eq u x)) (ap not here) ∙ sym (ap (λ b. b || (f x == p)) past ∙ t)
    by_place (inr ne) =
        let there : nat_eq u x ≡ false = ne_eqb u x (λ z. ne (sym z)) in
        ap (λ b. stays k f p x && not b) there ∙ and_yes (stays k f p x) ∙ stays_other k u f p x e ne
      where
        and_yes : (b : Bool) → (b && true) ≡ b
        and_yes true = refl
        and_yes false = refl

-- the next thread is none that joined
not_joined : (k u : ℕ) (joining : ℕ → Bool) → u ≡ k + 1 → has u (filter joining (range_with_len 1 k)) ≡ false
not_joined k u joining e =
    false_from_ne_true (has u (filter joining (range_with_len 1 k))) (λ h.
    let r = has-range 1 k u (has-filter joining u (range_with_len 1 k) h).0 in let l : u < 1 + k = r.1 in absurd (omega arith))

-- so it is on a level if it was
pub stage-has : (k u : ℕ) (f : ℕ → ℕ) (p : ℕ) (joining : ℕ → Bool) (xs : List ℕ) → u ≡ k + 1 → has u (stage k f p joining xs) ≡ has u xs
stage-has k u f p joining xs e =
    has-append u (filter (stays k f p) xs) (filter joining (range_with_len 1 k)) ∙ by_test (cases_Bool (has u xs))
  where
    behind : stays k f p u ≡ true
    behind = let l : nat_lt k u ≡ true = grind (arith, nat_tests) in or_left (nat_lt k u) (f u == p) l

    by_test : ((has u xs ≡ true) ⊎ (has u xs ≡ false)) → (has u (filter (stays k f p) xs) || has u (filter joining (range_with_len 1 k))) ≡ has u xs
    by_test (inl y) = or_left (has u (filter (stays k f p) xs)) (has u (filter joining (range_with_len 1 k))) (filter-has (stays k f p) u xs behind y) ∙ sym y
    by_test (inr n) =
        let first : has u (filter (stays k f p) xs) ≡ false =
        false_from_ne_true (has u (filter (stays k f p) xs)) (λ h. true≢false (sym (has-filter (stays k f p) u xs h).0 ∙ n)) in
        ap (λ b. b || has u (filter joining (range_with_len 1 k))) first ∙ not_joined k u joining e ∙ sym n

-- nobody joins
joined_none : (k u : ℕ) (joining : ℕ → Bool) → u ≡ k + 1 → joining u ≡ false → filter joining (range_with_len 1 k) ≡ filter joining (range_with_len 1 (k + 1))
joined_none k u joining e out =
    sym (filter_more joining k u e ∙ ap (λ b. filter joining (range_with_len 1 k) ++ cond b (u ∷ []) []) out ∙ append-nil (filter joining (range_with_len 1 k)))

-- a thread that is on no level
stage-none : (k u : ℕ) (f : ℕ → ℕ) (p : ℕ) (joining : ℕ → Bool) (xs : List ℕ) → u ≡ k + 1 → has u xs ≡ false → joining u ≡ false
    → stage k f p joining xs ≡ stage (k + 1) f p joining xs
stage-none k u f p joining xs e absent out =
    let kept : filter (stays k f p) xs ≡ filter (stays (k + 1) f p) xs =
    filter_on (stays k f p) (stays (k + 1) f p) xs (λ x h. stays_other k u f p x e (λ s. true≢false (sym h ∙ ap (λ (y : ℕ). has y xs) s ∙ absent))) in
    let new : filter joining (range_with_len 1 k) ≡ filter joining (range_with_len 1 (k + 1)) = joined_none k u joining e out in
    λ i. kept i ++ new i

-- a thread that is on this level and keeps it
stage-kept : (k u : ℕ) (f : ℕ → ℕ) (p : ℕ) (joining : ℕ → Bool) (xs : List ℕ) → u ≡ k + 1 → f u ≡ p → joining u ≡ false
    → stage k f p joining xs ≡ stage (k + 1) f p joining xs
stage-kept k u f p joining xs e keeps out =
    let kept : filter (stays k f p) xs ≡ filter (stays (k + 1) f p) xs =
    filter_on (stays k f p) (stays (k + 1) f p) xs (λ x h. stays_same k u f p x e keeps) in
    let new : filter joining (range_with_len 1 k) ≡ filter joining (range_with_len 1 (k + 1)) = joined_none k u joining e out in
    λ i. kept i ++ new i

-- a thread that joins this level
stage-joined : (k u : ℕ) (f : ℕ → ℕ) (p : ℕ) (joining : ℕ → Bool) (xs : List ℕ) → u ≡ k + 1 → f u ≡ p → joining u ≡ true
    → stage k f p joining xs ++ u ∷ [] ≡ stage (k + 1) f p joining xs
stage-joined k u f p joining xs e joins into =
    let kept : filter (stays k f p) xs ≡ filter (stays (k + 1) f p) xs =
    filter_on (stays k f p) (stays (k + 1) f p) xs (λ x h. stays_same k u f p x e joins) in
    let new : filter joining (range_with_len 1 k) ++ u ∷ [] ≡ filter joining (range_with_len 1 (k + 1)) =
    sym (filter_more joining k u e ∙ ap (λ b. filter joining (range_with_len 1 k) ++ cond b (u ∷ []) []) into) in
    append_assoc (filter (stays k f p) xs) (filter joining (range_with_len 1 k)) (u ∷ []) ∙ (λ i. kept i ++ new i)

-- a thread that goes to another level
stage-left : (k u : ℕ) (f : ℕ → ℕ) (p : ℕ) (joining : ℕ → Bool) (xs : List ℕ) → u ≡ k + 1 → f u ≢ p → joining u ≡ false
    → list_without u (stage k f p joining xs) ≡ stage (k + 1) f p joining xs
stage-left k u f p joining xs e leaves out =
    let kept : list_without u (filter (stays k f p) xs) ≡ filter (stays (k + 1) f p) xs =
    filter_twice (λ x. not (nat_eq u x)) (stays k f p) xs
    ∙ filter_on (λ x. stays k f p x && not (nat_eq u x)) (stays (k + 1) f p) xs (λ x h. stays_left k u f p x e leaves) in
    let new : list_without u (filter joining (range_with_len 1 k)) ≡ filter joining (range_with_len 1 (k + 1)) =
    without_absent u (filter joining (range_with_len 1 k)) (not_joined k u joining e) ∙ joined_none k u joining e out in
    filter-append (λ x. not (nat_eq u x)) (filter (stays k f p) xs) (filter joining (range_with_len 1 k)) ∙ (λ i. kept i ++ new i)

-- THE RUN QUEUE

-- level p of a run queue once the threads up to k were moved
abbrev pub leveled_to : ℕ → Owners → Queue → NodeLists → ℕ → List ℕ
leveled_to k v q t p = stage k (greatest_base v) p (joins v q t p) (level_of q t p)

-- two levels that are the same wherever one of them is some
same_levels : (a b : Option ℕ) → ((p : ℕ) → a ≡ Some p → b ≡ Some p) → ((p : ℕ) → b ≡ Some p → a ≡ Some p) → a ≡ b
same_levels None None f g = refl
same_levels None (Some y) f g = g y refl
same_levels (Some x) b f g = sym (f x refl)

-- a thread that two queues have on the same levels is on the same level
pub level_with-same : (q now : Queue) (t table : NodeLists) (u : ℕ) → Holds q t → Holds now table
    → ((p : ℕ) → IsLevel p → has u (level_of now table p) ≡ has u (level_of q t p)) → level_with now table u ≡ level_with q t u
level_with-same q now t table u old new same =
    same_levels (level_with now table u) (level_with q t u)
    (λ p e. let r = listed-from_level_with now table u p new e in level_with-from_listed q t u p old r.0 (sym (same p r.0) ∙ r.1))
    (λ p e. let r = listed-from_level_with q t u p old e in level_with-from_listed now table u p new r.0 (same p r.0 ∙ r.1))

-- the next thread is on the level on which it was
pub next_level : (k u : ℕ) (v : Owners) (q now : Queue) (t table : NodeLists) → u ≡ k + 1 → Holds q t → Holds now table
    → ((p : ℕ) → IsLevel p → level_of now table p ≡ leveled_to k v q t p) → level_with now table u ≡ level_with q t u
next_level k u v q now t table e old new levels =
    level_with-same q now t table u old new (λ p lp. ap (has u) (levels p lp) ∙ stage-has k u (greatest_base v) p (joins v q t p) (level_of q t p) e)

-- one thread more, on some level or none
pub leveled-more : (k u : ℕ) (v : Owners) (q : Queue) (t : NodeLists) (p : ℕ) → u ≡ k + 1 → Holds q t → IsLevel p
    → (if is_some (level_with q t u) then level_after_move u (greatest_base v u) p (leveled_to k v q t p)
    else leveled_to k v q t p) ≡ leveled_to (k + 1) v q t p
leveled-more k u v q t p e holds lp = by_level (level_with q t u) refl
  where
    Goal : Option ℕ → Type 0
    Goal o =
        (if is_some o then level_after_move u (greatest_base v u) p (leveled_to k v q t p) else leveled_to k v q t p)
        ≡ leveled_to (k + 1) v q t p

    joining : Option ℕ → Bool
    joining o = (greatest_base v u == p) && is_other p o

    left : (level : ℕ) → level_with q t u ≡ Some level → greatest_base v u ≢ p → Goal (Some level)
    left level is ne =
        let other : nat_eq p (greatest_base v u) ≡ false = ne_eqb p (greatest_base v u) (λ z. ne (sym z)) in
        let out : joins v q t p u ≡ false = and_left (greatest_base v u == p) (is_other p (level_with q t u)) (ne_eqb (greatest_base v u) p ne) in
        ap (λ b. if b then (if has u (leveled_to k v q t p) then leveled_to k v q t p else leveled_to k v q t p ++ u ∷ []) else list_without u (leveled_to k v q t p)) other
        ∙ stage-left k u (greatest_base v) p (joins v q t p) (level_of q t p) e ne out

    here : (level : ℕ) → level_with q t u ≡ Some level → greatest_base v u ≡ p → ((level ≡ p) ⊎ (level ≡ p → ⊥)) → Goal (Some level)
    here level is eq (inl same) =
        let this : nat_eq p (greatest_base v u) ≡ true = eq-eqb p (greatest_base v u) (sym eq) in
        let listed : has u (leveled_to k v q t p) ≡ true =
        stage-has k u (greatest_base v) p (joins v q t p) (level_of q t p) e
        ∙ ap (λ (l : ℕ). has u (level_of q t l)) (sym same) ∙ (listed-from_level_with q t u level holds is).1 in
        let out : joins v q t p u ≡ false = ap joining is ∙ and_right (greatest_base v u == p) (not (level == p)) (ap not (eq-eqb level p same)) in
        ap (λ b. if b then (if has u (leveled_to k v q t p) then leveled_to k v q t p else leveled_to k v q t p ++ u ∷ []) else list_without u (leveled_to k v q t p)) this
        ∙ ap (λ b. if b then leveled_to k v q t p else leveled_to k v q t p ++ u ∷ []) listed
        ∙ stage-kept k u (greatest_base v) p (joins v q t p) (level_of q t p) e eq out
    here level is eq (inr other) =
        let this : nat_eq p (greatest_base v u) ≡ true = eq-eqb p (greatest_base v u) (sym eq) in
        let absent : has u (leveled_to k v q t p) ≡ false =
        stage-has k u (greatest_base v) p (joins v q t p) (level_of q t p) e
        ∙ false_from_ne_true (has u (level_of q t p)) (λ h. other (same_Some level p (sym is ∙ level_with-from_listed q t u p holds lp h))) in
        let into : joins v q t p u ≡ true =
        ap joining is ∙ (λ i. eq-eqb (greatest_base v u) p eq i && not (ne_eqb level p other i)) in
        ap (λ b. if b then (if has u (leveled_to k v q t p) then leveled_to k v q t p else leveled_to k v q t p ++ u ∷ []) else list_without u (leveled_to k v q t p)) this
        ∙ ap (λ b. if b then leveled_to k v q t p else leveled_to k v q t p ++ u ∷ []) absent
        ∙ stage-joined k u (greatest_base v) p (joins v q t p) (level_of q t p) e eq into

    by_priority : (level : ℕ) → level_with q t u ≡ Some level → ((greatest_base v u ≡ p) ⊎ (greatest_base v u ≡ p → ⊥)) → Goal (Some level)
    by_priority level is (inl eq) = here level is eq (cases_eq level p)
    by_priority level is (inr ne) = left level is ne

    nowhere : level_with q t u ≡ None → Goal None
    nowhere is =
        let absent : has u (level_of q t p) ≡ false =
        false_from_ne_true (has u (level_of q t p)) (λ h. let s : None ≡ Some p = sym is ∙ level_with-from_listed q t u p holds lp h in absurd cc) in
        let out : joins v q t p u ≡ false = ap joining is ∙ and_right (greatest_base v u == p) false refl in
        stage-none k u (greatest_base v) p (joins v q t p) (level_of q t p) e absent out

    by_level : (o : Option ℕ) → level_with q t u ≡ o → Goal (level_with q t u)
    by_level None is = subst Goal (sym is) (nowhere is)
    by_level (Some level) is = subst Goal (sym is) (by_priority level is (cases_eq (greatest_base v u) p))

-- nobody was moved at the start
pub leveled-start : (v : Owners) (q : Queue) (t : NodeLists) (p : ℕ) → ((u : ℕ) → has u (level_of q t p) ≡ true → 1 ≤ u) → level_of q t p ≡ leveled_to 0 v q t p
leveled-start v q t p some =
    sym (append-nil (filter (stays 0 (greatest_base v) p) (level_of q t p))
    ∙ filter_on (stays 0 (greatest_base v) p) (λ x. true) (level_of q t p)
    (λ x h. let one : 1 ≤ x = some x h in let l : nat_lt 0 x ≡ true = grind (arith, nat_tests) in or_left (nat_lt 0 x) (greatest_base v x == p) l)
    ∙ all_kept (level_of q t p))
  where
    all_kept : (xs : List ℕ) → filter (λ x. true) xs ≡ xs
    all_kept [] = refl
    all_kept (x ∷ xs) = ap (λ (r : List ℕ). x ∷ r) (all_kept xs)

-- all were at the end
pub leveled-all : (k : ℕ) (v : Owners) (q : Queue) (t : NodeLists) (p : ℕ) → k + 1 ≡ length v.seats → ((u : ℕ) → has u (level_of q t p) ≡ true → u < length v.seats)
    → leveled_to k v q t p ≡ level_after_walk v q t p
leveled-all k v q t p e row =
    let kept : filter (stays k (greatest_base v) p) (level_of q t p) ≡ filter (λ x. greatest_base v x == p) (level_of q t p) =
    filter_on (stays k (greatest_base v) p) (λ x. greatest_base v x == p) (level_of q t p)
    (λ x h. let l : x < length v.seats = row x h in let past : nat_lt k x ≡ false = grind (arith, nat_tests) in ap (λ b. b || (greatest_base v x == p)) past) in
    let new : k ≡ length v.seats - 1 = omega arith in
    λ i. kept i ++ filter (joins v q t p) (range_with_len 1 (new i))
