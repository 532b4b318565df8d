-- The levels of the kernel by itself, by those of the run queue, and who is picked.
use Rattle.std.proofs.Common.{◌≡◌, ◌⊎◌, ℕ, zero, suc, ◌<◌, ◌≤◌, ◌==◌, ◌++◌, Bool, true, false, not, nat_eq, if◌then◌else◌, List, [], ◌∷◌, length, Option, Some, None, IfSome, IfNone, refl, sym, ap, ◌∙◌, inl, inr, arith, length-set}
use Rattle.std.proofs.lemmas.List.{length-map}
use Rattle.std.specs.List.{filter}
use Rattle.std.proofs.lemmas.Bool.{cases_eq, false≢true}
use Rattle.std.proofs.lemmas.Bool.Decides.{nat_tests}
use Rattle.pif_nodes_model.specs.Lists.{has, first_of, list_without}
use Rattle.pif_nodes_model.specs.Table.{NodeLists, list_at}
use Rattle.pif_nodes_model.specs.Levels.{Queue, IsLevel, level_of, list_for, IsFirstOfGreatest, IsEmpty}
use Rattle.pif_nodes_model.specs.Levels.{level_after_add}
use Rattle.pif_nodes_model.proofs.LevelLemmas.{threads-some}
use Rattle.pif_model.specs.Graph.{is_priority}
use Rattle.pif_model.specs.PiKernel.{is_among, level_at, first_from, pick_in, levels_without, levels_with}
use Rattle.pif_kernel_model.specs.Inside.{Inside, kernel_of}
use Rattle.pif_model_lemmas.proofs.kernel.Settled.{priority-range, priority-from_range}
use Rattle.pif_model_lemmas.proofs.kernel.Levels.{length-levels_by, level-left}
use Rattle.pif_kernel_model.proofs.Levels.{level-levels_by, level-joined}

-- the levels of a run queue
abbrev pub levels_of : Queue → NodeLists → ℕ → List ℕ
levels_of q t = λ p. if is_priority p then level_of q t p else []

-- a level of the kernel by itself
pub levels_seen : (p : Inside) (r : ℕ) → level_at (kernel_of p).levels r ≡ levels_of p.queue p.table r
unfolding kernel_of
levels_seen p r = level-levels_by (level_of p.queue p.table) r

pub levels_count : (p : Inside) → length (kernel_of p).levels ≡ 100
unfolding kernel_of
levels_count p = length-levels_by (level_of p.queue p.table)

-- a level that there is
pub level_seen : (q : Queue) (t : NodeLists) (p : ℕ) → IsLevel p → levels_of q t p ≡ level_of q t p
level_seen q t p l = rw (priority-from_range p l.0 l.1) refl

from_head : (xs : List ℕ) (d u : ℕ) → first_of xs ≡ Some u → elim xs [ [] ↦ d | (t ∷ ts) ↦ t ] ≡ u
from_head [] d u e = cc
from_head (x ∷ xs) d u e = cc

from_nil : (xs : List ℕ) (d : ℕ) → xs ≡ [] → elim xs [ [] ↦ d | (t ∷ ts) ↦ t ] ≡ d
from_nil [] d e = refl
from_nil (x ∷ xs) d e = cc

from_first : (levels : List (List ℕ)) (n u : ℕ) → first_of (level_at levels (suc n)) ≡ Some u
    → first_from levels (suc n) ≡ u
unfolding first_from
from_first levels n u e = from_head (level_at levels (suc n)) (first_from levels n) u e

from_empty : (levels : List (List ℕ)) (n : ℕ) → level_at levels (suc n) ≡ []
    → first_from levels (suc n) ≡ first_from levels n
unfolding first_from
from_empty levels n e = from_nil (level_at levels (suc n)) (first_from levels n) e

from_none : (levels : List (List ℕ)) → first_from levels zero ≡ 0
unfolding first_from
from_none levels = refl

-- the first of the greatest of some levels that has one
pub first_from-greatest : (levels : List (List ℕ)) (n level u : ℕ) → 1 ≤ level → level ≤ n
    → first_of (level_at levels level) ≡ Some u
    → ((p : ℕ) → level < p → p ≤ n → level_at levels p ≡ []) → first_from levels n ≡ u
first_from-greatest levels zero level u some le first empty = absurd (omega arith)
first_from-greatest levels (suc n) level u some le first empty = by_place (cases_eq level (suc n))
    (λ less. first_from-greatest levels n level u some less first (λ p l g. empty p l (omega arith)))
  where
    by_place : ((level ≡ suc n) ⊎ (level ≡ suc n → ⊥)) → (level ≤ n → first_from levels n ≡ u)
        → first_from levels (suc n) ≡ u
    by_place (inl e) ih = from_first levels n u (ap (λ (x : ℕ). first_of (level_at levels x)) (sym e) ∙ first)
    by_place (inr ne) ih = from_empty levels n (empty (suc n) (omega arith) (omega arith)) ∙ ih (omega arith)

-- no level has one
pub first_from-none : (levels : List (List ℕ)) (n : ℕ) → ((p : ℕ) → 1 ≤ p → p ≤ n → level_at levels p ≡ [])
    → first_from levels n ≡ 0
first_from-none levels zero empty = from_none levels
first_from-none levels (suc n) empty =
    from_empty levels n (empty (suc n) (omega arith) (omega arith))
    ∙ first_from-none levels n (λ p l g. empty p l (omega arith))

first_has : (xs : List ℕ) (u : ℕ) → first_of xs ≡ Some u → has u xs ≡ true
first_has [] u e = cc
first_has (x ∷ xs) u e = let same : x ≡ u = grind arith in grind (arith, nat_tests)

-- who is picked, by the run queue
pub pick_seen : (p : Inside) (r : Option ℕ) → IfNone r (IsEmpty p.queue p.table)
    → IfSome r (λ t. IsFirstOfGreatest p.queue p.table t)
    → r ≡ (if pick_in (kernel_of p) == 0 then None else Some (pick_in (kernel_of p)))
pick_seen p None none some =
    let e : pick_in (kernel_of p) ≡ 0
    = first_from-none (kernel_of p).levels 99
    (λ q l g. levels_seen p q ∙ level_seen p.queue p.table q (l, g) ∙ none q (l, g)) in
    rw e refl
pick_seen p (Some u) none some =
    let at : (q : ℕ) → IsLevel q → level_at (kernel_of p).levels q ≡ level_of p.queue p.table q
    = λ q l. levels_seen p q ∙ level_seen p.queue p.table q l in
    let e : pick_in (kernel_of p) ≡ u
    = first_from-greatest (kernel_of p).levels 99 some.level u some.is_level.0 some.is_level.1
    (ap first_of (at some.level some.is_level) ∙ some.first)
    (λ q l g. let r : IsLevel q = (omega (arith, some.is_level), g) in at q r ∙ some.greatest q r l) in
    let above : 1 ≤ u
    = threads-some p.queue u (list_at p.table (list_for p.queue some.level)) (first_has _ u some.first) in
    let nonzero : (u == 0) ≡ false = grind (arith, nat_tests) in
    rw (e, nonzero) refl

-- THE TWO SPELLINGS OF LISTS

pub among_has : (xs : List ℕ) (t : ℕ) → is_among xs t ≡ has t xs
among_has [] t = refl
among_has (x ∷ xs) t =
    let ih : is_among xs t ≡ has t xs = among_has xs t in
    let same : (x == t) ≡ nat_eq t x = grind (arith, nat_tests) in rw (same, ih) refl

pub without_left : (xs : List ℕ) (t : ℕ) → list_without t xs ≡ filter (λ u. if u == t then false else true) xs
without_left [] t = refl
without_left (x ∷ xs) t =
    let same : not (nat_eq t x) ≡ (if x == t then false else true) = grind (arith, nat_tests) in
    let ih : list_without t xs ≡ filter (λ (u : ℕ). if u == t then false else true) xs = without_left xs t in
    rw (same, ih) refl

-- who is taken out of its level has left it
pub levels_left : (p now : Inside) (t : ℕ)
    → ((r : ℕ) → IsLevel r → level_of now.queue now.table r ≡ list_without t (level_of p.queue p.table r))
    → (r : ℕ) → level_at (kernel_of now).levels r ≡ level_at (levels_without t (kernel_of p).levels) r
levels_left p now t h r =
    levels_seen now r ∙ by_test (is_priority r) refl
    ∙ ap (filter (λ (u : ℕ). if u == t then false else true)) (sym (levels_seen p r))
    ∙ sym (level-left t (kernel_of p).levels r)
  where
    by_test : (b : Bool) → is_priority r ≡ b
        → levels_of now.queue now.table r ≡ filter (λ u. if u == t then false else true) (levels_of p.queue p.table r)
    by_test true e = rw e (h r (priority-range r e) ∙ without_left (level_of p.queue p.table r) t)
    by_test false e = rw e refl

pub length-left : (p now : Inside) (t : ℕ)
    → length (kernel_of now).levels ≡ length (levels_without t (kernel_of p).levels)
length-left p now t =
    levels_count now ∙ sym (levels_count p)
    ∙ sym (length-map (kernel_of p).levels (filter (λ (u : ℕ). if u == t then false else true)))

-- who is added to a level has joined it
pub levels_joined : (p now : Inside) (t prio : ℕ) → IsLevel prio
    → ((r : ℕ) → IsLevel r → level_of now.queue now.table r ≡ level_after_add t prio r (level_of p.queue p.table r))
    → (r : ℕ) → level_at (kernel_of now).levels r ≡ level_at (levels_with t prio (kernel_of p).levels) r
levels_joined p now t prio l h r =
    levels_seen now r ∙ by_test (is_priority r) refl (cases_eq r prio)
    ∙ ap (λ (xs : List ℕ). if r == prio then xs ++ t ∷ [] else xs) (sym (levels_seen p r))
    ∙ sym (level-joined t prio (kernel_of p).levels r (omega (arith, l.1, levels_count p)))
  where
    by_test : (b : Bool) → is_priority r ≡ b → ((r ≡ prio) ⊎ (r ≡ prio → ⊥))
        → levels_of now.queue now.table r ≡
        (if r == prio then levels_of p.queue p.table r ++ t ∷ [] else levels_of p.queue p.table r)
    by_test true e (inl same) =
        let here : (r == prio) ≡ true = grind (arith, nat_tests) in
        rw (e, here) (h r (priority-range r e) ∙ rw here refl)
    by_test true e (inr n) =
        let there : (r == prio) ≡ false = grind (arith, nat_tests) in
        rw (e, there) (h r (priority-range r e) ∙ rw there refl)
    by_test false e (inl same) = absurd (false≢true (sym e ∙ ap is_priority same ∙ priority-from_range prio l.0 l.1))
    by_test false e (inr n) = let there : (r == prio) ≡ false = grind (arith, nat_tests) in rw (e, there) refl

pub length-joined : (p now : Inside) (t prio : ℕ)
    → length (kernel_of now).levels ≡ length (levels_with t prio (kernel_of p).levels)
length-joined p now t prio = levels_count now ∙ sym (levels_count p) ∙ sym (length-set (kernel_of p).levels prio _)
