-- How often variables were used doesn't matter below the limit of uses: two states that are the same but for uses stand for
-- one another.
use Rattle.std.proofs.Common.{ℕ, zero, suc, ◌≡◌, ◌∙◌, ◌≤◌, ◌<◌, ◌+◌, ◌-◌, ◌&&◌, Bool, true, false, List, [], ◌∷◌, map, get_or, length, refl, sym, ap, subst, arith}
use Rattle.std.specs.List.{sum_by}
use Rattle.std.specs.Prelude.{nat_lt}
use Rattle.std.proofs.lemmas.Bool.Decides.{nat_tests}
use Rattle.std.proofs.lemmas.List.Sums.{sum_by-cons}
use Rattle.pif_types.specs.Bounds.{Bounds}
use Rattle.pif_types.specs.declared.requests.Request.{Request}
use Rattle.pif_types.specs.declared.requests.Request.TheVariants.{Signal, Broadcast}
use Rattle.pif_model.specs.Posix.{Thread, Variable, World}
use Rattle.pif_model_lemmas.proofs.Places.{mapped_at}
use Rattle.pif_uses_model.specs.Uses.{to_come_of, unused, uses_in, uses_to_come, without_uses}
use Rattle.pif_history_model.specs.declared.lines.Line.{Line}
use Rattle.pif_history_model.specs.declared.lines.Line.TheVariants.{Begin}
use Rattle.pif_parts_model.specs.FewUses.{uses_begun, uses_by}
use Rattle.pif_parts_model.specs.Resting.{world_by}
use Rattle.pif_parts.specs.declared.resting.RestingThread.{RestingThread}
use Rattle.pif_parts.specs.declared.resting.RestingMutex.{RestingMutex}
use Rattle.pif_parts.specs.declared.resting.RestingCond.{RestingCond}
use Rattle.pif_parts.specs.declared.resting.Rest.{Rest}
use Rattle.pif_parts.specs.Resting.{AreAlike, AreSame, IsRest, are_used_less, each_is_less, no_cond, thread_of, unused_cond, variable_of, world_of}
use Rattle.pif_parts.specs.Standing.{GoOnAlike, StaysBelowFor}
use Rattle.pif_parts.specs.Standing.GoOnAlike.{exactly, but_for_uses}
use Rattle.pif_parts.proofs.RestLemmas.{made, same_rest}
use Rattle.pif_parts.proofs.WatchLemmas.{both_true}

-- USES THAT BEGIN WITH LINES

none_or_one : (n : ℕ) → n ≡ 0 → n ≤ 1
none_or_one n e = omega (arith, e)

just_one : (n : ℕ) → n ≡ 1 → n ≤ 1
just_one n e = omega (arith, e)

-- with the beginning of a call at most one does
one_begun : (t : ℕ) (q : Request) → uses_by (Begin t q) ≤ 1
one_begun t (Signal c) = just_one _ refl
one_begun t (Broadcast c) = just_one _ refl
one_begun t _ = none_or_one _ refl

one_by : (x : Line) → uses_by x ≤ 1
one_by (Begin t q) = one_begun t q
one_by _ = none_or_one _ refl

few_begun : (lines : List Line) → uses_begun lines ≤ length lines
few_begun [] = none_or_none _ refl
  where
    none_or_none : (n : ℕ) → n ≡ 0 → n ≤ 0
    none_or_none n e = omega (arith, e)
few_begun (x ∷ xs) =
    let more = sum_by-cons uses_by x xs in
    let one = one_by x in
    let few = few_begun xs in
    omega (arith, more, one, few)

-- WHAT RESTS

-- no call is open, so that no use is to come
none_to_come : (ts : List RestingThread) → sum_by (λ (x : Thread). to_come_of x.call) (map thread_of ts) ≡ 0
none_to_come [] = refl
none_to_come (t ∷ ts) =
    let more = sum_by-cons (λ (x : Thread). to_come_of x.call) (thread_of t) (map thread_of ts) in
    let none : to_come_of (thread_of t).call ≡ 0 = refl in
    let rest = none_to_come ts in
    omega (arith, more, none, rest)

less : (a n : ℕ) → nat_lt a n ≡ true → a < n
less a n e = grind (arith, nat_tests, e)

each_less : (n : ℕ) → 0 < n → (cs : List RestingCond) → each_is_less n cs ≡ true → (c : ℕ)
    → (get_or cs c no_cond).uses < n
each_less n some [] e zero = some
each_less n some [] e (suc c) = some
each_less n some (x ∷ xs) e zero =
    less x.uses n (both_true (nat_lt x.uses n) (each_is_less n xs) e).0
each_less n some (x ∷ xs) e (suc c) =
    each_less n some xs (both_true (nat_lt x.uses n) (each_is_less n xs) e).1 c

used_less : (n : ℕ) (cs : List RestingCond) → are_used_less n cs ≡ true → (c : ℕ) → uses_in (map variable_of cs) c < n
used_less n cs e c =
    let both = both_true (nat_lt 0 n) (each_is_less n cs) e in
    let here : uses_in (map variable_of cs) c ≡ (get_or cs c no_cond).uses =
    ap (λ (x : Variable). x.uses) (mapped_at variable_of cs c no_cond) in
    let fewer = each_less n (less 0 n both.0) cs both.1 c in
    omega (arith, here, fewer)

-- no variable comes to the limit of uses with so many lines more
stays_below : (l : Bounds) (n : ℕ) (lines : List Line) (r : Rest) → IsRest lines r → are_used_less (l.signals - n) r.conds.items ≡ true
    → StaysBelowFor n (world_by l lines)
stays_below l n lines r is e =
    subst (λ (w : World). StaysBelowFor n w) (sym (is l))
    (λ part le c.
    let fewer = used_less (l.signals - n) r.conds.items e c in
    let none : uses_to_come (world_of l r) ≡ 0 = none_to_come r.threads.items in
    let few = few_begun part in
    omega (arith, le, fewer, none, few))

-- the state without uses
unused_made : (cs : List RestingCond) → map unused (map variable_of cs) ≡ map variable_of (map unused_cond cs)
unused_made [] = refl
unused_made (x ∷ xs) = ap (λ (ys : List Variable). variable_of (unused_cond x) ∷ ys) (unused_made xs)

without_made : (l : Bounds) (ts : List RestingThread) (ms : List RestingMutex) (cs : List RestingCond) (k : ℕ)
    → without_uses (made l ts ms cs k) ≡ made l ts ms (map unused_cond cs) k
without_made l ts ms cs k = ap (λ (xs : List Variable). record (made l ts ms cs k) { variables = xs }) (unused_made cs)

-- TWO STATES

module _ (l : Bounds) (n : ℕ) (lines others : List Line) (r z : Rest) (is : IsRest lines r) (other : IsRest others z) where
  pub go_on_exactly : AreSame r z → GoOnAlike n (world_by l lines) (world_by l others)
  go_on_exactly same = exactly (same_rest lines others r z is other same l)

  pub go_on_below : AreAlike r z → are_used_less (l.signals - n) r.conds.items ≡ true
      → are_used_less (l.signals - n) z.conds.items ≡ true → GoOnAlike n (world_by l lines) (world_by l others)
  go_on_below alike few few_too =
      but_for_uses
      (ap without_uses (other l) ∙ without_made l z.threads.items z.mutexes.items z.conds.items z.time
      ∙ (λ i. made l (sym alike.threads i) (sym alike.mutexes i) (sym alike.conds i) (sym alike.time i))
      ∙ sym (without_made l r.threads.items r.mutexes.items r.conds.items r.time) ∙ sym (ap without_uses (is l)))
      (stays_below l n lines r is few) (stays_below l n others z other few_too)
