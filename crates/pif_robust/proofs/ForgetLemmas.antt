-- Lemmas on a list that is emptied from its head on.
use Rattle.std.proofs.Common.{◌≡◌, ℕ, zero, suc, ◌≤◌, ◌<◌, true, false, List, [], ◌∷◌, Some, None, refl, sym, ◌∙◌, ap, subst, ⊎_elim, arith, length, set}
use Rattle.std.proofs.lemmas.Bool.{cases_lt, eq-eqb}
use Rattle.std.proofs.lemmas.List.{get_or-set_same, get_or-set_other, get_or_past, length-set}
use Rattle.pif_model.specs.RobustList.{Robust, RobustRow, no_robust_row, robust_at, has_entry, without_entry, without_listed, without_robust}
use Rattle.pif_robust.specs.declared.links.Link.{Link}
use Rattle.pif_robust.specs.declared.links.Head.{Head}
use Rattle.pif_model_lemmas.specs.RobustWalks.{first_or}
use Rattle.pif_robust.specs.Links.{empty_head, head_at, robust_from, FieldsHold}
use Rattle.pif_robust.proofs.TiesLemmas.{FieldsHold-changed, robust_at-same}
use Rattle.pif_robust.proofs.WriteLemmas.{no_holder}
use Rattle.pif_robust.proofs.SeenLemmas.{Shows, Shows-ties, Shows-same}
use Rattle.pif_robust.proofs.CallLemmas.{ties_seen}
use Rattle.pif_model_lemmas.proofs.RobustWalks.{length-without}

-- the last of two writes of one element
set_twice : {X : Type 0} (xs : List X) (i : ℕ) (a b : X) → set (set xs i a) i b ≡ set xs i b
set_twice [] i a b = refl
set_twice (x ∷ xs) zero a b = refl
set_twice (x ∷ xs) (suc i) a b = ap (λ zs. x ∷ zs) (set_twice xs i a b)

-- the row of t without m on its list
abbrev row_without : Robust → ℕ → ℕ → RobustRow
row_without v t m = record (robust_at v t) { listed = without_entry (robust_at v t).listed m; half_linked = 0 }

-- a mutex more or less on the list of t is forgotten with it
pub without_robust-listed : (v : Robust) (t m : ℕ) → without_robust t (without_listed t m v) ≡ without_robust t v
without_robust-listed v t m = ap (λ xs. record v { threads = xs })
    (set_twice v.threads t (row_without v t m) no_robust_row)

shorter : (xs : List ℕ) (m : ℕ) → first_or xs None ≡ Some m → length (without_entry xs m) < length xs
shorter [] m h = absurd cc
shorter (x ∷ xs) m h =
    let e : x ≡ m = cc in
    subst (λ (k : ℕ). length (without_entry (x ∷ xs) k) < length (x ∷ xs)) e
    (rw (eq-eqb x x refl) (omega (arith, length-without xs x)))

-- a list without its first mutex is shorter
pub without-shorter : (v : Robust) (t m : ℕ) → first_or (robust_at v t).listed None ≡ Some m →
    length (robust_at (without_listed t m v) t).listed < length (robust_at v t).listed
without-shorter v t m h = ⊎_elim
    (λ in'. let e = ap (λ (x : RobustRow). length x.listed) (robust_at-same v t (row_without v t m) in') in
    omega (arith, e, shorter (robust_at v t).listed m h))
    (λ out. let e : robust_at v t ≡ no_robust_row = get_or_past v.threads t no_robust_row out in
    let none : None ≡ Some m = sym (ap (λ (x : RobustRow). first_or x.listed None) e) ∙ h in absurd cc)
    (cases_lt t (length v.threads))

nothing : (xs : List ℕ) → first_or xs None ≡ None → xs ≡ []
nothing [] h = refl
nothing (x ∷ xs) h = absurd cc

-- the head of an empty list becomes that of a thread that has nothing
module _ {ns : List Link} {hs : List Head} {v : Robust} (view : robust_from ns hs ≡ v)
    (invariant : FieldsHold ns hs (robust_from ns hs)) where
  ties : FieldsHold ns hs v
  ties = ties_seen view invariant

  pub Shows-emptied : {t i : ℕ} → 1 ≤ i → i ≡ t → i < length hs → first_or (robust_at v t).listed None ≡ None →
      Shows ns (set hs i empty_head) (without_robust t v)
  Shows-emptied {t} {i} some same i_in h =
      let then : List Head = set hs t empty_head in
      let at : head_at then t ≡ empty_head = get_or-set_same hs t empty_head empty_head (omega arith) in
      let none : (robust_at v t).listed ≡ [] = nothing (robust_at v t).listed h in
      Shows-same (λ k. ns) (λ k. set hs (same k) empty_head) (Shows-ties ns then (without_robust t v)
      (FieldsHold-changed ns ns hs then v t 0 no_robust_row ties (record {
        links = refl;
        heads = length-set hs t empty_head;
        thread = omega arith;
        thread_in = omega arith;
        no_mutex = ties.no_mutex;
        first = ap (λ (x : Head). x.first) at;
        half_linked = ap (λ (x : Head). x.half_linked) at;
        pending = ap (λ (x : Head). x.pending) at;
        chain = record {};
        once = record {};
        written = λ k k_some is. absurd (omega arith);
        one_half = λ u ne u_some e. absurd (omega arith);
        half_in = omega arith;
        pending_in = omega arith;
        was = λ u ne held. no_holder ns hs v ties u held;
        becomes = λ u held. absurd (no_holder ns hs v ties u held);
        mine = λ held. absurd (no_holder ns hs v ties t held);
        half_else = λ u ne m_some e. absurd (omega arith);
        other_heads = λ u ne. get_or-set_other hs t u empty_head empty_head ne;
        others = λ k ne not. refl;
        holders = λ k ne. refl;
        keeps = λ k ne listed. let wrong : false ≡ true = sym (ap (λ xs. has_entry xs k) none) ∙ listed in absurd cc;
      })))
