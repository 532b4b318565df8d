-- Lemmas on a walk along a list: what is behind a mutex, and where the entries lead.
use Rattle.std.proofs.Common.{◌≡◌, ℕ, zero, suc, ◌≤◌, ◌<◌, true, false, cond, eqb, List, [], ◌∷◌, ◌++◌, Option, Some, None, refl, sym, ◌∙◌, ap, subst, ⊎_elim, arith, length, get_or}
use Rattle.std.proofs.lemmas.Bool.{or_parts, cases_Bool, eq-eqb, ne_eqb, both_ways}
use Rattle.std.proofs.lemmas.Option.{same_Some}
use Rattle.pif_model.specs.RobustList.{Robust, RobustRow, robust_at, has_entry, without_entry, walk_of, HasNoRepeats, IsRobust}
use Rattle.pif_robust.specs.declared.links.Link.{Link}
use Rattle.pif_robust.specs.declared.links.Head.{Head}
use Rattle.pif_model_lemmas.specs.RobustWalks.{first_or, walk_along, behind}
use Rattle.pif_robust.specs.Links.{link_at, robust_from, IsChain, FieldsHold}
use Rattle.pif_robust.specs.Robust.{named_mutex}
use Rattle.pif_model_lemmas.proofs.RobustEntries.{Apart-from_once, has_split, has-append, has-tail, has-right, apart, has-without_same, has-with, first_or-has}
use Rattle.pif_model_lemmas.proofs.RobustWalks.{walk_of-some}
use Rattle.pif_robust.proofs.ChainLemmas.{chain-back}
use Rattle.pif_robust.proofs.TiesLemmas.{IsRobust-from_Ties, named_mutex-some}
use Rattle.pif_robust.proofs.SeenLemmas.{link_read}
use Rattle.pif_robust.proofs.CallLemmas.{ties_seen, sound_seen}

-- the pending mutex at the end of a walk
abbrev last_of : ℕ → List ℕ
last_of p = cond (eqb p 0) [] (p ∷ [])

last_lacks : (p m : ℕ) → (m ≡ p → ⊥) → has_entry (last_of p) m ≡ false
last_lacks p m ne = ⊎_elim (λ e. rw e refl) (λ e. rw e (rw (ne_eqb m p ne) refl)) (cases_Bool (eqb p 0))

-- another mutex than the pending one that a walk goes through is on the list
along_listed : (xs : List ℕ) (p m : ℕ) → (m ≡ p → ⊥) → has_entry (walk_along xs p) m ≡ true → has_entry xs m ≡ true
along_listed xs p m ne h = ⊎_elim
    (λ e. has-with m p xs e)
    (λ e. let both = sym (has-append m (without_entry xs p) (last_of p)) ∙ h in
    let last : has_entry (last_of p) m ≡ true = rw e at both in
    absurd (both_ways (has_entry (last_of p) m) (last_lacks p m ne) last))
    (cases_Bool (has_entry (without_entry xs p) m))

-- behind a mutex that isn't pending is a walk along what the list has behind it
behind_along : (m : ℕ) (front back zs : List ℕ) (p : ℕ) → (m ≡ p → ⊥) → has_entry front m ≡ false →
    behind m (without_entry (front ++ m ∷ back) p ++ zs) ≡ without_entry back p ++ zs
behind_along m [] back zs p ne lacks = rw (ne_eqb p m (λ e. ne (sym e))) (rw (eq-eqb m m refl) refl)
behind_along m (x ∷ xs) back zs p ne lacks =
    let parts = or_parts (eqb m x) (has_entry xs m) lacks in
    ⊎_elim
    (λ e. rw e (behind_along m xs back zs p ne parts.1))
    (λ e. rw e (rw parts.0 (behind_along m xs back zs p ne parts.1)))
    (cases_Bool (eqb p x))

-- behind the pending mutex is none
behind_last : (p : ℕ) (xs : List ℕ) → has_entry xs p ≡ false → behind p (xs ++ p ∷ []) ≡ []
behind_last p [] lacks = rw (eq-eqb p p refl) refl
behind_last p (x ∷ xs) lacks =
    let parts = or_parts (eqb p x) (has_entry xs p) lacks in rw parts.0 (behind_last p xs parts.1)

behind_pending : (xs : List ℕ) (p : ℕ) → 1 ≤ p → behind p (walk_along xs p) ≡ []
behind_pending xs p some =
    rw (ne_eqb p 0 (λ e. omega arith)) (behind_last p (without_entry xs p) (has-without_same p xs))

-- WHERE THE ENTRIES LEAD

-- the entries behind a mutex of a walk that isn't pending
pub record IsFollowed (ns : List Link) (t m : ℕ) (x : RobustRow) : Type 0 where
  pub back : List ℕ
  pub within : m < length ns
  pub next_is : (link_at ns m).next ≡ first_or back None
  pub chain : IsChain ns t (Some m) back None
  pub once : HasNoRepeats back
  pub some : (k : ℕ) → has_entry back k ≡ true → 1 ≤ k
  pub inside : (k : ℕ) → has_entry back k ≡ true → k < length ns
  pub rest : behind m (walk_of x) ≡ walk_along back x.pending

module _ (ns : List Link) (hs : List Head) (v : Robust) (ties : FieldsHold ns hs v) (t : ℕ) where
  abbrev x : RobustRow
  x = robust_at v t

  abbrev r : IsRobust v
  r = IsRobust-from_Ties ns hs v ties

  pub listed_within : (k : ℕ) → has_entry x.listed k ≡ true → k < length ns
  listed_within k h = omega (arith, r.most_listed t k h, ties.mutexes)

  pub followed : (m : ℕ) → has_entry (walk_of x) m ≡ true → (m ≡ x.pending → ⊥) → IsFollowed ns t m x
  followed m on ne =
      let listed : has_entry x.listed m ≡ true = along_listed x.listed x.pending m ne on in
      let at = has_split m x.listed listed in
      let apart = Apart-from_once at.0 at.1 m (subst HasNoRepeats at.2 (ties.once t)) in
      let all = chain-back ns t None at.0 (m ∷ at.1) None
      (subst (λ (zs : List ℕ). IsChain ns t None zs None) at.2 (ties.chain t)) in
      let in' = λ (k : ℕ) (h : has_entry at.1 k ≡ true).
      ap (λ (zs : List ℕ). has_entry zs k) at.2 ∙ has-right k at.0 (m ∷ at.1) (has-tail k m at.1 h) in
      record {
        back = at.1;
        within = listed_within m listed;
        next_is = ap (λ (l : Link). l.next) all.0;
        chain = all.1;
        once = apart.back_once;
        some = λ k h. r.some_listed t k (in' k h);
        inside = λ k h. listed_within k (in' k h);
        rest = ap (λ (zs : List ℕ). behind m (walk_along zs x.pending)) at.2
            ∙ behind_along m at.0 at.1 (last_of x.pending) x.pending ne apart.front_lacks;
      }

-- the same as the code has it: with options for mutexes
named_some : (p m : ℕ) → named_mutex p ≡ Some m → (1 ≤ p) × (m ≡ p)
named_some zero m h = absurd cc
named_some (suc p) m h = (omega arith, sym (same_Some (suc p) m h))

-- a walk that stands at the pending mutex
pub next-pending : {pending : Option ℕ} (x : RobustRow) (m : ℕ) → pending ≡ named_mutex x.pending → pending ≡ Some m →
    None ≡ first_or (behind m (walk_of x)) None
next-pending {pending} x m named is =
    let e = named_some x.pending m (sym named ∙ is) in
    ap (λ (ks : List ℕ). first_or ks None)
    (sym (ap (λ (k : ℕ). behind k (walk_of x)) e.1 ∙ behind_pending x.listed x.pending e.0))

module _ {ns : List Link} {hs : List Head} {v : Robust} (view : robust_from ns hs ≡ v)
    (invariant : FieldsHold ns hs (robust_from ns hs)) (t : ℕ) where
  pub entry_within : {k : ℕ} {first : Option ℕ} → first ≡ first_or (robust_at v t).listed None → first ≡ Some k →
      k < length ns
  entry_within {k} {first} is named =
      listed_within ns hs v (ties_seen view invariant) t k (first_or-has (robust_at v t).listed k (sym is ∙ named))

  -- a walk that stands at another one
  module _ (m : ℕ) {pending : Option ℕ} (on : has_entry (walk_of (robust_at v t)) m ≡ true)
      (named : pending ≡ named_mutex (robust_at v t).pending) (other : pending ≡ Some m → ⊥) where
    pub follows : IsFollowed ns t m (robust_at v t)
    follows = followed ns hs v (ties_seen view invariant) t m on
        (λ e. other (named ∙ ap named_mutex (sym e)
        ∙ named_mutex-some m (walk_of-some v t (sound_seen view invariant) m on)))

    pub follows-next : {i : ℕ} {l : Link} → i ≡ m → l ≡ get_or ns i l → l.next ≡ first_or follows.back None
    follows-next {i} {l} same read =
        ap (λ (k : Link). k.next) (link_read ns m i l same follows.within read) ∙ follows.next_is
