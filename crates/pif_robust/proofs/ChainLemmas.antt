-- Lemmas on entries that are linked in the order of some mutexes.
use Rattle.std.proofs.Common.{◌≡◌, ℕ, zero, suc, ◌≤◌, ◌<◌, true, eqb, List, [], ◌∷◌, ◌++◌, Option, Some, None, refl, sym, ◌∙◌, ap, subst, ⊎_elim, arith, length}
use Rattle.std.proofs.lemmas.Bool.{cases_Bool, cases_lt, eqb-true, both_ways}
use Rattle.std.proofs.lemmas.Option.{same_Some}
use Rattle.std.proofs.lemmas.List.{get_or-set_same, get_or-set_other, get_or_past, length-set}
use Rattle.pif_model.specs.RobustList.{has_entry, HasNoRepeats}
use Rattle.pif_robust.specs.declared.links.Link.{Link}
use Rattle.pif_robust.specs.declared.links.Head.{Head}
use Rattle.pif_model_lemmas.specs.RobustWalks.{first_or, last_or}
use Rattle.pif_robust.specs.Links.{unlinked, empty_head, link_at, head_at, path, IsChain, with_next_mutex, with_first_mutex, with_previous}
use Rattle.pif_model_lemmas.proofs.RobustEntries.{kept, has-head, has-tail, apart, last-has}

-- who holds each mutex of a chain
pub chain-holder : (ns : List Link) (t : ℕ) (before : Option ℕ) (xs : List ℕ) (after : Option ℕ) (m : ℕ) →
    IsChain ns t before xs after → has_entry xs m ≡ true → (link_at ns m).holder ≡ Some t
chain-holder ns t before [] after m c h = absurd cc
chain-holder ns t before (x ∷ xs) after m c h = ⊎_elim
    (λ e. ap (λ k. (link_at ns k).holder) (eqb-true m x e) ∙ ap (λ (l : Link). l.holder) c.0)
    (λ e. let rest : has_entry xs m ≡ true = rw e at h in chain-holder ns t (Some x) xs after m c.1 rest)
    (cases_Bool (eqb m x))

-- entries that are as they were
pub chain-same : (ns now : List Link) (t : ℕ) (before : Option ℕ) (xs : List ℕ) (after : Option ℕ) →
    ((k : ℕ) → has_entry xs k ≡ true → link_at now k ≡ link_at ns k) → IsChain ns t before xs after →
    IsChain now t before xs after
chain-same ns now t before [] after same c = record {}
chain-same ns now t before (x ∷ xs) after same c =
    (same x (has-head x xs) ∙ c.0, chain-same ns now t (Some x) xs after (λ k h. same k (has-tail k x xs h)) c.1)

-- a chain whose first entry gets another one before it
pub chain-refirst : (ns now : List Link) (t : ℕ) (before to : Option ℕ) (xs : List ℕ) (after : Option ℕ) →
    HasNoRepeats xs →
    ((k : ℕ) → first_or xs None ≡ Some k → has_entry xs k ≡ true →
    link_at now k ≡ record (link_at ns k) { previous = to }) →
    ((k : ℕ) → (first_or xs None ≡ Some k → ⊥) → has_entry xs k ≡ true → link_at now k ≡ link_at ns k) →
    IsChain ns t before xs after → IsChain now t to xs after
chain-refirst ns now t before to [] after once at other c = record {}
chain-refirst ns now t before to (x ∷ xs) after once at other c = (
  at x refl (has-head x xs) ∙ ap (λ (l : Link). record l { previous = to }) c.0,
  chain-same ns now t (Some x) xs after
      (λ k h. other k (λ e. let same : k ≡ x = cc in apart k x xs h once.0 same) (has-tail k x xs h)) c.1,
)

-- a chain whose last entry gets another one after it
pub chain-relast : (ns now : List Link) (t : ℕ) (before : Option ℕ) (xs : List ℕ) (after to : Option ℕ) →
    HasNoRepeats xs →
    ((k : ℕ) → last_or None xs ≡ Some k → has_entry xs k ≡ true → link_at now k ≡ record (link_at ns k) { next = to }) →
    ((k : ℕ) → (last_or None xs ≡ Some k → ⊥) → has_entry xs k ≡ true → link_at now k ≡ link_at ns k) →
    IsChain ns t before xs after → IsChain now t before xs to
chain-relast ns now t before [] after to once at other c = record {}
chain-relast ns now t before (x ∷ []) after to once at other c =
    (at x refl (has-head x []) ∙ ap (λ (l : Link). record l { next = to }) c.0, record {})
chain-relast ns now t before (x ∷ (y ∷ ys)) after to once at other c =
    let ne : last_or None (y ∷ ys) ≡ Some x → ⊥ = λ e. both_ways (has_entry (y ∷ ys) x) once.0
    (last-has None y ys x e) in (
      other x ne (has-head x (y ∷ ys)) ∙ c.0,
      chain-relast ns now t (Some x) (y ∷ ys) after to once.1 (λ k e h. at k e (has-tail k x (y ∷ ys) h))
          (λ k e h. other k e (has-tail k x (y ∷ ys) h)) c.1,
    )

-- a chain in two parts
pub chain-front : (ns : List Link) (t : ℕ) (before : Option ℕ) (xs ys : List ℕ) (after : Option ℕ) →
    IsChain ns t before (xs ++ ys) after → IsChain ns t before xs (first_or ys after)
chain-front ns t before [] ys after c = record {}
chain-front ns t before (x ∷ []) ys after c = (c.0, record {})
chain-front ns t before (x ∷ (z ∷ zs)) ys after c = (c.0, chain-front ns t (Some x) (z ∷ zs) ys after c.1)

pub chain-back : (ns : List Link) (t : ℕ) (before : Option ℕ) (xs ys : List ℕ) (after : Option ℕ) →
    IsChain ns t before (xs ++ ys) after → IsChain ns t (last_or before xs) ys after
chain-back ns t before [] ys after c = c
chain-back ns t before (x ∷ xs) ys after c = chain-back ns t (Some x) xs ys after c.1

pub chain-append : (ns : List Link) (t : ℕ) (before : Option ℕ) (xs ys : List ℕ) (after : Option ℕ) →
    IsChain ns t before xs (first_or ys after) → IsChain ns t (last_or before xs) ys after →
    IsChain ns t before (xs ++ ys) after
chain-append ns t before [] ys after c d = d
chain-append ns t before (x ∷ []) ys after c d = (c.0, d)
chain-append ns t before (x ∷ (z ∷ zs)) ys after c d = (c.0, chain-append ns t (Some x) (z ∷ zs) ys after c.1 d)

-- a walk along `next` goes over the chain
pub path-chain : (ns : List Link) (t : ℕ) (before : Option ℕ) (xs : List ℕ) (most : ℕ) →
    length xs ≤ most → IsChain ns t before xs None → path most ns (first_or xs None) ≡ xs
path-chain ns t before [] zero enough c = refl
path-chain ns t before [] (suc most) enough c = refl
path-chain ns t before (x ∷ xs) zero enough c = absurd (omega arith)
path-chain ns t before (x ∷ xs) (suc most) enough c =
    ap (λ zs. x ∷ zs) (ap (λ (l : Link). path most ns l.next) c.0 ∙ path-chain ns t (Some x) xs most (omega arith) c.1)

-- an entry that a thread holds is one of the fields
pub held_within : (ns : List Link) (m t : ℕ) → (link_at ns m).holder ≡ Some t → m < length ns
held_within ns m t h = ⊎_elim
    (λ in'. in')
    (λ out. let e : None ≡ Some t = sym (ap (λ (l : Link). l.holder) (get_or_past ns m unlinked out)) ∙ h in absurd cc)
    (cases_lt m (length ns))

-- an entry that is written at a place
pub with_next_mutex-at : (ns : List Link) (p to : Option ℕ) (k : ℕ) → p ≡ Some k → k < length ns →
    link_at (with_next_mutex ns p to) k ≡ record (link_at ns k) { next = to }
with_next_mutex-at ns None to k e l = absurd cc
with_next_mutex-at ns (Some p) to k e l =
    let same : p ≡ k = same_Some p k e in
    subst (λ (j : ℕ). link_at (with_next_mutex ns (Some j) to) k ≡ record (link_at ns k) { next = to }) (sym same)
    (get_or-set_same ns k (record (link_at ns k) { next = to }) unlinked l)

pub with_next_mutex-other : (ns : List Link) (p to : Option ℕ) (k : ℕ) → (p ≡ Some k → ⊥) →
    link_at (with_next_mutex ns p to) k ≡ link_at ns k
with_next_mutex-other ns None to k ne = refl
with_next_mutex-other ns (Some p) to k ne = get_or-set_other ns p k (record (link_at ns p) { next = to }) unlinked
    (λ e. ne (ap Some (sym e)))

pub length-with_next_mutex : (ns : List Link) (p to : Option ℕ) → length (with_next_mutex ns p to) ≡ length ns
length-with_next_mutex ns None to = refl
length-with_next_mutex ns (Some p) to = length-set ns p (record (link_at ns p) { next = to })

pub with_previous-at : (ns : List Link) (p to : Option ℕ) (k : ℕ) → p ≡ Some k → k < length ns →
    link_at (with_previous ns p to) k ≡ record (link_at ns k) { previous = to }
with_previous-at ns None to k e l = absurd cc
with_previous-at ns (Some p) to k e l =
    let same : p ≡ k = same_Some p k e in
    subst (λ (j : ℕ). link_at (with_previous ns (Some j) to) k ≡ record (link_at ns k) { previous = to }) (sym same)
    (get_or-set_same ns k (record (link_at ns k) { previous = to }) unlinked l)

pub with_previous-other : (ns : List Link) (p to : Option ℕ) (k : ℕ) → (p ≡ Some k → ⊥) →
    link_at (with_previous ns p to) k ≡ link_at ns k
with_previous-other ns None to k ne = refl
with_previous-other ns (Some p) to k ne = get_or-set_other ns p k (record (link_at ns p) { previous = to }) unlinked
    (λ e. ne (ap Some (sym e)))

pub length-with_previous : (ns : List Link) (p to : Option ℕ) → length (with_previous ns p to) ≡ length ns
length-with_previous ns None to = refl
length-with_previous ns (Some p) to = length-set ns p (record (link_at ns p) { previous = to })

-- who holds an entry stays if its neighbours change
pub with_next_mutex-holder : (ns : List Link) (p to : Option ℕ) (k : ℕ) →
    (link_at (with_next_mutex ns p to) k).holder ≡ (link_at ns k).holder
with_next_mutex-holder ns None to k = refl
with_next_mutex-holder ns (Some p) to k = kept (λ l. l.holder) ns p (record (link_at ns p) { next = to }) unlinked k refl

pub with_previous-holder : (ns : List Link) (p to : Option ℕ) (k : ℕ) →
    (link_at (with_previous ns p to) k).holder ≡ (link_at ns k).holder
with_previous-holder ns None to k = refl
with_previous-holder ns (Some p) to k = kept (λ l. l.holder) ns p
    (record (link_at ns p) { previous = to }) unlinked k refl

-- the head of a thread whose first mutex changes, or not
pub with_first_mutex-at : (hs : List Head) (t : ℕ) (p to want : Option ℕ) → t < length hs → (p ≡ None → to ≡ want) →
    ((k : ℕ) → p ≡ Some k → (head_at hs t).first ≡ want) →
    head_at (with_first_mutex hs t p to) t ≡ record (head_at hs t) { first = want }
with_first_mutex-at hs t None to want t_in head else =
    get_or-set_same hs t (record (head_at hs t) { first = to }) empty_head t_in
    ∙ ap (λ o. record (head_at hs t) { first = o }) (head refl)
with_first_mutex-at hs t (Some p) to want t_in head else = ap (λ o. record (head_at hs t) { first = o }) (else p refl)

pub with_first_mutex-other : (hs : List Head) (t : ℕ) (p to : Option ℕ) (u : ℕ) → (u ≡ t → ⊥) →
    head_at (with_first_mutex hs t p to) u ≡ head_at hs u
with_first_mutex-other hs t None to u ne = get_or-set_other hs t u (record (head_at hs t) { first = to }) empty_head ne
with_first_mutex-other hs t (Some p) to u ne = refl

pub length-with_first_mutex : (hs : List Head) (t : ℕ) (p to : Option ℕ) → length (with_first_mutex hs t p to) ≡ length hs
length-with_first_mutex hs t None to = length-set hs t (record (head_at hs t) { first = to })
length-with_first_mutex hs t (Some p) to = refl

-- the first of two lists, if the front is empty and if it is not
pub first_or-back : (xs ys : List ℕ) → last_or None xs ≡ None → first_or (xs ++ ys) None ≡ first_or ys None
first_or-back [] ys h = refl
first_or-back (x ∷ xs) ys h = absurd (last_some None x xs h)
  where
    last_some : (before : Option ℕ) (x : ℕ) (xs : List ℕ) → last_or before (x ∷ xs) ≡ None → ⊥
    last_some before x [] h = cc
    last_some before x (y ∷ ys) h = last_some (Some x) y ys h

pub first_or-front : (xs ys zs : List ℕ) (k : ℕ) → last_or None xs ≡ Some k →
    first_or (xs ++ ys) None ≡ first_or (xs ++ zs) None
first_or-front [] ys zs k h = absurd cc
first_or-front (x ∷ xs) ys zs k h = refl
