-- Renumbering tickets keeps the order of the waiters.
use Rattle.std.proofs.Common.{◌≡◌, ◌≢◌, ◌⊎◌, ℕ, zero, suc, ◌+◌, ◌<◌, ◌≤◌, ◌==◌, ◌||◌, Bool, true, false, if◌then◌else◌, List, [], ◌∷◌, length, get_or, Option, Some, None, refl, sym, ap, subst, ◌∙◌, inl, inr, arith, add-one, length-set}
use Rattle.std.proofs.lemmas.Bool.{cases_eq, true≢false}
use Rattle.std.proofs.lemmas.Bool.Decides.{nat_tests}
use Rattle.std.proofs.lemmas.List.{get_or-set_same, get_or-set_other}
use Rattle.pif_kernel_model.specs.Owners.{Owners, Wait, task_at, no_task, with_ticket}
use Rattle.pif_model_lemmas.proofs.Waiting.{names, Once, once_head, once_tail}
use Rattle.pif_kernel_model.specs.Arrivals.{Rise}
use Rattle.pif_kernel_model.specs.Inside.{ticket_of}
use Rattle.pif_kernel_model.specs.Tickets.{renumbered_ticket, seat_with_ticket, IsRenumbered}
use Rattle.pif_kernel_model.proofs.ArrivalLaws.{rise_above}

pub named_at : (ws : List (ℕ × ℕ)) (i t : ℕ) (d : ℕ × ℕ) → i < length ws → (get_or ws i d).0 ≡ t → names t ws ≡ true
named_at [] i t d l e = absurd (omega arith)
named_at (w ∷ ws) zero t d l e = let here : (w.0 == t) ≡ true = grind (arith, nat_tests) in rw here refl
named_at (w ∷ ws) (suc i) t d l e = by_head (w.0 == t) (named_at ws i t d (omega arith) e)
  where
    by_head : (b : Bool) → names t ws ≡ true → (b || names t ws) ≡ true
    by_head true h = refl
    by_head false h = h

apart_named : (w : ℕ × ℕ) (ws : List (ℕ × ℕ)) (t : ℕ) → Once (w ∷ ws) → names t ws ≡ true → w.0 ≢ t
apart_named w ws t once named e = true≢false (sym named ∙ ap (λ (x : ℕ). names x ws) (sym e) ∙ once_head w ws once)

-- who is next has its old ticket, then the new one, and nobody else changes
pub ticket_before : (f : ℕ → ℕ) (n i : ℕ) (ws : List (ℕ × ℕ)) (t : ℕ) (d : ℕ × ℕ) → Once ws → i < length ws
    → (get_or ws i d).0 ≡ t → renumbered_ticket f n i ws t ≡ f t
ticket_before f n zero ws t d once l e = refl
ticket_before f n (suc i) [] t d once l e = refl
ticket_before f n (suc i) (w ∷ ws) t d once l e =
    let ne : w.0 ≢ t = apart_named w ws t once (named_at ws i t d (omega arith) e) in
    let no : (w.0 == t) ≡ false = grind (arith, nat_tests) in
    rw no (ticket_before f (n + 1) i ws t d (once_tail w ws once) (omega arith) e)

pub ticket_after : (f : ℕ → ℕ) (n i : ℕ) (ws : List (ℕ × ℕ)) (t : ℕ) (d : ℕ × ℕ) → Once ws → i < length ws
    → (get_or ws i d).0 ≡ t → renumbered_ticket f n (suc i) ws t ≡ n + i
ticket_after f n i [] t d once l e = absurd (omega arith)
ticket_after f n zero (w ∷ ws) t d once l e =
    let yes : (w.0 == t) ≡ true = grind (arith, nat_tests) in rw yes (omega arith)
ticket_after f n (suc i) (w ∷ ws) t d once l e =
    let ne : w.0 ≢ t = apart_named w ws t once (named_at ws i t d (omega arith) e) in
    let no : (w.0 == t) ≡ false = grind (arith, nat_tests) in
    let ih : renumbered_ticket f (n + 1) (suc i) ws t ≡ n + 1 + i
    = ticket_after f (n + 1) i ws t d (once_tail w ws once) (omega arith) e in
    rw no (omega (arith, ih))

pub ticket_other_than : (f : ℕ → ℕ) (n i : ℕ) (ws : List (ℕ × ℕ)) (t u : ℕ) (d : ℕ × ℕ) → i < length ws
    → (get_or ws i d).0 ≡ t → u ≢ t → renumbered_ticket f n (suc i) ws u ≡ renumbered_ticket f n i ws u
ticket_other_than f n i [] t u d l e ne = absurd (omega arith)
ticket_other_than f n zero (w ∷ ws) t u d l e ne = let no : (w.0 == u) ≡ false = grind (arith, nat_tests) in rw no refl
ticket_other_than f n (suc i) (w ∷ ws) t u d l e ne =
    ap (λ (x : ℕ). if w.0 == u then n else x) (ticket_other_than f (n + 1) i ws t u d (omega arith) e ne)

-- the ticket at a place is at least so far above the first
pub at_least : (f : ℕ → ℕ) (i least : ℕ) (ws : List (ℕ × ℕ)) (next t : ℕ) (d : ℕ × ℕ) → Rise f least ws next → i < length ws
    → (get_or ws i d).0 ≡ t → least + i ≤ f t
at_least f i least [] next t d r l e = absurd (omega arith)
at_least f zero least (w ∷ ws) next t d r l e = let at : f w.0 ≡ f t = ap f e in omega (arith, r.0)
at_least f (suc i) least (w ∷ ws) next t d r l e =
    omega (arith, at_least f i (f w.0 + 1) ws next t d r.1 (omega arith) e, r.0)

-- if the next stands among the others: with its new ticket as with its old one
pub order : (f : ℕ → ℕ) (n i least : ℕ) (ws : List (ℕ × ℕ)) (next t u : ℕ) (d : ℕ × ℕ) → n ≤ least
    → Rise f least ws next → i < length ws → (get_or ws i d).0 ≡ t → u ≢ t → names u ws ≡ true
    → (n + i ≤ f t) × (((renumbered_ticket f n i ws u < n + i) × (renumbered_ticket f n i ws u < f t)) ⊎
    ((n + i < renumbered_ticket f n i ws u) × (f t < renumbered_ticket f n i ws u)))
order f n i least [] next t u d le r l e ne named = absurd (omega arith)
order f n zero least (w ∷ ws) next t u d le r l e ne named =
    let at : f w.0 ≡ f t = ap f e in
    let no : (w.0 == u) ≡ false = grind (arith, nat_tests) in
    let up : f w.0 + 1 ≤ f u = rise_above f (f w.0 + 1) ws next u r.1 (rw no at named) in
    (omega (arith, r.0), inr (omega (arith, r.0), omega arith))
order f n (suc i) least (w ∷ ws) next t u d le r l e ne named =
    by_head (cases_eq w.0 u) named (λ rest. order f (n + 1) i (f w.0 + 1) ws next t u d (omega (arith, r.0)) r.1
    (omega arith) e ne rest)
    (rise_above f (f w.0 + 1) ws next t r.1 (named_at ws i t d (omega arith) e))
  where
    by_head : ((w.0 ≡ u) ⊎ (w.0 ≡ u → ⊥)) → names u (w ∷ ws) ≡ true
        → (names u ws ≡ true
        → ((n + 1) + i ≤ f t) × (((renumbered_ticket f (n + 1) i ws u < (n + 1) + i) ×
        (renumbered_ticket f (n + 1) i ws u < f t)) ⊎
        (((n + 1) + i < renumbered_ticket f (n + 1) i ws u) × (f t < renumbered_ticket f (n + 1) i ws u))))
        → f w.0 + 1 ≤ f t
        → (n + suc i ≤ f t) × (((renumbered_ticket f n (suc i) (w ∷ ws) u < n + suc i) ×
        (renumbered_ticket f n (suc i) (w ∷ ws) u < f t))
        ⊎ ((n + suc i < renumbered_ticket f n (suc i) (w ∷ ws) u) × (f t < renumbered_ticket f n (suc i) (w ∷ ws) u)))
    by_head (inl same) named ih up =
        let yes : (w.0 == u) ≡ true = grind (arith, nat_tests) in
        let least_is : n + suc i ≤ f t = omega (arith, at_least f i (f w.0 + 1) ws next t d r.1 (omega arith) e, r.0) in
        (least_is, rw yes (inl (omega arith, omega (arith, r.0))))
    by_head (inr other) named ih up =
        let no : (w.0 == u) ≡ false = grind (arith, nat_tests) in
        let p = ih (rw no at named) in
        (omega (arith, p.0), rw no (by_side p.1))
      where
        by_side : ((renumbered_ticket f (n + 1) i ws u < (n + 1) + i) × (renumbered_ticket f (n + 1) i ws u < f t))
            ⊎ (((n + 1) + i < renumbered_ticket f (n + 1) i ws u) × (f t < renumbered_ticket f (n + 1) i ws u))
            → ((renumbered_ticket f (n + 1) i ws u < n + suc i) × (renumbered_ticket f (n + 1) i ws u < f t))
            ⊎ ((n + suc i < renumbered_ticket f (n + 1) i ws u) × (f t < renumbered_ticket f (n + 1) i ws u))
        by_side (inl a) = inl (omega (arith, a.0), a.1)
        by_side (inr a) = inr (omega (arith, a.0), a.1)

-- in the end the tickets rise from n on
pub rise_renumbered : (f g : ℕ → ℕ) (n : ℕ) (ws : List (ℕ × ℕ)) → Once ws
    → ((u : ℕ) → names u ws ≡ true → g u ≡ renumbered_ticket f n (length ws) ws u) → Rise g n ws (n + length ws)
rise_renumbered f g n [] once h = omega arith
rise_renumbered f g n (w ∷ ws) once h = (
  omega (arith, first),
  subst (λ (x : ℕ). Rise g (x + 1) ws (n + length (w ∷ ws))) (sym first)
      (subst (λ (x : ℕ). Rise g (n + 1) ws x) (omega arith)
      (rise_renumbered f g (n + 1) ws (once_tail w ws once) rest)),
)
  where
    self : (w.0 == w.0) ≡ true
    self = grind (arith, nat_tests)

    first : g w.0 ≡ n
    first = h w.0 (rw self refl) ∙ rw self refl

    rest : (u : ℕ) → names u ws ≡ true → g u ≡ renumbered_ticket f (n + 1) (length ws) ws u
    rest u named =
        let ne : w.0 ≢ u = apart_named w ws u once named in
        let no : (w.0 == u) ≡ false = grind (arith, nat_tests) in
        h u (rw (no, named) refl) ∙ rw no refl

-- THE OWNER STATES

with_ticket_twice : (n k : ℕ) (base local : ℕ) (o : Option Wait)
    → seat_with_ticket n (seat_with_ticket k (record { base = base; local = local; wait = o }))
    ≡ seat_with_ticket n (record { base = base; local = local; wait = o })
with_ticket_twice n k base local None = refl
with_ticket_twice n k base local (Some w) = refl

-- one more
pub renumbered_more : (v now : Owners) (ws : List (ℕ × ℕ)) (i t : ℕ) (d : ℕ × ℕ) → IsRenumbered v now ws i → Once ws
    → i < length ws → (get_or ws i d).0 ≡ t → t < length v.seats
    → IsRenumbered v (with_ticket t (i + 1) now) ws (i + 1)
renumbered_more v now ws i t d h once l e inside =
    record { seats = length-set now.seats t _ ∙ h.seats; owners = h.owners; seat = λ u. by_place u (cases_eq u t) }
  where
    by_place : (u : ℕ) → ((u ≡ t) ⊎ (u ≡ t → ⊥))
        → task_at (with_ticket t (i + 1) now) u ≡ seat_with_ticket (renumbered_ticket (ticket_of v) 1 (i + 1) ws u)
        (task_at v u)
    by_place u (inl same) =
        let one : i + 1 ≡ suc i = add-one i in
        let sum : 1 + i ≡ i + 1 = omega arith in
        let tag : renumbered_ticket (ticket_of v) 1 (i + 1) ws t ≡ i + 1
        = ap (λ (k : ℕ). renumbered_ticket (ticket_of v) 1 k ws t) one ∙ ticket_after (ticket_of v) 1 i ws t d once l e
        ∙ sum in
        ap (λ (x : ℕ). task_at (with_ticket t (i + 1) now) x) same
        ∙ get_or-set_same now.seats t _ no_task (omega (arith, inside, h.seats))
        ∙ ap (seat_with_ticket (i + 1)) (h.seat t)
        ∙ with_ticket_twice (i + 1) _ (task_at v t).base (task_at v t).local (task_at v t).wait
        ∙ ap (λ (k : ℕ). seat_with_ticket k (task_at v t)) (sym tag)
        ∙ ap (λ (x : ℕ). seat_with_ticket (renumbered_ticket (ticket_of v) 1 (i + 1) ws x) (task_at v x)) (sym same)
    by_place u (inr ne) =
        let one : i + 1 ≡ suc i = add-one i in
        get_or-set_other now.seats t u _ no_task ne ∙ h.seat u
        ∙ ap (λ (k : ℕ). seat_with_ticket k (task_at v u))
        (sym (ap (λ (k : ℕ). renumbered_ticket (ticket_of v) 1 k ws u) one
        ∙ ticket_other_than (ticket_of v) 1 i ws t u d l e ne))
