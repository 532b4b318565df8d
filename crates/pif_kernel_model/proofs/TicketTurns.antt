-- Whose turn it is to get a new ticket.
use Rattle.std.proofs.Common.{◌≡◌, ◌≢◌, ◌⊎◌, ℕ, zero, suc, ◌+◌, ◌<◌, ◌≤◌, ◌==◌, nat_lt, Bool, true, false, if◌then◌else◌, List, [], ◌∷◌, length, get_or, Option, Some, None, is_some, option_map, unwrap_or, refl, sym, ap, subst, ◌∙◌, inl, inr, arith}
use Rattle.std.proofs.lemmas.Bool.{cases_eq, cases_lt, true≢false, false≢true}
use Rattle.std.proofs.lemmas.Bool.Decides.{nat_tests}
use Rattle.pif_nodes_model.specs.declared.keys.Key.{Key}
use Rattle.pif_kernel_model.specs.Owners.{Owners, Task, Wait, task_at}
use Rattle.pif_model_lemmas.proofs.Waiting.{names}
use Rattle.pif_kernel_model.specs.Inside.{Inside, IsSoundInside, ticket_of}
use Rattle.pif_kernel_model.specs.Arrivals.{Rise}
use Rattle.pif_kernel_model.specs.Tickets.{renumbered_ticket, seat_with_ticket, IsRenumbered, IsRenumberable, IsNumbered, HasFirstTicketFrom}
use Rattle.pif_kernel_model.proofs.ArrivalLaws.{rise_once}
use Rattle.pif_kernel_model.proofs.TicketLaws.{named_at, ticket_before, at_least, order, rise_renumbered}
use Rattle.pif_kernel_model.proofs.Waiters.{waits_named, named_known}

rise_below : (f : ℕ → ℕ) (least : ℕ) (ws : List (ℕ × ℕ)) (next u : ℕ) → Rise f least ws next → names u ws ≡ true
    → (least ≤ next) × (f u < next)
rise_below f least [] next u r e = absurd (false≢true e)
rise_below f least (w ∷ ws) next u r e =
    by_head (cases_eq w.0 u) e (rise_end (f w.0 + 1) ws r.1) (rise_below f (f w.0 + 1) ws next u r.1)
  where
    rise_end : (least : ℕ) (ws : List (ℕ × ℕ)) → Rise f least ws next → least ≤ next
    rise_end least [] r = r
    rise_end least (x ∷ xs) r = omega (arith, r.0, rise_end (f x.0 + 1) xs r.1)

    by_head : ((w.0 ≡ u) ⊎ (w.0 ≡ u → ⊥)) → names u (w ∷ ws) ≡ true → f w.0 + 1 ≤ next
        → (names u ws ≡ true → (f w.0 + 1 ≤ next) × (f u < next)) → (least ≤ next) × (f u < next)
    by_head (inl same) e up ih =
        let at : f w.0 ≡ f u = ap f same in (omega (arith, r.0, up), omega (arith, at, up))
    by_head (inr ne) e up ih =
        let no : (w.0 == u) ≡ false = grind (arith, nat_tests) in
        let rest : names u ws ≡ true = rw no at e in
        (omega (arith, r.0, up), (ih rest).1)

-- who isn't among them keeps its ticket
unnamed_keeps : (f : ℕ → ℕ) (n i : ℕ) (ws : List (ℕ × ℕ)) (u : ℕ) → names u ws ≡ false
    → renumbered_ticket f n i ws u ≡ f u
unnamed_keeps f n zero ws u e = refl
unnamed_keeps f n (suc i) [] u e = refl
unnamed_keeps f n (suc i) (w ∷ ws) u e = by_head (cases_eq w.0 u) e (unnamed_keeps f (n + 1) i ws u)
  where
    by_head : ((w.0 ≡ u) ⊎ (w.0 ≡ u → ⊥)) → names u (w ∷ ws) ≡ false
        → (names u ws ≡ false → renumbered_ticket f (n + 1) i ws u ≡ f u)
        → renumbered_ticket f n (suc i) (w ∷ ws) u ≡ f u
    by_head (inl same) e ih =
        let yes : (w.0 == u) ≡ true = grind (arith, nat_tests) in absurd (true≢false (rw yes at e))
    by_head (inr ne) e ih =
        let no : (w.0 == u) ≡ false = grind (arith, nat_tests) in rw no (ih (rw no at e))

with_ticket_waits : (n : ℕ) (x : Task) → is_some (option_map (λ (w : Wait). w.state) x.wait) ≡ true
    → unwrap_or (option_map (λ (r : Key). r.ticket) (option_map (λ (w : Wait). w.rank) (seat_with_ticket n x).wait)) 0 ≡ n
with_ticket_waits n x e = by_wait x.wait e
  where
    by_wait : (o : Option Wait) → is_some (option_map (λ (w : Wait). w.state) o) ≡ true
        → unwrap_or (option_map (λ (r : Key). r.ticket) (option_map (λ (w : Wait). w.rank)
        (option_map (λ (w : Wait). record { state = w.state; rank = record { prio = w.rank.prio; ticket = n } }) o))) 0
        ≡ n
    by_wait None e = absurd (false≢true e)
    by_wait (Some w) e = refl

with_ticket_zero : (n : ℕ) (x : Task) → n ≡ 0
    → unwrap_or (option_map (λ (r : Key). r.ticket) (option_map (λ (w : Wait). w.rank) (seat_with_ticket n x).wait)) 0 ≡ 0
with_ticket_zero n x z = by_wait x.wait
  where
    by_wait : (o : Option Wait)
        → unwrap_or (option_map (λ (r : Key). r.ticket) (option_map (λ (w : Wait). w.rank)
        (option_map (λ (w : Wait). record { state = w.state; rank = record { prio = w.rank.prio; ticket = n } }) o))) 0
        ≡ 0
    by_wait None = refl
    by_wait (Some w) = z

module _ (v now : Owners) (n i : ℕ) (ws : List (ℕ × ℕ)) (d : IsNumbered v n ws) (r : IsRenumberable v ws)
    (g : IsRenumbered v now ws i) (most : i ≤ length ws) where
  tag_named : (u : ℕ) → names u ws ≡ true → ticket_of now u ≡ renumbered_ticket (ticket_of v) 1 i ws u
  tag_named u e =
      ap (λ (x : Task). unwrap_or (option_map (λ (k : Key). k.ticket) (option_map (λ (w : Wait). w.rank) x.wait)) 0)
      (g.seat u) ∙ with_ticket_waits (renumbered_ticket (ticket_of v) 1 i ws u) (task_at v u) (r.waits u e)

  tag_other : (u : ℕ) → names u ws ≡ false → ticket_of now u ≡ 0
  tag_other u e =
      ap (λ (x : Task). unwrap_or (option_map (λ (k : Key). k.ticket) (option_map (λ (w : Wait). w.rank) x.wait)) 0)
      (g.seat u) ∙ with_ticket_zero (renumbered_ticket (ticket_of v) 1 i ws u) (task_at v u)
      (unnamed_keeps (ticket_of v) 1 i ws u e ∙ d.others u e)

  -- who has a ticket from the next on is among them
  high_named : (u : ℕ) → i + 1 ≤ ticket_of now u → names u ws ≡ true
  high_named u l = by_test (names u ws) refl
    where
      by_test : (b : Bool) → names u ws ≡ b → names u ws ≡ true
      by_test true e = e
      by_test false e = absurd (omega (arith, l, tag_other u e))

  -- the one at the next place has its old ticket
  here : (t : ℕ) (x : ℕ × ℕ) → i < length ws → (get_or ws i x).0 ≡ t
      → (i + 1 ≤ ticket_of v t) × (ticket_of now t ≡ ticket_of v t)
  here t x l e = (
    omega (arith, at_least (ticket_of v) i 1 ws d.next t x d.rises l e),
    tag_named t (named_at ws i t x l e)
        ∙ ticket_before (ticket_of v) 1 i ws t x (rise_once (ticket_of v) 1 ws d.next d.rises) l e,
  )

  pub turn_none : HasFirstTicketFrom (ticket_of now) (i + 1) n None → i ≡ length ws
  turn_none none = by_place (cases_lt i (length ws))
    where
      by_place : ((i < length ws) ⊎ (length ws ≤ i)) → i ≡ length ws
      by_place (inr g) = omega (arith, g, most)
      by_place (inl l) =
          let t : ℕ = (get_or ws i (0, 0)).0 in
          let k = d.known t (named_at ws i t (0, 0) l refl) in
          let at = here t (0, 0) l refl in
          absurd (omega (arith, none t (omega (arith, k.0)) k.1, at.0, at.1))

  pub turn_some : (t : ℕ) (x : ℕ × ℕ) → HasFirstTicketFrom (ticket_of now) (i + 1) n (Some t)
      → (i < length ws) × ((get_or ws i x).0 ≡ t)
  turn_some t x f = by_place (cases_lt i (length ws))
    where
      named : names t ws ≡ true
      named = high_named t f.2

      by_other : (i < length ws) → ((t ≡ (get_or ws i x).0) ⊎ (t ≡ (get_or ws i x).0 → ⊥)) → (get_or ws i x).0 ≡ t
      by_other l (inl same) = sym same
      by_other l (inr ne) =
          let w : ℕ = (get_or ws i x).0 in
          let at = here w x l refl in
          let k = d.known w (named_at ws i w x l refl) in
          let low : ticket_of now t ≤ ticket_of now w = f.3 w (omega (arith, k.0)) k.1 (omega (arith, at.0, at.1)) in
          let s = order (ticket_of v) 1 i 1 ws d.next w t x (omega arith) d.rises l refl ne named in
          by_side s.1 low at.1
        where
          by_side : ((renumbered_ticket (ticket_of v) 1 i ws t < 1 + i)
              × (renumbered_ticket (ticket_of v) 1 i ws t < ticket_of v (get_or ws i x).0))
              ⊎ ((1 + i < renumbered_ticket (ticket_of v) 1 i ws t)
              × (ticket_of v (get_or ws i x).0 < renumbered_ticket (ticket_of v) 1 i ws t))
              → ticket_of now t ≤ ticket_of now (get_or ws i x).0
              → ticket_of now (get_or ws i x).0 ≡ ticket_of v (get_or ws i x).0 → (get_or ws i x).0 ≡ t
          by_side (inl a) low at = absurd (omega (arith, a.0, tag_named t named, f.2))
          by_side (inr a) low at = absurd (omega (arith, a.1, tag_named t named, low, at))

      by_place : ((i < length ws) ⊎ (length ws ≤ i)) → (i < length ws) × ((get_or ws i x).0 ≡ t)
      by_place (inl l) = (l, by_other l (cases_eq t (get_or ws i x).0))
      by_place (inr past) =
          let all : i ≡ length ws = omega (arith, past, most) in
          let up : Rise (ticket_of now) 1 ws (1 + length ws)
          = rise_renumbered (ticket_of v) (ticket_of now) 1 ws (rise_once (ticket_of v) 1 ws d.next d.rises)
          (λ u e. tag_named u e ∙ ap (λ (j : ℕ). renumbered_ticket (ticket_of v) 1 j ws u) all) in
          absurd (omega (arith, (rise_below (ticket_of now) 1 ws (1 + length ws) t up named).1, f.2, all))

-- what is kept soundly is numbered so
pub numbered : (p : Inside) → IsSoundInside p → IsNumbered p.owners (length p.statuses) p.arrivals
numbered p h = record {
  some = h.placed.some;
  few = omega (arith, h.placed.few, h.placed.within.threads);
  next = p.next;
  rises = h.placed.tickets;
  known = λ t e. named_known p h t e;
  others = λ t e. by_wait t e (task_at p.owners t).wait refl;
}
  where
    by_wait : (t : ℕ) → names t p.arrivals ≡ false → (o : Option Wait) → (task_at p.owners t).wait ≡ o
        → ticket_of p.owners t ≡ 0
    by_wait t e None w =
        ap (λ (o : Option Wait). unwrap_or (option_map (λ (k : Key). k.ticket) (option_map (λ (x : Wait). x.rank) o)) 0) w
    by_wait t e (Some x) w =
        absurd (true≢false (sym (waits_named p h t x.state (ap (λ (o : Option Wait). option_map (λ (y : Wait). y.state) o) w))
        ∙ e))
