-- Parked threads get the tickets from 1 on, one after another, each the one of the lowest ticket that is left.
use Rattle.std.proofs.Common.{◌≡◌, ◌≢◌, ◌⊎◌, ℕ, zero, suc, ◌+◌, ◌<◌, ◌≤◌, ◌==◌, ◌||◌, ◌&&◌, nat_lt, Bool, true, false, if◌then◌else◌, Option, Some, None, refl, sym, ap, subst, ◌∙◌, inl, inr, arith}
use Rattle.std.proofs.lemmas.Bool.{cases_eq, cases_lt}
use Rattle.std.proofs.lemmas.Bool.Decides.{nat_tests}
use Rattle.pif_nodes_model.specs.declared.keys.Key.{Key}
use Rattle.pif_nodes_model.specs.Lists.{has}
use Rattle.pif_nodes_model.specs.Table.{NodeLists, holder}
use Rattle.pif_kernel_model.specs.QueueFrames.{KeepsOthers}
use Rattle.pif_kernel_model.specs.Parked.{Parked, ParkedLists, parked_at, parked_with_ticket, IsThread, parking_node, KeepsNodes, StandParked, IsParkedOn, KeepsParkedOrder}
use Rattle.pif_kernel_model.specs.Tickets.{HasFirstTicketFrom}
use Rattle.pif_queue.specs.Numbered.{ticket_in, ticket_by, HaveTickets, AreNumbered}
use Rattle.pif_queue.proofs.ParkedLemmas.{parked-node, place-by_parked}

-- A PROPERTY OF A TEST

by_test : (P : Bool → Type 0) (b : Bool) → (b ≡ true → P true) → (b ≡ false → P false) → P b
by_test P true h k = h refl
by_test P false h k = k refl

-- HOW MANY ARE LEFT

-- how many of the threads from 1 to n have a ticket from k on
abbrev pub left_from : (ℕ → ℕ) → ℕ → ℕ → ℕ
left_from ticket k zero = 0
left_from ticket k (suc n) = if nat_lt (ticket (suc n)) k then left_from ticket k n else left_from ticket k n + 1

left-most : (ticket : ℕ → ℕ) (k n : ℕ) → left_from ticket k n ≤ n
left-most ticket k zero = omega arith
left-most ticket k (suc n) =
    let rest : left_from ticket k n ≤ n = left-most ticket k n in
    by_test (λ b. (if b then left_from ticket k n else left_from ticket k n + 1) ≤ suc n) (nat_lt (ticket (suc n)) k)
    (λ e. omega (arith, rest)) (λ e. omega (arith, rest))

-- no more are left from a higher ticket on, if no ticket has risen so far
left-fewer : (f g : ℕ → ℕ) (k m n : ℕ) → ((u : ℕ) → m ≤ g u → k ≤ f u) → left_from g m n ≤ left_from f k n
left-fewer f g k m zero low = omega arith
left-fewer f g k m (suc n) low =
    by_tests (nat_lt (g (suc n)) m) (nat_lt (f (suc n)) k) refl refl (left-fewer f g k m n low)
  where
    by_tests : (a b : Bool) → nat_lt (g (suc n)) m ≡ a → nat_lt (f (suc n)) k ≡ b → left_from g m n ≤ left_from f k n
        → (if a then left_from g m n else left_from g m n + 1) ≤ (if b then left_from f k n else left_from f k n + 1)
    by_tests true true e f' ih = ih
    by_tests true false e f' ih = omega (arith, ih)
    by_tests false true e f' ih =
        let high : m ≤ g (suc n) = grind (arith, nat_tests, e) in
        let below : f (suc n) < k = grind (arith, nat_tests, f') in absurd (omega (arith, below, low (suc n) high))
    by_tests false false e f' ih = omega (arith, ih)

-- and one less, if one has fallen behind
left-less : (f g : ℕ → ℕ) (k m n t : ℕ) → ((u : ℕ) → m ≤ g u → k ≤ f u) → 1 ≤ t → t ≤ n → k ≤ f t → g t < m
    → left_from g m n + 1 ≤ left_from f k n
left-less f g k m zero t low one le from to = absurd (omega (arith, one, le))
left-less f g k m (suc n) t low one le from to =
    by_last (cases_eq t (suc n)) (λ l. left-less f g k m n t low one l from to) (left-fewer f g k m n low)
  where
    by_tests : t ≢ suc n → (a b : Bool) → nat_lt (g (suc n)) m ≡ a → nat_lt (f (suc n)) k ≡ b
        → left_from g m n + 1 ≤ left_from f k n
        → (if a then left_from g m n else left_from g m n + 1) + 1
        ≤ (if b then left_from f k n else left_from f k n + 1)
    by_tests ne true true e f' ih = ih
    by_tests ne true false e f' ih = omega (arith, ih)
    by_tests ne false true e f' ih =
        let high : m ≤ g (suc n) = grind (arith, nat_tests, e) in
        let below : f (suc n) < k = grind (arith, nat_tests, f') in absurd (omega (arith, below, low (suc n) high))
    by_tests ne false false e f' ih = omega (arith, ih)

    by_last : ((t ≡ suc n) ⊎ (t ≡ suc n → ⊥)) → (t ≤ n → left_from g m n + 1 ≤ left_from f k n)
        → left_from g m n ≤ left_from f k n → left_from g m (suc n) + 1 ≤ left_from f k (suc n)
    by_last (inl same) ih rest =
        let gone : nat_lt (g (suc n)) m ≡ true = grind (arith, nat_tests, to, ap g same) in
        let there : nat_lt (f (suc n)) k ≡ false = grind (arith, nat_tests, from, ap f same) in
        rw (gone, there) (omega (arith, rest))
    by_last (inr ne) ih rest =
        by_tests ne (nat_lt (g (suc n)) m) (nat_lt (f (suc n)) k) refl refl (ih (omega (arith, le, ne)))

-- THE LOWEST GETS THE NEXT NUMBER

-- a thread with a ticket is parked
some-ticket : (o : Option Parked) → 1 ≤ ticket_in o → (x : Parked) × (o ≡ Some x) × (x.rank.ticket ≡ ticket_in o)
some-ticket None low = absurd (omega (arith, low))
some-ticket (Some x) low = (x, refl, refl)

-- a thread that is parked with another ticket is parked
some-kept : (o p : Option Parked) (x : Parked) → parked_with_ticket 0 p ≡ parked_with_ticket 0 o → p ≡ Some x
    → (y : Parked) × (o ≡ Some y)
some-kept None None x e is = absurd cc
some-kept None (Some y) x e is = absurd cc
some-kept (Some y) p x e is = (y, refl)

-- with which ticket a thread is parked doesn't matter once it has another
kept-again : (k : ℕ) (o : Option Parked) → parked_with_ticket 0 (parked_with_ticket k o) ≡ parked_with_ticket 0 o
kept-again k None = refl
kept-again k (Some x) = refl

ticket-again : (k : ℕ) (o : Option Parked) → 1 ≤ ticket_in o → ticket_in (parked_with_ticket k o) ≡ k
ticket-again k None low = absurd (omega (arith, low))
ticket-again k (Some x) low = refl

-- the tickets below k are given: of n threads, of which no others are parked
pub record IsNumbering (at now : ℕ → Option Parked) (n k : ℕ) : Type 0 where
  pub some : 1 ≤ k
  pub kept : (u : ℕ) → parked_with_ticket 0 (now u) ≡ parked_with_ticket 0 (at u)
  pub order : (u v : ℕ) → nat_lt (ticket_by now u) (ticket_by now v) ≡ nat_lt (ticket_by at u) (ticket_by at v)
  pub least : (u : ℕ) (x : Parked) → now u ≡ Some x → 1 ≤ x.rank.ticket
  pub each : (j : ℕ) → 1 ≤ j → j < k → (u : ℕ) × (ticket_by now u ≡ j)
  pub few : k + left_from (ticket_by now) k n ≤ n + 1

pub numbering-start : (at : ℕ → Option Parked) (n : ℕ) → HaveTickets at → IsNumbering at at n 1
numbering-start at n h =
    record {
      some = omega arith;
      kept = λ u. refl;
      order = λ u v. refl;
      least = h.least;
      each = λ j low high. absurd (omega (arith, low, high));
      few = omega (arith, left-most (ticket_by at) 1 n);
    }

module _ (at now : ℕ → Option Parked) (n k : ℕ) (h : HaveTickets at)
    (within : (u : ℕ) (x : Parked) → at u ≡ Some x → (1 ≤ u) × (u ≤ n)) (i : IsNumbering at now n k) where
  abbrev ticket : ℕ → ℕ
  ticket u = ticket_by now u

  -- who has a ticket from k on is one of the threads
  parked-now : (u : ℕ) → k ≤ ticket u → (x : Parked) × (now u ≡ Some x) × (x.rank.ticket ≡ ticket u)
  parked-now u high = some-ticket (now u) (omega (arith, high, i.some))

  known : (u : ℕ) → k ≤ ticket u → (1 ≤ u) × (u ≤ n)
  known u high =
      let x = parked-now u high in
      let y = some-kept (at u) (now u) x.0 (i.kept u) x.1 in within u y.0 y.1

  -- no two have the same
  once-now : (u v : ℕ) → k ≤ ticket u → ticket u ≡ ticket v → u ≡ v
  once-now u v high same =
      let x = parked-now u high in
      let z = parked-now v (omega (arith, high, same)) in
      let y = some-kept (at u) (now u) x.0 (i.kept u) x.1 in
      let w = some-kept (at v) (now v) z.0 (i.kept v) z.1 in
      let up : nat_lt (ticket_by at u) (ticket_by at v) ≡ false
      = sym (i.order u v) ∙ (let e : nat_lt (ticket u) (ticket v) ≡ false = grind (arith, nat_tests, same) in e) in
      let down : nat_lt (ticket_by at v) (ticket_by at u) ≡ false
      = sym (i.order v u) ∙ (let e : nat_lt (ticket v) (ticket u) ≡ false = grind (arith, nat_tests, same) in e) in
      let equal : ticket_by at u ≡ ticket_by at v = grind (arith, nat_tests, up, down) in
      h.once u v y.0 w.0 y.1 w.1 (sym (ap ticket_in y.1) ∙ equal ∙ ap ticket_in w.1)

  -- nobody is left
  pub numbering-ends : HasFirstTicketFrom ticket k (n + 1) None → AreNumbered at now k
  numbering-ends none =
      record { kept = i.kept; order = i.order; least = i.least; below = λ u. below u (cases_lt (ticket u) k); each = i.each }
    where
      below : (u : ℕ) → ((ticket u < k) ⊎ (k ≤ ticket u)) → ticket u < k
      below u (inl low) = low
      below u (inr high) = let a = known u high in none u a.0 (omega (arith, a.1))

  module _ (t : ℕ) (first : HasFirstTicketFrom ticket k (n + 1) (Some t)) where
    lowest : (v : ℕ) → v ≢ t → k ≤ ticket v → ticket t < ticket v
    lowest v ne high =
        let a = known v high in
        let up : ticket t ≤ ticket v = first.3 v a.0 (omega (arith, a.1)) high in
        by_equal (cases_eq (ticket t) (ticket v)) up
      where
        by_equal : ((ticket t ≡ ticket v) ⊎ (ticket t ≡ ticket v → ⊥)) → ticket t ≤ ticket v → ticket t < ticket v
        by_equal (inl same) up = absurd (ne (sym (once-now t v first.2 same)))
        by_equal (inr other) up = omega (arith, up, other)

    -- it stands before the same others with the number k
    stays-before : (v : ℕ) → v ≢ t → nat_lt k (ticket v) ≡ nat_lt (ticket t) (ticket v)
    stays-before v ne = by_ticket (cases_lt (ticket v) k)
      where
        by_ticket : ((ticket v < k) ⊎ (k ≤ ticket v)) → nat_lt k (ticket v) ≡ nat_lt (ticket t) (ticket v)
        by_ticket (inl low) = grind (arith, nat_tests, low, first.2)
        by_ticket (inr high) = let up = lowest v ne high in grind (arith, nat_tests, up, first.2)

    stays-behind : (v : ℕ) → v ≢ t → nat_lt (ticket v) k ≡ nat_lt (ticket v) (ticket t)
    stays-behind v ne = by_ticket (cases_lt (ticket v) k)
      where
        by_ticket : ((ticket v < k) ⊎ (k ≤ ticket v)) → nat_lt (ticket v) k ≡ nat_lt (ticket v) (ticket t)
        by_ticket (inl low) = grind (arith, nat_tests, low, first.2)
        by_ticket (inr high) = let up = lowest v ne high in grind (arith, nat_tests, up, high)

    module _ (next : ℕ → Option Parked) (change : (u : ℕ) → next u ≡ (if u == t then parked_with_ticket k (now u) else now u)) where
      changed-there : next t ≡ parked_with_ticket k (now t)
      changed-there = let here : (t == t) ≡ true = grind (arith, nat_tests) in change t ∙ rw here refl

      changed-else : (u : ℕ) → u ≢ t → next u ≡ now u
      changed-else u ne = let there : (u == t) ≡ false = grind (arith, nat_tests) in change u ∙ rw there refl

      number-there : ticket_by next t ≡ k
      number-there = ap ticket_in changed-there ∙ ticket-again k (now t) (omega (arith, first.2, i.some))

      -- nobody's ticket rose
      not_risen : (u : ℕ) → k + 1 ≤ ticket_by next u → k ≤ ticket u
      not_risen u high = by_place (cases_eq u t)
        where
          by_place : ((u ≡ t) ⊎ (u ≡ t → ⊥)) → k ≤ ticket u
          by_place (inl same) = omega (arith, first.2, ap ticket same)
          by_place (inr ne) = omega (arith, high, ap ticket_in (changed-else u ne))

      -- so one more has its number
      pub numbering-more : IsNumbering at next n (k + 1)
      numbering-more =
          record {
            some = omega arith;
            kept = λ u. by_thread (λ o u. parked_with_ticket 0 o ≡ parked_with_ticket 0 (at u))
                (kept-again k (now t) ∙ i.kept t) (λ u ne. i.kept u) u;
            order = order;
            least = least;
            each = each;
            few = omega (
              arith,
              i.few,
              left-less ticket (ticket_by next) k (k + 1) n t not_risen first.0
                  (omega (arith, first.1)) first.2 (omega (arith, number-there)),
            );
          }
        where
          by_thread : (P : Option Parked → ℕ → Type 0) → P (parked_with_ticket k (now t)) t
              → ((u : ℕ) → u ≢ t → P (now u) u) → (u : ℕ) → P (next u) u
          by_thread P here there u = by_place (cases_eq u t)
            where
              by_place : ((u ≡ t) ⊎ (u ≡ t → ⊥)) → P (next u) u
              by_place (inl same) =
                  subst (λ (v : ℕ). P (next v) v) (sym same) (subst (λ (o : Option Parked). P o t) (sym changed-there) here)
              by_place (inr ne) = subst (λ (o : Option Parked). P o u) (sym (changed-else u ne)) (there u ne)

          order : (u v : ℕ) → nat_lt (ticket_by next u) (ticket_by next v) ≡ nat_lt (ticket_by at u) (ticket_by at v)
          order u v = by_place (cases_eq u t) (cases_eq v t)
            where
              by_place : ((u ≡ t) ⊎ (u ≡ t → ⊥)) → ((v ≡ t) ⊎ (v ≡ t → ⊥))
                  → nat_lt (ticket_by next u) (ticket_by next v) ≡ nat_lt (ticket_by at u) (ticket_by at v)
              by_place (inl a) (inl b) =
                  let one = ap (ticket_by next) (a ∙ sym b) in
                  let was = ap (ticket_by at) (a ∙ sym b) in grind (arith, nat_tests, one, was)
              by_place (inl a) (inr b) =
                  (λ j. nat_lt ((ap (ticket_by next) a ∙ number-there) j) (ticket_in (changed-else v b j)))
                  ∙ stays-before v b ∙ ap (λ (x : ℕ). nat_lt (ticket x) (ticket v)) (sym a) ∙ i.order u v
              by_place (inr a) (inl b) =
                  (λ j. nat_lt (ticket_in (changed-else u a j)) ((ap (ticket_by next) b ∙ number-there) j))
                  ∙ stays-behind u a ∙ ap (λ (x : ℕ). nat_lt (ticket u) (ticket x)) (sym b) ∙ i.order u v
              by_place (inr a) (inr b) =
                  (λ j. nat_lt (ticket_in (changed-else u a j)) (ticket_in (changed-else v b j))) ∙ i.order u v

          least : (u : ℕ) (x : Parked) → next u ≡ Some x → 1 ≤ x.rank.ticket
          least u x e = by_place (cases_eq u t)
            where
              by_place : ((u ≡ t) ⊎ (u ≡ t → ⊥)) → 1 ≤ x.rank.ticket
              by_place (inl same) =
                  omega (arith, i.some, ap ticket_in (sym e), ap (ticket_by next) same, number-there)
              by_place (inr ne) = i.least u x (sym (changed-else u ne) ∙ e)

          each : (j : ℕ) → 1 ≤ j → j < k + 1 → (u : ℕ) × (ticket_by next u ≡ j)
          each j low high = by_place (cases_eq j k)
            where
              by_place : ((j ≡ k) ⊎ (j ≡ k → ⊥)) → (u : ℕ) × (ticket_by next u ≡ j)
              by_place (inl same) = (t, number-there ∙ sym same)
              by_place (inr ne) =
                  let u = i.each j low (omega (arith, high, ne)) in
                  let other : u.0 ≢ t
                  = λ same. absurd (omega (arith, u.1, ap ticket same, first.2, high, ne)) in
                  (u.0, ap ticket_in (changed-else u.0 other) ∙ u.1)

-- and among those that are parked on its variable it stands where it stood
pub numbering-keeps : (p : ParkedLists) (t : NodeLists) (at : ℕ → Option Parked) (n k u : ℕ) → HaveTickets at
    → ((v : ℕ) (x : Parked) → at v ≡ Some x → (1 ≤ v) × (v ≤ n)) → IsNumbering at (parked_at p t) n k
    → HasFirstTicketFrom (ticket_by (parked_at p t)) k (n + 1) (Some u) → KeepsParkedOrder p t u k
numbering-keeps p t at n k u h within i first =
    record {
      before = λ v c mine other ne on there.
          ap (λ b. nat_lt other.prio mine.prio || (mine.prio == other.prio && b))
          ((λ j. nat_lt k (ticket_is v c other there j)) ∙ stays-before at (parked_at p t) n k h within i u first v ne
          ∙ (λ j. nat_lt (sym (ticket_is u c mine on) j) (sym (ticket_is v c other there) j)));
      behind = λ v c mine other ne on there.
          ap (λ b. nat_lt mine.prio other.prio || (other.prio == mine.prio && b))
          ((λ j. nat_lt (ticket_is v c other there j) k) ∙ stays-behind at (parked_at p t) n k h within i u first v ne
          ∙ (λ j. nat_lt (sym (ticket_is v c other there) j) (sym (ticket_is u c mine on) j)));
    }
  where
    ticket_is : (v c : ℕ) (rank : Key) → IsParkedOn p t c v rank → rank.ticket ≡ ticket_by (parked_at p t) v
    ticket_is v c rank on = sym (ap ticket_in on.at ∙ ap (λ (r : Key). r.ticket) on.ranked)

-- THE TABLE

-- a change that leaves all else, and then another one
pub others-same : (first_list list_span first_node node_span : ℕ) (t : NodeLists)
    → KeepsOthers first_list list_span first_node node_span t t
others-same first_list list_span first_node node_span t =
    record {
      lists = λ l b. refl;
      keys = λ l n b there. refl;
      holders = λ n b. refl;
      list_count = refl;
      node_count = refl;
    }

pub others-then : (first_list list_span first_node node_span : ℕ) (a b c : NodeLists)
    → KeepsOthers first_list list_span first_node node_span a b
    → KeepsOthers first_list list_span first_node node_span b c
    → KeepsOthers first_list list_span first_node node_span a c
others-then first_list list_span first_node node_span a b c k m =
    record {
      lists = λ l o. m.lists l o ∙ k.lists l o;
      keys = λ l n o there. m.keys l n o (ap (has n) (k.lists l o) ∙ there) ∙ k.keys l n o there;
      holders = λ n o. m.holders n o ∙ k.holders n o;
      list_count = m.list_count ∙ k.list_count;
      node_count = m.node_count ∙ k.node_count;
    }

-- who is parked is one of the threads
pub parked-known : (p : ParkedLists) (t : NodeLists) → StandParked p t → (u : ℕ) (x : Parked) → parked_at p t u ≡ Some x
    → (1 ≤ u) × (u ≤ p.threads)
parked-known p t h u x e = (parked-node p t h u x.cond x e refl).0

-- the node of a thread that is parked before and after, at one place, is in one list
pub node-stays : (p : ParkedLists) (was now : NodeLists) → StandParked p was → StandParked p now → (u : ℕ) (x : Parked)
    → parked_at p was u ≡ Some x → holder now (parking_node p u) ≡ holder was (parking_node p u)
node-stays p was now h k u x e =
    let at = place-by_parked p was u x e in
    (k.parked u at.0 at.1).held ∙ sym (h.parked u at.0 at.1).held

-- so are those of all threads once one of them got its number
pub nodes-stay : (p : ParkedLists) (was now : NodeLists) (at : ℕ → Option Parked) (n k t : ℕ) → StandParked p was
    → StandParked p now → IsNumbering at (parked_at p was) n k
    → HasFirstTicketFrom (ticket_by (parked_at p was)) k (n + 1) (Some t) → KeepsNodes p t was now → (u : ℕ) → IsThread p u
    → holder now (parking_node p u) ≡ holder was (parking_node p u)
nodes-stay p was now at n k t h m i first keeps u is = by_place (cases_eq u t)
  where
    by_place : ((u ≡ t) ⊎ (u ≡ t → ⊥)) → holder now (parking_node p u) ≡ holder was (parking_node p u)
    by_place (inl same) =
        let x = some-ticket (parked_at p was t) (omega (arith, first.2, i.some)) in
        subst (λ (v : ℕ). holder now (parking_node p v) ≡ holder was (parking_node p v)) (sym same)
        (node-stays p was now h m t x.0 x.1)
    by_place (inr ne) = keeps u is ne
