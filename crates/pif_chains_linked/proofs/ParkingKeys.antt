-- Parked threads get another priority, or other tickets of the same order: they stay in the order in which they were.
use Rattle.std.proofs.Common.{◌≡◌, ℕ, ◌+◌, ◌≤◌, ◌==◌, nat_lt, false, if◌then◌else◌, map, Option, Some, None, refl, sym, ap, ◌∙◌, arith}
use Rattle.std.proofs.lemmas.Bool.Decides.{nat_tests}
use Rattle.pif_model_lemmas.proofs.Waiting.{by_test}
use Rattle.pif_kernel_model.specs.Parked.{Parked, parked_with_prio, parked_with_ticket}
use Rattle.pif_queue.specs.Numbered.{ticket_in, ticket_by, AreNumbered}
use Rattle.pif_kernel_model.specs.Arrivals.{in_order}
use Rattle.pif_chains_linked.specs.Parkings.{parked_cond, parked_target, parked_prio, parking_of, pairs_by, parkings_by, AreParked}
use Rattle.pif_chains_linked.proofs.ParkingLemmas.{parkings_alike}
use Rattle.pif_chains_linked.proofs.ParkingOrder.{order_alike}

-- a thread with another priority has its variable, its target and its ticket
cond_with_prio : (prio : ℕ) (o : Option Parked) → parked_cond (parked_with_prio prio o) ≡ parked_cond o
cond_with_prio prio None = refl
cond_with_prio prio (Some x) = refl

target_with_prio : (prio : ℕ) (o : Option Parked) → parked_target (parked_with_prio prio o) ≡ parked_target o
target_with_prio prio None = refl
target_with_prio prio (Some x) = refl

ticket_with_prio : (prio : ℕ) (o : Option Parked) → ticket_in (parked_with_prio prio o) ≡ ticket_in o
ticket_with_prio prio None = refl
ticket_with_prio prio (Some x) = refl

some_with_prio : (prio : ℕ) (o : Option Parked) (y : Parked) → parked_with_prio prio o ≡ Some y
    → (x : Parked) × (o ≡ Some x) × (y.cond ≡ x.cond) × (y.rank.ticket ≡ x.rank.ticket) × (y.rank.prio ≡ prio)
some_with_prio prio None y e = absurd cc
some_with_prio prio (Some x) y e =
    (x, refl, sym (ap parked_cond e), sym (ap ticket_in e), sym (ap parked_prio e))

module _ (at now : ℕ → Option Parked) (n next t prio : ℕ) (h : AreParked at n next) (few : prio ≤ 99)
    (change : (u : ℕ) → now u ≡ (if u == t then parked_with_prio prio (at u) else at u)) where
  -- what is the same of one thread with another priority is the same of all
  same_of : (f : Option Parked → ℕ) → ((o : Option Parked) → f (parked_with_prio prio o) ≡ f o) → (u : ℕ)
      → f (now u) ≡ f (at u)
  same_of f same u =
      ap f (change u)
      ∙ by_test (λ b. f (if b then parked_with_prio prio (at u) else at u) ≡ f (at u)) (u == t) (λ e. same (at u)) (λ e. refl)

  was_some : (u : ℕ) (y : Parked) → now u ≡ Some y
      → (x : Parked) × (at u ≡ Some x) × (y.cond ≡ x.cond) × (y.rank.ticket ≡ x.rank.ticket) × (y.rank.prio ≤ 99)
  was_some u y e =
      by_test (λ b. (if b then parked_with_prio prio (at u) else at u) ≡ Some y
      → (x : Parked) × (at u ≡ Some x) × (y.cond ≡ x.cond) × (y.rank.ticket ≡ x.rank.ticket) × (y.rank.prio ≤ 99))
      (u == t)
      (λ k is. let x = some_with_prio prio (at u) y is in (x.0, x.1, x.2, x.3, omega (arith, x.4)))
      (λ k is. (y, is, refl, refl, h.most u y is)) (sym (change u) ∙ e)

  pub are_parked-rekey : AreParked now n next
  are_parked-rekey =
      record {
        some = h.some;
        within = λ u y e. let x = was_some u y e in h.within u x.0 x.1;
        cond = λ u y e. let x = was_some u y e in omega (arith, x.2, h.cond u x.0 x.1);
        most = λ u y e. (was_some u y e).4;
        least = λ u y e. let x = was_some u y e in omega (arith, x.3, h.least u x.0 x.1);
        below = λ u y e. let x = was_some u y e in omega (arith, x.3, h.below u x.0 x.1);
        once = λ u v y z e f same. let x = was_some u y e in let w = was_some v z f in
            h.once u v x.0 w.0 x.1 w.1 (sym x.3 ∙ same ∙ w.3);
      }

  pub rekey_parkings : parkings_by now n ≡ parkings_by at n
  rekey_parkings =
      ap (map (parking_of now))
      (λ i. in_order (λ u. same_of ticket_in (ticket_with_prio prio) u i)
      (λ u. same_of parked_cond (cond_with_prio prio) u i) (n + 1))
      ∙ parkings_alike at now (pairs_by at n) (λ u e. same_of parked_target (target_with_prio prio) u)

-- OTHER TICKETS OF THE SAME ORDER

-- what doesn't see tickets says the same of two threads that differ in nothing else
same_but_ticket : (f : Option Parked → ℕ) → ((o : Option Parked) → f (parked_with_ticket 0 o) ≡ f o) → (o p : Option Parked)
    → parked_with_ticket 0 o ≡ parked_with_ticket 0 p → f o ≡ f p
same_but_ticket f blind o p e = sym (blind o) ∙ ap f e ∙ blind p

cond_with_ticket : (o : Option Parked) → parked_cond (parked_with_ticket 0 o) ≡ parked_cond o
cond_with_ticket None = refl
cond_with_ticket (Some x) = refl

target_with_ticket : (o : Option Parked) → parked_target (parked_with_ticket 0 o) ≡ parked_target o
target_with_ticket None = refl
target_with_ticket (Some x) = refl

prio_with_ticket : (o : Option Parked) → parked_prio (parked_with_ticket 0 o) ≡ parked_prio o
prio_with_ticket None = refl
prio_with_ticket (Some x) = refl

some_with_ticket : (o : Option Parked) (y : Parked) → parked_with_ticket 0 (Some y) ≡ parked_with_ticket 0 o → (x : Parked) × (o ≡ Some x)
some_with_ticket None y e = absurd cc
some_with_ticket (Some x) y e = (x, refl)

module _ (at now : ℕ → Option Parked) (n next end : ℕ) (h : AreParked at n next) (r : AreNumbered at now end) where
  was_kept : (u : ℕ) (y : Parked) → now u ≡ Some y
      → (x : Parked) × (at u ≡ Some x) × (y.cond ≡ x.cond) × (y.rank.prio ≡ x.rank.prio)
  was_kept u y e =
      let x = some_with_ticket (at u) y (ap (parked_with_ticket 0) (sym e) ∙ r.kept u) in (
        x.0,
        x.1,
        sym (ap parked_cond e) ∙ same_but_ticket parked_cond cond_with_ticket (now u) (at u) (r.kept u) ∙ ap parked_cond x.1,
        sym (ap parked_prio e) ∙ same_but_ticket parked_prio prio_with_ticket (now u) (at u) (r.kept u) ∙ ap parked_prio x.1,
      )

  -- who has the same ticket as before had the same one before
  equal_before : (u v : ℕ) → ticket_by now u ≡ ticket_by now v → ticket_by at u ≡ ticket_by at v
  equal_before u v same =
      let up : nat_lt (ticket_by now u) (ticket_by now v) ≡ false = grind (arith, nat_tests, same) in
      let down : nat_lt (ticket_by now v) (ticket_by now u) ≡ false = grind (arith, nat_tests, same) in
      let was_up : nat_lt (ticket_by at u) (ticket_by at v) ≡ false = sym (r.order u v) ∙ up in
      let was_down : nat_lt (ticket_by at v) (ticket_by at u) ≡ false = sym (r.order v u) ∙ down in
      grind (arith, nat_tests, was_up, was_down)

  pub are_parked-renumber : AreParked now n end
  are_parked-renumber =
      record {
        some = omega (arith, r.below 0);
        within = λ u y e. let x = was_kept u y e in h.within u x.0 x.1;
        cond = λ u y e. let x = was_kept u y e in omega (arith, x.2, h.cond u x.0 x.1);
        most = λ u y e. let x = was_kept u y e in omega (arith, x.3, h.most u x.0 x.1);
        least = r.least;
        below = λ u y e. omega (arith, r.below u, ap ticket_in e);
        once = λ u v y z e f same. let x = was_kept u y e in let w = was_kept v z f in
            h.once u v x.0 w.0 x.1 w.1
            (sym (ap ticket_in x.1) ∙ equal_before u v (ap ticket_in e ∙ same ∙ sym (ap ticket_in f)) ∙ ap ticket_in w.1);
      }

  pub renumber_parkings : parkings_by now n ≡ parkings_by at n
  renumber_parkings =
      ap (map (parking_of now))
      (order_alike (ticket_by now) (ticket_by at) (λ u. parked_cond (now u)) (n + 1) (λ u v l k some other. r.order u v)
      ∙ ap (λ (on : ℕ → ℕ). in_order (ticket_by at) on (n + 1))
      (λ i u. same_but_ticket parked_cond cond_with_ticket (now u) (at u) (r.kept u) i))
      ∙ parkings_alike at now (pairs_by at n)
      (λ u e. same_but_ticket parked_target target_with_ticket (now u) (at u) (r.kept u))
