-- The parked threads in order of tickets: who is among them, and what parking and unparking make of them.
use Rattle.std.proofs.Common.{◌≡◌, ◌≢◌, ◌⊎◌, ℕ, zero, suc, ◌+◌, ◌<◌, ◌≤◌, ◌==◌, cond, true, false, if◌then◌else◌, List, [], ◌∷◌, ◌++◌, map, Option, Some, None, refl, sym, ap, subst, ◌∙◌, inl, inr, arith}
use Rattle.std.proofs.lemmas.Bool.{cases_eq, or_right, true≢false, false≢true}
use Rattle.std.proofs.lemmas.Bool.Decides.{nat_tests}
use Rattle.std.proofs.lemmas.List.{map-append}
use Rattle.std.proofs.lemmas.Option.{same_Some}
use Rattle.pif_model.specs.Graph.{without}
use Rattle.pif_model.specs.PiKernel.{parked_pairs, parkings_without}
use Rattle.pif_model_lemmas.proofs.Among.{is_among_push, is_among-without, is_among_here, is_among_there, is_among_cons}
use Rattle.pif_model_lemmas.proofs.Among.{is_among as is_waiter}
use Rattle.pif_model_lemmas.proofs.Waiting.{by_test, names, named-from_pair, pair-from_named}
use Rattle.pif_kernel_model.specs.Parked.{Parked}
use Rattle.pif_queue.specs.Numbered.{ticket_in}
use Rattle.pif_kernel_model.specs.Arrivals.{Rise}
use Rattle.pif_kernel_model.specs.Arrivals.{in_order}
use Rattle.pif_kernel_model.specs.Tickets.{is_named}
use Rattle.pif_kernel_model.proofs.InOrder.{in_order-is}
use Rattle.pif_kernel_model.proofs.ArrivalLaws.{rise_push}
use Rattle.pif_kernel_model.proofs.WaitersWithout.{rise_without, waiter_kept}
use Rattle.pif_chains_linked.specs.Parkings.{parked_cond, parked_target, parking_of, pairs_by, parkings_by, AreParked}
use Rattle.pif_chains_linked.proofs.ParkingOrder.{order_within, order_all, order_rises}

-- who has a variable is parked
some_parked : (o : Option Parked) → parked_cond o ≢ 0 → (x : Parked) × (o ≡ Some x)
some_parked None n = absurd (n refl)
some_parked (Some x) n = (x, refl)

-- one more at the end is among them, and so are those before it
is_among-last : (ws : List (ℕ × ℕ)) (t m : ℕ) → is_waiter (ws ++ (t, m) ∷ []) t m ≡ true
is_among-last [] t m = is_among_here (t, m) [] t m refl refl
is_among-last (w ∷ ws) t m = is_among_there w (ws ++ (t, m) ∷ []) t m (is_among-last ws t m)

is_among-pushed : (ws : List (ℕ × ℕ)) (t m u c : ℕ) → is_waiter ws u c ≡ true
    → is_waiter (ws ++ (t, m) ∷ []) u c ≡ true
is_among-pushed [] t m u c e = absurd (false≢true e)
is_among-pushed (w ∷ ws) t m u c e = by_head (is_among_cons w ws u c e) (is_among-pushed ws t m u c)
  where
    by_head : ((w.0 ≡ u) × (w.1 ≡ c)) ⊎ (is_waiter ws u c ≡ true)
        → (is_waiter ws u c ≡ true → is_waiter (ws ++ (t, m) ∷ []) u c ≡ true)
        → is_waiter (w ∷ ws ++ (t, m) ∷ []) u c ≡ true
    by_head (inl a) ih = is_among_here w (ws ++ (t, m) ∷ []) u c a.0 a.1
    by_head (inr k) ih = is_among_there w (ws ++ (t, m) ∷ []) u c (ih k)

-- the pairs of the parked threads are those of which they are made
pub pairs_seen : (at : ℕ → Option Parked) (ws : List (ℕ × ℕ)) → parked_pairs (map (parking_of at) ws) ≡ ws
pairs_seen at [] = refl
pairs_seen at (w ∷ ws) = ap (λ (l : List (ℕ × ℕ)). w ∷ l) (pairs_seen at ws)

-- threads without one, which may be parked otherwise by then
pub unparked_pairs : (at now : ℕ → Option Parked) (ws : List (ℕ × ℕ)) (t : ℕ)
    → ((u : ℕ) → u ≢ t → now u ≡ at u)
    → map (parking_of now) (without ws t) ≡ parkings_without (map (parking_of at) ws) t
unparked_pairs at now [] t same = refl
unparked_pairs at now (w ∷ ws) t same =
    by_test (λ b. (w.0 == t) ≡ b
    → map (parking_of now) (cond (if b then false else true) (w ∷ without ws t) (without ws t))
    ≡ cond (if b then false else true) (parking_of at w ∷ parkings_without (map (parking_of at) ws) t)
    (parkings_without (map (parking_of at) ws) t))
    (w.0 == t) (λ e k. unparked_pairs at now ws t same)
    (λ e k. let ne : w.0 ≢ t = grind (arith, nat_tests, e) in
    (λ i. record { thread = w.0; cond = w.1; target = parked_target (same w.0 ne i) }
    ∷ unparked_pairs at now ws t same i)) refl

-- threads of which none is parked otherwise by now
pub parkings_alike : (at now : ℕ → Option Parked) (ws : List (ℕ × ℕ))
    → ((u : ℕ) → names u ws ≡ true → parked_target (now u) ≡ parked_target (at u))
    → map (parking_of now) ws ≡ map (parking_of at) ws
parkings_alike at now [] same = refl
parkings_alike at now (w ∷ ws) same =
    let here : names w.0 (w ∷ ws) ≡ true = grind (arith, nat_tests) in
    (λ i. record { thread = w.0; cond = w.1; target = same w.0 here i }
    ∷ parkings_alike at now ws (λ u e. same u (or_right (w.0 == u) (names u ws) e)) i)

module _ (at : ℕ → Option Parked) (n next : ℕ) (h : AreParked at n next) where
  abbrev ticket : ℕ → ℕ
  ticket u = ticket_in (at u)

  abbrev on : ℕ → ℕ
  on u = parked_cond (at u)

  -- their tickets rise
  pub pairs_rise : Rise ticket 1 (pairs_by at n) next
  pairs_rise =
      order_rises ticket on (n + 1) 1 next h.some
      (λ u l some. let x = some_parked (at u) some in (
        subst (λ (o : Option Parked). 1 ≤ ticket_in o) (sym x.1) (h.least u x.0 x.1),
        subst (λ (o : Option Parked). ticket_in o < next) (sym x.1) (h.below u x.0 x.1),
      ))
      (λ u v l k some other same. let x = some_parked (at u) some in let y = some_parked (at v) other in
      h.once u v x.0 y.0 x.1 y.1 (ap ticket_in (sym x.1) ∙ same ∙ ap ticket_in y.1))

  -- who is among them is parked there
  pub paired_parked : (u c : ℕ) → is_waiter (pairs_by at n) u c ≡ true
      → (x : Parked) × (at u ≡ Some x) × (x.cond ≡ c)
  paired_parked u c e =
      let a = order_within ticket on (n + 1) u c e in
      let x = some_parked (at u) (λ z. a.1.0 (sym a.1.1 ∙ z)) in
      (x.0, x.1, ap parked_cond (sym x.1) ∙ a.1.1)

  -- who is parked is among them
  pub parked_paired : (u : ℕ) (x : Parked) → at u ≡ Some x → is_waiter (pairs_by at n) u x.cond ≡ true
  parked_paired u x e =
      let there = ap parked_cond e in
      let some : on u ≢ 0 = omega (arith, there, h.cond u x e) in
      subst (λ (c : ℕ). is_waiter (pairs_by at n) u c ≡ true) there
      (order_all ticket on (n + 1) u (omega (arith, h.within u x e)) some)

  pub paired_none : (u : ℕ) → at u ≡ None → names u (pairs_by at n) ≡ false
  paired_none u e =
      by_test (λ b. names u (pairs_by at n) ≡ b → b ≡ false) (names u (pairs_by at n))
      (λ y k. let w = pair-from_named (pairs_by at n) u y in
      let x = paired_parked u w.0 w.1 in let wrong : None ≡ Some x.0 = sym e ∙ x.1 in absurd cc)
      (λ y k. refl) refl

  pub parked_named : (u : ℕ) (x : Parked) → at u ≡ Some x → is_named u (parked_pairs (parkings_by at n)) ≡ true
  parked_named u x e =
      ap (names u) (pairs_seen at (pairs_by at n))
      ∙ named-from_pair (pairs_by at n) u x.cond (parked_paired u x e)

  pub unnamed_parked : (u : ℕ) → is_named u (parked_pairs (parkings_by at n)) ≡ false → at u ≡ None
  unnamed_parked u e = by_option (at u) refl
    where
      by_option : (o : Option Parked) → at u ≡ o → at u ≡ None
      by_option None k = k
      by_option (Some x) k = absurd (true≢false (sym (parked_named u x k) ∙ e))

  -- a list in order of tickets that has just those that are parked is the one that is found
  pairs_are : (ws : List (ℕ × ℕ)) (end : ℕ) → Rise ticket 1 ws end
      → ((u c : ℕ) → is_waiter ws u c ≡ true → (x : Parked) × (at u ≡ Some x) × (x.cond ≡ c))
      → ((u : ℕ) (x : Parked) → at u ≡ Some x → is_waiter ws u x.cond ≡ true) → pairs_by at n ≡ ws
  pairs_are ws end r within all =
      in_order-is ticket on (n + 1) 1 ws end r
      (λ u c e. let a = within u c e in (
        omega (arith, h.within u a.0 a.1),
        (omega (arith, h.cond u a.0 a.1, a.2), ap parked_cond a.1 ∙ a.2),
      ))
      (λ u l some. let x = some_parked (at u) some in
      subst (λ (c : ℕ). is_waiter ws u c ≡ true) (sym (ap parked_cond x.1)) (all u x.0 x.1))

-- nobody is parked
pub nobody_parked : (at : ℕ → Option Parked) (n : ℕ) → ((u : ℕ) → at u ≡ None) → parkings_by at n ≡ []
unfolding in_order
nobody_parked at n none = ap (map (parking_of at)) (no_pairs (n + 1))
  where
    no_pairs : (k : ℕ) → in_order (λ u. ticket_in (at u)) (λ u. parked_cond (at u)) k ≡ []
    no_pairs zero = refl
    no_pairs (suc k) =
        let free : (parked_cond (at k) == 0) ≡ true = ap (λ (o : Option Parked). parked_cond o == 0) (none k) in
        rw free (no_pairs k)

pub are_parked-nobody : (at : ℕ → Option Parked) (n next : ℕ) → 1 ≤ next → ((u : ℕ) → at u ≡ None) → AreParked at n next
are_parked-nobody at n next some none =
    record {
      some = some;
      within = λ u x e. absurd (no u x e);
      cond = λ u x e. absurd (no u x e);
      most = λ u x e. absurd (no u x e);
      least = λ u x e. absurd (no u x e);
      below = λ u x e. absurd (no u x e);
      once = λ u v x y e f same. absurd (no u x e);
    }
  where
    no : (u : ℕ) (x : Parked) → at u ≡ Some x → ⊥
    no u x e = let wrong : None ≡ Some x = sym (none u) ∙ e in absurd cc

module _ (at now : ℕ → Option Parked) (n next t : ℕ) (h : AreParked at n next) where
  -- ONE MORE IS PARKED

  module _ (x : Parked) (l : 1 ≤ t) (le : t ≤ n) (c : 1 ≤ x.cond) (few : x.rank.prio ≤ 99)
      (new : x.rank.ticket ≡ next) (free : at t ≡ None)
      (change : (u : ℕ) → now u ≡ (if u == t then Some x else at u)) where
    parked_there : now t ≡ Some x
    parked_there = let here : (t == t) ≡ true = grind (arith, nat_tests) in change t ∙ rw here refl

    others_parked : (u : ℕ) → u ≢ t → now u ≡ at u
    others_parked u ne = let there : (u == t) ≡ false = grind (arith, nat_tests) in change u ∙ rw there refl

    by_parked : (P : ℕ → Parked → Type 0) → P t x → ((u : ℕ) (y : Parked) → at u ≡ Some y → P u y)
        → (u : ℕ) (y : Parked) → now u ≡ Some y → P u y
    by_parked P here there u y e = by_thread (cases_eq u t)
      where
        by_thread : ((u ≡ t) ⊎ (u ≡ t → ⊥)) → P u y
        by_thread (inl same) =
            let is : x ≡ y = same_Some x y (sym parked_there ∙ ap now (sym same) ∙ e) in
            subst (λ (z : Parked). P u z) is (subst (λ (v : ℕ). P v x) (sym same) here)
        by_thread (inr ne) = there u y (sym (others_parked u ne) ∙ e)

    pub are_parked-park : AreParked now n (next + 1)
    are_parked-park =
        record {
          some = omega arith;
          within = by_parked (λ u y. (1 ≤ u) × (u ≤ n)) (l, le) h.within;
          cond = by_parked (λ u y. 1 ≤ y.cond) c h.cond;
          most = by_parked (λ u y. y.rank.prio ≤ 99) few h.most;
          least = by_parked (λ u y. 1 ≤ y.rank.ticket) (omega (arith, new, h.some)) h.least;
          below = by_parked (λ u y. y.rank.ticket < next + 1) (omega (arith, new))
              (λ u y e. omega (arith, h.below u y e));
          once = λ u v y z e f same. by_parked
              (λ u y. (v : ℕ) (z : Parked) → now v ≡ Some z → y.rank.ticket ≡ z.rank.ticket → u ≡ v)
              (by_parked (λ v z. x.rank.ticket ≡ z.rank.ticket → t ≡ v) (λ s. refl)
              (λ v z f s. absurd (omega (arith, new, s, h.below v z f))))
              (λ u y e. by_parked (λ v z. y.rank.ticket ≡ z.rank.ticket → u ≡ v)
              (λ s. absurd (omega (arith, new, s, h.below u y e)))
              (λ v z f s. h.once u v y z e f s)) u y e v z f same;
        }

    -- it stands behind the others
    park_pairs : pairs_by now n ≡ pairs_by at n ++ (t, x.cond) ∷ []
    park_pairs =
        pairs_are now n (next + 1) are_parked-park (pairs_by at n ++ (t, x.cond) ∷ []) (next + 1)
        (rise_push (λ u. ticket_in (at u)) (λ u. ticket_in (now u)) 1 (pairs_by at n) next t x.cond (next + 1)
        (pairs_rise at n next h) (paired_none at n next h t free)
        (λ u ne. ap ticket_in (others_parked u ne)) (ap ticket_in parked_there ∙ new) (omega arith))
        within all
      where
        within : (u c : ℕ) → is_waiter (pairs_by at n ++ (t, x.cond) ∷ []) u c ≡ true
            → (y : Parked) × (now u ≡ Some y) × (y.cond ≡ c)
        within u c e = by_place (is_among_push (pairs_by at n) t x.cond u c e)
          where
            by_place : (is_waiter (pairs_by at n) u c ≡ true) ⊎ ((t ≡ u) × (x.cond ≡ c))
                → (y : Parked) × (now u ≡ Some y) × (y.cond ≡ c)
            by_place (inl k) =
                let y = paired_parked at n next h u c k in
                (y.0, others_parked u (λ same. other y.0 (sym (ap at same) ∙ y.1)) ∙ y.1, y.2)
              where
                other : (y : Parked) → at t ≡ Some y → ⊥
                other y e = let wrong : None ≡ Some y = sym free ∙ e in absurd cc
            by_place (inr a) = (x, ap now (sym a.0) ∙ parked_there, a.1)

        all : (u : ℕ) (y : Parked) → now u ≡ Some y → is_waiter (pairs_by at n ++ (t, x.cond) ∷ []) u y.cond ≡ true
        all =
            by_parked (λ u y. is_waiter (pairs_by at n ++ (t, x.cond) ∷ []) u y.cond ≡ true)
            (is_among-last (pairs_by at n) t x.cond)
            (λ u y e. is_among-pushed (pairs_by at n) t x.cond u y.cond (parked_paired at n next h u y e))

    pub park_parkings : parkings_by now n
        ≡ parkings_by at n ++ record { thread = t; cond = x.cond; target = x.target } ∷ []
    park_parkings =
        ap (map (parking_of now)) park_pairs ∙ map-append (parking_of now) (pairs_by at n) ((t, x.cond) ∷ [])
        ∙ (λ i. parkings_alike at now (pairs_by at n) same i
        ++ record { thread = t; cond = x.cond; target = parked_target (parked_there i) } ∷ [])
      where
        same : (u : ℕ) → names u (pairs_by at n) ≡ true → parked_target (now u) ≡ parked_target (at u)
        same u e =
            ap parked_target (others_parked u
            (λ k. true≢false (sym e ∙ paired_none at n next h u (ap at k ∙ free))))

  -- ONE IS UNPARKED

  module _ (change : (u : ℕ) → now u ≡ (if u == t then None else at u)) where
    unparked_there : now t ≡ None
    unparked_there = let here : (t == t) ≡ true = grind (arith, nat_tests) in change t ∙ rw here refl

    others_left : (u : ℕ) → u ≢ t → now u ≡ at u
    others_left u ne = let there : (u == t) ≡ false = grind (arith, nat_tests) in change u ∙ rw there refl

    was_parked : (u : ℕ) (y : Parked) → now u ≡ Some y → (u ≢ t) × (at u ≡ Some y)
    was_parked u y e = (ne, sym (others_left u ne) ∙ e)
      where
        ne : u ≢ t
        ne same = let wrong : None ≡ Some y = sym unparked_there ∙ ap now (sym same) ∙ e in absurd cc

    pub are_parked-unpark : AreParked now n next
    are_parked-unpark =
        record {
          some = h.some;
          within = λ u y e. h.within u y (was_parked u y e).1;
          cond = λ u y e. h.cond u y (was_parked u y e).1;
          most = λ u y e. h.most u y (was_parked u y e).1;
          least = λ u y e. h.least u y (was_parked u y e).1;
          below = λ u y e. h.below u y (was_parked u y e).1;
          once = λ u v y z e f. h.once u v y z (was_parked u y e).1 (was_parked v z f).1;
        }

    unpark_pairs : pairs_by now n ≡ without (pairs_by at n) t
    unpark_pairs =
        pairs_are now n next are_parked-unpark (without (pairs_by at n) t) next
        (rise_without (λ u. ticket_in (at u)) (λ u. ticket_in (now u)) 1 (pairs_by at n) t next
        (pairs_rise at n next h) (λ u ne. ap ticket_in (others_left u ne)))
        (λ u c e. let a = is_among-without (pairs_by at n) t u c e in
        let y = paired_parked at n next h u c a.0 in (y.0, others_left u a.1 ∙ y.1, y.2))
        (λ u y e. let a = was_parked u y e in
        waiter_kept (pairs_by at n) t u y.cond a.0 (parked_paired at n next h u y a.1))

    -- the others are left, in their order
    pub unpark_parkings : parkings_by now n ≡ parkings_without (parkings_by at n) t
    unpark_parkings =
        ap (map (parking_of now)) unpark_pairs ∙ unparked_pairs at now (pairs_by at n) t others_left

-- who is not parked is not among them
pub unpark_nobody : (at : ℕ → Option Parked) (n next t : ℕ) → AreParked at n next → at t ≡ None
    → parkings_without (parkings_by at n) t ≡ parkings_by at n
unpark_nobody at n next t h free = sym (unpark_parkings at at n next t h change)
  where
    change : (u : ℕ) → at u ≡ (if u == t then None else at u)
    change u = by_test (λ b. (u == t) ≡ b → at u ≡ (if b then None else at u)) (u == t)
        (λ e k. let same : u ≡ t = grind (arith, nat_tests, e) in ap at same ∙ free) (λ e k. refl) refl
