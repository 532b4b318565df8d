-- A state on which nobody waits is made or ends; and value and table at first.
use Rattle.std.proofs.Common.{◌≡◌, ◌≢◌, ◌⊎◌, ℕ, zero, suc, ◌+◌, ◌-◌, ◌<◌, ◌≤◌, true, false, eqb, List, [], ◌∷◌, ◌++◌, length, replicate, get_or, Option, Some, None, IsSome, option_map, option_and_then, refl, sym, ◌∙◌, ap, subst, inl, inr, ⊎_elim, arith}
use Rattle.std.specs.List.{range_with_len}
use Rattle.std.proofs.lemmas.Bool.{false≢true, false_from_ne_true, cases_eq, or_cases, or_from, eqb-true, ne_eqb}
use Rattle.std.proofs.lemmas.List.{append-nil, get_or-replicate, length-replicate, length-append}
use Rattle.std.proofs.lemmas.List.FromFn.{length-range_with_len}
use Rattle.std.specs.Ordering.{nat_cmp}
use Rattle.std.specs.FinMap.{FinMap, empty, get, get-empty, len, len-empty}
use Rattle.pif_nodes_model.specs.Lists.{has, first_of, HasNoRepeats}
use Rattle.pif_nodes_model.specs.Table.{NodeLists, list_at, key_at}
use Rattle.pif_nodes_model.proofs.ListLemmas.{first_of-has, has-append, has-left, has-parts, has-neither, HasNoRepeats-put, HasNoRepeats-taken}
use Rattle.pif_nodes_model.specs.Order.{IsInOrder, IsSorted}
use Rattle.pif_kernel_model.specs.Owners.{no_task, no_owners, AreSoundOwners}
use Rattle.pif_kernel_model.proofs.OwnersLemmas.{sound-no_owners}
use Rattle.pif_kernel_model.specs.States.{Row, States, IsThread, IsOwnList, no_row, empty_states, wait_of, wait_list, top_list, waiter_for, first_waiter, owners_in}
use Rattle.pif_kernel_model.specs.Holds.{IsWaiterIn, IsTopNode, IsFirstOf, IsTopOf, HoldsStates, HasRoomForStates}
use Rattle.pif_rtmutex.specs.Fields.{IsSpare}
use Rattle.pif_kernel_model.proofs.ViewLemmas.{owners_in-by_seat}
use Rattle.pif_kernel_model.proofs.WaiterLemmas.{first_waiter-by_row, stands-first, some_owner}
use Rattle.pif_kernel_model.proofs.FrameLemmas.{cases_Some}

-- state k, on which nobody waits, gets an owner and a row, or loses both
pub record IsStateChange (m : States) (owners places : FinMap nat_cmp ℕ) (k : ℕ) : Type 0 where
  pub nobody : (u : ℕ) → wait_of m u ≢ Some k
  pub owners_kept : (j : ℕ) → j ≢ k → get owners j ≡ get m.owners j
  pub places_kept : (j : ℕ) → j ≢ k → get places j ≡ get m.places j
  pub owned : (o : ℕ) → get owners k ≡ Some o → IsThread m o
  pub placed : IsSome (get owners k) → (r : ℕ) × (get places k ≡ Some r) × (r < m.threads)
  pub stated : (r : ℕ) → get places k ≡ Some r → IsSome (get owners k)
  pub alone : (j r : ℕ) → j ≢ k → get places k ≡ Some r → get m.places j ≡ Some r → ⊥

module _ (m : States) (free : List ℕ) (owners places : FinMap nat_cmp ℕ) (t : NodeLists) (k : ℕ) (h : HoldsStates m t)
    (c : IsStateChange m owners places k) where
  abbrev next : States
  next = record m { free = free; owners = owners; places = places }

  -- nobody is the first waiter of the state
  nobody_was : (o u : ℕ) → IsFirstOf m t k o u → ⊥
  nobody_was o u s = c.nobody u (stands-first m t k u h.waiters (some_owner m k o s.0) s.1).waits

  nobody_is : (o u : ℕ) → IsFirstOf next t k o u → ⊥
  nobody_is o u s =
      let at : (r : ℕ) × (get places k ≡ Some r) × (r < m.threads) = c.placed (subst IsSome (sym s.0) refl) in
      let first : option_map (waiter_for m) (first_of (list_at t (wait_list m at.0))) ≡ Some u =
      sym (first_waiter-by_row next t k at.0 at.1) ∙ s.1 in
      by_first at.0 at.1 at.2 u first (cases_Some (first_of (list_at t (wait_list m at.0))))
    where
      by_first : (r : ℕ) → get places k ≡ Some r → r < m.threads → (u : ℕ)
          → option_map (waiter_for m) (first_of (list_at t (wait_list m r))) ≡ Some u
          → ((first_of
          (list_at t (wait_list m r)) ≡ None) ⊎ ((n : ℕ) × (first_of (list_at t (wait_list m r)) ≡ Some n))) → ⊥
      by_first r p l u e (inl none) = let wrong : None ≡ Some u = ap (option_map (waiter_for m)) (sym none)
          ∙ e in absurd cc
      by_first r p l u e (inr some) =
          let is : IsWaiterIn m r some.0 =
          h.waiters.waiters r some.0 l (first_of-has (list_at t (wait_list m r)) some.0 some.1) in
          c.alone is.state r (λ same. c.nobody is.thread (is.waits ∙ ap Some same)) p is.place

  first-as : (j : ℕ) → j ≢ k → first_waiter next t j ≡ first_waiter m t j
  first-as j ne =
      ap (λ (o : Option ℕ). option_and_then (λ r. option_map (waiter_for m) (first_of (list_at t (wait_list m r)))) o)
      (c.places_kept j ne)

  first-to : (j o u : ℕ) → IsFirstOf m t j o u → IsFirstOf next t j o u
  first-to j o u s =
      let ne : j ≢ k = λ e. nobody_was o u (ap (get m.owners) (sym e) ∙ s.0, ap (first_waiter m t) (sym e) ∙ s.1) in
      (c.owners_kept j ne ∙ s.0, first-as j ne ∙ s.1)

  first-back : (j o u : ℕ) → IsFirstOf next t j o u → IsFirstOf m t j o u
  first-back j o u s =
      let ne : j ≢ k = λ e. nobody_is o u (ap (get owners) (sym e) ∙ s.0, ap (first_waiter next t) (sym e) ∙ s.1) in
      (sym (c.owners_kept j ne) ∙ s.0, sym (first-as j ne) ∙ s.1)

  pub holds-state : AreSoundOwners (owners_in next t) → HoldsStates next t
  holds-state sound =
      record {
        waiters = record {
          apart = h.waiters.apart;
          lists = h.waiters.lists;
          nodes = h.waiters.nodes;
          rows = h.waiters.rows;
          sound = sound;
          owned = λ j o e. owned j o e (cases_eq j k);
          placed = λ j some. placed j some (cases_eq j k);
          stated = λ j r e. stated j r e (cases_eq j k);
          alone = λ i j r e f. alone i j r e f (cases_eq i k) (cases_eq j k);
          queued = λ u j r w p. h.waiters.queued u j r w (sym (c.places_kept j (λ e. c.nobody u (w ∙ ap Some e))) ∙ p);
          waiters = λ r n l e.
              let is : IsWaiterIn m r n = h.waiters.waiters r n l e in
              record {
                thread = is.thread;
                state = is.state;
                is_thread = is.is_thread;
                node = is.node;
                place = c.places_kept is.state (λ same. c.nobody is.thread (is.waits ∙ ap Some same)) ∙ is.place;
                waits = is.waits;
              };
          sorted = h.waiters.sorted;
        };
        tops = record {
          topped = record {
            stands = λ o u s. h.tops.topped.stands o u (s.0, first-back s.0 o u s.1);
            only = λ l u i e.
                let at : (o : ℕ) × (l ≡ top_list m o) × IsTopOf m t o u = h.tops.topped.only l u i e in
                (at.0, at.1, (at.2.0, first-to at.2.0 at.0 u at.2.1));
            nodes = λ o n i e.
                let is : IsTopNode m n = h.tops.topped.nodes o n i e in
                record { thread = is.thread; is_thread = is.is_thread; node = is.node };
            sorted = h.tops.topped.sorted;
          };
          ranked = λ j o u s. h.tops.ranked j o u (first-back j o u s);
        };
      }
    where
      owned : (j o : ℕ) → get owners j ≡ Some o → ((j ≡ k) ⊎ (j ≡ k → ⊥)) → IsThread m o
      owned j o e (inl same) = c.owned o (ap (get owners) (sym same) ∙ e)
      owned j o e (inr ne) = h.waiters.owned j o (sym (c.owners_kept j ne) ∙ e)

      placed : (j : ℕ) → IsSome (get owners j) → ((j ≡ k) ⊎ (j ≡ k → ⊥))
          → (r : ℕ) × (get places j ≡ Some r) × (r < m.threads)
      placed j some (inl same) =
          let at = c.placed (subst (λ x. IsSome (get owners x)) same some) in
          (at.0, ap (get places) same ∙ at.1, at.2)
      placed j some (inr ne) =
          let at = h.waiters.placed j (subst IsSome (c.owners_kept j ne) some) in
          (at.0, c.places_kept j ne ∙ at.1, at.2)

      stated : (j r : ℕ) → get places j ≡ Some r → ((j ≡ k) ⊎ (j ≡ k → ⊥)) → IsSome (get owners j)
      stated j r e (inl same) =
          subst (λ x. IsSome (get owners x)) (sym same) (c.stated r (ap (get places) (sym same) ∙ e))
      stated j r e (inr ne) =
          subst IsSome (sym (c.owners_kept j ne)) (h.waiters.stated j r (sym (c.places_kept j ne) ∙ e))

      alone : (i j r : ℕ) → get places i ≡ Some r → get places j ≡ Some r → ((i ≡ k) ⊎ (i ≡ k → ⊥))
          → ((j ≡ k) ⊎ (j ≡ k → ⊥)) → i ≡ j
      alone i j r e f (inl a) (inl b) = a ∙ sym b
      alone i j r e f (inl a) (inr b) =
          absurd (c.alone j r b (ap (get places) (sym a) ∙ e) (sym (c.places_kept j b) ∙ f))
      alone i j r e f (inr a) (inl b) =
          absurd (c.alone i r a (ap (get places) (sym b) ∙ f) (sym (c.places_kept i a) ∙ e))
      alone i j r e f (inr a) (inr b) =
          h.waiters.alone i j r (sym (c.places_kept i a) ∙ e) (sym (c.places_kept j b) ∙ f)

-- the last of the free rows is that of a state now
pub spare-taken : (m : States) (free : List ℕ) (owners places : FinMap nat_cmp ℕ) (r : ℕ) → IsSpare m
    → m.free ≡ free ++ r ∷ []
    → len owners ≡ len m.owners + 1 → ((j q : ℕ) → get places j ≡ Some q → (get m.places j ≡ Some q) ⊎ (q ≡ r))
    → IsSpare (record m { free = free; owners = owners; places = places })
spare-taken m free owners places r s e more from =
    record {
      count = omega (arith, s.count, ap (λ xs. length xs) e, length-append free (r ∷ []));
      below = λ q h. s.below q (ap (has q) e ∙ has-left q free (r ∷ []) h);
      once = subst HasNoRepeats (append-nil free) parts.0;
      apart = λ j q h. by_row j q (from j q h);
    }
  where
    parts : HasNoRepeats (free ++ []) × (has r free ≡ false) × (has r [] ≡ false)
    parts = HasNoRepeats-taken free [] r (subst HasNoRepeats e s.once)

    by_row : (j q : ℕ) → (get m.places j ≡ Some q) ⊎ (q ≡ r) → has q free ≡ false
    by_row j q (inl p) = (has-parts q free (r ∷ []) (ap (has q) (sym e) ∙ s.apart j q p)).0
    by_row j q (inr same) = ap (λ x. has x free) same ∙ parts.1

-- the row of a state is free again
pub spare-given : (m : States) (free : List ℕ) (owners places : FinMap nat_cmp ℕ) (k r : ℕ) → IsSpare m
    → free ≡ m.free ++ r ∷ []
    → get m.places k ≡ Some r → r < m.threads → len owners + 1 ≡ len m.owners
    → ((j q : ℕ) → get places j ≡ Some q → (get m.places j ≡ Some q) × (q ≢ r))
    → IsSpare (record m { free = free; owners = owners; places = places })
spare-given m free owners places k r s e was low less from =
    record {
      count = omega (arith, s.count, ap (λ xs. length xs) e, length-append m.free (r ∷ []));
      below = λ q h. by_list q (or_cases (has q m.free) (has q (r ∷ [])) (sym (has-append q m.free (r ∷ []))
          ∙ ap (has q) (sym e) ∙ h));
      once = subst HasNoRepeats (sym e)
          (HasNoRepeats-put m.free [] r (subst HasNoRepeats (sym (append-nil m.free)) s.once)
          (ap (has r) (append-nil m.free) ∙ s.apart k r was));
      apart = λ j q h. ap (has q) e
          ∙ has-neither q m.free (r ∷ []) (s.apart j q (from j q h).0)
          (or_from (eqb q r) false (ne_eqb q r (from j q h).1) refl);
    }
  where
    by_list : (q : ℕ) → (has q m.free ≡ true) ⊎ (has q (r ∷ []) ≡ true) → q < m.threads
    by_list q (inl h) = s.below q h
    by_list q (inr h) = ⊎_elim (λ e. omega (arith, low, eqb-true q r e)) (λ e. absurd (false≢true e))
        (or_cases (eqb q r) false h)

-- the numbers of a range
has-range : (a n r : ℕ) → has r (range_with_len a n) ≡ true → (a ≤ r) × (r < a + n)
has-range a zero r h = absurd (false≢true h)
has-range a (suc n) r h =
    ⊎_elim (λ e. let same = eqb-true r a e in (omega (arith, same), omega (arith, same)))
    (λ e. let rest = has-range (a + 1) n r e in (omega (arith, rest), omega (arith, rest)))
    (or_cases (eqb r a) (has r (range_with_len (a + 1) n)) h)

range-once : (a n : ℕ) → HasNoRepeats (range_with_len a n)
range-once a zero = record {}
range-once a (suc n) = (
  false_from_ne_true (has a (range_with_len (a + 1) n))
      (λ e. absurd (omega (arith, has-range (a + 1) n a e))),
  range-once (a + 1) n,
)

-- one more number
pub range-more : (a n : ℕ) → range_with_len a n ++ (a + n) ∷ [] ≡ range_with_len a (n + 1)
range-more a zero = let e : a + 0 ≡ a = omega arith in ap (λ x. x ∷ []) e
range-more a (suc n) =
    let e : a + suc n ≡ (a + 1) + n = omega arith in
    let m : suc n + 1 ≡ suc (n + 1) = omega arith in
    ap (λ x. a ∷ (range_with_len (a + 1) n ++ x ∷ [])) e ∙ ap (λ xs. a ∷ xs) (range-more (a + 1) n)
    ∙ ap (range_with_len a) (sym m)

-- no key has a number at first
no_state : (k x : ℕ) → get {K = ℕ} {X = ℕ} {R = nat_cmp} empty k ≡ Some x → ⊥
no_state k x e = let wrong : None ≡ Some x = sym (get-empty nat_cmp k) ∙ e in absurd cc

-- at first all rows are free
pub spare-empty_states : (l n threads : ℕ) → IsSpare (empty_states l n threads)
spare-empty_states l n threads =
    record {
      count = omega (arith, length-range_with_len 0 threads, len-empty nat_cmp ℕ);
      below = λ r h. omega (arith, has-range 0 threads r h);
      once = range-once 0 threads;
      apart = λ k r e. absurd (no_state k r e);
    }

no_rows : (threads u : ℕ) → u < threads + 1 → get_or (replicate (threads + 1) no_row) u no_row ≡ no_row
no_rows threads u l = get_or-replicate (threads + 1) u no_row no_row l

-- and value and table are no state
pub view-empty_states : (l n threads : ℕ) (t : NodeLists) → owners_in (empty_states l n threads) t ≡ no_owners threads
view-empty_states l n threads t =
    owners_in-by_seat (empty_states l n threads) t (no_owners threads) refl
    (length-replicate (threads + 1) no_task ∙ sym (length-replicate (threads + 1) no_row))
    (λ u low.
    let within : u < threads + 1 = omega (arith, length-replicate (threads + 1) no_row) in
    get_or-replicate (threads + 1) u no_task no_task within
    ∙ ap (λ (x : Row). record {
      base = x.base;
      local = x.local;
      wait =
          option_map (λ k. record { state = k; rank = key_at t (n + (u - 1)) }) x.wait;
    })
    (sym (no_rows threads u within)))

pub holds-empty_states : (l n threads : ℕ) (t : NodeLists) → threads ≤ 1024 → HasRoomForStates (empty_states l n threads) t
    → HoldsStates (empty_states l n threads) t
holds-empty_states l n threads t most room =
    record {
      waiters = record {
        apart = room.apart;
        lists = room.lists;
        nodes = room.nodes;
        rows = length-replicate (threads + 1) no_row;
        sound = subst AreSoundOwners (sym (view-empty_states l n threads t)) (sound-no_owners threads most);
        owned = λ k o e. absurd (no_state k o e);
        placed = λ k some. absurd (no_some k some);
        stated = λ k r e. absurd (no_state k r e);
        alone = λ j k r e f. absurd (no_state j r e);
        queued = λ u k r w e. absurd (no_state k r e);
        waiters = λ r p low e. absurd (nothing (l + r) p (omega arith, omega (arith, low)) e);
        sorted = λ r low. in_order (l + r) (omega arith, omega (arith, low));
      };
      tops = record {
        topped = record {
          stands = λ o u s. absurd (no_state s.0 o s.1.0);
          only = λ j u i e. let wrong : None ≡ Some j = sym (room.free u i) ∙ e in absurd cc;
          nodes = λ o p i e. absurd (nothing (top_list (empty_states l n threads) o) p (omega arith, omega (arith, i)) e);
          sorted = λ o i. in_order (top_list (empty_states l n threads) o) (omega arith, omega (arith, i));
        };
        ranked = λ k o u s. absurd (no_state k o s.0);
      };
    }
  where
    no_some : (k : ℕ) → IsSome (get {K = ℕ} {X = ℕ} {R = nat_cmp} empty k) → ⊥
    no_some k some = false≢true (subst IsSome (get-empty nat_cmp k) some)

    nothing : (j p : ℕ) → IsOwnList (empty_states l n threads) j → has p (list_at t j) ≡ true → ⊥
    nothing j p i e = false≢true (ap (has p) (sym (room.empty j i)) ∙ e)

    in_order : (j : ℕ) → IsOwnList (empty_states l n threads) j → IsSorted t j
    in_order j i = subst (IsInOrder t.keys) (sym (room.empty j i)) (record {})
