-- A call parks a thread, takes one off, or gives it another key.
use Rattle.std.proofs.Common.{◌≡◌, ◌≢◌, ◌⊎◌, ℕ, ◌+◌, ◌≤◌, ◌==◌, List, if◌then◌else◌, Option, Some, None, refl, sym, ap, ◌∙◌, subst, inl, inr}
use Rattle.std.specs.Prelude.{map}
use Rattle.std.specs.List.{range_with_len}
use Rattle.std.proofs.lemmas.Bool.{cases_eq}
use Rattle.std.proofs.lemmas.Option.{same_Some}
use Rattle.pif_nodes_model.specs.Table.{NodeLists}
use Rattle.pif_nodes_model.specs.Levels.{Queue, Holds, IsLevel, KeepsQueue, level_of}
use Rattle.pif_model.specs.PiKernel.{Parking}
use Rattle.pif_kernel_model.specs.Owners.{Owners, waits_on}
use Rattle.pif_kernel_model.specs.States.{States, owners_in}
use Rattle.pif_kernel_model.specs.Frames.{KeepsOwn}
use Rattle.pif_kernel_model.specs.Boosts.{local_of}
use Rattle.pif_kernel_model.specs.Entries.{Found, found_in}
use Rattle.pif_kernel_model.specs.QueueFrames.{KeepsOthers}
use Rattle.pif_kernel_model.specs.Parked.{Parked, parked_at, parked_with_prio, parked_with_ticket}
use Rattle.pif_kernel_model.specs.Buckets.{Buckets, HoldsBuckets}
use Rattle.pif_kernel_model.specs.Chained.{KeepsLevels}
use Rattle.pif_chains_linked.specs.Parkings.{AreParked, parkings_in}
use Rattle.pif_chains_linked.specs.Linked.{key_count, key_of, keys_in, IsLaidOut, StandLinked, FitsWords, FitsParked, IsLinked}
use Rattle.pif_chains_linked.proofs.Keys.{at_same, at_other}
use Rattle.pif_chains_linked.proofs.Fits.{fits_moved}
use Rattle.pif_chains_linked.proofs.Leaving.{parked_leave_owners, parked_leave_queue}
use Rattle.pif_chains_linked.proofs.ParkingLemmas.{are_parked-park, are_parked-unpark}
use Rattle.pif_chains_linked.proofs.ParkingKeys.{are_parked-rekey}
use Rattle.pif_chains_linked.proofs.Standing.{linked, owners_same, queue_same, levels_same, stand_same, laid_parked}

-- if a call left the places of the threads, or all
pub placed_rekeyed : (b b' : Buckets) → b' ≡ record b { parked = record b.parked { differing = b'.parked.differing } }
    → b' ≡ record b { parked = record b.parked { places = b'.parked.places; differing = b'.parked.differing } }
placed_rekeyed b b' e =
    e ∙ (λ i. record b {
      parked = record b.parked {
        places = ap (λ (x : Buckets). x.parked.places) (sym e) i;
        differing = b'.parked.differing;
      };
    })

pub placed_same : (b b' : Buckets) → b' ≡ b
    → b' ≡ record b { parked = record b.parked { places = b'.parked.places; differing = b'.parked.differing } }
placed_same b b' e =
    e ∙ (λ i. record b {
      parked = record b.parked {
        places = ap (λ (x : Buckets). x.parked.places) (sym e) i;
        differing = ap (λ (x : Buckets). x.parked.differing) (sym e) i;
      };
    })

module _ (m : States) (q : Queue) (b : Buckets) (t : NodeLists) (s : StandLinked m q b t) (b' : Buckets) (t' : NodeLists)
    (placed : b' ≡ record b { parked = record b.parked { places = b'.parked.places; differing = b'.parked.differing } })
    (words : (w : ℕ) → found_in b'.entries t' w ≡ found_in b.entries t w)
    (outside : KeepsOthers b.parked.first_list b.parked.conds b.parked.first_node b.parked.threads t t')
    (held : HoldsBuckets b' t') where
  laid : IsLaidOut m q b'
  laid = laid_parked m q b b' placed s.laid

  leaves : KeepsOwn m t t'
  leaves = parked_leave_owners m q b t t' s.laid outside

  leaves_queue : KeepsQueue q t t'
  leaves_queue = parked_leave_queue m q b t t' s.laid outside

  pub parked_threads : b'.parked.threads ≡ b.parked.threads
  parked_threads = ap (λ (x : Buckets). x.parked.threads) placed

  pub parked_owners : owners_in m t' ≡ owners_in m t
  parked_owners = owners_same m q b t s b' t' laid held leaves leaves_queue

  pub parked_levels : (p : ℕ) → IsLevel p → level_of q t' p ≡ level_of q t p
  parked_levels = levels_same m q b t s b' t' laid held leaves leaves_queue

  pub parked_queue : Holds q t'
  parked_queue = queue_same m q b t s b' t' laid held leaves leaves_queue

  pub parked_stand : StandLinked m q b' t'
  parked_stand = stand_same m q b t s b' t' laid held leaves leaves_queue

  pub parked_keys : keys_in b'.entries t' ≡ keys_in b.entries t
  parked_keys =
      ap (λ (f : ℕ → Option Found). map (λ w. key_of (f w)) (range_with_len 0 key_count)) (λ i w. words w i)

  pub parked_words : FitsWords m b.entries t → FitsWords m b'.entries t'
  parked_words fit w f is = fit w f (sym (words w) ∙ is)

  pub linked_parked : (next : ℕ) → FitsWords m b.entries t
      → FitsParked (owners_in m t) (parked_at b'.parked t') b.parked.threads next → IsLinked m q b' t' next
  linked_parked next fit parked = record {
    stand = parked_stand;
    words = parked_words fit;
    parked =
        fits_moved (owners_in m t) (owners_in m t') (parked_at b'.parked t') (parked_at b'.parked t') b.parked.threads
        b'.parked.threads next parked_owners (λ u. refl) parked_threads parked;
  }

  pub parked_kept : (ps : List Parking) → parkings_in b'.parked t' ≡ ps
      → KeepsLevels (record (linked m q b t) { parked = ps }) (linked m q b' t')
  parked_kept ps e = record {
    levels = parked_levels;
    queue = refl;
    holds = parked_queue;
    keys = parked_keys;
    parked = e;
  }

-- HOW PARKED THREADS FIT THEN

-- one is taken off
module _ (v : Owners) (at now : ℕ → Option Parked) (n next t : ℕ) (h : FitsParked v at n next)
    (change : (u : ℕ) → now u ≡ (if u == t then None else at u)) where
  was : (u : ℕ) (x : Parked) → now u ≡ Some x → ((u ≡ t) ⊎ (u ≡ t → ⊥)) → at u ≡ Some x
  was u x e (inl same) =
      let wrong : None ≡ Some x = sym (change u ∙ at_same u t None (at u) same) ∙ e in absurd cc
  was u x e (inr ne) = sym (change u ∙ at_other u t None (at u) ne) ∙ e

  pub fits_unpark : FitsParked v now n next
  fits_unpark = record {
    parked = are_parked-unpark at now n next t h.parked change;
    ranked = λ u x e. h.ranked u x (was u x e (cases_eq u t));
    idle = λ u x e. h.idle u x (was u x e (cases_eq u t));
    admitted = λ u x e. h.admitted u x (was u x e (cases_eq u t));
  }

-- one is parked
module _ (v : Owners) (at now : ℕ → Option Parked) (n next t : ℕ) (h : FitsParked v at n next) (x : Parked) (l : 1 ≤ t)
    (le : t ≤ n) (c : 1 ≤ x.cond) (few : x.rank.prio ≤ 99) (new : x.rank.ticket ≡ next) (free : at t ≡ None)
    (change : (u : ℕ) → now u ≡ (if u == t then Some x else at u)) (ranked : x.rank.prio ≡ local_of v t)
    (idle : waits_on v t ≡ None) (admitted : 1 ≤ local_of v t) where
  is_it : (u : ℕ) (y : Parked) → now u ≡ Some y → u ≡ t → x ≡ y
  is_it u y e same = same_Some x y (sym (change u ∙ at_same u t (Some x) (at u) same) ∙ e)

  was_it : (u : ℕ) (y : Parked) → now u ≡ Some y → u ≢ t → at u ≡ Some y
  was_it u y e ne = sym (change u ∙ at_other u t (Some x) (at u) ne) ∙ e

  pub fits_park : FitsParked v now n (next + 1)
  fits_park = record {
    parked = are_parked-park at now n next t h.parked x l le c few new free change;
    ranked = λ u y e. by_rank u y e (cases_eq u t);
    idle = λ u y e. by_wait u y e (cases_eq u t);
    admitted = λ u y e. by_local u y e (cases_eq u t);
  }
    where
      by_rank : (u : ℕ) (y : Parked) → now u ≡ Some y → ((u ≡ t) ⊎ (u ≡ t → ⊥)) → y.rank.prio ≡ local_of v u
      by_rank u y e (inl same) =
          ap (λ (z : Parked). z.rank.prio) (sym (is_it u y e same)) ∙ ranked ∙ ap (local_of v) (sym same)
      by_rank u y e (inr ne) = h.ranked u y (was_it u y e ne)

      by_wait : (u : ℕ) (y : Parked) → now u ≡ Some y → ((u ≡ t) ⊎ (u ≡ t → ⊥)) → waits_on v u ≡ None
      by_wait u y e (inl same) = ap (waits_on v) same ∙ idle
      by_wait u y e (inr ne) = h.idle u y (was_it u y e ne)

      by_local : (u : ℕ) (y : Parked) → now u ≡ Some y → ((u ≡ t) ⊎ (u ≡ t → ⊥)) → 1 ≤ local_of v u
      by_local u y e (inl same) = subst (λ z. 1 ≤ local_of v z) (sym same) admitted
      by_local u y e (inr ne) = h.admitted u y (was_it u y e ne)

-- one is given the effective priority that it has in other owner states, in which no other parked thread has another
module _ (v v' : Owners) (at now : ℕ → Option Parked) (n next t : ℕ) (h : FitsParked v at n next)
    (few : local_of v' t ≤ 99)
    (change : (u : ℕ) → now u ≡ (if u == t then parked_with_prio (local_of v' t) (at u) else at u))
    (same : (u : ℕ) (x : Parked) → u ≢ t → at u ≡ Some x → local_of v' u ≡ local_of v u)
    (waits : (u : ℕ) (x : Parked) → at u ≡ Some x → waits_on v' u ≡ None)
    (admitted : (u : ℕ) (x : Parked) → at u ≡ Some x → 1 ≤ local_of v' u) where
  -- who is parked was, and stands with its effective priority
  record WasParked (u : ℕ) (y : Parked) : Type 0 where
    before : Parked
    at_before : at u ≡ Some before
    ranked : y.rank.prio ≡ local_of v' u

  was_parked : (u : ℕ) (y : Parked) → now u ≡ Some y → ((u ≡ t) ⊎ (u ≡ t → ⊥)) → WasParked u y
  was_parked u y e (inl it) = by_at (at u) refl
    where
      by_at : (o : Option Parked) → at u ≡ o → WasParked u y
      by_at None f =
          let wrong : None ≡ Some y
          = ap (parked_with_prio (local_of v' t)) (sym f) ∙ sym (change u ∙ at_same u t (parked_with_prio (local_of v' t) (at u)) (at u) it) ∙ e in
          absurd cc
      by_at (Some x) f = record {
        before = x;
        at_before = f;
        ranked =
            ap (λ (z : Parked). z.rank.prio) (same_Some y (record x { rank = record x.rank { prio = local_of v' t } })
            (sym e ∙ change u ∙ at_same u t (parked_with_prio (local_of v' t) (at u)) (at u) it
            ∙ ap (parked_with_prio (local_of v' t)) f)) ∙ ap (local_of v') (sym it);
      }
  was_parked u y e (inr ne) =
      let f : at u ≡ Some y = sym (change u ∙ at_other u t (parked_with_prio (local_of v' t) (at u)) (at u) ne) ∙ e in
      record { before = y; at_before = f; ranked = h.ranked u y f ∙ sym (same u y ne f) }

  pub fits_ranked : FitsParked v' now n next
  fits_ranked = record {
    parked = are_parked-rekey at now n next t (local_of v' t) h.parked few change;
    ranked = λ u y e. (was_parked u y e (cases_eq u t)).ranked;
    idle = λ u y e. let w = was_parked u y e (cases_eq u t) in waits u w.before w.at_before;
    admitted = λ u y e. let w = was_parked u y e (cases_eq u t) in admitted u w.before w.at_before;
  }

-- all got other tickets
module _ (v : Owners) (at now : ℕ → Option Parked) (n next next' : ℕ) (h : FitsParked v at n next)
    (kept : (u : ℕ) → parked_with_ticket 0 (now u) ≡ parked_with_ticket 0 (at u)) (parked : AreParked now n next') where
  ticketed : (u : ℕ) (y : Parked) → now u ≡ Some y → (o : Option Parked) → at u ≡ o
      → (x : Parked) × (at u ≡ Some x) × (y.rank.prio ≡ x.rank.prio)
  ticketed u y e None f =
      let wrong : Some (record y { rank = record y.rank { ticket = 0 } }) ≡ None
      = ap (parked_with_ticket 0) (sym e) ∙ kept u ∙ ap (parked_with_ticket 0) f in
      absurd cc
  ticketed u y e (Some x) f =
      let same : Some (record y { rank = record y.rank { ticket = 0 } }) ≡ Some (record x { rank = record x.rank { ticket = 0 } })
      = ap (parked_with_ticket 0) (sym e) ∙ kept u ∙ ap (parked_with_ticket 0) f in (
        x,
        f,
        ap (λ (z : Parked). z.rank.prio) (same_Some (record y { rank = record y.rank { ticket = 0 } })
            (record x { rank = record x.rank { ticket = 0 } }) same),
      )

  pub fits_numbered : FitsParked v now n next'
  fits_numbered = record {
    parked = parked;
    ranked = λ u y e. let w = ticketed u y e (at u) refl in w.2 ∙ h.ranked u w.0 w.1;
    idle = λ u y e. let w = ticketed u y e (at u) refl in h.idle u w.0 w.1;
    admitted = λ u y e. let w = ticketed u y e (at u) refl in h.admitted u w.0 w.1;
  }

  -- who was not parked is not
  pub unnumbered : (u : ℕ) → at u ≡ None → now u ≡ None
  unnumbered u none = by_now (now u) refl
    where
      by_now : (o : Option Parked) → now u ≡ o → now u ≡ None
      by_now None e = e
      by_now (Some y) e =
          let w = ticketed u y e (at u) refl in let wrong : None ≡ Some w.0 = sym none ∙ w.1 in absurd cc
