-- A walk went through linked chains, and the last thread of it was given its priority among the parked threads.
use Rattle.std.proofs.Common.{◌≡◌, ◌≢◌, ◌⊎◌, ℕ, ◌<◌, ◌≤◌, ◌==◌, length, if◌then◌else◌, Option, Some, None, IsSome, option_map, refl, sym, ap, ◌∙◌, subst, inl, inr, arith}
use Rattle.std.proofs.lemmas.Bool.{cases_eq, cases_lt, false≢true}
use Rattle.std.proofs.lemmas.List.{get_or_past}
use Rattle.std.specs.FinMap.{get}
use Rattle.pif_nodes_model.specs.Table.{NodeLists}
use Rattle.pif_nodes_model.specs.Levels.{Queue, Holds, IsLevel, level_of}
use Rattle.pif_kernel_model.specs.Owners.{Task, Wait, no_task, state_of, waits_on, waits_for}
use Rattle.pif_kernel_model.proofs.OwnersLemmas.{free-wait}
use Rattle.pif_kernel_model.specs.States.{States, owners_in}
use Rattle.pif_kernel_model.proofs.ViewLemmas.{length-seats}
use Rattle.pif_kernel_model.specs.Boosts.{IsThread, IsRepairedBut, base_of, local_of, greatest_base, with_rank_priority}
use Rattle.pif_boost.specs.Done.{IsDone}
use Rattle.pif_kernel_model.proofs.Greatest.{idle, waits_for-none}
use Rattle.pif_kernel_model.specs.Entries.{found_in}
use Rattle.pif_kernel_model.specs.QueueFrames.{KeepsOthers}
use Rattle.pif_kernel_model.specs.Parked.{Parked, parked_at, parked_with_prio}
use Rattle.pif_kernel_model.specs.Buckets.{Buckets, HoldsBuckets}
use Rattle.pif_chains_linked.specs.Parkings.{parkings_by, parkings_in}
use Rattle.pif_chains_linked.specs.Linked.{keys_in, StandLinked, FitsWords, FitsParked, IsLinked}
use Rattle.pif_chains_linked.proofs.Leaving.{KeepsBuckets, beyond_keeps, parked_there, buckets_there, keys_there, parkings_there, words_there, fits_there}
use Rattle.pif_chains_linked.proofs.ParkingKeys.{rekey_parkings}
use Rattle.pif_chains_linked.proofs.Parks.{placed_rekeyed, parked_threads, parked_owners, parked_levels, parked_queue, parked_keys, linked_parked, fits_ranked}
use Rattle.pif_kernel_model.proofs.SamePlace.{SamePlace}
use Rattle.pif_chains_linked.proofs.Standing.{laid_moved, laid_masked}

module _ (m : States) (q : Queue) (b : Buckets) (t : NodeLists) (next : ℕ) (h : IsLinked m q b t next) (start : ℕ)
    (admitted : 1 ≤ base_of (owners_in m t) start) (repaired : IsRepairedBut start (owners_in m t)) (hops last : ℕ)
    (m' : States) (t' : NodeLists) (q' : Queue) (done : IsDone m t q hops m' t' q')
    (ends : (u : ℕ) → u ≢ last → waits_for (owners_in m t) u ≡ 0 → local_of (owners_in m' t') u ≡ local_of (owners_in m t) u) where
  keeps : KeepsBuckets b t t'
  keeps = beyond_keeps m q b t t' h.stand.laid done.outside

  place : SamePlace m m'
  place = record {
    list = ap (λ (x : States). x.first_list) done.rows;
    node = ap (λ (x : States). x.first_node) done.rows;
    threads = ap (λ (x : States). x.threads) done.rows;
  }

  pub walked_stand : StandLinked m' q' b t'
  walked_stand = record {
    owners = done.states;
    queue = done.holds;
    buckets = buckets_there b t t' keeps h.stand.buckets done.holds.apart;
    laid = laid_masked m' q q' b done.place (laid_moved m m' q b place h.stand.laid);
    lists = omega (arith, done.outside.list_count, h.stand.lists, place.threads);
  }

  walked_words : FitsWords m' b.entries t'
  walked_words w f e =
      let is = words_there b t t' keeps h.stand.buckets m h.words w f e in
      record { mutex = is.mutex; row = ap (λ (x : States). get x.places f.key) done.rows ∙ is.row }

  thread : (u : ℕ) (x : Parked) → parked_at b.parked t u ≡ Some x → IsThread (owners_in m t) u
  thread u x e =
      let i = h.parked.parked.within u x e in
      (i.0, omega (arith, i.1, h.stand.laid.parked, length-seats m t, h.stand.owners.waiters.rows))

  row : start < length (owners_in m t).seats
  row = by_place (cases_lt start (length (owners_in m t).seats))
    where
      by_place : ((start < length (owners_in m t).seats) ⊎ (length (owners_in m t).seats ≤ start))
          → start < length (owners_in m t).seats
      by_place (inl l) = l
      by_place (inr p) =
          let none : base_of (owners_in m t) start ≡ 0
          = ap (λ (x : Task). x.base) (get_or_past (owners_in m t).seats start no_task p) in
          absurd (omega (arith, none, admitted))

  -- a parked thread has an effective priority still
  then_admitted : (u : ℕ) (x : Parked) → parked_at b.parked t u ≡ Some x → 1 ≤ local_of (owners_in m' t') u
  then_admitted u x e = by_greatest (cases_eq (greatest_base (owners_in m t) u) 0)
    where
      now : local_of (owners_in m' t') u ≡ greatest_base (owners_in m t) u
      now = ap (λ (y : Task). y.local) (done.repaired.seats u (thread u x e).1)

      by_greatest : ((greatest_base (owners_in m t) u ≡ 0) ⊎ (greatest_base (owners_in m t) u ≡ 0 → ⊥))
          → 1 ≤ local_of (owners_in m' t') u
      by_greatest (inl z) =
          let none : local_of (owners_in m t) u ≡ 0
          = ap (λ (y : Task). y.local) (idle (owners_in m t) start h.stand.owners.waiters.sound repaired row admitted u
          (thread u x e) z) in
          let some : 1 ≤ local_of (owners_in m t) u = h.parked.admitted u x e in
          absurd (omega (arith, none, some))
      by_greatest (inr ne) = grind (arith, now, ne)

  then_idle : (u : ℕ) (x : Parked) → parked_at b.parked t u ≡ Some x → waits_on (owners_in m' t') u ≡ None
  then_idle u x e =
      ap state_of (done.repaired.seats u (thread u x e).1)
      ∙ ap (λ (w : Option Wait). option_map (λ (y : Wait). y.state) (option_map (with_rank_priority (greatest_base (owners_in m t) u)) w))
      (free-wait (owners_in m t) u (h.parked.idle u x e))

  then_same : (u : ℕ) (x : Parked) → u ≢ last → parked_at b.parked t u ≡ Some x
      → local_of (owners_in m' t') u ≡ local_of (owners_in m t) u
  then_same u x ne e = ends u ne (waits_for-none (owners_in m t) u (h.parked.idle u x e))

  back : (u : ℕ) (x : Parked) → parked_at b.parked t' u ≡ Some x → parked_at b.parked t u ≡ Some x
  back u x e = sym (parked_there b t t' keeps h.stand.buckets u) ∙ e

  pub walked_admitted : IsSome (parked_at b.parked t' last) → 1 ≤ local_of (owners_in m' t') last
  walked_admitted some = by_at (parked_at b.parked t' last) refl
    where
      by_at : (o : Option Parked) → parked_at b.parked t' last ≡ o → 1 ≤ local_of (owners_in m' t') last
      by_at None e = absurd (false≢true (subst IsSome e some))
      by_at (Some x) e = then_admitted last x (back last x e)

  pub walked_keys : keys_in b.entries t' ≡ keys_in b.entries t
  walked_keys = keys_there b t t' keeps h.stand.buckets

  pub walked_parkings : parkings_in b.parked t' ≡ parkings_in b.parked t
  walked_parkings = parkings_there b t t' keeps h.stand.buckets

  few : local_of (owners_in m' t') last ≤ 99
  few = (done.states.waiters.sound.seats last).local

  module _ (b2 : Buckets) (t2 : NodeLists)
      (change : (u : ℕ) → parked_at b2.parked t2 u
      ≡ (if u == last then parked_with_prio (local_of (owners_in m' t') last) (parked_at b.parked t' u) else parked_at b.parked t' u))
      (words : (w : ℕ) → found_in b2.entries t2 w ≡ found_in b.entries t' w)
      (placed : b2 ≡ record b { parked = record b.parked { differing = b2.parked.differing } })
      (outside : KeepsOthers b.parked.first_list b.parked.conds b.parked.first_node b.parked.threads t' t2)
      (held : HoldsBuckets b2 t2) where
    fits : FitsParked (owners_in m t) (parked_at b.parked t') b.parked.threads next
    fits = fits_there b t t' keeps h.stand.buckets (owners_in m t) b.parked.threads next h.parked

    pub linked_walked : IsLinked m' q' b2 t2 next
    linked_walked =
        linked_parked m' q' b t' walked_stand b2 t2 (placed_rekeyed b b2 placed) words outside held next walked_words
        (fits_ranked (owners_in m t) (owners_in m' t') (parked_at b.parked t') (parked_at b2.parked t2) b.parked.threads next
        last fits few change (λ u x ne e. then_same u x ne (back u x e)) (λ u x e. then_idle u x (back u x e))
        (λ u x e. then_admitted u x (back u x e)))

    pub reranked_owners : owners_in m' t2 ≡ owners_in m' t'
    reranked_owners = parked_owners m' q' b t' walked_stand b2 t2 (placed_rekeyed b b2 placed) words outside held

    pub reranked_levels : (p : ℕ) → IsLevel p → level_of q' t2 p ≡ level_of q' t' p
    reranked_levels = parked_levels m' q' b t' walked_stand b2 t2 (placed_rekeyed b b2 placed) words outside held

    pub reranked_queue : Holds q' t2
    reranked_queue = parked_queue m' q' b t' walked_stand b2 t2 (placed_rekeyed b b2 placed) words outside held

    pub reranked_keys : keys_in b2.entries t2 ≡ keys_in b.entries t
    reranked_keys =
        parked_keys m' q' b t' walked_stand b2 t2 (placed_rekeyed b b2 placed) words outside held ∙ walked_keys

    pub reranked_parkings : parkings_in b2.parked t2 ≡ parkings_in b.parked t
    reranked_parkings =
        ap (λ n. parkings_by (parked_at b2.parked t2) n)
        (parked_threads m' q' b t' walked_stand b2 t2 (placed_rekeyed b b2 placed) words outside held)
        ∙ rekey_parkings (parked_at b.parked t') (parked_at b2.parked t2) b.parked.threads next last
        (local_of (owners_in m' t') last) fits.parked few change ∙ walked_parkings
