-- A thread is parked: its ticket is taken first.
use Rattle.std.proofs.Common.{◌≡◌, ℕ, ◌+◌, ◌-◌, ◌<◌, ◌≤◌, ◌==◌, ◌++◌, false, List, [], ◌∷◌, length, if◌then◌else◌, Some, None, refl, sym, ap, ◌∙◌, subst, arith}
use Rattle.pif_nodes_model.specs.Table.{NodeLists, holder}
use Rattle.pif_nodes_model.specs.Levels.{Queue}
use Rattle.pif_model.specs.PiKernel.{Parking, parked_pairs}
use Rattle.pif_kernel_model.specs.Owners.{waits_on}
use Rattle.pif_kernel_model.specs.States.{States, owners_in}
use Rattle.pif_kernel_model.proofs.ViewLemmas.{length-seats, waits_on-owners_in}
use Rattle.pif_kernel_model.specs.Boosts.{local_of}
use Rattle.pif_kernel_model.specs.Entries.{found_in}
use Rattle.pif_kernel_model.specs.QueueFrames.{KeepsOthers}
use Rattle.pif_kernel_model.specs.Parked.{Parked, parked_at, parking_node, parked_with_ticket}
use Rattle.pif_kernel_model.specs.Buckets.{Buckets, HoldsBuckets}
use Rattle.pif_kernel_model.specs.Chained.{KeepsLevels}
use Rattle.pif_kernel_model.specs.Tickets.{is_named}
use Rattle.pif_chains_linked.specs.Parkings.{AreParked, parkings_by, parkings_in}
use Rattle.pif_chains_linked.specs.Linked.{IsLinked}
use Rattle.pif_chains_linked.proofs.ParkingLemmas.{park_parkings}
use Rattle.pif_chains_linked.proofs.Standing.{linked, idle_node, unparked}
use Rattle.pif_chains_linked.proofs.Parks.{placed_same, parked_threads, parked_owners, parked_levels, parked_queue, parked_keys, linked_parked, fits_numbered, unnumbered, fits_park}

module _ (m : States) (q : Queue) (b : Buckets) (t : NodeLists) (next : ℕ) (h : IsLinked m q b t next) (u : ℕ) (number : 1 ≤ u)
    (row : u < length (owners_in m t).seats) (free : waits_on (owners_in m t) u ≡ None)
    (named : is_named u (parked_pairs (parkings_in b.parked t)) ≡ false) (admitted : 1 ≤ local_of (owners_in m t) u)
    (b1 : Buckets) (t1 : NodeLists) (ticket : ℕ) (numbered : AreParked (parked_at b1.parked t1) b.parked.threads ticket)
    (order : parkings_in b1.parked t1 ≡ parkings_in b.parked t)
    (kept : (v : ℕ) → parked_with_ticket 0 (parked_at b1.parked t1 v) ≡ parked_with_ticket 0 (parked_at b.parked t v))
    (words : (w : ℕ) → found_in b1.entries t1 w ≡ found_in b.entries t w) (place : b1 ≡ b)
    (outside : KeepsOthers b.parked.first_list b.parked.conds b.parked.first_node b.parked.threads t t1)
    (held : HoldsBuckets b1 t1) where
  -- once it has a ticket
  pub linked_ticket : IsLinked m q b1 t1 ticket
  linked_ticket =
      linked_parked m q b t h.stand b1 t1 (placed_same b b1 place) words outside held ticket h.words
      (fits_numbered (owners_in m t) (parked_at b.parked t) (parked_at b1.parked t1) b.parked.threads next ticket h.parked
      kept numbered)

  pub ticket_owners : owners_in m t1 ≡ owners_in m t
  ticket_owners = parked_owners m q b t h.stand b1 t1 (placed_same b b1 place) words outside held

  is_thread : (1 ≤ u) × (u ≤ m.threads)
  is_thread = (number, omega (arith, row, length-seats m t, h.stand.owners.waiters.rows))

  pub ticket_thread : (1 ≤ u) × (u ≤ b1.parked.threads)
  ticket_thread = (number, omega (arith, is_thread.1, linked_ticket.stand.laid.parked))

  pub ticket_off : parked_at b1.parked t1 u ≡ None
  ticket_off =
      unnumbered (owners_in m t) (parked_at b.parked t) (parked_at b1.parked t1) b.parked.threads next ticket h.parked
      kept numbered u (unparked m q b t next h u named)

  pub ticket_node : holder t1 (parking_node b1.parked u) ≡ None
  ticket_node =
      ap (λ n. holder t1 (n + (u - 1))) (linked_ticket.stand.laid.parked_nodes ∙ sym linked_ticket.stand.laid.wait_nodes)
      ∙ idle_node m q b1 t1 linked_ticket.stand u is_thread (sym (waits_on-owners_in m t u) ∙ free) ticket_off

  pub ticket_admitted : 1 ≤ local_of (owners_in m t1) u
  ticket_admitted = subst (λ v. 1 ≤ local_of v u) (sym ticket_owners) admitted

  -- and is parked
  module _ (c target prio : ℕ) (some : 1 ≤ c) (most : prio ≤ 99) (ranked : prio ≡ local_of (owners_in m t1) u) (b2 : Buckets)
      (t2 : NodeLists)
      (change : (v : ℕ) → parked_at b2.parked t2 v
      ≡ (if v == u then Some (record { cond = c; target = target; rank = record { prio = prio; ticket = ticket } })
      else parked_at b1.parked t1 v))
      (words2 : (w : ℕ) → found_in b2.entries t2 w ≡ found_in b1.entries t1 w)
      (place2 : b2 ≡ record b1 {
        parked = record b1.parked { places = b2.parked.places; differing = b2.parked.differing };
      })
      (outside2 : KeepsOthers b1.parked.first_list b1.parked.conds b1.parked.first_node b1.parked.threads t1 t2)
      (held2 : HoldsBuckets b2 t2) where
    abbrev x : Parked
    x = record { cond = c; target = target; rank = record { prio = prio; ticket = ticket } }

    pub linked_park : IsLinked m q b2 t2 (ticket + 1)
    linked_park =
        linked_parked m q b1 t1 linked_ticket.stand b2 t2 place2 words2 outside2 held2 (ticket + 1) linked_ticket.words
        (fits_park (owners_in m t1) (parked_at b1.parked t1) (parked_at b2.parked t2) b1.parked.threads ticket u
        linked_ticket.parked x number ticket_thread.1 some most refl ticket_off change ranked
        (ap (λ v. waits_on v u) ticket_owners ∙ free) ticket_admitted)

    pub park_owners : owners_in m t2 ≡ owners_in m t
    park_owners =
        parked_owners m q b1 t1 linked_ticket.stand b2 t2 place2 words2 outside2 held2 ∙ ticket_owners

    pub park_kept : KeepsLevels
        (record (linked m q b t) { parked = parkings_in b.parked t ++ record { thread = u; cond = c; target = target } ∷ [] })
        (linked m q b2 t2)
    park_kept = record {
      levels = λ p lp. parked_levels m q b1 t1 linked_ticket.stand b2 t2 place2 words2 outside2 held2 p lp
          ∙ parked_levels m q b t h.stand b1 t1 (placed_same b b1 place) words outside held p lp;
      queue = refl;
      holds = parked_queue m q b1 t1 linked_ticket.stand b2 t2 place2 words2 outside2 held2;
      keys = parked_keys m q b1 t1 linked_ticket.stand b2 t2 place2 words2 outside2 held2
          ∙ parked_keys m q b t h.stand b1 t1 (placed_same b b1 place) words outside held;
      parked =
          ap (λ n. parkings_by (parked_at b2.parked t2) n)
          (parked_threads m q b1 t1 linked_ticket.stand b2 t2 place2 words2 outside2 held2)
          ∙ park_parkings (parked_at b1.parked t1) (parked_at b2.parked t2) b1.parked.threads ticket u
          linked_ticket.parked.parked x number ticket_thread.1 some most refl ticket_off change
          ∙ ap (λ (ps : List Parking). ps ++ record { thread = u; cond = c; target = target } ∷ []) order;
    }
