-- What is kept stays sound if a thread gets another base priority.
use Rattle.std.proofs.Common.{◌≡◌, ◌≢◌, ◌⊎◌, ℕ, ◌<◌, ◌≤◌, ◌==◌, true, List, length, Option, option_map, option_and_then, unwrap_or, Ok, refl, sym, ap, subst, ◌∙◌, inl, inr, arith, length-set}
use Rattle.std.proofs.Math.Path.{fun_ext}
use Rattle.std.proofs.lemmas.Bool.{cases_eq}
use Rattle.std.proofs.lemmas.List.{get_or-set_same, get_or-set_other}
use Rattle.pif_nodes_model.specs.declared.keys.Key.{Key}
use Rattle.pif_model.specs.PiKernel.{is_among, is_living, has_seat, with_effective_levels, kernel_after_set_prio}
use Rattle.pif_model.specs.PiKernel.{seat_at as kernel_seat_at, with_seat as kernel_with_seat}
use Rattle.pif_kernel_model.specs.Owners.{Task, Wait, task_at, owner_at, waits_on, rank_of, no_task, with_base}
use Rattle.pif_kernel_model.specs.Owners.{waits_for as owners_wait_for}
use Rattle.pif_kernel_model.specs.Boosts.{IsRepairedBut}
use Rattle.pif_model_lemmas.proofs.kernel.Facts.{living-added}
use Rattle.pif_model_lemmas.proofs.kernel.Settled.{priority-from_range}
use Rattle.pif_model_lemmas.proofs.kernel.Kept.{set_prio_kept}
use Rattle.pif_model_lemmas.proofs.Places.{kept_at}
use Rattle.pif_kernel_model.specs.Inside.{Inside, IsListed, IsPlaced, IsSoundInside, kernel_of, ticket_of}
use Rattle.pif_kernel_model.specs.Arrivals.{Rise}
use Rattle.pif_kernel_model.proofs.Seats.{IsFitted, added_seen, kernel_by_parts, seats_of-set_base, same_seats}
use Rattle.pif_kernel_model.proofs.Picked.{levels_seen}
use Rattle.pif_kernel_model.proofs.Standing.{fits}
use Rattle.pif_kernel_model.proofs.ChainLaws.{repaired_but}
use Rattle.pif_kernel_model.proofs.WalkSound.{IsWalkable, owners_effective}

module _ (p : Inside) (t prio : ℕ) (h : IsSoundInside p) (lives : is_living (kernel_of p) t ≡ true) (some : 1 ≤ prio)
    (few : prio ≤ 99) where
  abbrev row : Task
  row = record (task_at p.owners t) { base = prio }

  -- what is kept before the walk
  abbrev pub mid : Inside
  mid = record p { owners = with_base t prio p.owners }

  fit : IsFitted p
  fit = fits p h

  known : has_seat (kernel_of p) t ≡ true
  known = living-added (kernel_of p) t lives

  nonzero : t ≢ 0
  nonzero = (added_seen p fit t known).0

  added : t < length p.statuses
  added = (added_seen p fit t known).1

  inside : t < length p.owners.seats
  inside = omega (arith, added, fit.few)

  long : length mid.owners.seats ≡ length p.owners.seats
  long = length-set p.owners.seats t row

  other : (u : ℕ) → u ≢ t → task_at mid.owners u ≡ task_at p.owners u
  other u n = get_or-set_other p.owners.seats t u row no_task n

  same : (u : ℕ) → u ≡ t → (task_at mid.owners u).base ≡ prio
  same u e =
      ap (λ (v : ℕ). (task_at mid.owners v).base) e
      ∙ ap (λ (x : Task). x.base) (get_or-set_same p.owners.seats t row no_task inside)

  wait_same : (u : ℕ) → (task_at mid.owners u).wait ≡ (task_at p.owners u).wait
  wait_same u = kept_at (λ (x : Task). x.wait) p.owners.seats t row no_task refl u

  local_same : (u : ℕ) → (task_at mid.owners u).local ≡ (task_at p.owners u).local
  local_same u = kept_at (λ (x : Task). x.local) p.owners.seats t row no_task refl u

  waits_same : (u : ℕ) → waits_on mid.owners u ≡ waits_on p.owners u
  waits_same u = ap (option_map (λ (w : Wait). w.state)) (wait_same u)

  rank_same : (u : ℕ) → rank_of mid.owners u ≡ rank_of p.owners u
  rank_same u = ap (option_map (λ (w : Wait). w.rank)) (wait_same u)

  waiting_same : (u : ℕ) → owners_wait_for p.owners u ≡ owners_wait_for mid.owners u
  waiting_same u = ap (λ (o : Option ℕ). unwrap_or (option_and_then (owner_at p.owners) o) 0) (sym (waits_same u))

  ticket_same : (u : ℕ) → ticket_of p.owners u ≡ ticket_of mid.owners u
  ticket_same u = ap (λ (o : Option Key). unwrap_or (option_map (λ (r : Key). r.ticket) o) 0) (sym (rank_same u))

  admitted_mid : (u : ℕ) → ((u ≡ t) ⊎ (u ≡ t → ⊥)) → u ≢ 0 → u < length p.statuses → 1 ≤ (task_at mid.owners u).base
  admitted_mid u (inl e) nz l = omega (arith, same u e, some)
  admitted_mid u (inr n) nz l = omega (arith, ap (λ (x : Task). x.base) (other u n), h.placed.admitted u nz l)

  most_mid : (u : ℕ) → ((u ≡ t) ⊎ (u ≡ t → ⊥)) → (task_at mid.owners u).base ≤ 99
  most_mid u (inl e) = omega (arith, same u e, few)
  most_mid u (inr n) = omega (arith, ap (λ (x : Task). x.base) (other u n), h.placed.most u)

  fit_mid : IsFitted mid
  fit_mid = record {
    few = omega (arith, fit.few, long);
    free = λ u l. other u (λ e. absurd (omega (arith, l, added))) ∙ h.placed.free u l;
    waits = λ u. waits_same u ∙ h.placed.waits u;
    owners = h.placed.owners;
  }

  kernel_mid : kernel_of mid
      ≡ kernel_with_seat t (record (kernel_seat_at (kernel_of p) t) { base = prio }) (kernel_of p)
  unfolding kernel_of
  kernel_mid =
      kernel_by_parts (kernel_of mid) _ refl (seats_of-set_base p.statuses p.owners.seats t prio fit.few) refl
      (λ m. refl) refl refl refl (λ r. refl)

  has_mid : (u : ℕ) → has_seat (kernel_of mid) u ≡ has_seat (kernel_of p) u
  has_mid u = same_seats p mid fit fit_mid refl u

  listed_mid : (u r : ℕ) → IsListed p u r → IsListed mid u r
  listed_mid u r l = record { added = has_mid u ∙ l.added; ready = l.ready; local = local_same u ∙ l.local }

  pub placed : IsPlaced mid
  placed = record {
    within = h.placed.within;
    rows = long ∙ h.placed.rows;
    keys = h.placed.keys;
    some = h.placed.some;
    few = h.placed.few;
    nobody = other 0 (λ e. nonzero (sym e)) ∙ h.placed.nobody;
    admitted = λ u n l. admitted_mid u (cases_eq u t) n l;
    free = fit_mid.free;
    most = λ u. most_mid u (cases_eq u t);
    threads = h.placed.threads;
    holds = h.placed.holds;
    waits = fit_mid.waits;
    no_mutex = h.placed.no_mutex;
    apart = h.placed.apart;
    made = h.placed.made;
    owned = h.placed.owned;
    count = h.placed.count;
    owners = h.placed.owners;
    tickets = subst (λ (f : ℕ → ℕ). Rise f 1 p.arrivals p.next) (fun_ext ticket_same) h.placed.tickets;
    listed =
        λ u r e. listed_mid u r (h.placed.listed u r
        (ap (λ (xs : List ℕ). is_among xs u) (levels_seen p r ∙ sym (levels_seen mid r)) ∙ e));
  }

  repairs : IsRepairedBut t mid.owners
  repairs =
      repaired_but p.owners mid.owners t long (λ x u ne nz. ap (λ (n : ℕ). n == u) (waiting_same x))
      (λ u ne. sym (ap (λ (s : Task). s.base) (other u ne)))
      (λ u. owners_effective p fit u ∙ sym (h.local u) ∙ sym (local_same u))
      (λ u r e. h.rank u r (sym (rank_same u) ∙ e) ∙ sym (h.local u) ∙ sym (local_same u))

  settled_mid : with_effective_levels (kernel_of mid) ≡ kernel_after_set_prio t prio (Ok (record {})) (kernel_of p)
  unfolding kernel_after_set_prio
  settled_mid = ap with_effective_levels kernel_mid

  pub walkable : IsWalkable mid t (kernel_after_set_prio t prio (Ok (record {})) (kernel_of p))
  walkable = record {
    placed = placed;
    admitted = omega (arith, same t refl, some);
    repaired = repairs;
    after = settled_mid;
    kept = set_prio_kept t prio (kernel_of p) h.kernel (priority-from_range prio some few) lives;
  }
