-- What is kept is sound once a walk has repaired it, and stands for the settled kernel.
use Rattle.std.proofs.Common.{◌≡◌, ◌⊎◌, ℕ, ◌-◌, ◌<◌, ◌≤◌, Bool, true, false, length, Option, Some, None, IsSome, option_map, option_and_then, unwrap_or, refl, sym, ap, subst, ◌∙◌, inl, inr, arith}
use Rattle.std.proofs.Math.Path.{fun_ext}
use Rattle.std.proofs.lemmas.Bool.{cases_lt}
use Rattle.std.proofs.lemmas.List.{get_or_past}
use Rattle.pif_nodes_model.specs.declared.keys.Key.{Key}
use Rattle.pif_nodes_model.specs.Lists.{has}
use Rattle.pif_nodes_model.specs.Table.{NodeLists}
use Rattle.pif_nodes_model.specs.Levels.{Queue, Holds, IsLevel, IsQueued, level_of}
use Rattle.pif_model.specs.PiKernel.{Kernel, IsKernel, effective_in, is_among, level_at, with_effective_levels, waits_for}
use Rattle.pif_model.specs.PiKernel.{seat_at as kernel_seat_at}
use Rattle.pif_kernel_model.specs.Owners.{Owners, Task, Wait, task_at, owner_at, count, waits_on, rank_of, no_task}
use Rattle.pif_kernel_model.specs.Boosts.{IsRepaired, IsRepairedBut, base_of, local_of, greatest_base}
use Rattle.pif_kernel_model.specs.Boosts.{with_effective, with_rank_priority}
use Rattle.pif_kernel_model.specs.Boosts.{level_after_walk}
use Rattle.pif_model_lemmas.proofs.Following.{reaches-from_within}
use Rattle.pif_model_lemmas.proofs.Hops.{nobody, reach_below}
use Rattle.pif_model_lemmas.proofs.Numbers.{within}
use Rattle.pif_model_lemmas.proofs.kernel.Statuses.{ready-queued_on_nothing}
use Rattle.pif_model_lemmas.proofs.Greatest.{effective_most, effective_wider, effective_same}
use Rattle.pif_model_lemmas.proofs.kernel.Levels.{length-levels_by}
use Rattle.pif_kernel_model.specs.Inside.{Inside, IsPlaced, IsSoundInside, kernel_of, state_key_at, state_at, ticket_of, IsListed, status_at}
use Rattle.pif_kernel_model.specs.Arrivals.{Rise}
use Rattle.pif_kernel_model.proofs.Seats.{IsFitted, fitted, seats_length, base_seen, owners_waits, waits_below, kernel_by_parts, added_seen, states_seen, states_length, seats_of-same_base}
use Rattle.pif_kernel_model.proofs.Picked.{levels_seen, levels_count, among_has}
use Rattle.pif_kernel_model.proofs.Standing.{listed_kept, level_same}
use Rattle.pif_kernel_model.proofs.LevelLaws.{levels_settled}

wait_state : (n : ℕ) (o : Option Wait)
    → option_map (λ (w : Wait). w.state) (option_map (with_rank_priority n) o) ≡ option_map (λ (w : Wait). w.state) o
wait_state n None = refl
wait_state n (Some w) = refl

wait_ticket : (n : ℕ) (o : Option Wait)
    → option_map (λ (r : Key). r.ticket) (option_map (λ (w : Wait). w.rank) (option_map (with_rank_priority n) o))
    ≡ option_map (λ (r : Key). r.ticket) (option_map (λ (w : Wait). w.rank) o)
wait_ticket n None = refl
wait_ticket n (Some w) = refl

wait_prio : (n : ℕ) (o : Option Wait) (r : Key)
    → option_map (λ (w : Wait). w.rank) (option_map (with_rank_priority n) o) ≡ Some r → r.prio ≡ n
wait_prio n None r e = cc
wait_prio n (Some w) r e =
    let same : record { prio = n; ticket = w.rank.ticket } ≡ r = cc in sym (ap (λ (k : Key). k.prio) same)

-- the owner states and the kernel by itself have the same effective priorities
pub owners_effective : (p : Inside) → IsFitted p → (u : ℕ) → greatest_base p.owners u ≡ effective_in (kernel_of p) u
owners_effective p fit u =
    effective_same _ _ _ _ _ _ u refl (λ x. owners_waits p fit x) (λ x. sym (base_seen p fit x))
    ∙ effective_wider (length (kernel_of p).seats) (length p.owners.seats) (waits_for (kernel_of p))
    (λ x. (kernel_seat_at (kernel_of p) x).base) u
    (omega (arith, fit.few, seats_length p fit)) (λ x some. waits_below p fit x)
    (λ x le. base_seen p fit x ∙ ap (λ (s : Task). s.base) (fit.free x (omega (arith, le, seats_length p fit))))

module _ (p : Inside) (h : IsPlaced p) (now : Owners) (q : Queue) (tb : NodeLists) (repaired : IsRepaired p.owners now)
    (walks : (r : ℕ) → IsLevel r → level_of q tb r ≡ level_after_walk p.owners p.queue p.table r)
    (place : q ≡ record p.queue { mask = q.mask }) (holds : Holds q tb) where
  abbrev pub after : Inside
  after = record p { owners = now; queue = q; table = tb }

  fit : IsFitted p
  fit = fitted p h

  effective_seen : (u : ℕ) → greatest_base p.owners u ≡ effective_in (kernel_of p) u
  effective_seen u = owners_effective p fit u

  -- of who was never added
  effective_out : (u : ℕ) → length p.statuses ≤ u → effective_in (kernel_of p) u ≡ 0
  effective_out u le =
      let none : effective_in (kernel_of p) u ≤ 0
      = effective_most _ _ _ u 0 (λ x l e. absurd
      (past x l (reach_below (waits_for (kernel_of p)) (length (kernel_of p).seats) (waits_below p fit)
      (reaches-from_within _ _ x u e) l))) in
      omega (arith, none)
    where
      past : (x : ℕ) → x < length (kernel_of p).seats → u < length (kernel_of p).seats → ⊥
      past x l b = absurd (omega (arith, le, b, seats_length p fit))

  effective_zero : effective_in (kernel_of p) 0 ≡ 0
  effective_zero =
      let none : effective_in (kernel_of p) 0 ≤ 0
      = effective_most _ _ _ 0 0 (λ x l e. only x
      (nobody (waits_for (kernel_of p)) refl (reaches-from_within _ _ x 0 e))) in
      omega (arith, none)
    where
      only : (x : ℕ) → x ≡ 0 → (kernel_seat_at (kernel_of p) x).base ≤ 0
      only x z =
          omega (
            arith,
            base_seen p fit x,
            ap (λ (y : ℕ). (task_at p.owners y).base) z,
            ap
                (λ (s : Task). s.base) h.nobody,
          )

  -- each seat is the one that it was, boosted
  seat_now : (u : ℕ) → task_at now u ≡ with_effective (effective_in (kernel_of p) u) (task_at p.owners u)
  seat_now u = by_place (cases_lt u (length p.owners.seats))
    where
      by_place : ((u < length p.owners.seats) ⊎ (length p.owners.seats ≤ u))
          → task_at now u ≡ with_effective (effective_in (kernel_of p) u) (task_at p.owners u)
      by_place (inl l) = repaired.seats u l ∙ ap (λ (n : ℕ). with_effective n (task_at p.owners u)) (effective_seen u)
      by_place (inr g) =
          let past : task_at p.owners u ≡ no_task = get_or_past p.owners.seats u no_task g in
          let out : effective_in (kernel_of p) u ≡ 0 = effective_out u (omega (arith, fit.few, g)) in
          get_or_past now.seats u no_task (omega (arith, repaired.threads, g)) ∙ rw (past, out) refl

  base_now : (u : ℕ) → (task_at now u).base ≡ (task_at p.owners u).base
  base_now u = ap (λ (s : Task). s.base) (seat_now u)

  -- a seat of nobody stays one
  nobody_now : (u : ℕ) → effective_in (kernel_of p) u ≡ 0 → task_at p.owners u ≡ no_task → task_at now u ≡ no_task
  nobody_now u z e = seat_now u ∙ rw (z, e) refl

  waits_now : (u : ℕ) → waits_on now u ≡ waits_on p.owners u
  waits_now u =
      ap (λ (s : Task). option_map (λ (w : Wait). w.state) s.wait) (seat_now u) ∙ wait_state _ (task_at p.owners u).wait

  ticket_now : (u : ℕ) → ticket_of p.owners u ≡ ticket_of now u
  ticket_now u =
      ap (λ (o : Option ℕ). unwrap_or o 0)
      (sym (ap (λ (s : Task). option_map (λ (r : Key). r.ticket) (option_map (λ (w : Wait). w.rank) s.wait))
      (seat_now u) ∙ wait_ticket _ (task_at p.owners u).wait))

  rank_now : (u : ℕ) (r : Key) → rank_of now u ≡ Some r → r.prio ≡ effective_in (kernel_of p) u
  rank_now u r e =
      wait_prio (effective_in (kernel_of p) u) (task_at p.owners u).wait r
      (sym (ap (λ (s : Task). option_map (λ (w : Wait). w.rank) s.wait) (seat_now u)) ∙ e)

  owner_now : (k : ℕ) → owner_at now k ≡ owner_at p.owners k
  owner_now k = ap (λ m. owner_at (record { seats = now.seats; owners = m }) k) repaired.owners

  state_now : (m : ℕ) → state_at after m ≡ state_at p m
  state_now m = ap (λ (f : ℕ → Option ℕ). unwrap_or (option_and_then f (state_key_at p m)) 0) (fun_ext owner_now)

  off : (u r : ℕ) → length (kernel_of p).seats - 1 < u → is_among (level_at (kernel_of p).levels r) u ≡ false
  off u r l = by_test (is_among (level_at (kernel_of p).levels r) u) refl
    where
      by_test : (b : Bool) → is_among (level_at (kernel_of p).levels r) u ≡ b
          → is_among (level_at (kernel_of p).levels r) u ≡ false
      by_test false e = e
      by_test true e =
          let w = within u (length (kernel_of p).seats) (h.listed u r e).added in absurd (omega (arith, l, w.1))

  pub kernel_after : kernel_of after ≡ with_effective_levels (kernel_of p)
  unfolding kernel_of
  kernel_after =
      kernel_by_parts (kernel_of after) (with_effective_levels (kernel_of p)) refl
      (seats_of-same_base p.statuses p.owners.seats now.seats repaired.threads base_now)
      (states_length after ∙ sym (states_length p))
      (λ m. states_seen after m ∙ state_now m ∙ sym (states_seen p m)) refl refl
      (levels_count after ∙ sym (length-levels_by _))
      (λ r. levels_seen after r
      ∙ levels_settled p.owners p.queue p.table (kernel_of p).levels (length (kernel_of p).seats - 1)
      (effective_in (kernel_of p)) h.holds (levels_seen p) effective_seen
      (omega (arith, fit.few, seats_length p fit)) off q tb walks r)

  fit_after : IsFitted after
  fit_after = record {
    few = omega (arith, fit.few, repaired.threads);
    free = λ t l. nobody_now t (effective_out t l) (h.free t l);
    waits = λ t. waits_now t ∙ h.waits t;
    owners = λ m. omega (arith, state_now m, h.owners m);
  }

  local_after : (t : ℕ) → (task_at now t).local ≡ effective_in (kernel_of after) t
  local_after t = ap (λ (s : Task). s.local) (seat_now t) ∙ sym (ap (λ (k : Kernel). effective_in k t) kernel_after)

  placed_after : IsKernel (kernel_of after) → IsPlaced after
  placed_after kept = record {
    within = h.within;
    rows = repaired.threads ∙ h.rows;
    keys = h.keys;
    some = h.some;
    few = h.few;
    nobody = nobody_now 0 effective_zero h.nobody;
    admitted = λ t n l. omega (arith, base_now t, h.admitted t n l);
    free = fit_after.free;
    most = λ t. omega (arith, base_now t, h.most t);
    threads = ap (λ (x : Queue). x.threads) place ∙ h.threads;
    holds = holds;
    listed = listed_kept after fit_after kept local_after;
    waits = fit_after.waits;
    no_mutex = h.no_mutex;
    apart = h.apart;
    made = λ m k e. subst (λ (o : Option ℕ). IsSome o) (sym (owner_now k)) (h.made m k e);
    owned = λ m k e z. h.owned m k e (sym (state_now m) ∙ z);
    count = ap (λ o. count (record { seats = now.seats; owners = o })) repaired.owners ∙ h.count;
    owners = fit_after.owners;
    tickets = subst (λ (f : ℕ → ℕ). Rise f 1 p.arrivals p.next) (fun_ext ticket_now) h.tickets;
  }

  pub sound_after : IsKernel (with_effective_levels (kernel_of p)) → IsSoundInside after
  sound_after settles = record {
    placed = placed_after kept;
    local = local_after;
    rank = λ t r e. rank_now t r e ∙ sym (ap (λ (k : Kernel). effective_in k t) kernel_after);
    kernel = kept;
  }
    where
      kept : IsKernel (kernel_of after)
      kept = subst IsKernel (sym kernel_after) settles

-- what is kept before a walk from this thread, if the kernel by itself settles to this one
pub record IsWalkable (p : Inside) (start : ℕ) (k : Kernel) : Type 0 where
  pub placed : IsPlaced p
  pub admitted : 1 ≤ base_of p.owners start
  pub repaired : IsRepairedBut start p.owners
  pub after : with_effective_levels (kernel_of p) ≡ k
  pub kept : IsKernel k

module _ (p : Inside) (start : ℕ) (k : Kernel) (w : IsWalkable p start k) where
  -- who is on a level stands on its own
  listed : (u r : ℕ) → IsLevel r → has u (level_of p.queue p.table r) ≡ true → IsListed p u r
  listed u r l on =
      w.placed.listed u r (among_has (level_at (kernel_of p).levels r) u ∙ ap (has u) (level_same p r l) ∙ on)

  -- so it was admitted
  pub on_levels : (u : ℕ) → IsQueued p.queue p.table u → 1 ≤ base_of p.owners u
  on_levels u on =
      let a = added_seen p (fitted p w.placed) u (listed u on.0 on.1 on.2).added in w.placed.admitted u a.0 a.1

  -- waits for nobody
  pub on_running : (u : ℕ) → IsQueued p.queue p.table u → waits_on p.owners u ≡ None
  on_running u on =
      w.placed.waits u ∙ ap (state_key_at p) (ready-queued_on_nothing (status_at p u) (listed u on.0 on.1 on.2).ready)
      ∙ w.placed.no_mutex

  -- and is on the level of its effective priority
  pub on_local : (u r : ℕ) → IsLevel r → has u (level_of p.queue p.table r) ≡ true → r ≡ local_of p.owners u
  on_local u r l on = sym (listed u r l on).local

  -- what is kept after the walk
  pub ended : (now : Owners) (q : Queue) (tb : NodeLists) → IsRepaired p.owners now
      → ((r : ℕ) → IsLevel r → level_of q tb r ≡ level_after_walk p.owners p.queue p.table r)
      → q ≡ record p.queue { mask = q.mask } → Holds q tb
      → (kernel_of (record p { owners = now; queue = q; table = tb }) ≡ k) × IsSoundInside
      (record p { owners = now; queue = q; table = tb })
  ended now q tb repaired walks place holds = (
    kernel_after p w.placed now q tb repaired walks place holds ∙ w.after,
    sound_after p w.placed now q tb repaired walks place holds (subst IsKernel (sym w.after) w.kept),
  )
