-- What is kept stays sound if a thread is added.
use Rattle.std.proofs.Common.{◌≡◌, ◌≢◌, ◌⊎◌, ℕ, zero, suc, ◌+◌, ◌<◌, ◌≤◌, List, [], ◌∷◌, ◌++◌, length, get_or, Option, Some, None, option_map, refl, sym, ap, subst, ◌∙◌, inl, inr, unwrap_or, arith, length-set}
use Rattle.std.proofs.Math.Path.{fun_ext}
use Rattle.std.proofs.lemmas.Bool.{cases_eq}
use Rattle.std.proofs.lemmas.List.{get_or-set_same, get_or-set_other, length_push}
use Rattle.pif_types.specs.Bounds.{Bounds}
use Rattle.pif_nodes_model.specs.declared.keys.Key.{Key}
use Rattle.pif_nodes_model.specs.Table.{NodeLists}
use Rattle.pif_nodes_model.specs.Levels.{Queue, Holds, IsLevel, level_of}
use Rattle.pif_nodes_model.specs.Levels.{level_after_add}
use Rattle.pif_model.specs.declared.lines.Status.{Status}
use Rattle.pif_model.specs.declared.lines.Status.TheVariants.{Ready}
use Rattle.pif_model.specs.declared.lines.Woken.TheVariants.{Fresh}
use Rattle.pif_model.specs.PiKernel.{Kernel, IsKernel, queued_on, effective_in, level_at, levels_with, kernel_after_add}
use Rattle.pif_kernel_model.specs.Owners.{Task, Wait, task_at, rank_of, no_task, with_task}
use Rattle.pif_model_lemmas.proofs.kernel.Settled.{priority-from_range}
use Rattle.pif_model_lemmas.proofs.Places.{kept_at}
use Rattle.pif_kernel_model.specs.Inside.{Inside, IsPlaced, IsSoundInside, kernel_of, status_at, state_key_at, ticket_of}
use Rattle.pif_kernel_model.specs.Arrivals.{Rise}
use Rattle.pif_model_lemmas.proofs.kernel.Added.{effective-added_other, effective-added_same}
use Rattle.pif_model_lemmas.proofs.kernel.Kept.{add_kept}
use Rattle.pif_kernel_model.proofs.Seats.{IsFitted, seats_length, limits_seen, kernel_by_parts, seats_of-push}
use Rattle.pif_kernel_model.proofs.Picked.{levels_joined, length-joined}
use Rattle.pif_kernel_model.proofs.Standing.{fits, listed_kept}

pushed_status : (xs : List Status) (u : ℕ) → get_or (xs ++ Ready Fresh ∷ []) u (Ready Fresh) ≡ get_or xs u (Ready Fresh)
pushed_status [] zero = refl
pushed_status [] (suc u) = refl
pushed_status (x ∷ xs) zero = refl
pushed_status (x ∷ xs) (suc u) = pushed_status xs u

module _ (p : Inside) (q : Queue) (tb : NodeLists) (t prio : ℕ) (h : IsSoundInside p) (is : t ≡ length p.statuses)
    (room : length p.statuses ≤ p.limits.threads) (some : 1 ≤ prio) (few : prio ≤ 99)
    (place : q ≡ record p.queue { mask = q.mask })
    (levels : (r : ℕ) → IsLevel r → level_of q tb r ≡ level_after_add t prio r (level_of p.queue p.table r))
    (holds : Holds q tb) where
  abbrev row : Task
  row = record { base = prio; local = prio; wait = None }

  -- what is kept then
  abbrev pub after : Inside
  after =
      record p { statuses = p.statuses ++ Ready Fresh ∷ []; owners = with_task t row p.owners; queue = q; table = tb }

  long : length after.statuses ≡ length p.statuses + 1
  long = length_push p.statuses (Ready Fresh)

  within : t < length p.owners.seats
  within = omega (arith, is, room, h.placed.rows)

  free : task_at p.owners t ≡ no_task
  free = h.placed.free t (omega (arith, is))

  other : (u : ℕ) → u ≢ t → task_at after.owners u ≡ task_at p.owners u
  other u n = get_or-set_other p.owners.seats t u row no_task n

  same : (u : ℕ) → u ≡ t → task_at after.owners u ≡ row
  same u e = ap (λ (v : ℕ). task_at after.owners v) e ∙ get_or-set_same p.owners.seats t row no_task within

  -- the new thread waits for nothing, as nobody did at its place
  waits_same : (u : ℕ) → (task_at after.owners u).wait ≡ (task_at p.owners u).wait
  waits_same u = kept_at (λ (x : Task). x.wait) p.owners.seats t row no_task (sym (ap (λ (x : Task). x.wait) free)) u

  rank_same : (u : ℕ) → rank_of after.owners u ≡ rank_of p.owners u
  rank_same u = ap (option_map (λ (w : Wait). w.rank)) (waits_same u)

  status_same : (u : ℕ) → status_at after u ≡ status_at p u
  status_same u = pushed_status p.statuses u

  many : length (kernel_of p).seats ≡ t
  many = seats_length p (fits p h) ∙ sym is

  pub kernel_after : kernel_of after ≡ kernel_after_add prio (kernel_of p)
  unfolding kernel_of
  kernel_after =
      kernel_by_parts (kernel_of after) (kernel_after_add prio (kernel_of p)) refl
      (seats_of-push p.statuses p.owners.seats (Ready Fresh) row t is (omega (arith, within, is)))
      refl (λ m. refl) refl refl
      (length-joined p after (length (kernel_of p).seats) prio)
      (λ r. levels_joined p after t prio (some, few) levels r
      ∙ ap (λ (n : ℕ). level_at (levels_with n prio (kernel_of p).levels) r) (sym many))

  kept : IsKernel (kernel_of after)
  kept =
      subst IsKernel (sym kernel_after)
      (add_kept prio (kernel_of p) h.kernel (priority-from_range prio some few)
      (omega (arith, seats_length p (fits p h), room, ap (λ (l : Bounds). l.threads) (limits_seen p))))

  effective_same : (u : ℕ) → u ≢ t → effective_in (kernel_of after) u ≡ effective_in (kernel_of p) u
  effective_same u n =
      ap (λ (k : Kernel). effective_in k u) kernel_after
      ∙ effective-added_other prio (kernel_of p) h.kernel u (λ e. n (e ∙ many))

  effective_here : (u : ℕ) → u ≡ t → effective_in (kernel_of after) u ≡ prio
  effective_here u e =
      ap (λ (k : Kernel). effective_in k u) kernel_after
      ∙ ap (effective_in (kernel_after_add prio (kernel_of p))) (e ∙ sym many)
      ∙ effective-added_same prio (kernel_of p) h.kernel

  local_after : (u : ℕ) → ((u ≡ t) ⊎ (u ≡ t → ⊥)) → (task_at after.owners u).local ≡ effective_in (kernel_of after) u
  local_after u (inl e) = ap (λ (x : Task). x.local) (same u e) ∙ sym (effective_here u e)
  local_after u (inr n) = ap (λ (x : Task). x.local) (other u n) ∙ h.local u ∙ sym (effective_same u n)

  rank_after : (u : ℕ) (r : Key) → ((u ≡ t) ⊎ (u ≡ t → ⊥)) → rank_of after.owners u ≡ Some r
      → r.prio ≡ effective_in (kernel_of after) u
  rank_after u r (inl e) x =
      let none : rank_of after.owners u ≡ None
      = ap (λ (s : Task). option_map (λ (w : Wait). w.rank) s.wait) (same u e) in
      let both : None ≡ Some r = sym none ∙ x in cc
  rank_after u r (inr n) x = h.rank u r (sym (rank_same u) ∙ x) ∙ sym (effective_same u n)

  admitted_after : (u : ℕ) → ((u ≡ t) ⊎ (u ≡ t → ⊥)) → u ≢ 0 → u < length after.statuses
      → 1 ≤ (task_at after.owners u).base
  admitted_after u (inl e) nz l = omega (arith, ap (λ (x : Task). x.base) (same u e), some)
  admitted_after u (inr n) nz l =
      let before : u < length p.statuses = omega (arith, long, is) in
      omega (arith, ap (λ (x : Task). x.base) (other u n), h.placed.admitted u nz before)

  most_after : (u : ℕ) → ((u ≡ t) ⊎ (u ≡ t → ⊥)) → (task_at after.owners u).base ≤ 99
  most_after u (inl e) = omega (arith, ap (λ (x : Task). x.base) (same u e), few)
  most_after u (inr n) = omega (arith, ap (λ (x : Task). x.base) (other u n), h.placed.most u)

  ticket_same : (u : ℕ) → ticket_of p.owners u ≡ ticket_of after.owners u
  ticket_same u = ap (λ (o : Option Key). unwrap_or (option_map (λ (r : Key). r.ticket) o) 0) (sym (rank_same u))

  fit_after : IsFitted after
  fit_after = record {
    few = omega (arith, h.placed.rows, room, long, length-set p.owners.seats t row);
    free = λ u l. other u (λ e. absurd (omega (arith, is, long))) ∙ h.placed.free u (omega (arith, long));
    waits =
        λ u. ap (option_map (λ (w : Wait). w.state)) (waits_same u) ∙ h.placed.waits u
        ∙ ap (λ (x : Status). state_key_at p (queued_on x)) (sym (status_same u));
    owners = λ m. omega (arith, h.placed.owners m, long);
  }

  placed_after : IsPlaced after
  placed_after = record {
    within = h.placed.within;
    rows = length-set p.owners.seats t row ∙ h.placed.rows;
    keys = h.placed.keys;
    some = omega (arith, h.placed.some, long);
    few = omega (arith, room, long);
    nobody = other 0 (λ e. absurd (omega (arith, is, h.placed.some))) ∙ h.placed.nobody;
    admitted = λ u nz l. admitted_after u (cases_eq u t) nz l;
    free = fit_after.free;
    most = λ u. most_after u (cases_eq u t);
    threads = ap (λ (x : Queue). x.threads) place ∙ h.placed.threads;
    holds = holds;
    listed = listed_kept after fit_after kept (λ u. local_after u (cases_eq u t));
    waits = fit_after.waits;
    no_mutex = h.placed.no_mutex;
    apart = h.placed.apart;
    made = h.placed.made;
    owned = h.placed.owned;
    count = h.placed.count;
    owners = fit_after.owners;
    tickets = subst (λ (f : ℕ → ℕ). Rise f 1 p.arrivals p.next) (fun_ext ticket_same) h.placed.tickets;
  }

  pub sound_after : IsSoundInside after
  sound_after = record {
    placed = placed_after;
    local = λ u. local_after u (cases_eq u t);
    rank = λ u r e. rank_after u r (cases_eq u t) e;
    kernel = kept;
  }
