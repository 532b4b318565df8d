-- What is kept stays sound if a thread that waits for nothing gets another status, by which it waits for nothing
-- either, whatever becomes of its place in the run queue and among the parked threads.
use Rattle.std.proofs.Common.{◌≡◌, ℕ, List, length, set, sym, ap, ◌∙◌, arith, length-set}
use Rattle.pif_nodes_model.specs.Table.{NodeLists}
use Rattle.pif_nodes_model.specs.Levels.{Queue, Holds}
use Rattle.pif_model.specs.declared.lines.Status.{Status}
use Rattle.pif_model.specs.declared.lines.Status.TheVariants.{Ready}
use Rattle.pif_model.specs.declared.lines.Woken.TheVariants.{Fresh}
use Rattle.pif_model.specs.PiKernel.{IsKernel, queued_on, effective_in, waits_for, Parking}
use Rattle.pif_model.specs.PiKernel.{seat_at as kernel_seat_at}
use Rattle.pif_kernel_model.specs.Owners.{task_at}
use Rattle.pif_model_lemmas.proofs.Greatest.{effective_same}
use Rattle.pif_model_lemmas.proofs.Places.{kept_at}
use Rattle.pif_kernel_model.specs.Inside.{Inside, IsPlaced, IsSoundInside, kernel_of, status_at, state_key_at, state_at}
use Rattle.pif_kernel_model.proofs.Seats.{IsFitted, base_seen, waits_seen, seats_length}
use Rattle.pif_kernel_model.proofs.Standing.{fits, listed_kept}

-- t has the status x then, and these threads are parked
module _ (p : Inside) (x : Status) (ps : List Parking) (q : Queue) (tb : NodeLists) (t : ℕ) (h : IsSoundInside p)
    (idle : queued_on (status_at p t) ≡ 0) (nothing : queued_on x ≡ 0)
    (place : q ≡ record p.queue { mask = q.mask }) (holds : Holds q tb) where
  -- what is kept then
  abbrev after : Inside
  after = record p { statuses = set p.statuses t x; parked = ps; queue = q; table = tb }

  -- each is queued where it was
  queued_same : (u : ℕ) → queued_on (status_at after u) ≡ queued_on (status_at p u)
  queued_same u = kept_at queued_on p.statuses t x (Ready Fresh) (nothing ∙ sym idle) u

  long : length (set p.statuses t x) ≡ length p.statuses
  long = length-set p.statuses t x

  fit_after : IsFitted after
  fit_after = record {
    few = omega (arith, (fits p h).few, long);
    free = λ u l. h.placed.free u (omega (arith, l, long));
    waits = λ u. h.placed.waits u ∙ ap (state_key_at p) (sym (queued_same u));
    owners = λ m. omega (arith, h.placed.owners m, long);
  }

  -- each waits for whom it waited
  waits_same : (u : ℕ) → waits_for (kernel_of p) u ≡ waits_for (kernel_of after) u
  waits_same u =
      waits_seen p (fits p h) u ∙ ap (state_at p) (sym (queued_same u)) ∙ sym (waits_seen after fit_after u)

  base_same : (u : ℕ) → (kernel_seat_at (kernel_of p) u).base ≡ (kernel_seat_at (kernel_of after) u).base
  base_same u = base_seen p (fits p h) u ∙ sym (base_seen after fit_after u)

  -- so each has the effective priority that it had
  effective_after : (u : ℕ) → effective_in (kernel_of p) u ≡ effective_in (kernel_of after) u
  effective_after u =
      effective_same _ _ _ _ _ _ u (seats_length p (fits p h) ∙ sym long ∙ sym (seats_length after fit_after))
      waits_same base_same

  local_after : (u : ℕ) → (task_at after.owners u).local ≡ effective_in (kernel_of after) u
  local_after u = h.local u ∙ effective_after u

  module _ (kept : IsKernel (kernel_of after)) where
    placed_after : IsPlaced after
    placed_after = record {
      within = h.placed.within;
      rows = h.placed.rows;
      keys = h.placed.keys;
      some = omega (arith, h.placed.some, long);
      few = omega (arith, h.placed.few, long);
      nobody = h.placed.nobody;
      admitted = λ u n l. h.placed.admitted u n (omega (arith, l, long));
      free = fit_after.free;
      most = h.placed.most;
      threads = ap (λ (x : Queue). x.threads) place ∙ h.placed.threads;
      holds = holds;
      listed = listed_kept after fit_after kept local_after;
      waits = fit_after.waits;
      no_mutex = h.placed.no_mutex;
      apart = h.placed.apart;
      made = h.placed.made;
      owned = h.placed.owned;
      count = h.placed.count;
      owners = fit_after.owners;
      tickets = h.placed.tickets;
    }

    -- all of it is sound
    pub sound_moved : IsSoundInside after
    sound_moved = record {
      placed = placed_after;
      local = local_after;
      rank = λ u r e. h.rank u r e ∙ effective_after u;
      kernel = kept;
    }
