-- What is kept is as sound, and stands for the same, if its table became another one with the same levels.
use Rattle.std.proofs.Common.{◌≡◌, ℕ, Bool, true, false, List, Option, refl, sym, ap, subst, ◌∙◌}
use Rattle.pif_nodes_model.specs.Lists.{list_without}
use Rattle.pif_nodes_model.specs.Levels.{Queue}
use Rattle.pif_model.specs.Graph.{is_priority}
use Rattle.pif_model.specs.PiKernel.{Kernel, IsKernel, Parking, has_seat, queued_on, effective_in, is_among, level_at, waits_for}
use Rattle.pif_model.specs.PiKernel.{seat_at as kernel_seat_at}
use Rattle.pif_model_lemmas.proofs.kernel.Settled.{priority-range}
use Rattle.pif_kernel_model.specs.Inside.{Inside, IsListed, IsPlaced, IsSoundInside, kernel_of}
use Rattle.pif_kernel_model.specs.Chained.{Chained, KeepsLevels}
use Rattle.pif_kernel_model.specs.Fields.{chains_of}
use Rattle.pif_kernel_model.specs.Leaving.{IsLeft}
use Rattle.pif_kernel_model.proofs.HandOverFacts.{IsHandable}
use Rattle.pif_kernel_model.proofs.Seats.{kernel_by_parts}
use Rattle.pif_kernel_model.proofs.Picked.{levels_of, levels_seen, levels_count}

module _ (p : Inside) (now : Chained) (kept : KeepsLevels (chains_of p) now) where
  -- what is kept then
  abbrev pub moved : Inside
  moved = record p { queue = now.queue; table = now.table }

  pub kernel_moved : kernel_of moved ≡ kernel_of p
  unfolding kernel_of
  kernel_moved =
      kernel_by_parts (kernel_of moved) (kernel_of p) refl refl refl (λ m. refl) refl refl
      (levels_count moved ∙ sym (levels_count p))
      (λ r. levels_seen moved r ∙ by_test r (is_priority r) refl ∙ sym (levels_seen p r))
    where
      by_test : (r : ℕ) (b : Bool) → is_priority r ≡ b
          → levels_of now.queue now.table r ≡ levels_of p.queue p.table r
      by_test r true e = rw e (kept.levels r (priority-range r e))
      by_test r false e = rw e refl

  listed_moved : IsPlaced p → (t level : ℕ) → is_among (level_at (kernel_of moved).levels level) t ≡ true
      → IsListed moved t level
  listed_moved h t level e =
      let a = h.listed t level (sym (ap (λ (k : Kernel). is_among (level_at k.levels level) t) kernel_moved) ∙ e) in
      record {
        added = ap (λ (k : Kernel). has_seat k t) kernel_moved ∙ a.added;
        ready = a.ready;
        local = a.local;
      }

  pub sound_in_table : IsSoundInside p → IsSoundInside moved
  sound_in_table h = record {
    placed = record {
      within = h.placed.within;
      rows = h.placed.rows;
      keys = h.placed.keys;
      some = h.placed.some;
      few = h.placed.few;
      nobody = h.placed.nobody;
      admitted = h.placed.admitted;
      free = h.placed.free;
      most = h.placed.most;
      threads = ap (λ (x : Queue). x.threads) kept.queue ∙ h.placed.threads;
      holds = kept.holds;
      listed = listed_moved h.placed;
      waits = h.placed.waits;
      no_mutex = h.placed.no_mutex;
      apart = h.placed.apart;
      made = h.placed.made;
      owned = h.placed.owned;
      count = h.placed.count;
      owners = h.placed.owners;
      tickets = h.placed.tickets;
    };
    local = λ t. h.local t ∙ ap (λ (k : Kernel). effective_in k t) (sym kernel_moved);
    rank = λ t r e. h.rank t r e ∙ ap (λ (k : Kernel). effective_in k t) (sym kernel_moved);
    kernel = subst IsKernel (sym kernel_moved) h.kernel;
  }

  -- who has left what is kept then has left it
  pub left_moved : (x : Inside) (t start : ℕ) → IsLeft moved x t start → IsLeft p x t start
  left_moved x t start l = record {
    frame = l.frame;
    rows = l.rows;
    free = l.free;
    others = l.others;
    places = l.places;
    keys = l.keys;
    states = l.states;
    count = l.count;
    levels = λ r lr. l.levels r lr ∙ ap (list_without t) (kept.levels r lr);
    place = l.place ∙ ap (λ (q : Queue). record q { mask = x.queue.mask }) kept.queue;
    holds = l.holds;
    waited = λ u nz e. l.waited u nz (ap (λ (k : Kernel). waits_for k t) kernel_moved ∙ e);
    some = l.some;
    added = l.added;
  }

  -- if a mutex may be handed over, it may be then
  pub handable_moved : (t m key : ℕ) → IsHandable p t m key → IsHandable moved t m key
  handable_moved t m key d = record {
    sound = sound_in_table d.sound;
    at = d.at;
    owner = d.owner;
    idle = ap (λ (k : Kernel). queued_on (kernel_seat_at k t).status) kernel_moved ∙ d.idle;
  }

-- one such change after another
pub levels_kept_then : (was mid now : Chained) → KeepsLevels was mid → KeepsLevels mid now → KeepsLevels was now
levels_kept_then was mid now a b = record {
  levels = λ r lr. b.levels r lr ∙ a.levels r lr;
  queue = b.queue ∙ a.queue;
  holds = b.holds;
  keys = b.keys ∙ a.keys;
  parked = b.parked ∙ a.parked;
}

-- a change of keys or of parked threads beside
pub levels_kept_beside : (was now : Chained) (keys : List (Option ℕ)) (parked : List Parking)
    → KeepsLevels (record was { keys = keys; parked = parked }) now
    → KeepsLevels was (record now { keys = was.keys; parked = was.parked })
levels_kept_beside was now keys parked k = record {
  levels = k.levels;
  queue = k.queue;
  holds = k.holds;
  keys = refl;
  parked = refl;
}
