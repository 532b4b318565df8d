-- What is kept stays sound if a ready thread rests: it leaves its level for another status, and waits for nothing.
use Rattle.std.proofs.Common.{◌≡◌, ℕ, true, ◌++◌, List, [], ◌∷◌, set, refl, sym, ap, ◌∙◌, subst}
use Rattle.pif_nodes_model.specs.Lists.{list_without}
use Rattle.pif_nodes_model.specs.Table.{NodeLists}
use Rattle.pif_nodes_model.specs.Levels.{Queue, Holds, IsLevel, level_of}
use Rattle.pif_model.specs.declared.lines.Status.{Status}
use Rattle.pif_model.specs.declared.lines.Status.TheVariants.{Parked, Stopped}
use Rattle.pif_model.specs.PiKernel.{Kernel, IsKernel, queued_on, has_seat, is_ready, levels_without, with_status, kernel_after_stop, kernel_after_parking, Parking}
use Rattle.pif_model.specs.PiKernel.{seat_at as kernel_seat_at}
use Rattle.pif_model_lemmas.proofs.kernel.Kept.{stop_kept}
use Rattle.pif_model_lemmas.proofs.kernel.Rested.{kernel-parked}
use Rattle.pif_model_lemmas.proofs.kernel.Statuses.{ready-queued_on_nothing}
use Rattle.pif_kernel_model.specs.Inside.{Inside, IsSoundInside, kernel_of, status_at}
use Rattle.pif_kernel_model.proofs.Seats.{status_seen, kernel_by_parts, seats_of-set_status}
use Rattle.pif_kernel_model.proofs.Picked.{levels_left, length-left}
use Rattle.pif_kernel_model.proofs.Standing.{fits}
use Rattle.pif_kernel_model.proofs.MovedSound.{sound_moved}

-- t has the status x then, and these threads are parked
module _ (p : Inside) (x : Status) (ps : List Parking) (q : Queue) (tb : NodeLists) (t : ℕ) (h : IsSoundInside p)
    (added : has_seat (kernel_of p) t ≡ true)
    (ready : is_ready (kernel_seat_at (kernel_of p) t).status ≡ true) (nothing : queued_on x ≡ 0)
    (place : q ≡ record p.queue { mask = q.mask })
    (levels : (r : ℕ) → IsLevel r → level_of q tb r ≡ list_without t (level_of p.queue p.table r)) (holds : Holds q tb) where
  -- what is kept then
  abbrev pub after : Inside
  after = record p { statuses = set p.statuses t x; parked = ps; queue = q; table = tb }

  -- the kernel by itself then
  abbrev pub rested : Kernel
  rested = record (with_status t x (kernel_of p)) {
    parked = ps;
    levels = levels_without t (kernel_of p).levels;
  }

  idle : queued_on (status_at p t) ≡ 0
  idle = ready-queued_on_nothing (status_at p t) (ap is_ready (sym (status_seen p (fits p h) t)) ∙ ready)

  -- it is the kernel by itself
  pub kernel_rested : kernel_of after ≡ rested
  unfolding kernel_of
  kernel_rested =
      kernel_by_parts (kernel_of after) rested refl
      (seats_of-set_status p.statuses p.owners.seats t x (fits p h).few) refl (λ m. refl) refl refl
      (length-left p after t) (levels_left p after t levels)

  -- what is kept is sound if that one is a kernel
  pub sound_rested : IsKernel rested → IsSoundInside after
  sound_rested kept =
      sound_moved p x ps q tb t h idle nothing place holds (subst IsKernel (sym kernel_rested) kept)

module _ (p : Inside) (q : Queue) (tb : NodeLists) (t : ℕ) (h : IsSoundInside p) (added : has_seat (kernel_of p) t ≡ true)
    (ready : is_ready (kernel_seat_at (kernel_of p) t).status ≡ true)
    (place : q ≡ record p.queue { mask = q.mask })
    (levels : (r : ℕ) → IsLevel r → level_of q tb r ≡ list_without t (level_of p.queue p.table r)) (holds : Holds q tb) where
  -- t is stopped
  abbrev stopped : Inside
  stopped = record p { statuses = set p.statuses t Stopped; queue = q; table = tb }

  -- the kernel by itself then
  pub kernel_stopped : kernel_of stopped ≡ kernel_after_stop t (kernel_of p)
  unfolding kernel_after_stop kernel_of
  kernel_stopped = kernel_rested p Stopped p.parked q tb t h added ready refl place levels holds

  -- and all is sound
  pub sound_stopped : IsSoundInside stopped
  unfolding kernel_after_stop kernel_of
  sound_stopped =
      sound_rested p Stopped p.parked q tb t h added ready refl place levels holds
      (stop_kept t (kernel_of p) h.kernel added ready)

  module _ (c m : ℕ) where
    -- the threads that are parked then
    abbrev more : List Parking
    more = p.parked ++ record { thread = t; cond = c; target = m } ∷ []

    -- t is parked on c with the target m
    abbrev parked : Inside
    parked = record p { statuses = set p.statuses t (Parked c); parked = more; queue = q; table = tb }

    -- as the kernel by itself has it
    parked_is : rested p (Parked c) more q tb t h added ready refl place levels holds
        ≡ kernel_after_parking t c m (kernel_of p)
    unfolding kernel_after_parking kernel_of
    parked_is = refl

    -- the kernel by itself then
    pub kernel_parked : kernel_of parked ≡ kernel_after_parking t c m (kernel_of p)
    kernel_parked =
        kernel_rested p (Parked c) more q tb t h added ready refl place levels holds ∙ parked_is

    -- and all is sound
    pub sound_parked : IsSoundInside parked
    sound_parked =
        sound_rested p (Parked c) more q tb t h added ready refl place levels holds
        (subst IsKernel (sym parked_is) (kernel-parked t c m (kernel_of p) h.kernel added ready))
