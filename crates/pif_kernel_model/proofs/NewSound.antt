-- What is kept at first is sound.
use Rattle.std.proofs.Common.{◌≡◌, ℕ, zero, suc, ◌+◌, ◌≤◌, Bool, true, false, List, [], ◌∷◌, length, replicate, get_or, Option, Some, None, option_map, refl, sym, ap, subst, ◌∙◌, arith, add-one}
use Rattle.std.proofs.lemmas.List.{length-replicate}
use Rattle.std.specs.Ordering.{nat_cmp}
use Rattle.std.specs.FinMap.{len-empty}
use Rattle.pif_types.specs.Bounds.{Bounds, IsWithin}
use Rattle.pif_nodes_model.specs.Table.{NodeLists}
use Rattle.pif_nodes_model.specs.Levels.{Queue, Holds, IsLevel, level_of}
use Rattle.pif_model.specs.declared.lines.Status.TheVariants.{Ready}
use Rattle.pif_model.specs.declared.lines.Woken.TheVariants.{Fresh}
use Rattle.pif_model.specs.Graph.{is_priority}
use Rattle.pif_model.specs.PiKernel.{IsKernel, queued_on, new_kernel, effective_in}
use Rattle.pif_model.specs.PiKernel.{Seat as KernelSeat, no_seat as no_kernel_seat}
use Rattle.pif_kernel_model.specs.Owners.{Task, Wait, task_at, no_task, no_owners}
use Rattle.pif_model_lemmas.proofs.Greatest.{effective_most}
use Rattle.pif_model_lemmas.proofs.kernel.Kept.{new_kernel_kept}
use Rattle.pif_model_lemmas.proofs.kernel.Levels.{length-levels_by}
use Rattle.pif_model_lemmas.proofs.kernel.Settled.{priority-range}
use Rattle.pif_model_lemmas.proofs.kernel.New.{no_state, length-no_states, no_level}
use Rattle.pif_kernel_model.proofs.Found.{found_so}
use Rattle.pif_kernel_model.specs.Inside.{Inside, IsPlaced, IsSoundInside, kernel_of, no_keys, state_key_at, state_at, status_at, owner_under, seats_of}
use Rattle.pif_kernel_model.specs.Chained.{Chained, IsUnused}
use Rattle.pif_kernel_model.specs.Fields.{inside_from}
use Rattle.pif_kernel_model.proofs.Seats.{IsFitted, kernel_by_parts, states_seen, states_length}
use Rattle.pif_kernel_model.proofs.Picked.{levels_of, levels_seen, levels_count}
use Rattle.pif_kernel_model.proofs.Standing.{listed_kept}

-- a list of one value has it at each place
alike : {A : Type 0} (n k : ℕ) (x : A) → get_or (replicate n x) k x ≡ x
alike zero k x = refl
alike (suc n) zero x = refl
alike (suc n) (suc k) x = alike n k x

seat_zero : (threads u : ℕ) → get_or (replicate (threads + 1) no_task) u no_task ≡ no_task
seat_zero threads u = alike (threads + 1) u no_task

seats_first : (threads : ℕ) → seats_of (Ready Fresh ∷ []) (replicate (threads + 1) no_task) ≡ no_kernel_seat ∷ []
seats_first threads = rw add-one refl

one_seat : (u : ℕ) → get_or (no_kernel_seat ∷ []) u no_kernel_seat ≡ no_kernel_seat
one_seat zero = refl
one_seat (suc u) = refl

-- empty places for keys, as many as there are mutexes
pub keys_made : (keys : List (Option ℕ)) → keys ≡ replicate 1025 None → keys ≡ no_keys
unfolding no_keys
keys_made keys e = e

module _ (l : Bounds) (first : ℕ) (within : IsWithin l) (some : 1 ≤ first) (q : Queue) (tb : NodeLists)
    (threads : q.threads ≡ l.threads) (levels : (p : ℕ) → IsLevel p → level_of q tb p ≡ []) (holds : Holds q tb) where
  abbrev pub new : Inside
  new =
      record {
        limits = l;
        statuses = Ready Fresh ∷ [];
        keys = no_keys;
        owners = no_owners l.threads;
        queue = q;
        table = tb;
        arrivals = [];
        parked = [];
        next = first;
      }

  empty_level : (p : ℕ) → levels_of q tb p ≡ []
  empty_level p = by_test (is_priority p) refl
    where
      by_test : (b : Bool) → is_priority p ≡ b → levels_of q tb p ≡ []
      by_test true e = rw e (levels p (priority-range p e))
      by_test false e = rw e refl

  no_key_at : (m : ℕ) → state_key_at new m ≡ None
  unfolding no_keys
  no_key_at m = alike 1025 m None

  none_at : (m : ℕ) → state_at new m ≡ 0
  none_at m = ap (owner_under new.owners) (no_key_at m)

  keys : length new.keys ≡ 1025
  unfolding no_keys
  keys = length-replicate {A = Option ℕ} 1025 None

  pub new_seen : kernel_of new ≡ new_kernel l
  unfolding kernel_of
  new_seen =
      kernel_by_parts (kernel_of new) (new_kernel l) refl (seats_first l.threads)
      (states_length new ∙ keys ∙ sym length-no_states) (λ m. states_seen new m ∙ none_at m ∙ sym (no_state m)) refl
      refl
      (levels_count new ∙ sym (length-levels_by (λ p. [])))
      (λ r. levels_seen new r ∙ empty_level r ∙ sym (no_level r))

  kept : IsKernel (kernel_of new)
  kept = subst IsKernel (sym new_seen) (new_kernel_kept l)

  new_effective : (u : ℕ) → effective_in (kernel_of new) u ≤ 0
  new_effective u =
      rw new_seen (effective_most _ _ _ u 0 (λ v less e. omega (arith, ap (λ (x : KernelSeat). x.base) (one_seat v))))

  fit_new : IsFitted new
  fit_new = record {
    few = omega (arith, length-replicate (l.threads + 1) no_task);
    free = λ t le. seat_zero l.threads t;
    waits =
        λ t. ap (λ (x : Task). option_map (λ (w : Wait). w.state) x.wait) (seat_zero l.threads t)
        ∙ sym (no_key_at (queued_on (status_at new t)));
    owners = λ m. omega (arith, none_at m);
  }

  local_new : (t : ℕ) → (task_at new.owners t).local ≡ effective_in (kernel_of new) t
  local_new t = omega (arith, ap (λ (x : Task). x.local) (seat_zero l.threads t), new_effective t)

  new_placed : IsPlaced new
  new_placed = record {
    within = within;
    rows = length-replicate (l.threads + 1) no_task;
    keys = keys;
    some = omega arith;
    few = omega arith;
    nobody = seat_zero l.threads 0;
    admitted = λ t n less. absurd (omega arith);
    free = fit_new.free;
    most = λ t. omega (arith, ap (λ (x : Task). x.base) (seat_zero l.threads t));
    threads = threads;
    holds = holds;
    listed = listed_kept new fit_new kept local_new;
    waits = fit_new.waits;
    no_mutex = no_key_at 0;
    apart = λ m n k e f. let both : None ≡ Some k = sym (no_key_at m) ∙ e in cc;
    made = λ m k e. let both : None ≡ Some k = sym (no_key_at m) ∙ e in cc;
    owned = λ m k e. let both : None ≡ Some k = sym (no_key_at m) ∙ e in cc;
    count = len-empty nat_cmp ℕ;
    owners = fit_new.owners;
    tickets = some;
  }

  pub new_sound : IsSoundInside new
  new_sound = record {
    placed = new_placed;
    local = local_new;
    rank =
        λ t r e. let both : None ≡ Some r = sym
        (ap (λ (x : Task). option_map (λ (w : Wait). w.rank) x.wait) (seat_zero l.threads t)) ∙ e in
        cc;
    kernel = kept;
  }

-- the same over chains of which nobody was admitted
pub new_in_chains : (l : Bounds) (first : ℕ) (x : Chained) → IsWithin l → 1 ≤ first → IsUnused l.threads x
    → (kernel_of (inside_from l (Ready Fresh ∷ []) x first) ≡ new_kernel l)
    × IsSoundInside (inside_from l (Ready Fresh ∷ []) x first)
new_in_chains l first x within some unused =
    let y : Chained = record x { owners = no_owners l.threads; keys = no_keys; parked = [] } in
    let is : x ≡ y = λ i. record x { owners = unused.owners i; keys = unused.keys i; parked = unused.parked i } in
    subst (λ (z : Chained). (kernel_of (inside_from l (Ready Fresh ∷ []) z first) ≡ new_kernel l)
    × IsSoundInside (inside_from l (Ready Fresh ∷ []) z first)) (sym is)
    (found_so _ (new_kernel l) (
      new_seen l first within some x.queue x.table unused.threads unused.levels unused.holds,
      new_sound l first within some x.queue x.table unused.threads unused.levels unused.holds,
    ))
