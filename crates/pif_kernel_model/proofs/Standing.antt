-- What follows from the soundness of what is kept: bounds of effective priorities, and who is on which level.
use Rattle.std.proofs.Common.{◌≡◌, ◌↔◌, ℕ, ◌<◌, ◌≤◌, ◌==◌, Bool, true, false, if◌then◌else◌, nat_lt, List, [], length, Option, Some, None, IsSome, IfSome, refl, sym, ap, ◌∙◌, subst, eqb-true, arith}
use Rattle.std.proofs.Math.Path.{fun_ext}
use Rattle.std.proofs.lemmas.Bool.{true≢false}
use Rattle.std.proofs.lemmas.Bool.Decides.{nat_tests}
use Rattle.pif_nodes_model.specs.Lists.{has}
use Rattle.pif_nodes_model.specs.Levels.{IsQueued, IsLevel, level_of}
use Rattle.pif_model.specs.Graph.{IsPath}
use Rattle.pif_model.specs.PiKernel.{IsKernel, IsPathIn, effective_in, is_among, is_living, is_ready, has_seat, level_at, waits_for}
use Rattle.pif_model.specs.PiKernel.{seat_at as kernel_seat_at}
use Rattle.pif_kernel_model.specs.Owners.{task_at}
use Rattle.pif_kernel_model.specs.Owners.{waits_for as owners_wait_for}
use Rattle.pif_model_lemmas.proofs.kernel.Facts.{living-added}
use Rattle.pif_model_lemmas.proofs.kernel.Settled.{effective_range}
use Rattle.pif_kernel_model.specs.Inside.{Inside, IsListed, IsSoundInside, kernel_of}
use Rattle.pif_kernel_model.proofs.Seats.{IsFitted, fitted, seats_length, status_seen, owners_waits, waits_below}
use Rattle.pif_kernel_model.proofs.Picked.{levels_seen, level_seen, among_has}

-- statuses, rows and keys of what is sound fit together
pub fits : (p : Inside) → IsSoundInside p → IsFitted p
fits p h = fitted p h.placed

-- the effective priority of a thread that was added is a level
pub effective_level : (p : Inside) → IsSoundInside p → (t : ℕ) → has_seat (kernel_of p) t ≡ true
    → IsLevel (effective_in (kernel_of p) t)
effective_level p h t known = effective_range (kernel_of p) h.kernel.shape t known

-- a level of the run queue, as the kernel by itself has it
pub level_same : (p : Inside) (r : ℕ) → IsLevel r → level_at (kernel_of p).levels r ≡ level_of p.queue p.table r
level_same p r l = levels_seen p r ∙ level_seen p.queue p.table r l

-- a ready thread is on the level of its effective priority
ready_among : (p : Inside) → IsSoundInside p → (t : ℕ) → has_seat (kernel_of p) t ≡ true
    → is_ready (kernel_seat_at (kernel_of p) t).status ≡ true
    → is_among (level_at (kernel_of p).levels (effective_in (kernel_of p) t)) t ≡ true
ready_among p h t known ready =
    let same : (effective_in (kernel_of p) t == effective_in (kernel_of p) t) ≡ true = grind (arith, nat_tests) in
    h.kernel.level t (effective_in (kernel_of p) t) ∙ rw (known, ready, same) refl

pub ready_queued : (p : Inside) → IsSoundInside p → (t : ℕ) → has_seat (kernel_of p) t ≡ true
    → is_ready (kernel_seat_at (kernel_of p) t).status ≡ true
    → IsQueued p.queue p.table t
ready_queued p h t known ready =
    let level : IsLevel (effective_in (kernel_of p) t) = effective_level p h t known in
    let e = level_same p (effective_in (kernel_of p) t) level in (
      effective_in (kernel_of p) t,
      level,
      ap (has t) (sym e)
          ∙ sym (among_has (level_at (kernel_of p).levels (effective_in (kernel_of p) t)) t)
          ∙ ready_among p h t known ready,
    )

-- who is on no level of the kernel by itself is on none of the run queue
pub off_queue : (p : Inside) (t : ℕ) → ((r : ℕ) → is_among (level_at (kernel_of p).levels r) t ≡ false)
    → IsQueued p.queue p.table t → ⊥
off_queue p t none on =
    true≢false (sym on.2 ∙ ap (has t) (sym (level_same p on.0 on.1))
    ∙ sym (among_has (level_at (kernel_of p).levels on.0) t) ∙ none on.0)

-- what `effective` answers of a thread that lives, by its row
pub effective_answer : (p : Inside) → IsSoundInside p → (t : ℕ) (r : Option ℕ) → is_living (kernel_of p) t ≡ true
    → (IsSome r ↔ (1 ≤ (task_at p.owners t).local)) → IfSome r (λ x. x ≡ (task_at p.owners t).local)
    → r ≡ (if is_living (kernel_of p) t then Some (effective_in (kernel_of p) t) else None)
effective_answer p h t None lives given value =
    let level : IsLevel (effective_in (kernel_of p) t) = effective_level p h t (living-added (kernel_of p) t lives) in
    absurd (true≢false (sym (given.1 (omega (arith, h.local t, level.0)))))
effective_answer p h t (Some x) lives given value = rw lives (ap Some (value ∙ h.local t))

-- for whom a thread waits has a row
pub path_below : (p : Inside) → IsSoundInside p → (u : ℕ) → owners_wait_for p.owners u < length p.owners.seats
path_below p h u =
    omega (arith, owners_waits p (fits p h) u, waits_below p (fits p h) u, seats_length p (fits p h), (fits p h).few)

-- the path of a living thread over the owner states is its path in the kernel by itself
pub path_answer : (p : Inside) → IsSoundInside p → (t : ℕ) (us : List ℕ) → is_living (kernel_of p) t ≡ true
    → IsPath (owners_wait_for p.owners) t us → IsPathIn (kernel_of p) t us
path_answer p h t us lives path =
    subst (λ b. IsPath (waits_for (kernel_of p)) (if b then t else 0) us) (sym lives)
    (subst (λ f. IsPath f t us) (fun_ext (owners_waits p (fits p h))) path)

-- a thread that doesn't live has none
pub path_none : (p : Inside) (t : ℕ) (us : List ℕ) → is_living (kernel_of p) t ≡ false → us ≡ [] → IsPathIn (kernel_of p) t us
path_none p t us dead none =
    subst (λ b. IsPath (waits_for (kernel_of p)) (if b then t else 0) us) (sym dead)
    (subst (IsPath (waits_for (kernel_of p)) 0) (sym none) refl)

-- who was never added is on no level
pub unadded_off : (p : Inside) → IsSoundInside p → (t : ℕ) → length p.statuses ≤ t → (r : ℕ)
    → is_among (level_at (kernel_of p).levels r) t ≡ false
unadded_off p h t le r =
    let past : nat_lt t (length (kernel_of p).seats) ≡ false = grind (arith, nat_tests, seats_length p (fits p h)) in
    h.kernel.level t r ∙ by_zero (t == 0) past
  where
    by_zero : (b : Bool) → nat_lt t (length (kernel_of p).seats) ≡ false
        → (if (if b then false else nat_lt t (length (kernel_of p).seats)) then
        (if is_ready (kernel_seat_at (kernel_of p) t).status then effective_in (kernel_of p) t == r else false) else
        false) ≡ false
    by_zero true past = refl
    by_zero false past = rw past refl

-- if threads stand with their effective priorities, who is on a level stands on its own
pub listed_kept : (p : Inside) → IsFitted p → IsKernel (kernel_of p)
    → ((t : ℕ) → (task_at p.owners t).local ≡ effective_in (kernel_of p) t)
    → (t r : ℕ) → is_among (level_at (kernel_of p).levels r) t ≡ true → IsListed p t r
listed_kept p fit k local t r e =
    by_tests (has_seat (kernel_of p) t) refl (is_ready (kernel_seat_at (kernel_of p) t).status) refl
    (effective_in (kernel_of p) t == r) refl (sym (k.level t r) ∙ e)
  where
    by_tests : (a : Bool) → has_seat (kernel_of p) t ≡ a → (b : Bool)
        → is_ready (kernel_seat_at (kernel_of p) t).status ≡ b → (c : Bool) → (effective_in (kernel_of p) t == r) ≡ c
        → (if has_seat (kernel_of p) t then
        (if is_ready (kernel_seat_at (kernel_of p) t).status then effective_in (kernel_of p) t == r else false) else
        false) ≡ true → IsListed p t r
    by_tests true x true y true z on =
        record {
          added = x;
          ready = ap is_ready (sym (status_seen p fit t)) ∙ y;
          local = local t
              ∙ eqb-true (effective_in (kernel_of p) t) r z;
        }
    by_tests true x true y false z on = absurd (true≢false (sym on ∙ rw (x, y, z) refl))
    by_tests true x false y c z on = absurd (true≢false (sym on ∙ rw (x, y) refl))
    by_tests false x b y c z on = absurd (true≢false (sym on ∙ rw x refl))
