-- The threads of the kernel by itself, by the statuses and rows that are kept.
use Rattle.std.proofs.Common.{◌≡◌, ◌≢◌, ◌⊎◌, ℕ, zero, suc, ◌<◌, ◌≤◌, ◌==◌, Bool, true, false, nat_lt, if◌then◌else◌, List, [], ◌∷◌, ◌++◌, length, get_or, set, Option, None, option_and_then, unwrap_or, refl, sym, ap, ◌∙◌, inl, inr, arith}
use Rattle.std.proofs.lemmas.Bool.Decides.{nat_tests}
use Rattle.std.proofs.lemmas.List.{ext_get_or, length-map}
use Rattle.pif_model.specs.declared.lines.Status.{Status}
use Rattle.pif_model.specs.declared.lines.Status.TheVariants.{Ready, Queued, Parked, Stopped, Ended}
use Rattle.pif_model.specs.declared.lines.Woken.TheVariants.{Fresh}
use Rattle.pif_model.specs.PiKernel.{Kernel, queued_on, has_ended, has_seat, is_living, level_at, waits_for}
use Rattle.pif_model.specs.PiKernel.{Seat as KernelSeat, seat_at as kernel_seat_at, no_seat as no_kernel_seat, state_at as kernel_state_at}
use Rattle.pif_model_lemmas.proofs.Numbers.{from_within, within}
use Rattle.pif_model_lemmas.proofs.Places.{mapped_at}
use Rattle.pif_kernel_model.specs.Owners.{Task, task_at, owner_at, no_task, waits_on}
use Rattle.pif_kernel_model.specs.Owners.{waits_for as owners_wait_for}
use Rattle.pif_kernel_model.specs.Inside.{Inside, IsPlaced, kernel_of, owner_under, seat_of, seats_of, status_at, state_key_at, state_at}

pub length-seats_of : (xs : List Status) (rows : List Task) → length xs ≤ length rows
    → length (seats_of xs rows) ≡ length xs
length-seats_of [] rows le = refl
length-seats_of (x ∷ xs) [] le = absurd (omega arith)
length-seats_of (x ∷ xs) (r ∷ rows) le = ap suc (length-seats_of xs rows (omega arith))

-- the thread at a place
pub seats_of-at : (xs : List Status) (rows : List Task) (t : ℕ) → length xs ≤ length rows
    → ((u : ℕ) → length xs ≤ u → get_or rows u no_task ≡ no_task)
    → get_or (seats_of xs rows) t no_kernel_seat ≡ seat_of (get_or xs t (Ready Fresh)) (get_or rows t no_task)
seats_of-at [] rows t le free = ap (seat_of (Ready Fresh)) (sym (free t (omega arith)))
seats_of-at (x ∷ xs) [] t le free = absurd (omega arith)
seats_of-at (x ∷ xs) (r ∷ rows) zero le free = refl
seats_of-at (x ∷ xs) (r ∷ rows) (suc t) le free =
    seats_of-at xs rows t (omega arith) (λ u l. free (suc u) (omega arith))

-- statuses, rows and keys fit together
pub record IsFitted (p : Inside) : Type 0 where
  pub few : length p.statuses ≤ length p.owners.seats
  pub free : (t : ℕ) → length p.statuses ≤ t → task_at p.owners t ≡ no_task
  pub waits : (t : ℕ) → waits_on p.owners t ≡ state_key_at p (queued_on (status_at p t))
  pub owners : (m : ℕ) → state_at p m < length p.statuses

pub fitted : (p : Inside) → IsPlaced p → IsFitted p
fitted p h = record { few = omega (arith, h.few, h.rows); free = h.free; waits = h.waits; owners = h.owners }

pub seats_length : (p : Inside) → IsFitted p → length (kernel_of p).seats ≡ length p.statuses
unfolding kernel_of
seats_length p h = length-seats_of p.statuses p.owners.seats h.few

pub seat_seen : (p : Inside) → IsFitted p → (t : ℕ)
    → kernel_seat_at (kernel_of p) t ≡ seat_of (status_at p t) (task_at p.owners t)
unfolding kernel_of
seat_seen p h t = seats_of-at p.statuses p.owners.seats t h.few h.free

pub status_seen : (p : Inside) → IsFitted p → (t : ℕ) → (kernel_seat_at (kernel_of p) t).status ≡ status_at p t
status_seen p h t = ap (λ (x : KernelSeat). x.status) (seat_seen p h t)

pub base_seen : (p : Inside) → IsFitted p → (t : ℕ) → (kernel_seat_at (kernel_of p) t).base ≡ (task_at p.owners t).base
base_seen p h t = ap (λ (x : KernelSeat). x.base) (seat_seen p h t)

pub added_seen : (p : Inside) → IsFitted p → (t : ℕ) → has_seat (kernel_of p) t ≡ true
    → (t ≢ 0) × (t < length p.statuses)
added_seen p h t e = let w = within t (length (kernel_of p).seats) e in (w.0, omega (arith, w.1, seats_length p h))

pub added_back : (p : Inside) → IsFitted p → (t : ℕ) → t ≢ 0 → t < length p.statuses → has_seat (kernel_of p) t ≡ true
added_back p h t n l = from_within t (length (kernel_of p).seats) n (omega (arith, seats_length p h))

pub states_seen : (p : Inside) (m : ℕ) → kernel_state_at (kernel_of p) m ≡ state_at p m
unfolding kernel_of
states_seen p m = mapped_at (owner_under p.owners) p.keys m None

pub states_length : (p : Inside) → length (kernel_of p).states ≡ length p.keys
unfolding kernel_of
states_length p = length-map p.keys (owner_under p.owners)

pub waits_seen : (p : Inside) → IsFitted p → (u : ℕ) → waits_for (kernel_of p) u ≡ state_at p (queued_on (status_at p u))
waits_seen p h u =
    states_seen p (queued_on (kernel_seat_at (kernel_of p) u).status)
    ∙ ap (λ (x : Status). state_at p (queued_on x)) (status_seen p h u)

-- a thread waits in the owner states for whom it waits in the kernel by itself
pub owners_waits : (p : Inside) → IsFitted p → (u : ℕ) → owners_wait_for p.owners u ≡ waits_for (kernel_of p) u
owners_waits p h u =
    ap (λ (k : Option ℕ). unwrap_or (option_and_then (owner_at p.owners) k) 0) (h.waits u) ∙ sym (waits_seen p h u)

-- for whom a thread waits was added
pub waits_below : (p : Inside) → IsFitted p → (u : ℕ) → waits_for (kernel_of p) u < length (kernel_of p).seats
waits_below p h u = rw (waits_seen p h u, seats_length p h) (h.owners (queued_on (status_at p u)))

-- two kernels of the same parts are one
pub kernel_by_parts : (a b : Kernel) → a.limits ≡ b.limits → a.seats ≡ b.seats
    → length a.states ≡ length b.states → ((m : ℕ) → kernel_state_at a m ≡ kernel_state_at b m) → a.waiters ≡ b.waiters
    → a.parked ≡ b.parked → length a.levels ≡ length b.levels
    → ((r : ℕ) → level_at a.levels r ≡ level_at b.levels r) → a ≡ b
kernel_by_parts a b l s many states w parked count levels = λ i. record {
  limits = l i;
  seats = s i;
  states = ext_get_or 0 a.states b.states many (λ m x. states m) i;
  waiters = w i;
  parked = parked i;
  levels = ext_get_or [] a.levels b.levels count (λ r x. levels r) i;
}

-- another status of one thread
pub seats_of-set_status : (xs : List Status) (rows : List Task) (t : ℕ) (x : Status) → length xs ≤ length rows
    → seats_of (set xs t x) rows ≡ set (seats_of xs rows) t
    (record (get_or (seats_of xs rows) t no_kernel_seat) { status = x })
seats_of-set_status [] rows t x le = refl
seats_of-set_status (y ∷ xs) [] t x le = absurd (omega arith)
seats_of-set_status (y ∷ xs) (r ∷ rows) zero x le = refl
seats_of-set_status (y ∷ xs) (r ∷ rows) (suc t) x le =
    ap (λ (l : List KernelSeat). seat_of y r ∷ l) (seats_of-set_status xs rows t x (omega arith))

-- one thread more
pub seats_of-push : (xs : List Status) (rows : List Task) (x : Status) (r : Task) (t : ℕ) → t ≡ length xs
    → length xs < length rows
    → seats_of (xs ++ x ∷ []) (set rows t r) ≡ seats_of xs rows ++ seat_of x r ∷ []
seats_of-push [] [] x r t e lt = absurd (omega arith)
seats_of-push [] (y ∷ rows) x r zero e lt = refl
seats_of-push [] (y ∷ rows) x r (suc t) e lt = absurd (omega arith)
seats_of-push (z ∷ xs) [] x r t e lt = absurd (omega arith)
seats_of-push (z ∷ xs) (y ∷ rows) x r zero e lt = absurd (omega arith)
seats_of-push (z ∷ xs) (y ∷ rows) x r (suc t) e lt =
    ap (λ (l : List KernelSeat). seat_of z y ∷ l) (seats_of-push xs rows x r t (omega arith) (omega arith))

-- the same base priorities
pub seats_of-same_base : (xs : List Status) (rows rows' : List Task) → length rows' ≡ length rows
    → ((u : ℕ) → (get_or rows' u no_task).base ≡ (get_or rows u no_task).base)
    → seats_of xs rows' ≡ seats_of xs rows
seats_of-same_base [] rows rows' l h = refl
seats_of-same_base (x ∷ xs) [] [] l h = refl
seats_of-same_base (x ∷ xs) [] (r ∷ rows') l h = absurd (omega arith)
seats_of-same_base (x ∷ xs) (r ∷ rows) [] l h = absurd (omega arith)
seats_of-same_base (x ∷ xs) (r ∷ rows) (s ∷ rows') l h =
    λ i. record { base = h 0 i; status = x } ∷ seats_of-same_base xs rows rows' (omega arith) (λ u. h (suc u)) i

pub limits_seen : (p : Inside) → (kernel_of p).limits ≡ p.limits
unfolding kernel_of
limits_seen p = refl

pub waiters_seen : (p : Inside) → (kernel_of p).waiters ≡ p.arrivals
unfolding kernel_of
waiters_seen p = refl

pub parked_seen : (p : Inside) → (kernel_of p).parked ≡ p.parked
unfolding kernel_of
parked_seen p = refl

-- another base priority of a thread
pub seats_of-set_base : (xs : List Status) (rows : List Task) (t b : ℕ) → length xs ≤ length rows
    → seats_of xs (set rows t (record (get_or rows t no_task) { base = b }))
    ≡ set (seats_of xs rows) t (record (get_or (seats_of xs rows) t no_kernel_seat) { base = b })
seats_of-set_base [] rows t b le = refl
seats_of-set_base (x ∷ xs) [] t b le = absurd (omega arith)
seats_of-set_base (x ∷ xs) (r ∷ rows) zero b le = refl
seats_of-set_base (x ∷ xs) (r ∷ rows) (suc t) b le =
    ap (λ (l : List KernelSeat). seat_of x r ∷ l) (seats_of-set_base xs rows t b (omega arith))

-- a thread that was added lives if it has not ended
pub living_seen : (p : Inside) → IsFitted p → (t : ℕ) → t ≢ 0 → t < length p.statuses
    → is_living (kernel_of p) t ≡ (if has_ended (status_at p t) then false else true)
living_seen p h t some l =
    rw (added_back p h t some l, status_seen p h t) refl

-- so that this answers it
pub living_by : (p : Inside) → IsFitted p → (t : ℕ) → t ≢ 0 → t < length p.statuses → (x : Status) → status_at p t ≡ x
    → (b : Bool) → ((x ≡ Ended) × (b ≡ false)) ⊎ ((x ≡ Ended → ⊥) × (b ≡ true)) → b ≡ is_living (kernel_of p) t
living_by p h t some l x is b r =
    by_status x r
    ∙ sym (living_seen p h t some l ∙ ap (λ (y : Status). if has_ended y then false else true) is)
  where
    by_status : (y : Status) → ((y ≡ Ended) × (b ≡ false)) ⊎ ((y ≡ Ended → ⊥) × (b ≡ true))
        → b ≡ (if has_ended y then false else true)
    by_status Ended (inl e) = e.1
    by_status Ended (inr e) = absurd (e.0 refl)
    by_status (Ready w) (inr e) = e.1
    by_status (Queued m) (inr e) = e.1
    by_status (Parked c) (inr e) = e.1
    by_status Stopped (inr e) = e.1
    by_status (Ready w) (inl e) = let both : Ready w ≡ Ended = e.0 in absurd (cc)
    by_status (Queued m) (inl e) = let both : Queued m ≡ Ended = e.0 in absurd (cc)
    by_status (Parked c) (inl e) = let both : Parked c ≡ Ended = e.0 in absurd (cc)
    by_status Stopped (inl e) = let both : Stopped ≡ Ended = e.0 in absurd (cc)

-- and no other does
pub unadded_dead : (p : Inside) → IsFitted p → (t : ℕ) → length p.statuses ≤ t → is_living (kernel_of p) t ≡ false
unadded_dead p h t le = by_zero (t == 0) past
  where
    past : nat_lt t (length (kernel_of p).seats) ≡ false
    past = grind (arith, nat_tests, seats_length p h)

    by_zero : (b : Bool) → nat_lt t (length (kernel_of p).seats) ≡ false
        → (if (if b then false else nat_lt t (length (kernel_of p).seats)) then
        (if has_ended (kernel_seat_at (kernel_of p) t).status then false else true) else false) ≡ false
    by_zero true e = refl
    by_zero false e = rw e refl

-- as many threads, and so the same
pub same_seats : (p now : Inside) → IsFitted p → IsFitted now → length now.statuses ≡ length p.statuses → (t : ℕ)
    → has_seat (kernel_of now) t ≡ has_seat (kernel_of p) t
same_seats p now fit fit' many t =
    ap (λ (n : ℕ). if t == 0 then false else nat_lt t n) (seats_length now fit' ∙ many ∙ sym (seats_length p fit))
