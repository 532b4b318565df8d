-- Who waits, by the mutexes and by the queue of the kernel by itself.
use Rattle.std.proofs.Common.{◌≡◌, ◌≢◌, ◌⊎◌, ℕ, ◌+◌, ◌<◌, ◌≤◌, ◌==◌, Bool, true, false, if◌then◌else◌, List, [], ◌∷◌, length, Option, Some, None, IsSome, is_some, option_map, option_and_then, unwrap_or, refl, sym, ap, subst, ◌∙◌, inl, inr, arith}
use Rattle.std.proofs.lemmas.Bool.{cases_eq, cases_lt, true≢false, false≢true}
use Rattle.std.proofs.lemmas.Bool.Decides.{nat_tests}
use Rattle.pif_model.specs.declared.lines.Status.{Status}
use Rattle.pif_model.specs.declared.lines.Status.TheVariants.{Ready, Queued, Parked, Stopped, Ended}
use Rattle.pif_model.specs.Graph.{has_waiter}
use Rattle.pif_model.specs.PiKernel.{queued_on, is_ready, has_seat}
use Rattle.pif_model.specs.PiKernel.{seat_at as kernel_seat_at, state_at as kernel_state_at}
use Rattle.pif_kernel_model.specs.Owners.{Task, Wait, owner_at, count, waits_on}
use Rattle.pif_model_lemmas.proofs.kernel.Statuses.{ready-queued_on_nothing}
use Rattle.pif_model_lemmas.proofs.Waiting.{names, named-from_pair, has_waiter-from_pair}
use Rattle.pif_model_lemmas.proofs.Among.{is_among_here, is_among_there}
use Rattle.pif_model_lemmas.proofs.Among.{is_among as is_waiter}
use Rattle.pif_kernel_model.specs.Inside.{Inside, IsSoundInside, kernel_of, status_at, state_key_at, state_at, ticket_of}
use Rattle.pif_kernel_model.proofs.Seats.{added_seen, status_seen, waiters_seen, states_seen}
use Rattle.pif_kernel_model.proofs.Standing.{fits}
use Rattle.pif_kernel_model.proofs.ArrivalLaws.{rise_once, few_waiters, few_named, mutexes_few}

-- a mutex has a key exactly if it has a waiter
pub has_waiter-key : (p : Inside) → IsSoundInside p → (m : ℕ) → state_at p m ≢ 0 → has_waiter p.arrivals m ≡ true
has_waiter-key p h m some = by_test (has_waiter p.arrivals m) refl
  where
    by_test : (b : Bool) → has_waiter p.arrivals m ≡ b → has_waiter p.arrivals m ≡ true
    by_test true e = e
    by_test false e =
        let none : (kernel_state_at (kernel_of p) m == 0) ≡ true
        = h.kernel.states m ∙ ap (λ (ws : List (ℕ × ℕ)). if has_waiter ws m then false else true) (waiters_seen p)
        ∙ rw e refl in
        let zero : kernel_state_at (kernel_of p) m ≡ 0 = grind (arith, nat_tests) in
        absurd (some (sym (states_seen p m) ∙ zero))

pub no_key-no_waiter : (p : Inside) → IsSoundInside p → (m : ℕ) → state_at p m ≡ 0 → has_waiter p.arrivals m ≡ false
no_key-no_waiter p h m none = by_test (has_waiter p.arrivals m) refl
  where
    by_test : (b : Bool) → has_waiter p.arrivals m ≡ b → has_waiter p.arrivals m ≡ false
    by_test false e = e
    by_test true e =
        let some : (kernel_state_at (kernel_of p) m == 0) ≡ false
        = h.kernel.states m ∙ ap (λ (ws : List (ℕ × ℕ)). if has_waiter ws m then false else true) (waiters_seen p)
        ∙ rw e refl in
        let zero : kernel_state_at (kernel_of p) m ≡ 0 = states_seen p m ∙ none in
        let yes : (kernel_state_at (kernel_of p) m == 0) ≡ true = grind (arith, nat_tests) in
        absurd (true≢false (sym yes ∙ some))

-- who is named waits for some mutex
pub names_pair : (ws : List (ℕ × ℕ)) (t : ℕ) → names t ws ≡ true → (n : ℕ) × (is_waiter ws t n ≡ true)
names_pair [] t e = absurd (false≢true e)
names_pair (w ∷ ws) t e = by_head (cases_eq w.0 t) e (names_pair ws t)
  where
    by_head : ((w.0 ≡ t) ⊎ (w.0 ≡ t → ⊥)) → names t (w ∷ ws) ≡ true
        → (names t ws ≡ true → (n : ℕ) × (is_waiter ws t n ≡ true)) → (n : ℕ) × (is_waiter (w ∷ ws) t n ≡ true)
    by_head (inl same) e ih = (w.1, is_among_here w ws t w.1 same refl)
    by_head (inr other) e ih =
        let apart : (w.0 == t) ≡ false = grind (arith, nat_tests) in
        let r = ih (rw apart at e) in (r.0, is_among_there w ws t r.0 r.1)

key_some : (p : Inside) (n : ℕ) → state_at p n ≢ 0 → IsSome (state_key_at p n)
key_some p n some = by_key (state_key_at p n) refl
  where
    by_key : (k : Option ℕ) → state_key_at p n ≡ k → is_some (state_key_at p n) ≡ true
    by_key None e = absurd (some (ap (λ (x : Option ℕ). unwrap_or (option_and_then (owner_at p.owners) x) 0) e))
    by_key (Some k) e = ap is_some e

-- who is among the arrivals waits
pub waits_some : (p : Inside) → IsSoundInside p → (t : ℕ) → names t p.arrivals ≡ true → IsSome (waits_on p.owners t)
waits_some p h t e =
    let r = names_pair p.arrivals t e in
    let status : status_at p t ≡ Queued r.0
    = sym (status_seen p (fits p h) t)
    ∙ h.kernel.queue t r.0 (subst (λ (ws : List (ℕ × ℕ)). is_waiter ws t r.0 ≡ true) (sym (waiters_seen p)) r.1) in
    let some : state_at p r.0 ≢ 0
    = λ z. true≢false (sym (has_waiter-from_pair p.arrivals t r.0 r.1) ∙ no_key-no_waiter p h r.0 z) in
    ap is_some (h.placed.waits t ∙ ap (λ (x : Status). state_key_at p (queued_on x)) status) ∙ key_some p r.0 some

-- and who waits is among them
pub waits_named : (p : Inside) → IsSoundInside p → (u k : ℕ) → waits_on p.owners u ≡ Some k → names u p.arrivals ≡ true
waits_named p h u k e = by_status (status_at p u) refl (sym (h.placed.waits u) ∙ e)
  where
    none : (x : Status) → queued_on x ≡ 0 → state_key_at p (queued_on x) ≡ Some k → names u p.arrivals ≡ true
    none x z f = let both : None ≡ Some k = sym h.placed.no_mutex ∙ ap (state_key_at p) (sym z) ∙ f in cc

    by_status : (x : Status) → status_at p u ≡ x → state_key_at p (queued_on (status_at p u)) ≡ Some k
        → names u p.arrivals ≡ true
    by_status (Ready w) s f = none (status_at p u) (ap queued_on s) f
    by_status (Parked c) s f = none (status_at p u) (ap queued_on s) f
    by_status Stopped s f = none (status_at p u) (ap queued_on s) f
    by_status Ended s f = none (status_at p u) (ap queued_on s) f
    by_status (Queued n) s f =
        named-from_pair p.arrivals u n (subst (λ (ws : List (ℕ × ℕ)). is_waiter ws u n ≡ true) (waiters_seen p)
        (h.kernel.queued u n (status_seen p (fits p h) u ∙ s)))

-- who is among the arrivals was added
pub named_known : (p : Inside) → IsSoundInside p → (u : ℕ) → names u p.arrivals ≡ true → (u ≢ 0) × (u < length p.statuses)
named_known p h u e =
    (λ z. nobody z (waits_some p h u e), by_place (cases_lt u (length p.statuses)) (waits_some p h u e))
  where
    nobody : u ≡ 0 → IsSome (waits_on p.owners u) → ⊥
    nobody z s =
        false≢true (sym (ap (λ (v : ℕ). is_some (waits_on p.owners v)) z
        ∙ ap (λ (x : Task). is_some (option_map (λ (w : Wait). w.state) x.wait)) h.placed.nobody) ∙ s)

    by_place : ((u < length p.statuses) ⊎ (length p.statuses ≤ u)) → IsSome (waits_on p.owners u)
        → u < length p.statuses
    by_place (inl l) s = l
    by_place (inr g) s =
        absurd (false≢true (sym (ap (λ (x : Task). is_some (option_map (λ (w : Wait). w.state) x.wait))
        (h.placed.free u g)) ∙ s))

pub arrivals_few : (p : Inside) → IsSoundInside p → length p.arrivals ≤ 1024
arrivals_few p h =
    omega (
      arith,
      few_named p.arrivals (length p.statuses) h.placed.some
          (rise_once (ticket_of p.owners) 1 p.arrivals p.next h.placed.tickets)
          (λ u e. named_known p h u e),
      h.placed.few,
      h.placed.within.threads,
    )

-- a ready thread is queued on nothing
pub ready_idle : (p : Inside) → IsSoundInside p → (t : ℕ) → is_ready (kernel_seat_at (kernel_of p) t).status ≡ true
    → queued_on (status_at p t) ≡ 0
ready_idle p h t ready =
    ready-queued_on_nothing (status_at p t) (ap is_ready (sym (status_seen p (fits p h) t)) ∙ ready)

-- and so waits for nothing
pub ready_free : (p : Inside) → IsSoundInside p → (t : ℕ) → is_ready (kernel_seat_at (kernel_of p) t).status ≡ true
    → waits_on p.owners t ≡ None
ready_free p h t ready = h.placed.waits t ∙ ap (state_key_at p) (ready_idle p h t ready) ∙ h.placed.no_mutex

pub ready_unnamed : (p : Inside) → IsSoundInside p → (t : ℕ) → is_ready (kernel_seat_at (kernel_of p) t).status ≡ true
    → names t p.arrivals ≡ false
ready_unnamed p h t ready = by_test (names t p.arrivals) refl
  where
    by_test : (b : Bool) → names t p.arrivals ≡ b → names t p.arrivals ≡ false
    by_test false e = e
    by_test true e = absurd (false≢true (sym (ap is_some (ready_free p h t ready)) ∙ waits_some p h t e))

-- while a thread is ready, there is room for one more owner state, and for one more waiter
pub room_for : (p : Inside) → IsSoundInside p → (t : ℕ) → has_seat (kernel_of p) t ≡ true
    → is_ready (kernel_seat_at (kernel_of p) t).status ≡ true
    → (count p.owners + 1 < length p.owners.seats) × (length p.arrivals < p.limits.threads)
room_for p h t added ready =
    let a = added_seen p (fits p h) t added in
    let few : length p.arrivals + 2 ≤ length p.statuses
    = few_waiters p.arrivals (length p.statuses) t h.placed.some a.0 a.1
    (rise_once (ticket_of p.owners) 1 p.arrivals p.next h.placed.tickets) (ready_unnamed p h t ready)
    (λ q e. named_known p h q e) in (
      omega (arith, few, h.placed.count, mutexes_few p.arrivals, h.placed.few, h.placed.rows),
      omega
          (arith, few, h.placed.few),
    )
