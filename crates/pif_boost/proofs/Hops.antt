-- A walk along one chain: after each hop nothing is left to repair but the thread at which it stands.
use Rattle.std.proofs.Common.{◌≡◌, ◌≢◌, ◌⊎◌, ℕ, ◌<◌, ◌≤◌, max, Bool, true, ◌==◌, length, Option, Some, None, refl, sym, ap, ◌∙◌, subst, inl, inr, arith, length-set}
use Rattle.std.specs.Prelude.{option_map, option_and_then, unwrap_or}
use Rattle.std.proofs.Math.Path.{fun_ext}
use Rattle.std.proofs.lemmas.Bool.{cases_eq, eqb-true, eq-eqb}
use Rattle.std.proofs.lemmas.List.{get_or-set_same, get_or-set_other}
use Rattle.pif_nodes_model.specs.declared.keys.Key.{Key}
use Rattle.pif_model.specs.Graph.{greatest_where, Reaches}
use Rattle.pif_model.specs.Graph.Reaches.{here}
use Rattle.pif_model_lemmas.proofs.Following.{greatest_where_above}
use Rattle.pif_model_lemmas.proofs.Greatest.{greatest_where_most}
use Rattle.pif_model_lemmas.proofs.Hops.{alone}
use Rattle.pif_kernel_model.specs.Owners.{Owners, Task, Wait, no_task, task_at, owner_at, waits_on, waits_for, rank_of, WaitsFor, with_task, AreSoundOwners}
use Rattle.pif_kernel_model.specs.Boosts.{IsThread, base_of, local_of, greatest_base, greatest_waiting, with_rank_priority, with_effective, IsRepaired, IsRepairedBut}
use Rattle.pif_kernel_model.proofs.Repairs.{ranked-state}
use Rattle.pif_kernel_model.proofs.Settled.{ranked-prio}
use Rattle.pif_kernel_model.proofs.Greatest.{greatest_base-same, greatest_base-nobody, local_is_greatest, nobody_waits}

-- the greatest value is the same if two functions agree on those that pass
pub greatest_where_on : (test : ℕ → Bool) (f g : ℕ → ℕ) (n : ℕ) → ((u : ℕ) → u < n → test u ≡ true → f u ≡ g u)
    → greatest_where test f n ≡ greatest_where test g n
greatest_where_on test f g n same =
    let up : greatest_where test f n ≤ greatest_where test g n =
    greatest_where_most test f n (greatest_where test g n)
    (λ u l e. omega (arith, same u l e, greatest_where_above test g n u l e)) in
    let down : greatest_where test g n ≤ greatest_where test f n =
    greatest_where_most test g n (greatest_where test f n)
    (λ u l e. omega (arith, same u l e, greatest_where_above test f n u l e)) in
    omega (arith, up, down)

-- a walk that stands at a thread, or, at 0, has come to its end: each thread is as it was but for its effective
-- priority, with which it also waits, and nothing is left to repair but at that thread
pub record IsWalked (v now : Owners) (at : ℕ) : Type 0 where
  pub threads : length now.seats ≡ length v.seats
  pub owners : now.owners ≡ v.owners
  pub seats : (t : ℕ) → task_at now t ≡ with_effective (local_of now t) (task_at v t)
  pub repaired : IsRepairedBut at now

-- who stands with its effective priority where it waits is so
settled_wait : (p : ℕ) (o : Option Wait) → ((w : Wait) → o ≡ Some w → w.rank.prio ≡ p)
    → o ≡ option_map (with_rank_priority p) o
settled_wait p None h = refl
settled_wait p (Some w) h =
    let e : w.rank.prio ≡ p = h w refl in
    λ i. Some (record { state = w.state; rank = record { prio = e i; ticket = w.rank.ticket } })

settled_seat : (v : Owners) (start : ℕ) → IsRepairedBut start v → (t : ℕ)
    → task_at v t ≡ with_effective (local_of v t) (task_at v t)
settled_seat v start repaired t =
    let w : (task_at v t).wait ≡ option_map (with_rank_priority (local_of v t)) (task_at v t).wait =
    settled_wait (local_of v t) (task_at v t).wait
    (λ x e. repaired.ranks t x.rank (ap (option_map (λ (y : Wait). y.rank)) e)) in
    λ i. record { base = (task_at v t).base; local = (task_at v t).local; wait = w i }

-- before the first hop
pub walked-start : (v : Owners) (start : ℕ) → IsRepairedBut start v → IsWalked v v start
walked-start v start repaired =
    record { threads = refl; owners = refl; seats = settled_seat v start repaired; repaired = repaired }

-- of two effective priorities the last is left
effective_twice : (p q : ℕ) (x : Task) → with_effective p (with_effective q x) ≡ with_effective p x
effective_twice p q x = ap (λ (w : Option Wait). record { base = x.base; local = p; wait = w }) (by_wait x.wait)
  where
    by_wait : (o : Option Wait) → option_map (with_rank_priority p) (option_map (with_rank_priority q) o)
        ≡ option_map (with_rank_priority p) o
    by_wait None = refl
    by_wait (Some w) = refl

module _ (v now : Owners) (at : ℕ) (w : IsWalked v now at) where
  pub walked-base : (t : ℕ) → base_of now t ≡ base_of v t
  walked-base t = ap (λ (x : Task). x.base) (w.seats t)

  pub walked-state : (t : ℕ) → waits_on now t ≡ waits_on v t
  walked-state t =
      ap (λ (x : Task). option_map (λ (y : Wait). y.state) x.wait) (w.seats t)
      ∙ ranked-state (local_of now t) (task_at v t).wait

  pub walked-waits : (t : ℕ) → waits_for now t ≡ waits_for v t
  walked-waits t =
      ap (λ (o : Option ℕ). unwrap_or (option_and_then (owner_at now) o) 0) (walked-state t)
      ∙ ap (λ m. unwrap_or (option_and_then (owner_at (record v { owners = m })) (waits_on v t)) 0) w.owners

  -- so each thread is to have what it was to have
  pub walked-greatest : (t : ℕ) → greatest_base now t ≡ greatest_base v t
  walked-greatest t = greatest_base-same v now w.threads walked-waits walked-base t

  -- if the thread at which it stands has what it is to have by those that wait for it, nothing is left
  pub walked-stop : local_of now at ≡ max (base_of now at) (greatest_waiting now at) → IsWalked v now 0
  walked-stop own =
      record {
        threads = w.threads;
        owners = w.owners;
        seats = w.seats;
        repaired = record {
          locals = λ t th ne. by_place t th (cases_eq t at);
          ranks = w.repaired.ranks;
        };
      }
    where
      by_place : (t : ℕ) → IsThread now t → ((t ≡ at) ⊎ (t ≡ at → ⊥))
          → local_of now t ≡ max (base_of now t) (greatest_waiting now t)
      by_place t th (inl e) =
          subst (λ (x : ℕ). local_of now x ≡ max (base_of now x) (greatest_waiting now x)) (sym e) own
      by_place t th (inr ne) = w.repaired.locals t th ne

  -- one hop: the thread gets what it is to have, and the walk stands at the one for which it waits
  module _ (p : ℕ) (then : Owners) (sound : AreSoundOwners now) (row : at < length now.seats)
      (own : p ≡ max (base_of now at) (greatest_waiting now at))
      (is : then ≡ with_task at (with_effective p (task_at now at)) now) where
    abbrev next : Owners
    next = with_task at (with_effective p (task_at now at)) now

    seat_here : task_at next at ≡ with_effective p (task_at now at)
    seat_here = get_or-set_same now.seats at (with_effective p (task_at now at)) no_task row

    seat_other : (t : ℕ) → t ≢ at → task_at next t ≡ task_at now t
    seat_other t ne = get_or-set_other now.seats at t (with_effective p (task_at now at)) no_task ne

    base_same : (t : ℕ) → base_of next t ≡ base_of now t
    base_same t = by_place (cases_eq t at)
      where
        by_place : ((t ≡ at) ⊎ (t ≡ at → ⊥)) → base_of next t ≡ base_of now t
        by_place (inl e) =
            subst (λ (x : ℕ). base_of next x ≡ base_of now x) (sym e) (ap (λ (s : Task). s.base) seat_here)
        by_place (inr ne) = ap (λ (s : Task). s.base) (seat_other t ne)

    local_here : local_of next at ≡ p
    local_here = ap (λ (s : Task). s.local) seat_here

    local_other : (t : ℕ) → t ≢ at → local_of next t ≡ local_of now t
    local_other t ne = ap (λ (s : Task). s.local) (seat_other t ne)

    state_same : (t : ℕ) → waits_on next t ≡ waits_on now t
    state_same t = by_place (cases_eq t at)
      where
        by_place : ((t ≡ at) ⊎ (t ≡ at → ⊥)) → waits_on next t ≡ waits_on now t
        by_place (inl e) =
            subst (λ (x : ℕ). waits_on next x ≡ waits_on now x) (sym e)
            (ap (λ (s : Task). option_map (λ (y : Wait). y.state) s.wait) seat_here
            ∙ ranked-state p (task_at now at).wait)
        by_place (inr ne) = ap (λ (s : Task). option_map (λ (y : Wait). y.state) s.wait) (seat_other t ne)

    waits_same : (t : ℕ) → waits_for next t ≡ waits_for now t
    waits_same t = ap (λ (o : Option ℕ). unwrap_or (option_and_then (owner_at now) o) 0) (state_same t)

    long : length next.seats ≡ length now.seats
    long = length-set now.seats at (with_effective p (task_at now at))

    -- what the others wait with stays, for whom this thread doesn't wait
    waiting_same : (t : ℕ) → waits_for now at ≢ t → greatest_waiting next t ≡ greatest_waiting now t
    waiting_same t off =
        ap (greatest_where (λ u. waits_for next u == t) (local_of next)) long
        ∙ ap (λ (f : ℕ → Bool). greatest_where f (local_of next) (length now.seats)) tests
        ∙ greatest_where_on (λ u. waits_for now u == t) (local_of next) (local_of now) (length now.seats)
        (λ u l e. local_other u (λ s. off (ap (waits_for now) (sym s) ∙ eqb-true (waits_for now u) t e)))
      where
        tests : ◌≡◌ {A = ℕ → Bool} (λ u. waits_for next u == t) (λ u. waits_for now u == t)
        tests = fun_ext (λ u. ap (λ (x : ℕ). x == t) (waits_same u))

    not_self : IsThread now at → waits_for now at ≢ at
    not_self th e = sound.acyclic at at (e, λ z. (let one : 1 ≤ at = th.0 in absurd (omega (arith, z)))) (here refl)

    pub walked-hop : IsWalked v then (waits_for now at)
    walked-hop =
        subst (λ (x : Owners). IsWalked v x (waits_for now at)) (sym is)
        (record {
          threads = long ∙ w.threads;
          owners = w.owners;
          seats = λ t. seat t (cases_eq t at);
          repaired = record {
            locals = λ t th ne. local t (th.0, omega (arith, th.1, long)) ne (cases_eq t at);
            ranks = λ t rank e. ranked t rank e (cases_eq t at);
          };
        })
      where
        seat : (t : ℕ) → ((t ≡ at) ⊎ (t ≡ at → ⊥)) → task_at next t ≡ with_effective (local_of next t) (task_at v t)
        seat t (inl e) =
            subst (λ (x : ℕ). task_at next x ≡ with_effective (local_of next x) (task_at v x)) (sym e)
            (seat_here ∙ ap (with_effective p) (w.seats at) ∙ effective_twice p (local_of now at) (task_at v at)
            ∙ ap (λ (q : ℕ). with_effective q (task_at v at)) (sym local_here))
        seat t (inr ne) =
            seat_other t ne ∙ w.seats t ∙ ap (λ (q : ℕ). with_effective q (task_at v t)) (sym (local_other t ne))

        local : (t : ℕ) → IsThread now t → t ≢ waits_for now at → ((t ≡ at) ⊎ (t ≡ at → ⊥))
            → local_of next t ≡ max (base_of next t) (greatest_waiting next t)
        local t th ne (inl e) =
            subst (λ (x : ℕ). local_of next x ≡ max (base_of next x) (greatest_waiting next x)) (sym e)
            (local_here ∙ own
            ∙ (λ i. max (sym (base_same at) i) (sym (waiting_same at (not_self (subst (IsThread now) e th))) i)))
        local t th ne (inr other) =
            local_other t other ∙ w.repaired.locals t th other
            ∙ (λ i. max (sym (base_same t) i) (sym (waiting_same t (λ s. ne (sym s))) i))

        ranked : (t : ℕ) (rank : Key) → rank_of next t ≡ Some rank → ((t ≡ at) ⊎ (t ≡ at → ⊥))
            → rank.prio ≡ local_of next t
        ranked t rank e (inl s) =
            ranked-prio p (task_at now at).wait rank
            (ap (λ (y : Task). option_map (λ (z : Wait). z.rank) y.wait) (sym seat_here)
            ∙ ap (rank_of next) (sym s) ∙ e)
            ∙ sym local_here ∙ ap (local_of next) (sym s)
        ranked t rank e (inr ne) =
            w.repaired.ranks t rank (ap (λ (y : Task). option_map (λ (z : Wait). z.rank) y.wait) (sym (seat_other t ne)) ∙ e)
            ∙ sym (local_other t ne)

    -- who waits for nobody keeps its effective priority, unless it is this thread
    pub ends-hop : (u : ℕ) → u ≢ at → local_of then u ≡ local_of now u
    ends-hop u ne = ap (λ (x : Owners). local_of x u) is ∙ local_other u ne

    -- the thread for which this one waits is to have at least as much
    pub most-hop : waits_for now at ≢ 0 → p ≤ max (base_of then (waits_for now at)) (greatest_waiting then (waits_for now at))
    most-hop some =
        subst (λ (x : Owners). p ≤ max (base_of x (waits_for now at)) (greatest_waiting x (waits_for now at))) (sym is)
        (let above : local_of next at ≤ greatest_waiting next (waits_for now at) =
        greatest_where_above (λ u. waits_for next u == waits_for now at) (local_of next) (length next.seats) at
        (omega (arith, row, long)) (eq-eqb (waits_for next at) (waits_for now at) (waits_same at)) in
        omega (arith, above, local_here))

-- at the end each thread has what it is to have
module _ (v now : Owners) (old : AreSoundOwners v) (sound : AreSoundOwners now) (w : IsWalked v now 0) where
  from_nobody : (t : ℕ) → IsThread now t → Reaches (WaitsFor now) 0 t → ⊥
  from_nobody t th r =
      let e : 0 ≡ t = alone (waits_for now) (nobody_waits now sound) r in
      let one : 1 ≤ t = th.0 in absurd (omega arith)

  pub walked-local : (t : ℕ) → t < length v.seats → local_of now t ≡ greatest_base v t
  walked-local t l = by_place (cases_eq t 0)
    where
      by_place : ((t ≡ 0) ⊎ (t ≡ 0 → ⊥)) → local_of now t ≡ greatest_base v t
      by_place (inl e) =
          ap (local_of now) e ∙ ap (λ (x : Task). x.local) sound.nobody ∙ sym (ap (greatest_base v) e ∙ greatest_base-nobody v old)
      by_place (inr ne) =
          let th : IsThread now t = (omega (arith, ne), omega (arith, l, w.threads)) in
          local_is_greatest now 0 sound w.repaired t th (from_nobody t th) ∙ walked-greatest v now 0 w t

  pub walked-done : IsRepaired v now
  walked-done =
      record {
        threads = w.threads;
        owners = w.owners;
        seats = λ t l. w.seats t ∙ ap (λ (p : ℕ). with_effective p (task_at v t)) (walked-local t l);
      }

  pub walked-settled : (other : ℕ) → IsRepairedBut other now
  walked-settled other =
      record {
        locals = λ t th ne. w.repaired.locals t th (λ e. (let one : 1 ≤ t = th.0 in absurd (omega (arith, e))));
        ranks = w.repaired.ranks;
      }
