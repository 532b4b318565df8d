-- How seats and owners are read after a change, and that each change keeps what holds of owner states.
use Rattle.std.proofs.Common.{◌≡◌, ◌≢◌, ◌⊎◌, ℕ, ◌+◌, ◌<◌, ◌≤◌, length, replicate, get_or, set, Option, Some, None, IsSome, option_map, option_and_then, unwrap_or, refl, sym, ◌∙◌, ap, subst, inl, inr, arith}
use Rattle.std.proofs.lemmas.Bool.{false≢true, cases_eq, cases_lt}
use Rattle.std.proofs.lemmas.List.{get_or-set_same, get_or-set_other, get_or-replicate, get_or_past, set_past, length-set, length-replicate}
use Rattle.std.specs.Ordering.{nat_cmp}
use Rattle.std.specs.FinMap.{FinMap, empty, get, insert, remove}
use Rattle.pif_nodes_model.specs.declared.keys.Key.{Key}
use Rattle.pif_model.specs.Graph.{Reaches}
use Rattle.pif_kernel_model.specs.Owners.{Wait, Task, Owners, no_task, no_owners, task_at, owner_at, state_of, waits_on, waits_for, WaitsFor, IsAcyclic, HasNoWaiter, with_task, with_wait, with_owner, without_state, IsSeat, AreSoundOwners}
use Rattle.pif_model_lemmas.proofs.Cycles.{NoCycle-fewer, NoCycle-hop, NoCycle-still}
use Rattle.pif_kernel_model.proofs.MapLemmas.{get-insert_same, get-insert_other, get-remove_other}

-- after a write of a seat, a thread has that one, or the seat that it had
pub task_at-with_task : (t : ℕ) (x : Task) (v : Owners) (u : ℕ)
    → ((u ≡ t) × (task_at (with_task t x v) u ≡ x)) ⊎ (task_at (with_task t x v) u ≡ task_at v u)
task_at-with_task t x v u = by_number (cases_eq u t) (cases_lt t (length v.seats))
  where
    by_number : ((u ≡ t) ⊎ (u ≡ t → ⊥)) → ((t < length v.seats) ⊎ (length v.seats ≤ t))
        → ((u ≡ t) × (task_at (with_task t x v) u ≡ x)) ⊎ (task_at (with_task t x v) u ≡ task_at v u)
    by_number (inl e) (inl l) = inl (e, ap (task_at (with_task t x v)) e ∙ get_or-set_same v.seats t x no_task l)
    by_number (inl e) (inr m) = inr (ap (λ xs. get_or xs u no_task) (set_past v.seats t x m))
    by_number (inr n) l = inr (get_or-set_other v.seats t u x no_task n)

-- the seat of another thread stays
pub task_at-with_task_other : (t : ℕ) (x : Task) (v : Owners) (u : ℕ) → u ≢ t → task_at (with_task t x v) u ≡ task_at v u
task_at-with_task_other t x v u n = get_or-set_other v.seats t u x no_task n

-- and that of the thread is the new one
pub task_at-with_task_same : (t : ℕ) (x : Task) (v : Owners) → t < length v.seats → task_at (with_task t x v) t ≡ x
task_at-with_task_same t x v l = get_or-set_same v.seats t x no_task l

-- whom one waits for who waits for this
abbrev waits_by : FinMap nat_cmp ℕ → Option Wait → ℕ
waits_by owners w = unwrap_or (option_and_then (get owners) (option_map (λ (w : Wait). w.state) w)) 0

waits_by-some : (owners : FinMap nat_cmp ℕ) (o : Option Wait) (u : ℕ) → waits_by owners o ≡ u → u ≢ 0
    → (w : Wait) × (o ≡ Some w) × (get owners w.state ≡ Some u)
waits_by-some owners None u e n = absurd (n (sym e))
waits_by-some owners (Some w) u e n = (w, refl, by_owner (get owners w.state) e)
  where
    by_owner : (o : Option ℕ) → unwrap_or o 0 ≡ u → o ≡ Some u
    by_owner None z = absurd (n (sym z))
    by_owner (Some x) z = ap Some z

-- a hop goes over a state
pub WaitsFor-some : (v : Owners) (t u : ℕ) → WaitsFor v t u
    → (w : Wait) × ((task_at v t).wait ≡ Some w) × (owner_at v w.state ≡ Some u)
WaitsFor-some v t u a = waits_by-some v.owners (task_at v t).wait u a.0 a.1

-- and back
pub WaitsFor-from : (v : Owners) (t u : ℕ) (w : Wait) → (task_at v t).wait ≡ Some w → owner_at v w.state ≡ Some u
    → u ≢ 0 → WaitsFor v t u
WaitsFor-from v t u w e o n = (ap (waits_by v.owners) e ∙ ap (λ (x : Option ℕ). unwrap_or x 0) o, n)

-- a hop after a write of a seat is one that was there, or the thread's new one
hop-with_seat : (t : ℕ) (x : Task) (v : Owners) (a b : ℕ) → WaitsFor (with_task t x v) a b
    → WaitsFor v a b ⊎ ((a ≡ t) × (waits_by v.owners x.wait ≡ b) × (b ≢ 0))
hop-with_seat t x v a b h = by_seat (task_at-with_task t x v a)
  where
    by_seat : ((a ≡ t) × (task_at (with_task t x v) a ≡ x)) ⊎ (task_at (with_task t x v) a ≡ task_at v a)
        → WaitsFor v a b ⊎ ((a ≡ t) × (waits_by v.owners x.wait ≡ b) × (b ≢ 0))
    by_seat (inl p) = inr (p.0, ap (λ (s : Task). waits_by v.owners s.wait) (sym p.1) ∙ h.0, h.1)
    by_seat (inr e) = inl (ap (λ (s : Task). waits_by v.owners s.wait) (sym e) ∙ h.0, h.1)

-- a seat is one of other states with the same owners where it waits
IsSeat-kept : (v w : Owners) (x : Task)
    → ((y : Wait) → x.wait ≡ Some y → IsSome (owner_at v y.state) → IsSome (owner_at w y.state)) → IsSeat v x
    → IsSeat w x
IsSeat-kept v w x f h = record { base = h.base; local = h.local; least = h.least; most = h.most; state = λ y e. f y e (h.state y e) }

-- a write of a seat keeps all but that there is no cycle
sound-with_seat : (t : ℕ) (x : Task) (v : Owners) → 1 ≤ t → IsSeat v x → IsAcyclic (with_task t x v) → AreSoundOwners v
    → AreSoundOwners (with_task t x v)
sound-with_seat t x v l h none s =
    record {
      least = omega (arith, length-set v.seats t x, s.least);
      most = omega (arith, length-set v.seats t x, s.most);
      nobody = task_at-with_task_other t x v 0 (λ e. omega arith) ∙ s.nobody;
      seats = λ u. IsSeat-kept v (with_task t x v) (task_at (with_task t x v) u) (λ y e some. some) (by_seat u (task_at-with_task t x v u));
      acyclic = none;
    }
  where
    by_seat : (u : ℕ) → ((u ≡ t) × (task_at (with_task t x v) u ≡ x)) ⊎ (task_at (with_task t x v) u ≡ task_at v u)
        → IsSeat v (task_at (with_task t x v) u)
    by_seat u (inl p) = subst (IsSeat v) (sym p.1) h
    by_seat u (inr e) = subst (IsSeat v) (sym e) (s.seats u)

-- a seat that waits where the thread waited, or nowhere, makes no cycle
acyclic-no_more : (t : ℕ) (x : Task) (v : Owners)
    → (waits_by v.owners x.wait ≡ waits_for v t) ⊎ (waits_by v.owners x.wait ≡ 0) → IsAcyclic v
    → IsAcyclic (with_task t x v)
acyclic-no_more t x v same none = NoCycle-fewer (λ a b h. by_hop a b (hop-with_seat t x v a b h) same) none
  where
    by_hop : (a b : ℕ) → WaitsFor v a b ⊎ ((a ≡ t) × (waits_by v.owners x.wait ≡ b) × (b ≢ 0))
        → (waits_by v.owners x.wait ≡ waits_for v t) ⊎ (waits_by v.owners x.wait ≡ 0) → WaitsFor v a b
    by_hop a b (inl h) e = h
    by_hop a b (inr p) (inl e) = (ap (waits_for v) p.0 ∙ sym e ∙ p.1, p.2)
    by_hop a b (inr p) (inr e) = absurd (p.2 (sym p.1 ∙ e))

-- the priorities of a seat change
pub sound-priorities : (t : ℕ) (x : Task) (v : Owners) → x.base ≤ 99 → x.local ≤ 99 → x.wait ≡ (task_at v t).wait
    → 1 ≤ t → AreSoundOwners v → AreSoundOwners (with_task t x v)
sound-priorities t x v b l e n s =
    sound-with_seat t x v n
    (record { base = b; local = l; least = λ w h. (s.seats t).least w (sym e ∙ h); most = λ w h. (s.seats t).most w (sym e ∙ h); state = λ w h. (s.seats t).state w (sym e ∙ h) })
    (acyclic-no_more t x v (inl (ap (waits_by v.owners) e)) s.acyclic) s

no_wait : {A : Type 0} (w : Wait) → None ≡ Some w → A
no_wait w e = absurd (cc)

one_wait : (x y : Wait) → Some x ≡ Some y → x ≡ y
one_wait x y e = ap (λ (o : Option Wait). unwrap_or o x) e

-- a thread waits no longer
pub sound-free : (t : ℕ) (v : Owners) → 1 ≤ t → AreSoundOwners v → AreSoundOwners (with_wait t None v)
sound-free t v n s =
    sound-with_seat t (record (task_at v t) { wait = None }) v n
    (record { base = (s.seats t).base; local = (s.seats t).local; least = λ w h. no_wait w h; most = λ w h. no_wait w h; state = λ w h. no_wait w h })
    (acyclic-no_more t (record (task_at v t) { wait = None }) v (inr refl) s.acyclic) s

-- and then it is queued on no state
pub waits_on-freed : (t : ℕ) (v : Owners) → waits_on (with_wait t None v) t ≡ None
waits_on-freed t v = by_number (cases_lt t (length v.seats))
  where
    by_number : ((t < length v.seats) ⊎ (length v.seats ≤ t)) → waits_on (with_wait t None v) t ≡ None
    by_number (inl l) = ap state_of (task_at-with_task_same t _ v l)
    by_number (inr m) = ap state_of (get_or_past (set v.seats t _) t no_task (omega (arith, length-set {A = Task})))

-- what a thread waits for is on a state that there is, with a priority of 1 to 99
seat-waiting : (t : ℕ) (w : Wait) (v : Owners) → 1 ≤ w.rank.prio → w.rank.prio ≤ 99 → IsSome (owner_at v w.state)
    → AreSoundOwners v → IsSeat v (record (task_at v t) { wait = Some w })
seat-waiting t w v l m some s =
    record {
      base = (s.seats t).base;
      local = (s.seats t).local;
      least = λ y h. subst (λ (z : Wait). 1 ≤ z.rank.prio) (one_wait w y h) l;
      most = λ y h. subst (λ (z : Wait). z.rank.prio ≤ 99) (one_wait w y h) m;
      state = λ y h. subst (λ (z : Wait). IsSome (owner_at v z.state)) (one_wait w y h) some;
    }

-- a waiting thread stands with another rank
pub sound-ranked : (t : ℕ) (w x : Wait) (v : Owners) → (task_at v t).wait ≡ Some w → x.state ≡ w.state
    → 1 ≤ x.rank.prio → x.rank.prio ≤ 99 → 1 ≤ t → AreSoundOwners v
    → AreSoundOwners (with_wait t (Some x) v)
sound-ranked t w x v e same l m n s =
    sound-with_seat t (record (task_at v t) { wait = Some x }) v n
    (seat-waiting t x v l m (subst (λ (k : ℕ). IsSome (owner_at v k)) (sym same) ((s.seats t).state w e)) s)
    (acyclic-no_more t (record (task_at v t) { wait = Some x }) v (inl (ap (λ (k : ℕ). unwrap_or (owner_at v k) 0) same ∙ sym (ap (waits_by v.owners) e))) s.acyclic) s

-- a thread is queued on a state whose owner doesn't reach it
pub sound-queued : (t : ℕ) (w : Wait) (v : Owners) → IsSome (owner_at v w.state)
    → ((n : ℕ) → owner_at v w.state ≡ Some n → Reaches (WaitsFor v) n t → ⊥)
    → 1 ≤ w.rank.prio → w.rank.prio ≤ 99 → 1 ≤ t → AreSoundOwners v → AreSoundOwners (with_wait t (Some w) v)
sound-queued t w v some apart l m n s =
    sound-with_seat t (record (task_at v t) { wait = Some w }) v n (seat-waiting t w v l m some s) (by_owner (owner_at v w.state) refl some) s
  where
    by_owner : (o : Option ℕ) → owner_at v w.state ≡ o → IsSome o → IsAcyclic (with_wait t (Some w) v)
    by_owner None e h = absurd (false≢true h)
    by_owner (Some owner) e h =
        NoCycle-hop t owner (λ a b p. by_hop a b (hop-with_seat t (record (task_at v t) { wait = Some w }) v a b p)) (apart owner e) s.acyclic
      where
        by_hop : (a b : ℕ) → WaitsFor v a b ⊎ ((a ≡ t) × (waits_by v.owners (Some w) ≡ b) × (b ≢ 0))
            → WaitsFor v a b ⊎ ((a ≡ t) × (b ≡ owner))
        by_hop a b (inl p) = inl p
        by_hop a b (inr p) = inr (p.0, sym p.1 ∙ ap (λ (x : Option ℕ). unwrap_or x 0) e)

-- the owner of a state, and of the others
pub owner_at-with_owner_same : (k owner : ℕ) (v : Owners) → owner_at (with_owner k owner v) k ≡ Some owner
owner_at-with_owner_same k owner v = get-insert_same v.owners k owner k refl

pub owner_at-with_owner_other : (k owner : ℕ) (v : Owners) (j : ℕ) → j ≢ k → owner_at (with_owner k owner v) j ≡ owner_at v j
owner_at-with_owner_other k owner v j n = get-insert_other v.owners k owner j n

pub owner_at-without_state_other : (k : ℕ) (v : Owners) (j : ℕ) → j ≢ k → owner_at (without_state k v) j ≡ owner_at v j
owner_at-without_state_other k v j n = get-remove_other v.owners k j n

-- states with other owners keep all but that there is no cycle, if each waited state is still there
sound-owners : (owners : FinMap nat_cmp ℕ) (v : Owners)
    → ((t : ℕ) (w : Wait) → (task_at v t).wait ≡ Some w → IsSome (owner_at v w.state) → IsSome (get owners w.state))
    → IsAcyclic (record v { owners = owners }) → AreSoundOwners v → AreSoundOwners (record v { owners = owners })
sound-owners owners v kept none s =
    record { least = s.least; most = s.most; nobody = s.nobody; seats = λ t. IsSeat-kept v (record v { owners = owners }) (task_at v t) (kept t) (s.seats t); acyclic = none }

kept-with_owner : (k owner : ℕ) (v : Owners) (j : ℕ) → IsSome (owner_at v j) → IsSome (owner_at (with_owner k owner v) j)
kept-with_owner k owner v j some = by_key (cases_eq j k)
  where
    by_key : ((j ≡ k) ⊎ (j ≡ k → ⊥)) → IsSome (owner_at (with_owner k owner v) j)
    by_key (inl e) = subst IsSome (sym (get-insert_same v.owners k owner j e)) refl
    by_key (inr n) = subst IsSome (sym (owner_at-with_owner_other k owner v j n)) some

-- a hop after a state got this owner is one that was there, or one of its waiters to the owner
hop-with_owner : (k owner : ℕ) (v : Owners) (a b : ℕ) → WaitsFor (with_owner k owner v) a b
    → WaitsFor v a b ⊎ ((waits_on v a ≡ Some k) × (b ≡ owner))
hop-with_owner k owner v a b h = by_wait (WaitsFor-some (with_owner k owner v) a b h)
  where
    by_wait : (w : Wait) × ((task_at v a).wait ≡ Some w) × (owner_at (with_owner k owner v) w.state ≡ Some b)
        → WaitsFor v a b ⊎ ((waits_on v a ≡ Some k) × (b ≡ owner))
    by_wait p = by_key (cases_eq p.0.state k)
      where
        by_key : ((p.0.state ≡ k) ⊎ (p.0.state ≡ k → ⊥)) → WaitsFor v a b ⊎ ((waits_on v a ≡ Some k) × (b ≡ owner))
        by_key (inl e) = inr (
          ap (option_map (λ (w : Wait). w.state)) p.1 ∙ ap Some e,
          ap (λ (o : Option ℕ). unwrap_or o 0) (sym p.2 ∙ get-insert_same v.owners k owner p.0.state e),
        )
        by_key (inr n) = inl (WaitsFor-from v a b p.0 p.1 (sym (owner_at-with_owner_other k owner v p.0.state n) ∙ p.2) h.1)

-- who is queued on no state waits for nothing
pub free-wait : (v : Owners) (t : ℕ) → waits_on v t ≡ None → (task_at v t).wait ≡ None
free-wait v t e = by_wait (task_at v t).wait e
  where
    by_wait : (o : Option Wait) → option_map (λ (w : Wait). w.state) o ≡ None → o ≡ None
    by_wait None h = refl
    by_wait (Some w) h = absurd (cc)

-- nobody waits on a state that there isn't
pub no_waiter-without_state : (v : Owners) (k : ℕ) → AreSoundOwners v → owner_at v k ≡ None → HasNoWaiter v k
no_waiter-without_state v k s e t h = by_wait (task_at v t).wait refl h
  where
    by_wait : (o : Option Wait) → (task_at v t).wait ≡ o → option_map (λ (w : Wait). w.state) o ≡ Some k → ⊥
    by_wait None p q = absurd (cc)
    by_wait (Some w) p q =
        let same : w.state ≡ k = ap (λ (o : Option ℕ). unwrap_or o 0) q in
        false≢true (subst IsSome (ap (owner_at v) same ∙ e) ((s.seats t).state w p))

-- a state is made
pub sound-made : (k owner : ℕ) (v : Owners) → owner_at v k ≡ None → AreSoundOwners v → AreSoundOwners (with_owner k owner v)
sound-made k owner v e s =
    sound-owners (insert v.owners k owner) v (λ t w h some. kept-with_owner k owner v w.state some)
    (NoCycle-fewer (λ a b h. by_hop a b (hop-with_owner k owner v a b h)) s.acyclic) s
  where
    by_hop : (a b : ℕ) → WaitsFor v a b ⊎ ((waits_on v a ≡ Some k) × (b ≡ owner)) → WaitsFor v a b
    by_hop a b (inl h) = h
    by_hop a b (inr p) = absurd (no_waiter-without_state v k s e a p.0)

-- a state is handed to a thread that waits for nothing
pub sound-handed : (k owner : ℕ) (v : Owners) → waits_on v owner ≡ None → AreSoundOwners v → AreSoundOwners (with_owner k owner v)
sound-handed k owner v e s =
    sound-owners (insert v.owners k owner) v (λ t w h some. kept-with_owner k owner v w.state some)
    (NoCycle-still owner still (λ a b h. by_hop a b (hop-with_owner k owner v a b h)) s.acyclic) s
  where
    by_hop : (a b : ℕ) → WaitsFor v a b ⊎ ((waits_on v a ≡ Some k) × (b ≡ owner)) → WaitsFor v a b ⊎ (b ≡ owner)
    by_hop a b (inl h) = inl h
    by_hop a b (inr p) = inr p.1

    still : (b : ℕ) → WaitsFor (with_owner k owner v) owner b → ⊥
    still b h = h.1 (sym h.0 ∙ ap (λ (o : Option ℕ). unwrap_or (option_and_then (get (insert v.owners k owner)) o) 0) e)

-- a state on which nobody is queued ends
pub sound-ended : (k : ℕ) (v : Owners) → HasNoWaiter v k → AreSoundOwners v → AreSoundOwners (without_state k v)
sound-ended k v free s = sound-owners (remove v.owners k) v kept (NoCycle-fewer fewer s.acyclic) s
  where
    apart : (t : ℕ) (w : Wait) → (task_at v t).wait ≡ Some w → w.state ≢ k
    apart t w e same = free t (ap (option_map (λ (w : Wait). w.state)) e ∙ ap Some same)

    kept : (t : ℕ) (w : Wait) → (task_at v t).wait ≡ Some w → IsSome (owner_at v w.state)
        → IsSome (owner_at (without_state k v) w.state)
    kept t w e some = subst IsSome (sym (owner_at-without_state_other k v w.state (apart t w e))) some

    fewer : (a b : ℕ) → WaitsFor (without_state k v) a b → WaitsFor v a b
    fewer a b h =
        let p : (w : Wait) × ((task_at v a).wait ≡ Some w) × (owner_at (without_state k v) w.state ≡ Some b) = WaitsFor-some (without_state k v) a b h in
        WaitsFor-from v a b p.0 p.1 (sym (owner_at-without_state_other k v p.0.state (apart a p.0 p.1)) ∙ p.2) h.1

-- and every seat is empty
pub task_at-no_owners : (threads t : ℕ) → task_at (no_owners threads) t ≡ no_task
task_at-no_owners threads t = by_number (cases_lt t (threads + 1))
  where
    by_number : ((t < threads + 1) ⊎ (threads + 1 ≤ t)) → task_at (no_owners threads) t ≡ no_task
    by_number (inl l) = get_or-replicate (threads + 1) t no_task no_task l
    by_number (inr m) = get_or_past (replicate (threads + 1) no_task) t no_task (omega (arith, length-replicate (threads + 1) no_task))

pub sound-no_owners : (threads : ℕ) → threads ≤ 1024 → AreSoundOwners (no_owners threads)
sound-no_owners threads l =
    record {
      least = omega (arith, length-replicate (threads + 1) no_task);
      most = omega (arith, length-replicate (threads + 1) no_task);
      nobody = task_at-no_owners threads 0;
      seats = λ t. subst (IsSeat (no_owners threads)) (sym (task_at-no_owners threads t))
          (record { base = omega arith; local = omega arith; least = λ w h. no_wait w h; most = λ w h. no_wait w h; state = λ w h. no_wait w h });
      acyclic = λ t u h r. h.1 (sym h.0 ∙ ap (λ (x : Task). waits_by empty x.wait) (task_at-no_owners threads t));
    }

-- who waits has a priority and a ticket
pub some_rank : (o : Option Wait) (k : ℕ) → option_map (λ (w : Wait). w.state) o ≡ Some k → (r : Key) × (option_map (λ (w : Wait). w.rank) o ≡ Some r)
some_rank None k e = cc
some_rank (Some w) k e = (w.rank, refl)
