-- The first waiter of a state, by a look at one thread after another.
use Rattle.std.proofs.Common.{◌≡◌, ◌⊎◌, ℕ, ◌<◌, ◌≤◌, true, false, eqb, cond, length, Option, Some, None, IsSome, IfSome, OnSome, ◌↔◌, option_map, option_and_then, refl, sym, ◌∙◌, ap, subst, inl, inr, arith}
use Rattle.std.proofs.lemmas.Bool.{false≢true, cases_lt, cases_Bool, eq-eqb, eqb-true}
use Rattle.std.proofs.lemmas.List.{get_or_past}
use Rattle.pif_nodes_model.specs.declared.keys.Key.{Key}
use Rattle.pif_kernel_model.specs.Owners.{Wait, Owners, no_task, task_at, owner_at, state_of, waits_on, rank_of, IsTop, AreSoundOwners}
use Rattle.pif_plain_rtmutex.specs.Standing.{rank_on, standing, leads}

-- who waits on a state with a rank stands there with it
pub standing-from : (v : Owners) (k t : ℕ) (rank : Key) → waits_on v t ≡ Some k → rank_of v t ≡ Some rank → standing v k t ≡ Some rank
standing-from v k t rank w r = by_wait (task_at v t).wait w r
  where
    by_wait : (o : Option Wait) → option_map (λ (w : Wait). w.state) o ≡ Some k
        → option_map (λ (w : Wait). w.rank) o ≡ Some rank → option_and_then (rank_on k) o ≡ Some rank
    by_wait None p q = absurd (cc)
    by_wait (Some x) p q =
        let same : x.state ≡ k = cc in
        let test : eqb x.state k ≡ true = eq-eqb x.state k same in
        ap (λ b. cond b (Some x.rank) None) test ∙ q

-- and back
pub standing-some : (v : Owners) (k t : ℕ) → IsSome (standing v k t) → (waits_on v t ≡ Some k) × ((rank : Key) × (rank_of v t ≡ Some rank))
standing-some v k t h = by_wait (task_at v t).wait h
  where
    by_test : (x : Wait) → ((eqb x.state k ≡ true) ⊎ (eqb x.state k ≡ false)) → IsSome (rank_on k x) → x.state ≡ k
    by_test x (inl e) h = eqb-true x.state k e
    by_test x (inr e) h = absurd (false≢true (subst IsSome (ap (λ b. cond b (Some x.rank) None) e) h))

    by_wait : (o : Option Wait) → IsSome (option_and_then (rank_on k) o)
        → (option_map (λ (w : Wait). w.state) o ≡ Some k) × ((rank : Key) × (option_map (λ (w : Wait). w.rank) o ≡ Some rank))
    by_wait None h = absurd (false≢true h)
    by_wait (Some x) h = (ap Some (by_test x (cases_Bool (eqb x.state k)) h), (x.rank, refl))

-- of the threads below n, none leads this one, which waits on the state, or is 0
pub record IsFirst (v : Owners) (k n first : ℕ) : Type 0 where
  pub ahead : (u : ℕ) → u < n → leads (standing v k u) (standing v k first) ≡ false
  pub stands : (first ≡ 0) ⊎ IsSome (standing v k first)

-- who waits has a seat
pub waits-within : (v : Owners) (k t : ℕ) → waits_on v t ≡ Some k → t < length v.seats
waits-within v k t w = by_number (cases_lt t (length v.seats))
  where
    by_number : ((t < length v.seats) ⊎ (length v.seats ≤ t)) → t < length v.seats
    by_number (inl l) = l
    by_number (inr m) =
        let none : waits_on v t ≡ None = ap state_of (get_or_past v.seats t no_task m) in
        absurd (cc)

-- if that one is not 0, it is the top waiter
pub first-top : (v : Owners) (k n first : ℕ) → n ≡ length v.seats → 1 ≤ first → IsFirst v k n first → IsTop v k first
first-top v k n first e one f = by_first f.stands
  where
    top : (waits_on v first ≡ Some k) × ((rank : Key) × (rank_of v first ≡ Some rank)) → IsTop v k first
    top p =
        record {
          waits = p.0;
          rank = p.1.0;
          ranked = p.1.1;
          first = λ u other w r.
              let within : u < length v.seats = waits-within v k u w in
              (λ i. leads (sym (standing-from v k u other w r) i) (sym (standing-from v k first p.1.0 p.0 p.1.1) i)) ∙ f.ahead u (omega arith);
        }

    by_first : (first ≡ 0) ⊎ IsSome (standing v k first) → IsTop v k first
    by_first (inl z) = absurd (omega arith)
    by_first (inr some) = top (standing-some v k first some)

-- the same of a thread that is there if its number is not 0
pub first-some : (o : Option ℕ) (v : Owners) (k n first : ℕ) → n ≡ length v.seats → (IsSome o ↔ (1 ≤ first))
    → IfSome o (λ t. t ≡ first) → IsFirst v k n first
    → IfSome o (λ t. IsTop v k t)
first-some None v k n first e valid value f = tt
first-some (Some t) v k n first e valid value f = subst (IsTop v k) (sym value) (first-top v k n first e (valid.0 refl) f)

-- a state on which a thread is queued is there
pub top-state : (o : Option ℕ) (v : Owners) (k : ℕ) → AreSoundOwners v → IfSome o (λ t. IsTop v k t) → OnSome o (IsSome (owner_at v k))
top-state None v k s h = tt
top-state (Some t) v k s h = by_wait (task_at v t).wait refl h.waits
  where
    by_wait : (w : Option Wait) → (task_at v t).wait ≡ w → option_map (λ (w : Wait). w.state) w ≡ Some k → IsSome (owner_at v k)
    by_wait None p q = absurd (cc)
    by_wait (Some w) p q = let same : w.state ≡ k = cc in subst (λ (j : ℕ). IsSome (owner_at v j)) same ((s.seats t).state w p)
