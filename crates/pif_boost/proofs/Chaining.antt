-- The chain from a thread, followed hop by hop, up to another thread.
use Rattle.std.proofs.Common.{◌≡◌, ◌⊎◌, ℕ, ◌<◌, ◌≤◌, ◌+◌, List, [], ◌∷◌, length, Option, Some, None, refl, sym, ap, ◌∙◌, subst, inl, inr, arith}
use Rattle.std.specs.Prelude.{option_and_then, unwrap_or}
use Rattle.std.proofs.lemmas.Bool.{cases_eq, cases_lt}
use Rattle.pif_nodes_model.specs.Table.{NodeLists}
use Rattle.pif_model.specs.Graph.{Reaches}
use Rattle.pif_model.specs.Graph.Reaches.{here, hop}
use Rattle.pif_kernel_model.specs.Owners.{Owners, owner_at, waits_on, waits_for, WaitsFor, AreSoundOwners}
use Rattle.pif_kernel_model.specs.States.{States, owners_in}
use Rattle.pif_kernel_model.specs.Holds.{HoldsStates}
use Rattle.pif_kernel_model.proofs.ViewLemmas.{length-seats}
use Rattle.pif_kernel_model.specs.Boosts.{IsThread}
use Rattle.pif_kernel_model.proofs.Greatest.{nobody_waits, out_waits, waits_for-none, waits_for-owner}
use Rattle.pif_kernel_model.proofs.Ways.{IsOnWay, onway-start, onway-hop, onway-few}

-- for whom a thread waits has a row
pub owned-below : (m : States) (table : NodeLists) → HoldsStates m table → (u : ℕ)
    → waits_for (owners_in m table) u < length (owners_in m table).seats
owned-below m table holds u = by_state (waits_on (owners_in m table) u)
  where
    by_owner : (k : ℕ) (o : Option ℕ) → owner_at (owners_in m table) k ≡ o → unwrap_or o 0 < length (owners_in m table).seats
    by_owner k None e = omega (arith, holds.waiters.sound.least)
    by_owner k (Some o) e = omega (arith, holds.waiters.owned k o e, length-seats m table, holds.waiters.rows)

    by_state : (o : Option ℕ) → unwrap_or (option_and_then (owner_at (owners_in m table)) o) 0 < length (owners_in m table).seats
    by_state None = omega (arith, holds.waiters.sound.least)
    by_state (Some k) = by_owner k (owner_at (owners_in m table) k) refl

-- so many threads of the chain from `owner` are not `t`, and `at` is next: it reaches `t` just if `owner` does
pub record IsChaining (v : Owners) (owner t hops at : ℕ) : Type 0 where
  pub back : Reaches (WaitsFor v) at t → Reaches (WaitsFor v) owner t
  pub on : Reaches (WaitsFor v) owner t → Reaches (WaitsFor v) at t
  pub way : (hops ≡ 0) ⊎ ((passed : List ℕ) × (length passed ≡ hops) × IsOnWay v passed at)

module _ (m : States) (table : NodeLists) (holds : HoldsStates m table) (owner t hops at : ℕ)
    (c : IsChaining (owners_in m table) owner t hops at) where
  abbrev v : Owners
  v = owners_in m table

  sound : AreSoundOwners v
  sound = holds.waiters.sound

  -- there are at most as many hops as threads
  pub chaining-few : (hops ≡ 0) ⊎ (hops + 2 ≤ length v.seats)
  chaining-few = by_way c.way
    where
      by_way : ((hops ≡ 0) ⊎ ((passed : List ℕ) × (length passed ≡ hops) × IsOnWay v passed at)) → (hops ≡ 0) ⊎ (hops + 2 ≤ length v.seats)
      by_way (inl z) = inl z
      by_way (inr w) = inr (omega (arith, w.1, onway-few v sound w.0 at w.2))

  -- fewer than there are iterations
  pub chaining-end : m.threads + 1 ≤ hops → ⊥
  chaining-end e = by_few chaining-few
    where
      by_few : (hops ≡ 0) ⊎ (hops + 2 ≤ length v.seats) → ⊥
      by_few (inl z) = absurd (omega (arith, z, e))
      by_few (inr l) = absurd (omega (arith, l, e, length-seats m table, holds.waiters.rows))

  -- another thread goes on to the one for which it waits
  pub chaining-hop : (at ≡ t → ⊥) → (k u : ℕ) → waits_on v at ≡ Some k → owner_at v k ≡ Some u → IsChaining v owner t (hops + 1) u
  chaining-hop ne k u on owns =
      record { back = λ r. c.back (hop waits r); on = λ r. by_step (c.on r); way = inr (on_way c.way) }
    where
      row : (1 ≤ u) × (u ≤ m.threads)
      row = holds.waiters.owned k u owns

      thread : IsThread v u
      thread = (row.0, omega (arith, row.1, length-seats m table, holds.waiters.rows))

      waits : WaitsFor v at u
      waits = (waits_for-owner v at k u on owns, λ z. (let one : 1 ≤ u = row.0 in absurd (omega (arith, z))))

      at_thread : IsThread v at
      at_thread = (some (cases_eq at 0), below (cases_lt at (length v.seats)))
        where
          some : ((at ≡ 0) ⊎ (at ≡ 0 → ⊥)) → 1 ≤ at
          some (inl e) = absurd (waits.1 (sym waits.0 ∙ ap (waits_for v) e ∙ nobody_waits v sound))
          some (inr ne) = omega arith

          below : ((at < length v.seats) ⊎ (length v.seats ≤ at)) → at < length v.seats
          below (inl l) = l
          below (inr l) = absurd (waits.1 (sym waits.0 ∙ out_waits v at l))

      on_way : ((hops ≡ 0) ⊎ ((passed : List ℕ) × (length passed ≡ hops) × IsOnWay v passed at))
          → (passed : List ℕ) × (length passed ≡ hops + 1) × IsOnWay v passed u
      on_way (inl z) = ((at ∷ []), omega (arith, z), onway-hop v sound [] at (onway-start v at at_thread) u waits thread)
      on_way (inr w) = ((at ∷ w.0), omega (arith, w.1), onway-hop v sound w.0 at w.2 u waits thread)

      by_step : Reaches (WaitsFor v) at t → Reaches (WaitsFor v) u t
      by_step (here e) = absurd (ne e)
      by_step (hop a r) = subst (λ (y : ℕ). Reaches (WaitsFor v) y t) (sym a.0 ∙ waits.0) r

  -- it ends at `t`
  pub chaining-found : at ≡ t → Reaches (WaitsFor v) owner t
  chaining-found e = c.back (here e)

  -- it ends before `t`
  pub chaining-missed : (at ≡ t → ⊥) → waits_on v at ≡ None → Reaches (WaitsFor v) owner t → ⊥
  chaining-missed ne none r = by_step (c.on r)
    where
      by_step : Reaches (WaitsFor v) at t → ⊥
      by_step (here e) = absurd (ne e)
      by_step (hop a r) = absurd (a.1 (sym a.0 ∙ waits_for-none v at none))
