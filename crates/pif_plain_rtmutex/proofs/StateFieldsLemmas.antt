-- What is read of the fields of owner states, and how the states change with the slab of owners.
use Rattle.std.proofs.Common.{◌≡◌, ℕ, ◌+◌, ◌<◌, ◌≤◌, List, length, Some, None, IsSome, sym, ◌∙◌, ap, subst, arith}
use Rattle.slab.specs.Slab.{Slab, ContainsKey, HasRoomFor, Updates}
use Rattle.slab.specs.Slab.{get as value_at}
use Rattle.std.specs.Ordering.{nat_cmp}
use Rattle.std.specs.FinMap.{FinMap, get}
use Rattle.pif_kernel_model.specs.Owners.{Task, Owners, owner_at, count, with_owner, without_state}
use Rattle.pif_plain_rtmutex.specs.StateFields.{owners_from}
use Rattle.pif_kernel_model.proofs.MapLemmas.{get-owners_of, len-owners_of, owners_of-put, owners_of-removed}

-- the slab has the owner of each state
pub value-owner : (rows : List Task) (s : Slab ℕ) (v : Owners) (j k : ℕ) → owners_from rows s ≡ v → j ≡ k → value_at s j ≡ owner_at v k
value-owner rows s v j k e same = sym (get-owners_of s j) ∙ (λ i. get (e i).owners (same i))

-- and it has the key of each state
pub contains-state : (rows : List Task) (s : Slab ℕ) (v : Owners) (j k : ℕ) → owners_from rows s ≡ v → j ≡ k
    → IsSome (owner_at v k) → ContainsKey s j
contains-state rows s v j k e same some = subst IsSome (sym (value-owner rows s v j k e same)) some

-- it has room for one more if there are fewer states than threads
pub room-for_one : (rows : List Task) (s : Slab ℕ) (v : Owners) → owners_from rows s ≡ v
    → length rows ≤ s.capacity + 1 → count v + 1 < length v.seats → HasRoomFor s 1
room-for_one rows s v e room fewer = omega (arith, len-owners_of s, ap count e, ap (λ (x : Owners). length x.seats) e)

-- the states after a write of one owner, and after one was taken out
pub owners_from-put : (rows : List Task) (s new : Slab ℕ) (v : Owners) (j k owner : ℕ) → owners_from rows s ≡ v
    → j ≡ k → Updates s new j (Some owner)
    → owners_from rows new ≡ with_owner k owner v
owners_from-put rows s new v j k owner e same u =
    ap (λ (m : FinMap nat_cmp ℕ). record { seats = rows; owners = m }) (owners_of-put s new j owner u) ∙ (λ i. with_owner (same i) owner (e i))

pub owners_from-removed : (rows : List Task) (s new : Slab ℕ) (v : Owners) (j k : ℕ) → owners_from rows s ≡ v
    → j ≡ k → Updates s new j None
    → owners_from rows new ≡ without_state k v
owners_from-removed rows s new v j k e same u =
    ap (λ (m : FinMap nat_cmp ℕ). record { seats = rows; owners = m }) (owners_of-removed s new j u) ∙ (λ i. without_state (same i) (e i))
