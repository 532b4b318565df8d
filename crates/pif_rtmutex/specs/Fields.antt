-- What the fields of owner states stand for.
use Rattle.std.specs.Prelude.{◌≡◌, ℕ, ◌+◌, ◌<◌, true, false, List, length, map, Some, option_map, refl}
use Rattle.std.specs.FinMap.{get, len}
use Rattle.std.specs.Coded.{Coded, code_by, coded×, coded_ℕ}
use Rattle.slab.specs.Slab.{Slab}
use Rattle.pif_nodes_model.specs.Lists.{has, HasNoRepeats}
use Rattle.pif_kernel_model.specs.OwnerMaps.{owners_of}
use Rattle.pif_kernel_model.specs.States.{Row, States}

-- what is stored of a state: its owner, and its row
pub record State : Type 0 where
  pub owner : ℕ
  pub row : ℕ

abbrev pub state_code : Coded State
state_code =
    code_by (ℕ × ℕ) (coded× coded_ℕ coded_ℕ) (λ x. (x.owner, x.row)) (λ p. record { owner = p.0; row = p.1 })
    (λ _. refl)

-- a slab with a number in place of each state
abbrev pub slab_with : (State → ℕ) → Slab State → Slab ℕ
slab_with f s = record { slots = map (option_map f) s.slots; vacant_key = s.vacant_key; capacity = s.capacity }

-- the owner states of these fields
abbrev pub states_from : ℕ → ℕ → ℕ → List Row → List ℕ → Slab State → States
states_from first_list first_node threads rows free states =
    record {
      first_list = first_list;
      first_node = first_node;
      threads = threads;
      rows = rows;
      free = free;
      owners = owners_of (slab_with (λ x. x.owner) states);
      places = owners_of (slab_with (λ x. x.row) states);
    }

-- the free rows are those of no state, each once, and with those of the states there are as many as threads
pub record IsSpare (m : States) : Type 0 where
  pub count : length m.free + len m.owners ≡ m.threads
  pub below : (r : ℕ) → has r m.free ≡ true → r < m.threads
  pub once : HasNoRepeats m.free
  pub apart : (k r : ℕ) → get m.places k ≡ Some r → has r m.free ≡ false
