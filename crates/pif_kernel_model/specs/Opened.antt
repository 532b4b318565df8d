-- What is kept once a mutex has an owner state.
use Rattle.std.specs.Prelude.{◌≡◌, ℕ, ◌+◌, set, Some, None}
use Rattle.pif_kernel_model.specs.Owners.{owner_at, count, with_owner}
use Rattle.pif_kernel_model.specs.Inside.{Inside, state_key_at}
use Rattle.pif_kernel_model.specs.Chained.{KeepsLevels}
use Rattle.pif_kernel_model.specs.Fields.{chains_of}

-- what is kept once there is an owner state of m, under this key: the one that there was, or a new one of this owner
pub data IsOpened (old now : Inside) (m owner key : ℕ) : Type 0 where
  found : state_key_at old m ≡ Some key → now ≡ old → IsOpened old now m owner key
  made : state_key_at old m ≡ None → owner_at old.owners key ≡ None
      → now ≡ record old {
        keys = set old.keys m (Some key);
        owners = with_owner key owner old.owners;
        table = now.table;
      }
      → KeepsLevels (record (chains_of old) { keys = set old.keys m (Some key) }) (chains_of now)
      → count now.owners ≡ count old.owners + 1 → IsOpened old now m owner key
