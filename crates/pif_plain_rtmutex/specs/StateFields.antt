-- What the fields of owner states stand for.
use Rattle.std.specs.Prelude.{ℕ, List}
use Rattle.slab.specs.Slab.{Slab}
use Rattle.pif_kernel_model.specs.Owners.{Owners, Task}
use Rattle.pif_kernel_model.specs.OwnerMaps.{owners_of}

-- the owner states of these rows and owners
abbrev pub owners_from : List Task → Slab ℕ → Owners
owners_from rows s = record { seats = rows; owners = owners_of s }
