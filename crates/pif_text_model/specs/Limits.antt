-- The limits of a script that names none.
use Rattle.pif_types.specs.Bounds.{Bounds}

abbrev pub default_limits : Bounds
default_limits = record { threads = 1024; mutexes = 1024; conds = 256; signals = 4294967295 }
