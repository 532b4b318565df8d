-- Whom a broadcast wakes, thread by thread.
use Rattle.std.specs.Prelude.{ℕ, List, [], ◌∷◌, ◌++◌, Bool, if◌then◌else◌}
use Rattle.pif_model.specs.Posix.{World, with_call_by, after_unblocking}

-- the states once some of these threads are unblocked, among which are all that are marked
abbrev pub wakings : List (ℕ × Bool) → World → List World
wakings [] w = w ∷ []
wakings (p ∷ ps) w = wakings ps (with_call_by p.0 after_unblocking w) ++ (if p.1 then [] else wakings ps w)
