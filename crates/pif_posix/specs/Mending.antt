-- What comes of a thread that makes a robust mutex consistent which it doesn't own.
use Rattle.std.specs.Prelude.{ℕ, ◌==◌, List, [], ◌∷◌, if◌then◌else◌}
use Rattle.pif_model.specs.NamedNumbers.{EINVAL}
use Rattle.pif_model.specs.World.Progress.{Has}
use Rattle.pif_model.specs.Posix.{World, mutex_at, with_progress}
use Rattle.pif_rules_model.specs.Ruled.{one_if, is_inconsistent, mended}
use Rattle.pif_posix.specs.declared.health.Treated.{Treated}
use Rattle.pif_posix.specs.declared.health.Treated.TheVariants.{AsOwner, RefusedFree}

abbrev pub mended_as : Treated → ℕ → World → ℕ → List World
mended_as AsOwner t w m = mended t w m ∷ []
mended_as RefusedFree t w m =
    if (mutex_at w m).owner == 0 then one_if (is_inconsistent (mutex_at w m).health) (with_progress t (Has EINVAL) w) else []
