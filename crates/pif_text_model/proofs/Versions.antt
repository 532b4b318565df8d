-- What stands in traces of version 1 stands in those of version 2, and a header is that of its version alone.
use Rattle.std.proofs.Common.{◌≡◌, ℕ, Bool, true, false, List, Option, Some, None, refl, cond, bytes_eq}
use Rattle.std.proofs.lemmas.Slice.Eq.{bytes_eq-Decides}
use Rattle.pif_model.specs.declared.events.Event.{Event}
use Rattle.pif_text_model.specs.declared.commands.Command.{Command}
use Rattle.pif_text_model.specs.declared.commands.Command.TheVariants as command
use Rattle.pif_text_model.specs.declared.traces.Version.{Version}
use Rattle.pif_text_model.specs.declared.traces.Version.TheVariants.{One, Two}
use Rattle.pif_text_model.specs.Traces.{header_text, if_traced, knows, version_in}

known : (b : Bool) (e : Event) (d : Command)
    → ◌≡◌ {A = Option Command} (cond b (Some (command.Event e)) None) (Some d) → Some (command.Event e) ≡ Some d
known true e d h = h
known false e d h = cc

-- a command of version 1 is one of version 2
pub later_version : (c d : Command) → if_traced One c ≡ Some d → if_traced Two c ≡ Some d
later_version (command.Limits t m v s) d e = e
later_version (command.Add a) d e = e
later_version (command.Event v) d e = known (knows One v) v d e
later_version (command.Run t q) d e = e
later_version (command.Ask q) d e = e

by_tests : (a b : Bool) (line : List ℕ) (v : Version) → (a ≡ true → line ≡ header_text One)
    → (b ≡ true → line ≡ header_text Two)
    → ◌≡◌ {A = Option Version} (cond a (Some One) (cond b (Some Two) None)) (Some v) → line ≡ header_text v
by_tests true b line One f g e = f refl
by_tests true b line Two f g e = cc
by_tests false true line One f g e = cc
by_tests false true line Two f g e = g refl
by_tests false false line v f g e = cc

-- a line that names a version is its header
pub header_is : (line : List ℕ) (v : Version) → version_in line ≡ Some v → line ≡ header_text v
unfolding version_in
header_is line v e =
    by_tests (bytes_eq line (header_text One)) (bytes_eq line (header_text Two)) line v
    (bytes_eq-Decides line (header_text One)).0 (bytes_eq-Decides line (header_text Two)).0 e
