use Rattle.std.proofs.Common.{arith, refl}
use Rattle.pif_components.specs.Groups.{name_of}
use Rattle.pif_components.proofs.GroupLemmas.{founded}
use Rattle.pif_components.proofs.groups.Groups.found.Goals as goal

pub returns-in-Some : goal.returns-in-Some
returns-in-Some c = λ bounded place none.
    founded (name_of c.args.object) c.args.self.now c.put.new.self _ c.put.ensures refl refl refl (omega (arith, c.in-Some.ensures))
    bounded place none
