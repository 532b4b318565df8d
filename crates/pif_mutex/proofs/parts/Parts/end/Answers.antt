-- The end of a thread leaves the parts sound.
use Rattle.std.proofs.Common.{ap, ◌∙◌}
use Rattle.pif_model.specs.PiKernel.{is_living}
use Rattle.pif_model.specs.Table.{Table}
use Rattle.pif_model_simulation.proofs.events.SoundTables.{end_sound}
use Rattle.pif_mutex.proofs.parts.Parts.end.Goals as goal

pub invariant_of-self : goal.invariant_of-self
invariant_of-self g c = rw c.end.ensures
    (end_sound c.self.inside.state c.args.t c.self.invariant
    (ap (λ (x : Table). is_living x.kernel c.args.t) c.self.view_is ∙ c.requires.living))
