-- A new mutex leaves the parts sound.
use Rattle.std.proofs.Common.{ap, ◌∙◌}
use Rattle.pif_model.specs.Table.{Table, has_mutex_room}
use Rattle.pif_model_simulation.proofs.additions.MutexAdded.{mutex_added_sound}
use Rattle.pif_mutex.proofs.parts.Parts.add_mutex.Goals as goal

pub invariant_of-self : goal.invariant_of-self
invariant_of-self g c = rw c.add_mutex.ensures
    (mutex_added_sound c.self.inside.state c.args.kind c.args.robust c.self.invariant
    (ap (λ (x : Table). has_mutex_room x) c.self.view_is ∙ c.requires))
