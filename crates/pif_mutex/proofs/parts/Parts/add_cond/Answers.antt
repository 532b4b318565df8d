-- A new condition variable leaves the parts sound.
use Rattle.std.proofs.Common.{ap, ◌∙◌}
use Rattle.pif_model.specs.Table.{Table, has_mutex, has_cond_room}
use Rattle.pif_model_simulation.proofs.additions.CondAdded.{cond_added_sound}
use Rattle.pif_mutex.proofs.parts.Parts.add_cond.Goals as goal

pub invariant_of-self : goal.invariant_of-self
invariant_of-self g c = rw c.add_cond.ensures
    (cond_added_sound c.self.inside.state c.args.m c.self.invariant
    (ap (λ (x : Table). has_mutex x c.args.m) c.self.view_is ∙ c.requires.named)
    (ap (λ (x : Table). has_cond_room x) c.self.view_is ∙ c.requires.room))
