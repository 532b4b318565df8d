-- A new thread leaves the parts sound.
use Rattle.std.proofs.Common.{ap, ◌∙◌, rules}
use Rattle.pif_model.specs.Table.{Table, has_thread_room}
use Rattle.pif_model_simulation.proofs.additions.ThreadAdded.{thread_added_sound}
use Rattle.pif_model_simulation.proofs.events.SoundTables.{priority}
use Rattle.pif_mutex.proofs.parts.Parts.add_thread.Goals as goal

pub invariant_of-self : goal.invariant_of-self
invariant_of-self g c =
    let s = c.self.inside.state in
    rw c.add_thread.ensures.after
    (thread_added_sound s c.args.prio c.self.invariant
    (ap (λ (x : Table). has_thread_room x) c.self.view_is ∙ c.requires)
    (priority c.args.prio (search rules) (search rules)))
