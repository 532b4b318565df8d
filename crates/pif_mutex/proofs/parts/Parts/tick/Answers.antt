-- A tick leaves the parts sound.
use Rattle.std.proofs.Common.{ap, ◌∙◌}
use Rattle.pif_model.specs.declared.events.Event.TheVariants.{Tick}
use Rattle.pif_model.specs.Table.{Table}
use Rattle.pif_model.specs.Lines.{table_refusal}
use Rattle.pif_model_simulation.proofs.events.SoundTables.{tick_sound}
use Rattle.pif_mutex.proofs.parts.Parts.tick.Goals as goal

pub invariant_of-self : goal.invariant_of-self
invariant_of-self g c =
    rw c.set_time.ensures (tick_sound c.self.inside.state c.args.time c.self.invariant
    (ap (λ (x : Table). table_refusal x (Tick c.args.time)) c.self.view_is ∙ c.requires))
