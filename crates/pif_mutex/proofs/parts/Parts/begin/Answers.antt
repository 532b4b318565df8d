-- A call that begins leaves the parts sound.
use Rattle.std.proofs.Common.{◌≡◌, ap, ◌∙◌, None}
use Rattle.pif_model.specs.declared.events.Event.TheVariants.{Begin}
use Rattle.pif_model.specs.Table.{Table}
use Rattle.pif_model.specs.Lines.{table_refusal}
use Rattle.pif_model_simulation.proofs.events.SoundTables.{begin_sound}
use Rattle.pif_mutex.proofs.parts.Parts.begin.Goals as goal

pub invariant_of-self : goal.invariant_of-self
invariant_of-self g c =
    let s = c.self.inside.state in
    let q = c.args.request in
    let allowed : table_refusal s (Begin c.args.t q) ≡ None = ap (λ (x : Table). table_refusal x (Begin c.args.t q))
    c.self.view_is ∙ c.requires in
    rw (c.set_timer.ensures, c.timer_of.ensures, c.set_line.ensures.after, c.of.ensures, c.first_place.ensures)
    (begin_sound s c.args.t q c.self.invariant allowed)
