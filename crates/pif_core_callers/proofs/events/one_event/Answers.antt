-- The core stands after one event more.
use Rattle.std.proofs.Common.{List, ◌∷◌, subst}
use Rattle.pif_model.specs.declared.events.Event.{Event}
use Rattle.pif_model.specs.declared.events.Entry.{Entry}
use Rattle.pif_model.specs.declared.events.Entry.TheVariants.{Step}
use Rattle.pif_model.specs.Posix.{World}
use Rattle.pif_model.specs.Standing.{Stands}
use Rattle.pif_core_callers.proofs.events.one_event.Goals as goal

pub returns-clause-stands : goal.returns-clause-stands
returns-clause-stands c =
    subst (λ (e : Event). (h : List Entry) (r : List World) (w : World) → Stands c.args.core.now h r w
    → (v : World) × Stands c.step.new.self (Step e c.step.result ∷ h) (w ∷ r) v)
    c.event_for-event.ensures c.step.ensures.stands
