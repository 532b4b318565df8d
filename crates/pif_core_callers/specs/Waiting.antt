-- What one round of waiting comes to.
use Rattle.std.specs.Prelude.{Bool, ◌==◌, if◌then◌else◌}
use Rattle.pif_model.specs.declared.events.Seen.{Seen}
use Rattle.pif_model.specs.declared.events.Seen.TheVariants.{Answered}
use Rattle.pif_core_callers.specs.declared.waiting.Awaited.{Awaited}
use Rattle.pif_core_callers.specs.declared.waiting.Awaited.TheVariants.{Met, Not}

-- a test that is met, or else what the wait was answered
abbrev pub awaited_by : Bool → Seen → Awaited
awaited_by met seen = if met then Met else Not seen

-- of two tables or histories that which there is after a test: the first if it is met, else that after the wait
abbrev pub if_waited : {A : Type 0} → Bool → (before after : A) → A
if_waited met before after = if met then before else after

-- a wait that was open and has finished so, and what another wait is answered: only after 0 there is another test, and
-- another wait if that is not met
abbrev pub resumed_by : Bool → Seen → Seen → Awaited
resumed_by met (Answered a) again = if a == 0 then awaited_by met again else Not (Answered a)
resumed_by met seen again = Not seen

-- of two tables or histories that which there is then: after the first wait, or after the other
abbrev pub if_resumed : {A : Type 0} → Bool → Seen → (finished again : A) → A
if_resumed met (Answered a) finished again = if a == 0 then if_waited met finished again else finished
if_resumed met seen finished again = finished
