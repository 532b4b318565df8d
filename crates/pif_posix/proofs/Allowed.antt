-- Whether an event is allowed, by why it would be refused.
use Rattle.std.proofs.Common.{◌≡◌, ◌∙◌, Bool, true, false, Option, sym, ap, if◌then◌else◌}
use Rattle.std.specs.Prelude.{is_some}
use Rattle.pif_types.specs.declared.errors.Refusal.{Refusal}
use Rattle.pif_model.specs.declared.events.Event.{Event}
use Rattle.pif_model.specs.Posix.{World, refusal_of}
use Rattle.pif_posix_steps.specs.Doing.{is_allowed}

allowed_by : (w : World) (x : Event) (o : Option Refusal) (b : Bool) → o ≡ refusal_of w x → is_some o ≡ b → is_allowed w x ≡ (if b then false else true)
allowed_by w x o b e f = ap (λ (r : Option Refusal). if is_some r then false else true) (sym e) ∙ ap (λ (c : Bool). if c then false else true) f

pub allowed : (w : World) (x : Event) (o : Option Refusal) → o ≡ refusal_of w x → is_some o ≡ false → is_allowed w x ≡ true
allowed w x o e f = allowed_by w x o false e f

pub not_allowed : (w : World) (x : Event) (o : Option Refusal) → o ≡ refusal_of w x → is_some o ≡ true → is_allowed w x ≡ false
not_allowed w x o e f = allowed_by w x o true e f
