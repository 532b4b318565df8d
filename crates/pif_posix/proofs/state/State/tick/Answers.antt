use Rattle.std.proofs.Common.{◌∙◌, refl, sym, ap}
use Rattle.pif_model.specs.World.{World}
use Rattle.pif_model.specs.declared.events.Event.TheVariants.{Tick}
use Rattle.pif_posix_steps.specs.Doing.{ticked}
use Rattle.pif_posix_steps.specs.Doing.Does.{did_not}
use Rattle.pif_posix_steps.proofs.DoingCases.{did_this}
use Rattle.pif_posix.proofs.Allowed.{allowed, not_allowed}
use Rattle.pif_posix.proofs.Entering.{ticked-allowed, ticked-refused}
use Rattle.pif_posix.proofs.state.State.tick.Goals as goal

pub returns-then-is_some : goal.returns-then-is_some
returns-then-is_some c =
    did_not
    (ticked-refused c.args.time c.args.self.now
    (not_allowed c.args.self.now (Tick c.args.time) c.tick_refusal.result c.tick_refusal.ensures (sym c.is_some.ensures ∙ c.if-is_some.true))) refl

pub returns : goal.returns
returns c =
    did_this (ticked c.args.time c.args.self.now)
    (ticked-allowed c.args.time c.args.self.now
    (allowed c.args.self.now (Tick c.args.time) c.tick_refusal.result c.tick_refusal.ensures (sym c.is_some.ensures ∙ c.if-is_some.false)))
    (ap (λ (w : World). record w { time = c.args.time }) c.self.view_is)
