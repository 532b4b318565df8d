-- A lock that is not due goes on as it was queued.
use Rattle.std.proofs.Common.{◌≡◌, false, sym, ap, ◌∙◌}
use Rattle.pif_types.specs.declared.requests.Request.{Request}
use Rattle.pif_types.specs.declared.requests.Request.TheVariants.{Lock}
use Rattle.pif_model.specs.declared.lines.Line.TheVariants.{At}
use Rattle.pif_model.specs.declared.lines.Place.TheVariants.{StayQueued}
use Rattle.pif_model.specs.Lines.{is_line_due, lock_queued}
use Rattle.pif_mutex.proofs.Locking.{queued_goes}
use Rattle.pif_mutex.proofs.state.State.lock_stay_queued.Goals as goal

pub returns-else-is_due_at : goal.returns-else-is_due_at
returns-else-is_due_at g c =
    let due : is_line_due (At (Lock c.args.m) StayQueued) c.args.t c.args.self.now ≡ false
    = ap (λ (q : Request). is_line_due (At q StayQueued) c.args.t c.args.self.now) (sym c.requires.is)
    ∙ sym c.is_due_at.ensures ∙ c.if-is_due_at.false in
    c.lock_queued.ensures
    ∙ ap (λ (q : Request). lock_queued q c.args.t c.args.m c.args.self.now) c.requires.is
    ∙ sym (queued_goes c.args.m c.args.t c.args.self.now due)
