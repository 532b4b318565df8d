-- A lock at no place of its own takes the line of who may queue.
use Rattle.std.proofs.Common.{sym, ap, ◌∙◌}
use Rattle.pif_types.specs.declared.requests.Request.{Request}
use Rattle.pif_model.specs.Lines.{locking_line}
use Rattle.pif_mutex.proofs.Locking.{lock_goes_on}
use Rattle.pif_mutex.proofs.state.State.lock_step.Goals as goal

pub returns-in_default : goal.returns-in_default
returns-in_default g c =
    c.locking_step.ensures
    ∙ ap (λ (q : Request). locking_line q c.args.place c.args.t c.args.m c.args.self.now) c.requires.is
    ∙ sym (lock_goes_on c.args.m c.args.place c.args.t c.args.self.now c.in_default.not-Load
    c.in_default.not-NamePending c.in_default.not-StayQueued c.in_default.not-StayStopped)
