use Rattle.std.proofs.Common.{◌∙◌, sym, ap}
use Rattle.pif_model.specs.Kinds.{relock_of}
use Rattle.pif_model.specs.declared.lines.Relock.TheVariants.{Deadlocks, Answers}
use Rattle.pif_model.specs.Posix.{leads_to, with_progress}
use Rattle.pif_model.specs.World.Progress.{Waiting}
use Rattle.pif_posix_steps.specs.Doing.{locked}
use Rattle.pif_posix_steps.proofs.DoingCases.{did_this}
use Rattle.pif_posix_steps.proofs.DoingLocks.{locked-relock, locked-free, locked-orphaned, locked-cycle, locked-joins}
use Rattle.pif_posix.proofs.state.State.lock.Goals as goal

pub returns-in-Normal : goal.returns-in-Normal
returns-in-Normal c =
    did_this (locked c.args.thread c.args.mutex c.args.self.now)
    (locked-relock c.args.thread c.args.mutex c.args.self.now Deadlocks (sym c.owner-owner.ensures ∙ c.if-owner-thread.true) (ap relock_of (sym c.in-Normal.ensures))) c.set_progress.ensures

pub returns-in-ErrorCheck : goal.returns-in-ErrorCheck
returns-in-ErrorCheck c =
    did_this (locked c.args.thread c.args.mutex c.args.self.now)
    (locked-relock c.args.thread c.args.mutex c.args.self.now Answers (sym c.owner-owner.ensures ∙ c.if-owner-thread.true) (ap relock_of (sym c.in-ErrorCheck.ensures))) c.fail.ensures

pub returns-then-owner-eq0 : goal.returns-then-owner-eq0
returns-then-owner-eq0 c =
    did_this (locked c.args.thread c.args.mutex c.args.self.now)
    (locked-free c.args.thread c.args.mutex c.args.self.now (rw (← c.owner-owner.ensures) c.if-owner-thread.false) (sym c.owner-owner.ensures ∙ c.if-owner-eq0.true)) c.take.ensures

pub returns-then-is_orphaned : goal.returns-then-is_orphaned
returns-then-is_orphaned c =
    did_this (locked c.args.thread c.args.mutex c.args.self.now)
    (locked-orphaned c.args.thread c.args.mutex c.args.self.now (rw (← c.owner-owner.ensures) c.if-owner-thread.false) (rw (← c.owner-owner.ensures) c.if-owner-eq0.false) (sym c.is_orphaned.ensures ∙ c.if-is_orphaned.true)) c.set_progress-then-is_orphaned.ensures

pub returns-then-leads_to : goal.returns-then-leads_to
returns-then-leads_to c =
    did_this (locked c.args.thread c.args.mutex c.args.self.now)
    (locked-cycle c.args.thread c.args.mutex c.args.self.now (rw (← c.owner-owner.ensures) c.if-owner-thread.false) (rw (← c.owner-owner.ensures) c.if-owner-eq0.false)
    (sym c.is_orphaned.ensures ∙ c.if-is_orphaned.false) (ap (λ o. leads_to c.args.self.now o c.args.thread) (sym c.owner-owner.ensures) ∙ sym c.leads_to.ensures ∙ c.if-leads_to.true))
    c.fail-then-leads_to.ensures

pub returns-in_ok-push_waiter : goal.returns-in_ok-push_waiter
returns-in_ok-push_waiter c =
    did_this (locked c.args.thread c.args.mutex c.args.self.now)
    (locked-joins c.args.thread c.args.mutex c.args.self.now (rw (← c.owner-owner.ensures) c.if-owner-thread.false) (rw (← c.owner-owner.ensures) c.if-owner-eq0.false)
    (sym c.is_orphaned.ensures ∙ c.if-is_orphaned.false) (ap (λ o. leads_to c.args.self.now o c.args.thread) (sym c.owner-owner.ensures) ∙ sym c.leads_to.ensures ∙ c.if-leads_to.false))
    (c.set_progress-else-leads_to.ensures ∙ ap (with_progress c.args.thread Waiting) c.in_ok-push_waiter.ensures)
