use Rattle.std.proofs.Common.{◌∙◌, sym, ap}
use Rattle.pif_model.specs.Kinds.{relock_of}
use Rattle.pif_model.specs.declared.lines.Relock.TheVariants.{Deadlocks, Answers}
use Rattle.pif_posix_steps.specs.Doing.{tried}
use Rattle.pif_posix_steps.proofs.DoingCases.{did_this}
use Rattle.pif_posix_steps.proofs.DoingLocks.{tried-free, tried-own, tried-busy}
use Rattle.pif_posix.proofs.state.State.try_lock.Goals as goal

pub returns-then-owner-eq0 : goal.returns-then-owner-eq0
returns-then-owner-eq0 c =
    did_this (tried c.args.thread c.args.mutex c.args.self.now)
    (tried-free c.args.thread c.args.mutex c.args.self.now (sym c.owner-owner.ensures ∙ c.if-owner-eq0.true)) c.take.ensures

pub returns-then-owner-thread : goal.returns-then-owner-thread
returns-then-owner-thread c =
    did_this (tried c.args.thread c.args.mutex c.args.self.now)
    (tried-busy c.args.thread c.args.mutex c.args.self.now (rw (← c.owner-owner.ensures) c.if-owner-eq0.false)
    (rw (← c.owner-owner.ensures) c.if-owner-thread.true)) c.fail.ensures

pub returns-in-Normal : goal.returns-in-Normal
returns-in-Normal c =
    did_this (tried c.args.thread c.args.mutex c.args.self.now)
    (tried-own c.args.thread c.args.mutex c.args.self.now Deadlocks (rw (← c.owner-owner.ensures) c.if-owner-eq0.false)
    (sym c.owner-owner.ensures ∙ c.if-owner-thread.false) (ap relock_of (sym c.in-Normal.ensures))) c.fail-in-Normal.ensures

pub returns-in-ErrorCheck : goal.returns-in-ErrorCheck
returns-in-ErrorCheck c =
    did_this (tried c.args.thread c.args.mutex c.args.self.now)
    (tried-own c.args.thread c.args.mutex c.args.self.now Answers (rw (← c.owner-owner.ensures) c.if-owner-eq0.false)
    (sym c.owner-owner.ensures ∙ c.if-owner-thread.false) (ap relock_of (sym c.in-ErrorCheck.ensures))) c.fail-in-ErrorCheck.ensures
