use Rattle.std.proofs.Common.{◌<◌, ◌∙◌, refl, sym, arith}
use Rattle.pif_model.specs.Posix.{mutex_at}
use Rattle.pif_posix_steps.specs.Doing.{wait_checked}
use Rattle.pif_posix_steps.specs.Doing.Does.{did_not}
use Rattle.pif_posix_steps.proofs.DoingCases.{did_this}
use Rattle.pif_posix_steps.proofs.DoingCalls.{wait_checked-other_mutex, wait_checked-not_owner, wait_checked-held_more, wait_checked-once, wait_checked-none}
use Rattle.pif_posix.proofs.state.State.check_wait.Goals as goal

pub returns-then-bound-mutex : goal.returns-then-bound-mutex
returns-then-bound-mutex c =
    did_this (wait_checked c.args.thread c.args.variable c.args.mutex c.args.self.now)
    (wait_checked-other_mutex c.args.thread c.args.variable c.args.mutex c.args.self.now (rw (← c.bound.ensures) c.if-bound-mutex.true)) c.fail.ensures

pub returns-then-owner-thread : goal.returns-then-owner-thread
returns-then-owner-thread c =
    did_this (wait_checked c.args.thread c.args.variable c.args.mutex c.args.self.now)
    (wait_checked-not_owner c.args.thread c.args.variable c.args.mutex c.args.self.now (sym c.bound.ensures ∙ c.if-bound-mutex.false)
    (rw (← c.owner.ensures) c.if-owner-thread.true)) c.fail-then-owner-thread.ensures

pub returns-then-count-eq0 : goal.returns-then-count-eq0
returns-then-count-eq0 c =
    did_not
    (wait_checked-none c.args.thread c.args.variable c.args.mutex c.args.self.now (sym c.bound.ensures ∙ c.if-bound-mutex.false)
    (sym c.owner.ensures ∙ c.if-owner-thread.false) (sym c.count-count.ensures ∙ c.if-count-eq0.true)) refl

pub returns-then-count-eq1 : goal.returns-then-count-eq1
returns-then-count-eq1 c =
    did_this (wait_checked c.args.thread c.args.variable c.args.mutex c.args.self.now)
    (wait_checked-once c.args.thread c.args.variable c.args.mutex c.args.self.now (sym c.bound.ensures ∙ c.if-bound-mutex.false)
    (sym c.owner.ensures ∙ c.if-owner-thread.false) (sym c.count-count.ensures ∙ c.if-count-eq1.true)) c.set_progress.ensures

pub returns : goal.returns
returns c =
    let more : 1 < (mutex_at c.args.self.now c.args.mutex).count = omega (arith, c.count-count.ensures, c.if-count-eq0.false, c.if-count-eq1.false) in
    did_this (wait_checked c.args.thread c.args.variable c.args.mutex c.args.self.now)
    (wait_checked-held_more c.args.thread c.args.variable c.args.mutex c.args.self.now (sym c.bound.ensures ∙ c.if-bound-mutex.false)
    (sym c.owner.ensures ∙ c.if-owner-thread.false) more) c.fail-2.ensures
