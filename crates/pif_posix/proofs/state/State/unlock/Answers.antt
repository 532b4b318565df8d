use Rattle.std.proofs.Common.{◌<◌, ◌∙◌, refl, sym, ap, ◌-◌, arith}
use Rattle.pif_model.specs.Posix.{mutex_at, with_progress, with_hold_count}
use Rattle.pif_model.specs.World.Progress.{Has}
use Rattle.pif_posix_steps.specs.Doing.{unlocked}
use Rattle.pif_posix_steps.specs.Doing.Does.{did_not}
use Rattle.pif_posix_steps.proofs.DoingCases.{did_this}
use Rattle.pif_posix_steps.proofs.DoingReleases.{unlocked-not_owner, unlocked-once, unlocked-falls, unlocked-none}
use Rattle.pif_posix.proofs.state.State.unlock.Goals as goal

pub returns-then-owner-thread : goal.returns-then-owner-thread
returns-then-owner-thread c =
    did_this (unlocked c.args.thread c.args.mutex c.args.self.now)
    (unlocked-not_owner c.args.thread c.args.mutex c.args.self.now (rw (← c.owner-owner.ensures) c.if-owner-thread.true)) c.fail.ensures

pub returns-then-count-eq0 : goal.returns-then-count-eq0
returns-then-count-eq0 c =
    did_not (unlocked-none c.args.thread c.args.mutex c.args.self.now (sym c.owner-owner.ensures ∙ c.if-owner-thread.false) (sym c.count-count.ensures ∙ c.if-count-eq0.true)) refl

pub returns-then-count-eq1 : goal.returns-then-count-eq1
returns-then-count-eq1 c =
    did_this (unlocked c.args.thread c.args.mutex c.args.self.now)
    (unlocked-once c.args.thread c.args.mutex c.args.self.now (sym c.owner-owner.ensures ∙ c.if-owner-thread.false) (sym c.count-count.ensures ∙ c.if-count-eq1.true)) c.in_ok-release.ensures

pub returns : goal.returns
returns c =
    let more : 1 < (mutex_at c.args.self.now c.args.mutex).count = omega (arith, c.count-count.ensures, c.if-count-eq0.false, c.if-count-eq1.false) in
    did_this (unlocked c.args.thread c.args.mutex c.args.self.now)
    (unlocked-falls c.args.thread c.args.mutex c.args.self.now (sym c.owner-owner.ensures ∙ c.if-owner-thread.false) more)
    (c.set_progress.ensures ∙ ap (with_progress c.args.thread (Has 0)) (c.set_count.ensures ∙ ap (λ n. with_hold_count c.args.mutex (n - 1) c.args.self.now) c.count-count.ensures))
