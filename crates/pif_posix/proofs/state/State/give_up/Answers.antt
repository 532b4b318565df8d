use Rattle.std.proofs.Common.{◌∙◌, refl, sym, ap}
use Rattle.pif_model.specs.Posix.{Progress, mutex_at}
use Rattle.pif_posix_steps.specs.Doing.{given_up, released}
use Rattle.pif_posix_steps.specs.Doing.Does.{did_not}
use Rattle.pif_posix_steps.proofs.DoingCases.{did_this}
use Rattle.pif_posix_steps.proofs.DoingReleases.{given_up-owner, given_up-none}
use Rattle.pif_posix.proofs.state.State.give_up.Goals as goal

pub returns-then-owner-thread : goal.returns-then-owner-thread
returns-then-owner-thread c =
    did_not (given_up-none c.args.thread c.args.mutex c.args.self.now c.args.still (rw (← c.owner.ensures) c.if-owner-thread.true)) refl

pub returns : goal.returns
returns c =
    did_this (given_up c.args.thread c.args.mutex c.args.still c.args.self.now)
    (given_up-owner c.args.thread c.args.mutex c.args.self.now c.args.still (sym c.owner.ensures ∙ c.if-owner-thread.false))
    (c.in_ok-release.ensures
    ∙ ap (λ (p : Progress). released (mutex_at c.args.self.now c.args.mutex).health c.args.thread c.args.mutex p c.args.self.now) c.on_release-progress.ensures)
