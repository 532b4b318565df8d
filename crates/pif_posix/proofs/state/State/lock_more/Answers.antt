use Rattle.std.proofs.Common.{◌∙◌, refl, sym, ap, ◌+◌}
use Rattle.pif_model.specs.Posix.{with_progress, with_hold_count}
use Rattle.pif_model.specs.World.Progress.{Has}
use Rattle.pif_posix_steps.specs.Doing.{locked_more}
use Rattle.pif_posix_steps.specs.Doing.Does.{did_not}
use Rattle.pif_posix_steps.proofs.DoingCases.{did_this}
use Rattle.pif_posix_steps.proofs.DoingLocks.{locked_more-rises, locked_more-at_limit, locked_more-none}
use Rattle.pif_posix.proofs.state.State.lock_more.Goals as goal

pub returns-then-count-lt-MOST_HOLDS : goal.returns-then-count-lt-MOST_HOLDS
returns-then-count-lt-MOST_HOLDS c =
    did_this (locked_more c.args.thread c.args.mutex c.args.self.now)
    (locked_more-rises c.args.thread c.args.mutex c.args.self.now (rw (← c.count-count.ensures) c.if-count-lt-MOST_HOLDS.true))
    (c.set_progress.ensures ∙ ap (with_progress c.args.thread (Has 0)) (c.set_count.ensures ∙ ap (λ n. with_hold_count c.args.mutex (n + 1) c.args.self.now) c.count-count.ensures))

pub returns-then-count-eq-MOST_HOLDS : goal.returns-then-count-eq-MOST_HOLDS
returns-then-count-eq-MOST_HOLDS c =
    did_this (locked_more c.args.thread c.args.mutex c.args.self.now)
    (locked_more-at_limit c.args.thread c.args.mutex c.args.self.now (sym c.count-count.ensures ∙ c.if-count-eq-MOST_HOLDS.true)) c.fail.ensures

pub returns-else-count-eq-MOST_HOLDS : goal.returns-else-count-eq-MOST_HOLDS
returns-else-count-eq-MOST_HOLDS c =
    did_not (locked_more-none c.args.thread c.args.mutex c.args.self.now (rw (← c.count-count.ensures) c.if-count-lt-MOST_HOLDS.false) (rw (← c.count-count.ensures) c.if-count-eq-MOST_HOLDS.false)) refl
