use Rattle.std.proofs.Common.{arith, sym, ap, ◌∙◌}
use Rattle.pif_posix_steps.specs.Doing.{all_blocked}
use Rattle.pif_posix.proofs.Nobody.{chosen_nobody}
use Rattle.pif_posix.proofs.state.State.wake_nobody.Goals as goal

pub returns : goal.returns
returns c = λ h.
    chosen_nobody c.args.thread c.args.request.now c.args.self.now c.set_progress.new.self c.in_ok-blocked.blocked.items
    (sym c.is_use.ensures ∙ c.if-not-is_use.false)
    (c.in_ok-blocked.ensures ∙ ap (all_blocked c.args.self.now) c.variable_of.ensures)
    (omega (arith, c.len.ensures, c.if-len-ne0.false, c.in_ok-blocked.blocked.ok.0)) c.set_progress.ensures
