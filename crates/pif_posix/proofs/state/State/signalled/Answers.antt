use Rattle.std.proofs.Common.{◌∙◌, sym, ap}
use Rattle.pif_model.specs.Posix.{with_progress}
use Rattle.pif_model.specs.World.Progress.{Has}
use Rattle.pif_posix.proofs.Choosing.{signalled_some, signalled_none}
use Rattle.pif_posix.proofs.state.State.signalled.Goals as goal

pub returns-then-len-ne0 : goal.returns-then-len-ne0
returns-then-len-ne0 c =
    signalled_some c.args.thread c.args.variable c.args.self.now c.in_ok-all.all.items c.as_slice-3.result.now c.as_slice-2.result.now
    (c.as_slice-2.ensures.value ∙ c.in_ok-blocked.ensures) (c.as_slice-3.ensures.value ∙ c.in_ok-left.ensures) c.in_ok-all.ensures
    (λ z. c.if-len-ne0.true (c.len.ensures ∙ sym c.as_slice-3.ensures.len ∙ z))

pub returns : goal.returns
returns c =
    signalled_none c.args.thread c.args.variable c.args.self.now c.in_ok-all.all.items c.as_slice-3.result.now c.as_slice-2.result.now
    (c.as_slice-2.ensures.value ∙ c.in_ok-blocked.ensures) (c.as_slice-3.ensures.value ∙ c.in_ok-left.ensures) c.in_ok-all.ensures
    c.push.new.items.items c.set_progress.new.self (c.as_slice-3.ensures.len ∙ sym c.len.ensures ∙ c.if-len-ne0.false)
    (c.set_progress.ensures ∙ ap (with_progress c.args.thread (Has 0)) c.in_ok-next.ensures) c.in_ok-push.ensures
