use Rattle.std.proofs.Common.{◌∙◌, ap}
use Rattle.pif_model.specs.Posix.{with_progress}
use Rattle.pif_model.specs.World.Progress.{Has}
use Rattle.pif_posix.proofs.Choosing.{broadcast_is}
use Rattle.pif_posix.proofs.state.State.broadcast.Goals as goal

pub returns : goal.returns
returns c =
    broadcast_is c.args.thread c.args.variable c.args.self.now c.set_progress.new.self c.wake_some.new.all.items c.new-all.result.items
    c.in_ok-marked.marked.items c.as_slice-2.result.now c.as_slice.result.now c.in_ok-blocked.blocked.items
    c.in_ok-wake_some.ensures c.new-all.ensures.items c.as_slice-2.ensures.value c.in_ok-marked.ensures c.as_slice.ensures.value c.in_ok-blocked.ensures
    (c.set_progress.ensures ∙ ap (with_progress c.args.thread (Has 0)) c.in_ok-next.ensures)
