use Rattle.std.proofs.Common.{◌∙◌, ap}
use Rattle.pif_history_machine.specs.Wakeups.{wait_begun}
use Rattle.pif_history_machine.proofs.wakeups.begun.Goals as goal

pub returns-in-Wait : goal.returns-in-Wait
returns-in-Wait c = rw c.in-Wait.is (c.wait_begun.ensures ∙ ap (wait_begun c.args.calls.now) c.get.ensures.value)

pub returns-in-TimedWait : goal.returns-in-TimedWait
returns-in-TimedWait c =
    rw c.in-TimedWait.is
    (c.wait_begun-in-TimedWait.ensures ∙ ap (wait_begun c.args.calls.now) c.get-in-TimedWait.ensures.value)
