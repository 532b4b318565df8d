use Rattle.std.proofs.Common.{◌-◌, length}
use Rattle.pif_posix.proofs.state.State.+wake_some.Given as goal

abbrev pub decreases-wake_some : goal.decreases-wake_some
decreases-wake_some l = length l.marked.now - l.from
