use Rattle.std.proofs.Common.{◌≡◌, length}
use Rattle.pif_posix_steps.specs.Doing.{inherited_below}
use Rattle.pif_posix.proofs.state.State.inherit_in_order.Given as goal

abbrev pub invariant-loop-mutex : goal.invariant-loop-mutex
invariant-loop-mutex l =
    (length l.self.mutexes ≡ length l.initial.self.mutexes)
    × (inherited_below l.mutex l.thread l.self ≡ inherited_below (length l.initial.self.mutexes) l.thread l.initial.self)
