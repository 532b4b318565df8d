-- Nobody sleeps at first.
use Rattle.std.proofs.Common.{sym, subst, arith}
use Rattle.pif_desk.specs.Sleeping.{AreSleepers}
use Rattle.pif_desk.proofs.Sleeping.{no_sleepers}
use Rattle.pif_desk.proofs.sleepers.Sleepers.new.Goals as goal

pub invariant_of-result : goal.invariant_of-result
invariant_of-result c = (
  subst AreSleepers (sym c.in_ok-threads.ensures.items) no_sleepers,
  omega (arith, c.in_ok-threads.ensures.room),
)
