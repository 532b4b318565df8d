use Rattle.std.proofs.Common.{arith, ap, length}
use Rattle.pif_robust.proofs.WalkLemmas.{entry_within}
use Rattle.pif_robust.proofs.lists.RobustLists.walk_first.Goals as goal

pub settle-requires : goal.settle-requires
settle-requires c = λ x h. omega (
  arith,
  ap length c.deref.ensures.value,
  entry_within c.self.view_is c.self.invariant c.args.t c.head-head.ensures.first h,
)
