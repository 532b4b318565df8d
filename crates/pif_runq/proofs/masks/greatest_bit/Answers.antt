use Rattle.pif_runq.proofs.Bits.{greatest_found}
use Rattle.pif_runq.proofs.masks.greatest_bit.Goals as goal

pub returns-clause-greatest : goal.returns-clause-greatest
returns-clause-greatest c = greatest_found c.args.mask c.checked_ilog2.result c.checked_ilog2.ensures.power_le c.checked_ilog2.ensures.next_power_gt
