use Rattle.pif_runq.proofs.Bits.{clear_bit}
use Rattle.pif_runq.proofs.masks.without_bit.Goals as goal

pub returns : goal.returns
returns c = clear_bit c.args.mask c.args.i c.requires c.ranges.mask.fits
