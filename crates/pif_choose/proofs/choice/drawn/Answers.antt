use Rattle.std.proofs.Common.{◌<◌, length, arith}
use Rattle.pif_choose.proofs.Choosing.{drawn-chosen}
use Rattle.pif_choose.proofs.choice.drawn.Goals as goal

pub returns : goal.returns
returns c =
    let some : 0 < length c.args.can.now = grind (arith, c.if-is_empty.false, c.if-is_empty.ensures, c.is_empty.ensures) in
    drawn-chosen c.args.can.now c.args.number _ some
