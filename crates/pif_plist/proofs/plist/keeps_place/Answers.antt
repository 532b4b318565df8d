use Rattle.std.proofs.Common.{sym}
use Rattle.pif_plist.proofs.RekeyLemmas.{prev_there, next_there}
use Rattle.pif_plist.proofs.plist.keeps_place.Goals as goal

pub key-requires : goal.key-requires
key-requires c =
    prev_there c.args.table.now c.args.node c.in-Some.before c.in-Some.ensures.apart (sym c.in-Some.ensures.neighbour)

pub key-requires-in-Some-next : goal.key-requires-in-Some-next
key-requires-in-Some-next c =
    next_there c.args.table.now c.args.node c.in-Some-next.behind c.in-Some-next.ensures.apart
    (sym c.in-Some-next.ensures.neighbour)
