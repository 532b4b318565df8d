use Rattle.pif_posix.proofs.lost.with_first.Goals as goal

pub returns : goal.returns
returns c = c.joined.ensures _ _ c.one.ensures c.in_ok-copy.ensures.items
