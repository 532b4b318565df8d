use Rattle.pif_posix.proofs.locks.locked_or_refused.Goals as goal

pub returns : goal.returns
returns c = c.joined.ensures _ _ c.locked_below.ensures c.refused_within.ensures
