use Rattle.pif_posix.proofs.barging.barged.Goals as goal

pub returns : goal.returns
returns c = c.joined.ensures _ _ c.freed_by.ensures c.taken_free.ensures
