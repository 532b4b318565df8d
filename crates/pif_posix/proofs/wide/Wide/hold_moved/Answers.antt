use Rattle.pif_posix.proofs.wide.Wide.hold_moved.Goals as goal

pub returns : goal.returns
returns c = c.joined.ensures _ _ c.hold_given.ensures c.hold_taken.ensures
