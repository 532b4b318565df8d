use Rattle.std.proofs.Common.{sym}
use Rattle.pif_posix.proofs.locks.locked_beyond.Goals as goal

pub returns : goal.returns
returns c =
    rw (sym c.locked_next-locked.ensures) (rw (sym c.tried_next-tried.ensures) (c.joined.ensures _ _ c.any_beyond.ensures c.any_beyond-2.ensures))
