use Rattle.pif_posix.proofs.health.mended_or_refused.Goals as goal

pub returns : goal.returns
returns c = c.joined.ensures _ _ c.mended_by_any.ensures c.refused_free.ensures
