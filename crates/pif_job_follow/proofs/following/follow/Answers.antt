use Rattle.std.proofs.Common.{inl, inr, refl}
use Rattle.std.proofs.KnownBytes.{Keeps-refl}
use Rattle.pif_job_follow.proofs.following.follow.Goals as goal

pub returns-in-Ok : goal.returns-in-Ok
returns-in-Ok g c = inl (c.in-Ok.said.text.items, c.in-Ok.said.end, c.in-Ok.ensures, c.write_said.ensures)

pub returns-in-Err : goal.returns-in-Err
returns-in-Err g c = inr (c.in-Err.fault, refl, Keeps-refl (g.W.Write.contents c.args.writer.now))
