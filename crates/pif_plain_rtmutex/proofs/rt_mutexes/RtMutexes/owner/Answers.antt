use Rattle.std.proofs.Common.{sym, ◌∙◌}
use Rattle.pif_plain_rtmutex.proofs.StateFieldsLemmas.{value-owner, contains-state}
use Rattle.pif_plain_rtmutex.proofs.rt_mutexes.RtMutexes.owner.Goals as goal

pub index-requires : goal.index-requires
index-requires c = contains-state c.self.inside.rows.items c.self.inside.owners c.args.self.now c.get.result c.args.key c.self.view_is c.get.ensures c.requires

pub returns : goal.returns
returns c = record { value = sym (value-owner c.self.inside.rows.items c.self.inside.owners c.args.self.now c.get.result c.args.key c.self.view_is c.get.ensures) ∙ c.index.ensures }
