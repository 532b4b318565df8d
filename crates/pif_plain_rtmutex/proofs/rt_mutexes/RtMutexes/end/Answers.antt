use Rattle.std.proofs.Common.{◌≡◌, sym, subst, ap, arith}
use Rattle.pif_kernel_model.specs.Owners.{count, without_state, AreSoundOwners}
use Rattle.pif_plain_rtmutex.specs.StateFields.{owners_from}
use Rattle.pif_kernel_model.proofs.OwnersLemmas.{sound-ended}
use Rattle.pif_plain_rtmutex.proofs.StateFieldsLemmas.{contains-state, owners_from-removed}
use Rattle.pif_kernel_model.proofs.MapLemmas.{len-owners_of}
use Rattle.pif_plain_rtmutex.proofs.rt_mutexes.RtMutexes.end.Goals as goal

pub remove-requires : goal.remove-requires
remove-requires c = contains-state c.self.inside.rows.items c.self.inside.owners c.args.self.now c.get.result c.args.key c.self.view_is c.get.ensures c.requires.state

pub returns-clause-ended : goal.returns-clause-ended
returns-clause-ended c = owners_from-removed c.self.inside.rows.items c.self.inside.owners c.remove.new.self c.args.self.now c.get.result c.args.key c.self.view_is c.get.ensures c.remove.ensures.updates

pub returns-clause-count : goal.returns-clause-count
returns-clause-count c = omega (arith, len-owners_of c.self.inside.owners, len-owners_of c.remove.new.self, ap count c.self.view_is, c.remove.ensures.len)

pub invariant_of-self : goal.invariant_of-self
invariant_of-self c = record {
  room = omega (arith, c.self.invariant.room, c.remove.ensures.capacity);
  sound =
      let ended : owners_from c.self.inside.rows.items c.remove.new.self ≡ without_state c.args.key c.args.self.now = returns-clause-ended c in
      subst AreSoundOwners (sym ended) (sound-ended c.args.key c.args.self.now c.requires.free (subst AreSoundOwners c.self.view_is c.self.invariant.sound));
}

pub returns-clause-acyclic : goal.returns-clause-acyclic
returns-clause-acyclic c = (invariant_of-self c).sound.acyclic
