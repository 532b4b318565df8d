use Rattle.std.proofs.Common.{◌≡◌, sym, subst}
use Rattle.slab.specs.Slab.{ContainsKey, with_value}
use Rattle.slab.proofs.SlabLemmas.{Updates-with_value}
use Rattle.pif_kernel_model.specs.Owners.{with_owner, AreSoundOwners}
use Rattle.pif_plain_rtmutex.specs.StateFields.{owners_from}
use Rattle.pif_plain_rtmutex.proofs.StateFieldsLemmas.{contains-state, owners_from-put}
use Rattle.pif_plain_rtmutex.proofs.rt_mutexes.RtMutexes.set_owner.Goals as goal

pub index_mut-requires : goal.index_mut-requires
index_mut-requires c = contains-state c.self.inside.rows.items c.self.inside.owners c.args.self.now c.get.result c.args.key c.self.view_is c.get.ensures c.requires.state

pub returns-clause-put : goal.returns-clause-put
returns-clause-put c =
    let state : ContainsKey c.self.inside.owners c.get.result = contains-state c.self.inside.rows.items c.self.inside.owners c.args.self.now c.get.result c.args.key c.self.view_is c.get.ensures c.requires.state in
    owners_from-put c.self.inside.rows.items c.self.inside.owners (with_value c.self.inside.owners c.get.result c.args.owner) c.args.self.now c.get.result c.args.key c.args.owner c.self.view_is c.get.ensures
    (Updates-with_value c.self.inside.owners c.get.result c.args.owner state)

pub invariant_of-self : goal.invariant_of-self
invariant_of-self c =
    let put : owners_from c.self.inside.rows.items (with_value c.self.inside.owners c.get.result c.args.owner) ≡ with_owner c.args.key c.args.owner c.args.self.now = returns-clause-put c in
    record {
      room = c.self.invariant.room;
      sound = subst AreSoundOwners (sym put) (c.requires.sound (subst AreSoundOwners c.self.view_is c.self.invariant.sound));
    }

pub returns-clause-sound : goal.returns-clause-sound
returns-clause-sound c = (invariant_of-self c).sound
