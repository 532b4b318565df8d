use Rattle.std.proofs.Common.{◌≡◌, None, sym, subst, ap, ◌∙◌, arith}
use Rattle.pif_kernel_model.specs.Owners.{Owners, owner_at, count, waits_on, with_owner, HasNoWaiter, AreSoundOwners}
use Rattle.pif_plain_rtmutex.specs.StateFields.{owners_from}
use Rattle.pif_kernel_model.proofs.OwnersLemmas.{sound-made, no_waiter-without_state}
use Rattle.pif_plain_rtmutex.proofs.StateFieldsLemmas.{value-owner, room-for_one, owners_from-put}
use Rattle.pif_kernel_model.proofs.MapLemmas.{len-owners_of}
use Rattle.pif_plain_rtmutex.proofs.rt_mutexes.RtMutexes.make.Goals as goal

pub insert_reserved-requires : goal.insert_reserved-requires
insert_reserved-requires c = room-for_one c.self.inside.rows.items c.self.inside.owners c.args.self.now c.self.view_is c.self.invariant.room c.requires.room

pub returns-clause-fresh : goal.returns-clause-fresh
returns-clause-fresh c = sym (value-owner c.self.inside.rows.items c.self.inside.owners c.args.self.now c.insert_reserved.result c.new.result c.self.view_is (sym c.new.ensures)) ∙ c.insert_reserved.ensures.was_vacant

pub returns-clause-made : goal.returns-clause-made
returns-clause-made c = owners_from-put c.self.inside.rows.items c.self.inside.owners c.insert_reserved.new.self c.args.self.now c.insert_reserved.result c.new.result c.args.owner c.self.view_is (sym c.new.ensures) c.insert_reserved.ensures.updates

pub returns-clause-count : goal.returns-clause-count
returns-clause-count c = omega (arith, len-owners_of c.self.inside.owners, len-owners_of c.insert_reserved.new.self, ap count c.self.view_is, c.insert_reserved.ensures.len)

pub invariant_of-self : goal.invariant_of-self
invariant_of-self c =
    let fresh : owner_at c.args.self.now c.new.result ≡ None = returns-clause-fresh c in
    let made : owners_from c.self.inside.rows.items c.insert_reserved.new.self ≡ with_owner c.new.result c.args.owner c.args.self.now = returns-clause-made c in
    record {
      room = omega (arith, c.self.invariant.room, c.insert_reserved.ensures.capacity);
      sound = subst AreSoundOwners (sym made) (sound-made c.new.result c.args.owner c.args.self.now fresh (subst AreSoundOwners c.self.view_is c.self.invariant.sound));
    }

pub returns-clause-free : goal.returns-clause-free
returns-clause-free c =
    let fresh : owner_at c.args.self.now c.new.result ≡ None = returns-clause-fresh c in
    let none : HasNoWaiter c.args.self.now c.new.result = no_waiter-without_state c.args.self.now c.new.result (subst AreSoundOwners c.self.view_is c.self.invariant.sound) fresh in
    λ t w. none t (ap (λ (v : Owners). waits_on v t) (sym c.self.view_is) ∙ w)

pub returns-clause-acyclic : goal.returns-clause-acyclic
returns-clause-acyclic c = (invariant_of-self c).sound.acyclic
