use Rattle.std.proofs.Common.{arith, ◌<◌, refl, length}
use Rattle.pif_robust.proofs.CallLemmas.{Shows-pending, sound_seen}
use Rattle.pif_robust.proofs.lists.RobustLists.clear_pending.Goals as goal

pub invariant_of-self : goal.invariant_of-self
invariant_of-self c =
    let within : c.get-place.result < length c.self.inside.heads.items = omega arith in
    (Shows-pending c.self.view_is c.self.invariant 0 c.get-place.ensures.range c.get-place.ensures.value within
    c.index_mut.ensures.value refl (omega arith)).invariant

pub returns-then-place-len : goal.returns-then-place-len
returns-then-place-len c =
    let within : c.get-place.result < length c.self.inside.heads.items = omega arith in
    let now = Shows-pending c.self.view_is c.self.invariant 0 c.get-place.ensures.range c.get-place.ensures.value within
    c.index_mut.ensures.value refl (omega arith) in
    record { pending = now.view; sound = now.sound }

pub returns-else-place-len-clause-sound : goal.returns-else-place-len-clause-sound
returns-else-place-len-clause-sound c = sound_seen c.self.view_is c.self.invariant
