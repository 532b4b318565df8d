use Rattle.std.proofs.Common.{arith, ◌<◌, ◌≤◌, length}
use Rattle.pif_robust.proofs.CallLemmas.{unlisted_read, unlisted_outside, sound_seen}
use Rattle.pif_robust.proofs.lists.RobustLists.holder.Goals as goal

pub returns-then-place-len-clause-unlisted : goal.returns-then-place-len-clause-unlisted
returns-then-place-len-clause-unlisted c =
    let within : c.get-place.result < length c.self.inside.links.items = omega arith in
    unlisted_read c.self.view_is c.self.invariant c.get-place.ensures.value within c.index.ensures

pub returns-then-place-len-clause-sound : goal.returns-then-place-len-clause-sound
returns-then-place-len-clause-sound c = sound_seen c.self.view_is c.self.invariant

pub returns-else-place-len-clause-unlisted : goal.returns-else-place-len-clause-unlisted
returns-else-place-len-clause-unlisted c =
    let out : length c.self.inside.links.items ≤ c.get-place.result = omega arith in
    unlisted_outside c.self.view_is c.self.invariant c.get-place.ensures.value out

pub returns-else-place-len-clause-sound : goal.returns-else-place-len-clause-sound
returns-else-place-len-clause-sound c = sound_seen c.self.view_is c.self.invariant
