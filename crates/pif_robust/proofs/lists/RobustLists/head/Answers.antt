use Rattle.pif_robust.proofs.CallLemmas.{sound_seen}
use Rattle.pif_robust.proofs.lists.RobustLists.head.Goals as goal

pub returns-then-place-len-clause-sound : goal.returns-then-place-len-clause-sound
returns-then-place-len-clause-sound c = sound_seen c.self.view_is c.self.invariant

pub returns-else-place-len-clause-sound : goal.returns-else-place-len-clause-sound
returns-else-place-len-clause-sound c = sound_seen c.self.view_is c.self.invariant
