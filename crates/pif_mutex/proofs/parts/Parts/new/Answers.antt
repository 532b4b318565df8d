-- Parts to which nothing was added are sound.
use Rattle.std.proofs.Common.{rules}
use Rattle.pif_model_simulation.proofs.additions.Additions.{new_sound}
use Rattle.pif_mutex.proofs.parts.Parts.new.Goals as goal

pub invariant_of-result : goal.invariant_of-result
invariant_of-result g c = rw c.in_ok-state.ensures (new_sound _ (search rules))
