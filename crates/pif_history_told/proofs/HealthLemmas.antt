-- The health of a mutex in a word, as the machine has it and as lines do.
use Rattle.std.proofs.Common.{◌≡◌, refl}
use Rattle.pif_types.specs.declared.requests.Health.{Health}
use Rattle.pif_types.specs.declared.requests.Health.TheVariants.{Fine, Inconsistent, Unusable}
use Rattle.pif_posix.specs.Shapes.{health_of}
use Rattle.pif_text_model.specs.Replies.{health_text}
use Rattle.pif_history_told.specs.StateObjects.{health_word}

pub same_word : (health : Health) → health_text health ≡ health_word (health_of health)
same_word Fine = refl
same_word Inconsistent = refl
same_word Unusable = refl
