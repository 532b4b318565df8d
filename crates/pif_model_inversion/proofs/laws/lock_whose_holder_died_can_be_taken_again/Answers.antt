use Rattle.pif_model_inversion.proofs.Passing.{ended_passes}
use Rattle.pif_model_inversion.proofs.Recovering.{lock_is_told, lock_is_repaired, lock_answered, repair_answered, unlock_answered}
use Rattle.pif_model_inversion.proofs.laws.lock_whose_holder_died_can_be_taken_again.Goals as goal

pub returns : goal.returns
returns c = record {
  ended = λ l h r w v t run m robust own. ended_passes l h r w v t run m robust own;
  told = lock_is_told;
  repaired = lock_is_repaired;
  answered = lock_answered;
  made_fine = repair_answered;
  given_up = unlock_answered;
}
