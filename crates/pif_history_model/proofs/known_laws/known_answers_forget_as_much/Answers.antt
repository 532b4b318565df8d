use Rattle.pif_history_model.specs.Forgetting.{StandsFor}
use Rattle.pif_history_model.specs.Notes.{Needs}
use Rattle.pif_history_model.specs.Plain.{plain_start_of}
use Rattle.pif_history_model.proofs.Taking.{enough_needed}
use Rattle.pif_history_model.proofs.Covering.{keeps_too, enough_known}
use Rattle.pif_history_model.proofs.known_laws.known_answers_forget_as_much.Goals as goal

pub returns : goal.returns
returns c = λ l all lines. enough_known (Needs l all) StandsFor (plain_start_of l) lines keeps_too (enough_needed l all (plain_start_of l))
