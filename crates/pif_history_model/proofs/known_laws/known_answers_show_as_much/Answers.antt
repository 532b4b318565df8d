use Rattle.pif_history_model.proofs.Knowing.{shown-from_known, known-from_shown}
use Rattle.pif_history_model.specs.Plain.{PlainAdvances}
use Rattle.pif_history_model.specs.Known.{known_start_of}
use Rattle.pif_history_model.proofs.known_laws.known_answers_show_as_much.Goals as goal

pub returns-clause-all : goal.returns-clause-all
returns-clause-all c = λ l lines last x. (_, known-from_shown l (PlainAdvances l) (λ s n y a. a) lines last x)

pub returns-clause-no_others : goal.returns-clause-no_others
returns-clause-no_others c = λ l lines xs last x. shown-from_known (PlainAdvances l) lines (known_start_of l) last xs x
