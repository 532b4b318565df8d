use Rattle.pif_history_model.specs.Plain.{PlainAdvances}
use Rattle.pif_history_model.proofs.Refuting.{says-from_known, says-from_needed}
use Rattle.pif_history_model.proofs.known_laws.known_answers_judge_all_lines.Goals as goal

pub returns-clause-by_all_steps : goal.returns-clause-by_all_steps
returns-clause-by_all_steps c = λ l lines v x. says-from_known l (PlainAdvances l) (λ s n y a. a) lines (λ k y. y) v x

pub returns-clause-by_needed_steps : goal.returns-clause-by_needed_steps
returns-clause-by_needed_steps c = λ l all same lines v none x. says-from_needed l all same lines v none x
