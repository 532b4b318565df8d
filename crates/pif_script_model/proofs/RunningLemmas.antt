-- What commands are answered, as first ones and later.
use Rattle.std.proofs.Common.{◌≡◌, ℕ, refl}
use Rattle.pif_model.specs.Table.{Table, new_table}
use Rattle.pif_text_model.specs.declared.commands.Command.{Command}
use Rattle.pif_text_model.specs.declared.commands.Command.TheVariants as command
use Rattle.pif_text_model.specs.Limits.{default_limits}
use Rattle.pif_script_model.specs.Running.{answer_or_fault, first_answer, IsAnswer, command_answer}

-- the answer to a first command that isn't `limits` is its answer under the default limits
pub first_answer-later : (c : Command) → ((t m v n : ℕ) → c ≡ command.Limits t m v n → ⊥)
    → first_answer c ≡ answer_or_fault (command_answer c (new_table default_limits))
unfolding first_answer
first_answer-later (command.Limits t m v n) other = absurd (other t m v n refl)
first_answer-later (command.Add a) other = refl
first_answer-later (command.Event e) other = refl
first_answer-later (command.Run t q) other = refl
first_answer-later (command.Ask q) other = refl

-- each command but `limits` is answered
pub answered-later : (c : Command) (s : Table) → ((t m v n : ℕ) → c ≡ command.Limits t m v n → ⊥)
    → IsAnswer (answer_or_fault (command_answer c s))
unfolding command_answer
answered-later (command.Limits t m v n) s other = absurd (other t m v n refl)
answered-later (command.Add a) s other = tt
answered-later (command.Event e) s other = tt
answered-later (command.Run t q) s other = tt
answered-later (command.Ask q) s other = tt
