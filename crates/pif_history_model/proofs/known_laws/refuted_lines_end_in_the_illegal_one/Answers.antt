use Rattle.std.proofs.Common.{refl}
use Rattle.pif_history_model.specs.Verdicts.IsShownBy.{plainly}
use Rattle.pif_history_model.proofs.known_laws.refuted_lines_end_in_the_illegal_one.Goals as goal

pub returns : goal.returns
returns c = λ l lines count place some within says shown. record {
  some = some;
  within = within;
  illegal = says.0;
  legal = plainly refl shown;
}
