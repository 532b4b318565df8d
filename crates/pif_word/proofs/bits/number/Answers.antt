use Rattle.pif_model_lemmas.proofs.WordBits.{number-is}
use Rattle.pif_word.proofs.bits.number.Goals as goal

pub returns-clause-value : goal.returns-clause-value
returns-clause-value c = number-is c.args.w
