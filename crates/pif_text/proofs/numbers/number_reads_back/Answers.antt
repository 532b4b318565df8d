use Rattle.pif_text_model.proofs.Numerals.{number_decimal}
use Rattle.pif_text.proofs.numbers.number_reads_back.Goals as goal

pub returns : goal.returns
returns c = number_decimal
