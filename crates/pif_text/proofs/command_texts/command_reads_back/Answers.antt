use Rattle.pif_text_model.proofs.ReadBack.{command_back}
use Rattle.pif_text.proofs.command_texts.command_reads_back.Goals as goal

pub returns : goal.returns
returns c = command_back
