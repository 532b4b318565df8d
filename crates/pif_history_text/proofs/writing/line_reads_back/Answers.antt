use Rattle.pif_history_text.proofs.LineTexts.{line_back}
use Rattle.pif_history_text.proofs.writing.line_reads_back.Goals as goal

pub returns : goal.returns
returns c = line_back
