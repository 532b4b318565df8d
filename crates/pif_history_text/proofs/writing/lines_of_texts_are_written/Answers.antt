use Rattle.pif_history_text.proofs.LineTexts.{said_in-written}
use Rattle.pif_history_text.proofs.writing.lines_of_texts_are_written.Goals as goal

pub returns : goal.returns
returns c = said_in-written
