use Rattle.pif_history_text.specs.Lines.{line_of_words}
use Rattle.pif_history_text.proofs.lines.of_words.Goals as goal

pub returns-in-None : goal.returns-in-None
unfolding line_of_words
returns-in-None c = rw (c.split_first.ensures, c.in-None.is) c.of_one.ensures
