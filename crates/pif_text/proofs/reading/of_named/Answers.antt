use Rattle.pif_text_model.specs.Commands.{command_of_words}
use Rattle.pif_text_model.proofs.Splits.{more_words}
use Rattle.pif_text.proofs.reading.of_named.Goals as goal

pub returns-in-None : goal.returns-in-None
unfolding command_of_words
returns-in-None c = rw (c.split_first.ensures, c.in-None.is) c.of_two.ensures

pub returns-in-Some : goal.returns-in-Some
returns-in-Some c = rw (c.split_first.ensures, c.in-Some.is, more_words) c.of_more.ensures
