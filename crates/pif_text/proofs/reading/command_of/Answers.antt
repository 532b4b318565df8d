use Rattle.pif_text_model.specs.Commands.{command_in, command_of_words}
use Rattle.pif_text.proofs.reading.command_of.Goals as goal

pub returns-in-None : goal.returns-in-None
unfolding command_in command_of_words
returns-in-None c = rw (c.split_first.ensures, c.in-None.is) c.of_one.ensures
