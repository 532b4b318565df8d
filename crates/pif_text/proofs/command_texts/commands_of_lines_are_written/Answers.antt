use Rattle.pif_text_model.proofs.Written.{command_in-written}
use Rattle.pif_text.proofs.command_texts.commands_of_lines_are_written.Goals as goal

pub returns : goal.returns
returns c = command_in-written
