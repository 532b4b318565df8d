use Rattle.std.proofs.Common.{length}
use Rattle.pif_text.proofs.command_texts.+append_arguments.Given as goal

abbrev pub decreases-append_arguments : goal.decreases-append_arguments
decreases-append_arguments l = length l.parameters.now
