use Rattle.pif_cli_words.specs.Words.{command_of}
use Rattle.pif_cli_words.proofs.RandomLemmas.{lines_within}
use Rattle.pif_cli_words.proofs.laws.random_lines_have_a_bound.Goals as goal

pub returns : goal.returns
returns c = λ words recipe e. lines_within (command_of words) recipe e
