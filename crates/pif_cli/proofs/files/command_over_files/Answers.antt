use Rattle.clap.specs.Words.{kind_of}
use Rattle.pif_cli.proofs.WordsLemmas.{EndsIf-refused}
use Rattle.pif_cli.proofs.files.command_over_files.Goals as goal

pub returns-clause-ends : goal.returns-clause-ends
returns-clause-ends g c =
    EndsIf-refused _ _ (kind_of c.in-Err.error) _ _ _ _ _ _ c.in-Err.ensures.refusals c.refuse.ensures
