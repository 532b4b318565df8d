use Rattle.std.proofs.Common.{subst, sym}
use Rattle.pif_cli_words.specs.Commands.{IsApp, IsCommand}
use Rattle.pif_cli_words.proofs.CommandLemmas.{joined}
use Rattle.pif_cli_words.proofs.commands.with_subcommand.Goals as goal

pub returns-in-Ok : goal.returns-in-Ok
returns-in-Ok c = λ app more is mine.
    c.boxed.ensures _ (joined c.subcommand.result c.into_inner-program.result c.into_inner.result app more c.subcommand.ensures
    (subst (IsCommand app) (sym c.into_inner-program.ensures) (subst (IsApp app) c.in-Ok.is is))
    (subst (IsCommand more) (sym c.into_inner.ensures) mine))
