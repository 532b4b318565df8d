use Rattle.std.proofs.Common.{subst}
use Rattle.pif_cli_words.specs.Commands.{IsApp, command_app}
use Rattle.pif_cli_words.proofs.commands.with_command.Goals as goal

pub returns-in-Ok : goal.returns-in-Ok
returns-in-Ok c = λ app is.
    c.with_subcommand.ensures app (command_app c.args.table.now) is
    (subst (IsApp (command_app c.args.table.now)) c.in-Ok.is (c.with_arguments.ensures _ c.described.ensures))
