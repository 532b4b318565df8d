use Rattle.std.proofs.Common.{◌∙◌, ap}
use Rattle.clap.specs.Simple.{app_of_fields}
use Rattle.clap.specs.declared.builder.command.Command.{Command}
use Rattle.clap.specs.declared.builder.command.Command.TheOpen.{Command-F}
use Rattle.pif_cli_words.proofs.commands.described.Goals as goal

pub returns : goal.returns
returns c =
    let field = λ (f : Command-F Command). f.has_globals in c.boxed.ensures _ (
      ap app_of_fields c.after_help-command.ensures ∙ ap app_of_fields c.override_usage.ensures
          ∙ ap app_of_fields c.about.ensures ∙ c.new.ensures.app,
      ap field c.after_help-command.ensures ∙ ap field c.override_usage.ensures ∙ ap field c.about.ensures
          ∙ c.new.ensures.local,
    )
