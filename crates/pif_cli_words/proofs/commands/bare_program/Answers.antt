use Rattle.std.proofs.Common.{◌∙◌, ap, true}
use Rattle.clap.specs.Simple.{App, app_of_fields}
use Rattle.clap.specs.declared.builder.command.Command.{Command}
use Rattle.clap.specs.declared.builder.command.Command.TheOpen.{Command-F}
use Rattle.pif_cli_words.proofs.commands.bare_program.Goals as goal

pub returns : goal.returns
returns c =
    let app = λ (f : Command-F Command). app_of_fields (record f { subcommand_required = true }) in
    let field = λ (f : Command-F Command). f.has_globals in c.boxed.ensures _ (
      ap app_of_fields c.subcommand_required-command.ensures ∙ ap app c.after_help.ensures ∙ ap app c.about.ensures
          ∙ ap app c.version.ensures
          ∙ ap (λ (a : App). record a { top = record a.top { has_version = true; subcommand_required = true } }) c.new.ensures.app,
      ap field c.subcommand_required-command.ensures ∙ ap field c.after_help.ensures ∙ ap field c.about.ensures
          ∙ ap field c.version.ensures ∙ c.new.ensures.local,
    )
