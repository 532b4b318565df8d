use Rattle.std.proofs.Common.{ap, ◌∙◌}
use Rattle.std.specs.Prelude.{flat_map}
use Rattle.std.proofs.lemmas.List.{take_all}
use Rattle.pif_script_model.specs.CommandLines.{command_line, script_lines}
use Rattle.pif_job_shell.proofs.sessions.script_of.Goals as goal

pub returns : goal.returns
unfolding script_lines
returns c =
    c.loop-command.invariant
    ∙ ap (flat_map command_line) (take_all c.loop-command.command-index c.args.commands.now c.loop-command-test.false)
