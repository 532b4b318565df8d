use Rattle.std.proofs.Common.{◌≡◌, take}
use Rattle.std.specs.Prelude.{flat_map}
use Rattle.pif_script_model.specs.CommandLines.{command_line}
use Rattle.pif_job_shell.proofs.sessions.script_of.Given as goal

abbrev pub invariant-loop-command : goal.invariant-loop-command
invariant-loop-command l = l.script.items ≡ flat_map command_line (take l.command-index l.commands)
