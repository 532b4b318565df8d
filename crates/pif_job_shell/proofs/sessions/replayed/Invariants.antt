use Rattle.std.proofs.Common.{None, take}
use Rattle.pif_job_shell.specs.Sessions.{Leaves}
use Rattle.pif_job_shell.proofs.sessions.replayed.Given as goal

abbrev pub invariant-loop-command : goal.invariant-loop-command
invariant-loop-command l = Leaves None (take l.command-index l.commands) l.core
