use Rattle.std.proofs.Common.{sym}
use Rattle.pif_job_shell.proofs.SessionLemmas.{standing_after}
use Rattle.pif_job_shell.proofs.sessions.Session.take.Goals as goal

pub invariant_of-self : goal.invariant_of-self
invariant_of-self c =
    standing_after c.self.inside.commands.items c.self.inside.standing c.self.inside.core c.in-Ok.command
    c.play.new.standing c.play.new.commands.items c.play.new.core c.play.result c.self.invariant
    (c.commands_of_lines_are_written.ensures c.args.line.now c.in-Ok.command (sym c.in-Ok.ensures.command)) c.play.ensures
