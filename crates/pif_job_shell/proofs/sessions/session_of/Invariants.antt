use Rattle.std.proofs.Common.{map, take}
use Rattle.pif_job_shell.specs.Sessions.{TakesAll, nothing_kept}
use Rattle.pif_job_shell.proofs.sessions.session_of.Given as goal

abbrev pub invariant-loop-line : goal.invariant-loop-line
invariant-loop-line l = TakesAll (map (λ line. line.now) (take l.line-index l.lines)) nothing_kept l.session
