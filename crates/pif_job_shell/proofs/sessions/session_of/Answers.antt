use Rattle.std.proofs.Common.{List, ℕ}
use Rattle.std.specs.Borrow.{Bor}
use Rattle.pif_job_shell.proofs.SessionLemmas.{takes_done, takes_next}
use Rattle.pif_job_shell.proofs.sessions.session_of.Goals as goal

pub loop-line-preserved : goal.loop-line-preserved
loop-line-preserved c =
    takes_next (λ (line : Bor (List ℕ)). line.now) c.args.lines.now c.loop-line.line-index _ _ _ _ _ c.loop-line-test.true
    c.loop-line.invariant c.in-Ok.ensures

pub returns : goal.returns
returns c =
    takes_done (λ (line : Bor (List ℕ)). line.now) c.args.lines.now c.loop-line.line-index _ _ c.loop-line-test.false
    c.loop-line.invariant
