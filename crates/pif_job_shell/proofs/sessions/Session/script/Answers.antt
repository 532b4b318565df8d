use Rattle.std.proofs.Common.{◌≤◌, ap, arith, length, take}
use Rattle.std.proofs.lemmas.Result.{IfOk-weaker}
use Rattle.pif_script_model.specs.CommandLines.{script_lines}
use Rattle.pif_job_shell.proofs.RunLemmas.{lines_fit}
use Rattle.pif_job_shell.proofs.SessionLemmas.{played_of}
use Rattle.pif_job_shell.proofs.sessions.Session.script.Goals as goal

pub returns-clause-within : goal.returns-clause-within
returns-clause-within c =
    let stands = take c.self.inside.standing c.self.inside.commands.items in
    let played = played_of c.self.inside.commands.items c.self.inside.standing c.self.inside.core c.self.invariant in
    let fit : length (script_lines stands) ≤ 15859712 = lines_fit stands played.1 played.2 in
    IfOk-weaker c.script_of.result _ _ (λ script e. omega (arith, fit, ap length e))
    (rw c.as_slice.ensures.value at c.script_of.ensures)
