use Rattle.std.proofs.Common.{drop, subst, take}
use Rattle.pif_job_shell.proofs.SessionLemmas.{redoes, standing_again}
use Rattle.pif_job_shell.specs.Sessions.{Kept, Redoes}
use Rattle.pif_job_shell.proofs.sessions.Session.redo.Goals as goal

pub invariant_of-self : goal.invariant_of-self
invariant_of-self c =
    standing_again c.self.inside.commands.items c.self.inside.standing c.self.inside.core c.play_again.new.standing
    c.play_again.new.core c.play_again.result c.self.invariant (rw c.as_slice.ensures.value at c.play_again.ensures)

pub returns : goal.returns
returns c =
    let left : Kept =
    record {
      commands = take c.play_again.new.standing c.self.inside.commands.items;
      undone = drop c.play_again.new.standing c.self.inside.commands.items;
      core = c.play_again.new.core;
    } in
    subst (λ old. Redoes old left c.play_again.result) c.self.view_is
    (redoes c.self.inside.commands.items c.self.inside.standing c.self.inside.core c.play_again.new.standing
    c.play_again.new.core c.play_again.result (rw c.as_slice.ensures.value at c.play_again.ensures))
