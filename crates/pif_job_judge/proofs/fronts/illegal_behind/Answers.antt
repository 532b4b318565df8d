use Rattle.std.proofs.Common.{◌+◌, arith, subst, take}
use Rattle.pif_history_machine.specs.declared.verdicts.Verdict.{Verdict}
use Rattle.pif_history_machine.specs.Verdicts.{IsVerdictOf}
use Rattle.pif_history_text.specs.Histories.{limits_of}
use Rattle.pif_history_text.specs.Reading.{heard_of}
use Rattle.pif_job_judge.proofs.MistakeLemmas.{illegal_of_all}
use Rattle.pif_job_judge.proofs.fronts.illegal_behind.Goals as goal
use Rattle.pif_job_judge.proofs.fronts.illegal_behind.Goals.{in-Illegal, in-Legal, in-Undecided}

pub returns : goal.returns
returns g c =
    let h = heard_of c.args.history.now in
    elim c.match-branch-2.branch [
      | in-Illegal w ↦ rw w.result-is (illegal_of_all h.allowed (limits_of h) (c.args.count + 1) w.in-Illegal.line h.shown
          (omega (arith, c.if-count-last.false, c.len-last.ensures, c.args.history.now.shown.ok.0))
          (subst (λ (v : Verdict). IsVerdictOf h.allowed (limits_of h) (take (c.args.count + 1) h.shown) v) w.in-Illegal.is c.in_ok-line.ensures))
      | in-Legal w ↦ rw w.result-is tt
      | in-Undecided w ↦ rw w.result-is tt
    ]
