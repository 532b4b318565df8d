use Rattle.std.proofs.Common.{◌-◌, arith, subst, take}
use Rattle.pif_history_machine.specs.declared.verdicts.Verdict.{Verdict}
use Rattle.pif_history_machine.specs.Verdicts.{IsVerdictOf}
use Rattle.pif_history_text.specs.Histories.{limits_of}
use Rattle.pif_history_text.specs.Reading.{heard_of}
use Rattle.pif_job_judge.proofs.MistakeLemmas.{illegal_of_all, undecided_of_all}
use Rattle.pif_job_judge.proofs.mistakes.judged_before.Goals as goal

pub returns-in-Legal : goal.returns-in-Legal
returns-in-Legal g c =
    let h = heard_of c.args.history.now in (
      c.requires,
      subst (λ (v : Verdict). IsVerdictOf h.allowed (limits_of h) (take (c.args.refused.count - 1) h.shown) v) c.in-Legal.is
          c.in_ok-labels.ensures,
    )

pub returns-in-Illegal : goal.returns-in-Illegal
returns-in-Illegal g c =
    let h = heard_of c.args.history.now in (
      illegal_of_all h.allowed (limits_of h) (c.args.refused.count - 1) c.in-Illegal.line h.shown (omega (arith, c.requires.1))
          (subst (λ (v : Verdict). IsVerdictOf h.allowed (limits_of h) (take (c.args.refused.count - 1) h.shown) v) c.in-Illegal.is
          c.in_ok-labels.ensures),
      tt,
    )

pub returns-in_ok-front-in-Undecided : goal.returns-in_ok-front-in-Undecided
returns-in_ok-front-in-Undecided g c =
    let h = heard_of c.args.history.now in (
      undecided_of_all h.allowed (limits_of h) (c.args.refused.count - 1) c.in-Undecided.line h.shown (omega (arith, c.requires.1))
          (subst (λ (v : Verdict). IsVerdictOf h.allowed (limits_of h) (take (c.args.refused.count - 1) h.shown) v) c.in-Undecided.is
          c.in_ok-labels.ensures),
      c.in_ok-front-in-Undecided.ensures,
    )
