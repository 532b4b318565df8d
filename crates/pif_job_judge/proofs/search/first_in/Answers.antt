use Rattle.std.proofs.Common.{arith, subst, sym}
use Rattle.pif_rules_model.specs.declared.rules.Rules.{Rules}
use Rattle.pif_history_machine.specs.declared.verdicts.Verdict.{Verdict}
use Rattle.pif_history_machine.specs.Verdicts.{IsVerdictOf}
use Rattle.pif_job_judge.specs.LeastRules.{IsBehind}
use Rattle.pif_job_judge.proofs.LeastRulesLemmas.{all_illegal, behind_illegal, illegal_more}
use Rattle.pif_job_judge.proofs.search.first_in.Goals as goal

pub returns-in-Legal : goal.returns-in-Legal
returns-in-Legal g c = (
  c.in_ok-found-in-Legal.ensures.enough,
  subst (λ (r : Rules). IsBehind c.args.limits c.args.lines.now c.args.sets.now.items r) (sym c.in_ok-found-in-Legal.ensures.set)
      (behind_illegal c.args.limits c.args.lines.now c.args.sets.now.items c.loop-place.place c.index.result.now
      (omega (arith, c.loop-place-test.true, c.len-place-end.ensures, c.args.sets.now.ok.0)) c.index.ensures c.loop-place.invariant),
)

pub bounded-requires : goal.bounded-requires
bounded-requires g c =
    subst (λ (v : Verdict). IsVerdictOf c.index.result.now c.args.limits c.args.lines.now v) c.in-Legal.is c.in_ok-labels.ensures

pub returns-in-Undecided : goal.returns-in-Undecided
returns-in-Undecided g c =
    let within = subst (λ (v : Verdict). IsVerdictOf c.index.result.now c.args.limits c.args.lines.now v) c.in-Undecided.is
    c.in_ok-labels.ensures in (
      within.0,
      within.1,
      behind_illegal c.args.limits c.args.lines.now c.args.sets.now.items c.loop-place.place c.index.result.now
          (omega (arith, c.loop-place-test.true, c.len-place-end.ensures, c.args.sets.now.ok.0)) c.index.ensures c.loop-place.invariant,
    )

pub loop-place-preserved : goal.loop-place-preserved
loop-place-preserved g c =
    let illegal = subst (λ (v : Verdict). IsVerdictOf c.index.result.now c.args.limits c.args.lines.now v) c.in-Illegal.is
    c.in_ok-labels.ensures in
    illegal_more c.args.limits c.args.lines.now c.args.sets.now.items c.loop-place.place c.index.result.now
    (omega (arith, c.loop-place-test.true, c.len-place-end.ensures, c.args.sets.now.ok.0)) c.index.ensures (c.in-Illegal.field-0, illegal.2)
    c.loop-place.invariant

pub returns : goal.returns
returns g c =
    all_illegal c.args.limits c.args.lines.now c.args.sets.now.items c.loop-place.place
    (omega (arith, c.loop-place-test.false, c.len-place-end.ensures, c.args.sets.now.ok.0)) c.loop-place.invariant
