use Rattle.std.proofs.Common.{◌≡◌, ◌∙◌, ap, arith, List, None, Option, Some, subst, sym}
use Rattle.pif_rules_model.specs.declared.rules.Rule.{Rule}
use Rattle.pif_rules_model.specs.declared.rules.Rules.{Rules}
use Rattle.pif_history_told.specs.Sets.{sets_of_size}
use Rattle.pif_job_judge.specs.declared.search.Needed.{Needed}
use Rattle.pif_history_model.specs.declared.labels.Label.{Label}
use Rattle.pif_history_model.specs.Verdicts.{IsLegal}
use Rattle.pif_job_judge.specs.LeastRules.{IsFirst}
use Rattle.pif_job_judge.proofs.LeastRulesLemmas.{found_of_size, none_before, none_of_size, all_below}
use Rattle.pif_job_judge.proofs.search.least.Goals as goal

pub loop-size-init : goal.loop-size-init
loop-size-init g c =
    none_before c.args.asked.now c.args.limits c.args.lines.now c.args.base.now c.in_ok-rules.rules.items

pub returns-in-Some : goal.returns-in-Some
returns-in-Some g c =
    let tried : c.in_ok-sets.sets.items ≡ sets_of_size c.args.asked.now c.loop-size.size c.args.base.now c.in_ok-rules.rules.items =
    c.in_ok-sets.ensures
    ∙ ap (λ (rules : List Rule). sets_of_size c.args.asked.now c.loop-size.size c.args.base.now rules) c.as_slice.ensures.value in
    found_of_size c.args.base.now c.args.asked.now c.args.limits c.args.lines.now c.loop-size.size c.in_ok-rules.rules.items
    c.in-Some.found c.in_ok-rules.ensures
    (omega (arith, c.loop-size-test.true, c.len-size-end.ensures, c.in_ok-rules.rules.ok.0))
    c.loop-size.invariant
    (subst (λ (sets : List Rules). IsFirst c.args.limits c.args.lines.now sets (Some c.in-Some.found)) tried
    (subst (λ (o : Option Needed). IsFirst c.args.limits c.args.lines.now c.in_ok-sets.sets.items o) c.in-Some.is c.in_ok-first.ensures))

pub loop-size-preserved : goal.loop-size-preserved
loop-size-preserved g c =
    let tried : c.in_ok-sets.sets.items ≡ sets_of_size c.args.asked.now c.loop-size.size c.args.base.now c.in_ok-rules.rules.items =
    c.in_ok-sets.ensures
    ∙ ap (λ (rules : List Rule). sets_of_size c.args.asked.now c.loop-size.size c.args.base.now rules) c.as_slice.ensures.value in
    none_of_size c.args.base.now c.args.asked.now c.args.limits c.args.lines.now c.loop-size.size c.in_ok-rules.rules.items
    c.loop-size.invariant
    (subst (λ (sets : List Rules). IsFirst c.args.limits c.args.lines.now sets None) tried
    (subst (λ (o : Option Needed). IsFirst c.args.limits c.args.lines.now c.in_ok-sets.sets.items o) c.in_default.is c.in_ok-first.ensures))

pub returns : goal.returns
returns g c = (
  c.in_ok-last.ensures.enough,
  all_below c.args.base.now c.args.asked.now c.args.limits c.args.lines.now c.loop-size.size c.in_ok-rules.rules.items
      c.in_ok-last.last.set c.in_ok-rules.ensures
      (omega (arith, c.loop-size-test.false, c.len-size-end.ensures, c.in_ok-rules.rules.ok.0))
      (c.in_ok-last.ensures.set ∙ c.both-all.ensures) c.loop-size.invariant,
)

pub bounded-requires : goal.bounded-requires
bounded-requires g c =
    subst (λ (ls : List Label). IsLegal c.both-all.result c.args.limits c.args.lines.now ls) (sym c.in_ok-copied.ensures.items)
    (subst (λ (r : Rules). IsLegal r c.args.limits c.args.lines.now c.args.labels.now) (sym c.both-all.ensures) c.requires)
