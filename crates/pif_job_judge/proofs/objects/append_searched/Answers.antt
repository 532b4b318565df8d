use Rattle.std.proofs.Common.{List, ap, refl, subst, sym, take}
use Rattle.pif_types.specs.Bounds.{Bounds}
use Rattle.pif_history_model.specs.declared.labels.Label.{Label}
use Rattle.pif_history_model.specs.declared.lines.Line.{Line}
use Rattle.pif_history_machine.specs.declared.verdicts.Verdict.{Verdict}
use Rattle.pif_history_machine.specs.Verdicts.{IsVerdictOf}
use Rattle.pif_history_told.specs.Ways.{IsRun}
use Rattle.pif_history_text.specs.Histories.{limits_of}
use Rattle.pif_history_text.specs.Reading.{heard_of}
use Rattle.pif_job_judge.proofs.ObjectLemmas.{before_told, before_untold, none_illegal, none_undecided, on_ok}
use Rattle.pif_job_judge.proofs.objects.append_searched.Goals as goal

pub returns-in-Legal : goal.returns-in-Legal
returns-in-Legal g c =
    on_ok c.append_steps.result _ _
    (before_told (heard_of c.args.history.now) c.args.before c.args.left_out _ _ c.in-Legal.witness.items _
    c.args.out.now.items c.append_steps.new.out.items c.limits.ensures
    (ap (λ (ls : List Line). take c.args.before ls) c.as_slice.ensures.value) c.as_slice-in-Legal.ensures.value
    (subst (λ (v : Verdict). IsVerdictOf c.args.history.now.allowed c.limits.result (take c.args.before c.as_slice.result.now) v)
    c.in-Legal.is c.in_ok-witness.ensures))
    c.append_steps.ensures

pub append_steps-requires : goal.append_steps-requires
append_steps-requires g c =
    let v = subst (λ (v : Verdict). IsVerdictOf c.args.history.now.allowed c.limits.result (take c.args.before c.as_slice.result.now) v)
    c.in-Legal.is c.in_ok-witness.ensures in
    let run : IsRun c.args.history.now.allowed c.limits.result c.in-Legal.witness.items = (v.last, v.run) in
    subst (λ (ls : List Label). IsRun c.args.history.now.allowed (limits_of (heard_of c.args.history.now)) ls) (sym c.as_slice-in-Legal.ensures.value)
    (subst (λ (k : Bounds). IsRun c.args.history.now.allowed k c.in-Legal.witness.items) c.limits.ensures run)

pub returns-in-Illegal : goal.returns-in-Illegal
returns-in-Illegal g c =
    before_untold (heard_of c.args.history.now) c.args.before c.args.left_out _ _ _ c.args.out.now.items
    c.args.out.now.items c.limits.ensures (ap (λ (ls : List Line). take c.args.before ls) c.as_slice.ensures.value)
    c.in_ok-witness.ensures (none_illegal _ _ c.in-Illegal.is) refl

pub returns-in-Undecided : goal.returns-in-Undecided
returns-in-Undecided g c =
    before_untold (heard_of c.args.history.now) c.args.before c.args.left_out _ _ _ c.args.out.now.items
    c.args.out.now.items c.limits.ensures (ap (λ (ls : List Line). take c.args.before ls) c.as_slice.ensures.value)
    c.in_ok-witness.ensures (none_undecided _ _ c.in-Undecided.is) refl
