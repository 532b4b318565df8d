use Rattle.std.proofs.Common.{List, subst, sym}
use Rattle.pif_history_model.specs.declared.labels.Label.{Label}
use Rattle.pif_history_told.specs.Ways.{IsRun}
use Rattle.pif_history_text.specs.Histories.{limits_of}
use Rattle.pif_history_text.specs.Reading.{heard_of}
use Rattle.pif_job_judge.proofs.ObjectLemmas.{front_before, on_ok}
use Rattle.pif_job_judge.proofs.objects.append_known.Goals as goal

pub returns-then-known-before : goal.returns-then-known-before
returns-then-known-before g c =
    on_ok c.append_steps.result _ _
    (front_before (heard_of c.args.history.now) c.args.known.now c.args.before c.args.left_out c.as_slice.result.now
    c.args.out.now.items c.append_steps.new.out.items c.if-known-before.true c.requires.front c.as_slice.ensures.value)
    c.append_steps.ensures

pub append_steps-requires : goal.append_steps-requires
append_steps-requires g c =
    let h = heard_of c.args.history.now in
    subst (λ (ls : List Label). IsRun h.allowed (limits_of h) ls) (sym c.as_slice.ensures.value)
    (c.requires.front.2.last, c.requires.front.2.run)
