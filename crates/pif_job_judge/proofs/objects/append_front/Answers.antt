use Rattle.std.proofs.Common.{List, subst, sym}
use Rattle.pif_history_model.specs.declared.labels.Label.{Label}
use Rattle.pif_history_told.specs.Ways.{IsRun}
use Rattle.pif_history_text.specs.Histories.{limits_of}
use Rattle.pif_history_text.specs.Reading.{heard_of}
use Rattle.pif_job_judge.proofs.ObjectLemmas.{front_told, front_untold, on_ok}
use Rattle.pif_job_judge.proofs.FrontLemmas.{front_is}
use Rattle.pif_job_judge.proofs.objects.append_front.Goals as goal

pub returns-in-Some : goal.returns-in-Some
returns-in-Some c =
    on_ok c.append_steps.result _ _
    (front_told (heard_of c.args.history.now) c.args.left_out c.args.front.now c.in-Some.known c.as_slice.result.now
    c.args.out.now.items c.append_steps.new.out.items c.in-Some.is c.as_slice.ensures.value)
    c.append_steps.ensures

pub returns-in-None : goal.returns-in-None
returns-in-None c = front_untold (heard_of c.args.history.now) c.args.left_out c.args.front.now c.args.out.now.items c.in-None.is

pub append_steps-requires : goal.append_steps-requires
append_steps-requires c =
    let h = heard_of c.args.history.now in
    let it = front_is h c.args.front.now c.in-Some.known c.in-Some.is c.requires in
    subst (λ (ls : List Label). IsRun h.allowed (limits_of h) ls) (sym c.as_slice.ensures.value) (it.2.last, it.2.run)
