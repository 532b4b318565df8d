use Rattle.std.proofs.Common.{◌∙◌, List, [], ◌∷◌, ◌++◌, ap, subst, sym, take}
use Rattle.std.proofs.lemmas.List.{take_all, take_more}
use Rattle.pif_history_model.specs.declared.lines.Line.{Line}
use Rattle.pif_parts_judged.specs.Following.{IsJudged}
use Rattle.pif_job_follow.proofs.followed.hear_from.Goals as goal

pub loop-place-init : goal.loop-place-init
loop-place-init c = λ limits front h. h

pub loop-place-preserved : goal.loop-place-preserved
loop-place-preserved c = λ limits front h.
    subst (λ (ls : List Line). IsJudged limits front ls c.hear.new.self)
    (sym (take_more c.args.lines.now c.loop-place.place c.index-lines-place.result c.loop-place-test.true
    ∙ ap (λ (x : Line). take c.loop-place.place c.args.lines.now ++ x ∷ []) (sym c.index-lines-place.is)))
    (c.in-Ok.ensures limits front (take c.loop-place.place c.args.lines.now) (c.loop-place.invariant limits front h))

pub returns : goal.returns
returns c = λ limits front h.
    subst (λ (ls : List Line). IsJudged limits front ls c.loop-place.judged)
    (take_all c.loop-place.place c.args.lines.now c.loop-place-test.false) (c.loop-place.invariant limits front h)
