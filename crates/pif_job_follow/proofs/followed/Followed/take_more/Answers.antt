use Rattle.std.proofs.Common.{List, subst, sym, take}
use Rattle.pif_history_model.specs.declared.lines.Line.{Line}
use Rattle.pif_parts_judged.specs.Following.{IsJudged}
use Rattle.pif_job_follow.proofs.followed.Followed.take_more.Goals as goal

pub returns-in-Some-clause-judged : goal.returns-in-Some-clause-judged
returns-in-Some-clause-judged c = λ limits front h.
    subst (λ (ls : List Line). IsJudged limits front ls c.hear_from.new.judged) c.as_slice.ensures.value
    (c.in_ok-hear_from.ensures limits front
    (subst (λ (ls : List Line). IsJudged limits front (take c.args.before ls) c.args.self.now.judged)
    (sym c.as_slice.ensures.value) h))
