use Rattle.std.proofs.Common.{◌∙◌, [], inl, refl, subst}
use Rattle.pif_history_text.specs.Reading.{heard_of}
use Rattle.pif_job_follow.specs.Fronts.{HearsNext}
use Rattle.pif_job_follow.proofs.FollowedLemmas.{followed_next, no_fewer}
use Rattle.pif_job_follow.proofs.followed.Followed.hear.Goals as goal

pub take_more-requires : goal.take_more-requires
take_more-requires c =
    let y = c.in_ok-hear_line.ensures.heard [] [] (heard_of c.args.self.now.later).named (inl (refl, refl, refl)) in
    no_fewer c.args.self.now.later.shown.items c.hear_line.new.later.shown.items y.more c.len-before.result
    (c.len-before.ensures ∙ c.args.self.now.later.shown.ok.0) y.grows

pub returns-clause-heard : goal.returns-clause-heard
returns-clause-heard c = λ full x.
    followed_next full c.args.self.now c.take_more.new.self c.hear_line.new.later c.args.self.now.line.items c.len-before.result
    (c.len-before.ensures ∙ c.args.self.now.later.shown.ok.0) c.in_ok-take_more.ensures.later x
    (subst (λ bs. HearsNext x.front x.numbers x.named (heard_of c.args.self.now.later) bs (heard_of c.hear_line.new.later))
    c.as_slice.ensures.value (c.in_ok-hear_line.ensures.heard x.front x.numbers x.named x.stands_behind)) c.in_ok-hear_line.ensures.rules
    c.in_ok-hear_line.ensures.paired c.in_ok-take_more.ensures.judged c.in_ok-take_more.ensures.calls
    c.in_ok-take_more.ensures.up_to
