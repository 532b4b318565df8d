use Rattle.std.proofs.Common.{◌∙◌, sym}
use Rattle.pif_judge_reasons.proofs.in_the_way.blocker_priority.Goals as goal

pub returns-in-Some : goal.returns-in-Some
returns-in-Some c = λ r l lines all. rw (sym c.blocker_of.ensures ∙ c.in-Some.is) (c.priority_in.ensures r l lines all)

pub returns-in-None : goal.returns-in-None
returns-in-None c = λ r l lines all. rw (sym c.blocker_of.ensures ∙ c.in-None.is) tt
