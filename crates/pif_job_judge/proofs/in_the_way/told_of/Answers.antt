use Rattle.std.proofs.Common.{ℕ, ◌∙◌, Option, ap}
use Rattle.pif_history_text.specs.Reading.{heard_of}
use Rattle.pif_history_told.specs.Why.{open_of}
use Rattle.pif_job_judge.proofs.in_the_way.told_of.Goals as goal

pub returns : goal.returns
returns c =
    λ found. record {
      always = found.always;
      priority = found.priority;
      began = c.began_of.ensures ∙ ap (λ (o : Option ℕ). open_of o (heard_of c.args.history.now) c.args.before) c.blocker_of.ensures;
    }
