-- What a thread does, by the plain machine, by a rule, or at its end.
use Rattle.std.specs.Prelude.{ℕ, List}
use Rattle.pif_rules_model.specs.declared.rules.Rules.{Rules}
use Rattle.pif_rules_model.specs.Rules.{Wide}
use Rattle.pif_rules_model.specs.Ruled.{plainly_moved, done_by, ended_remembering, ended_in_steps, passing_later}
use Rattle.pif_posix.specs.declared.deeds.Deed.{Deed}
use Rattle.pif_posix.specs.declared.deeds.Deed.TheVariants.{Moves, By, Ends, EndsInSteps, PassesLater}

-- the states to which t leads that does this, if these mutexes lend nothing
abbrev pub done_as : Deed → Rules → ℕ → List ℕ → Wide → List Wide
done_as Moves r t none = plainly_moved t none
done_as (By x) r t none = done_by r x t
done_as Ends r t none = ended_remembering r t
done_as EndsInSteps r t none = ended_in_steps r t
done_as PassesLater r t none = passing_later r t
