use Rattle.std.proofs.Common.{◌≡◌, false, if◌then◌else◌}
use Rattle.pif_model.specs.World.{leads_to}
use Rattle.pif_posix_steps.specs.Doing.{passing}
use Rattle.pif_rules_model.specs.Rules.{never_goes_on}
use Rattle.pif_rules_model.specs.Ruled.{is_some_of, leads_to_no_end}
use Rattle.pif_posix.proofs.cycles.leads_to_no_end.Given as goal

abbrev pub invariant-loop-last : goal.invariant-loop-last
invariant-loop-last l =
    is_some_of (passing (λ x. if leads_to l.state l.thread x then never_goes_on l.state x else false) l.last) ≡ leads_to_no_end l.state l.thread
