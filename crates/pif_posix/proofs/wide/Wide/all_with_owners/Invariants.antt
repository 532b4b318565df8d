use Rattle.std.proofs.Common.{◌≡◌, map}
use Rattle.pif_rules_model.specs.Rules.{owned_as_before}
use Rattle.pif_posix.proofs.wide.Wide.all_with_owners.Given as goal

abbrev pub invariant-loop-wide : goal.invariant-loop-wide
invariant-loop-wide l = l.all.items ≡ map (owned_as_before l.hidden l.self) l.yielded
