-- What a machine comes to that C holds.
use Rattle.pif_types.specs.Bounds.{Bounds}
use Rattle.pif_rules_model.specs.declared.rules.Rules.{Rules}
use Rattle.pif_rules_model.specs.Rules.{Wide}

-- the POSIX machine in a state, with what rules remember, the rules by which it goes, and how much it takes
pub record Running : Type 0 where
  pub wide : Wide
  pub rules : Rules
  pub limits : Bounds
