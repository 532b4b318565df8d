-- What is in the way of the next line: a fact that is so in all states to which the lines before lead.
use Rattle.std.specs.Prelude.{ℕ, List, reverse, Option, Some, None, IfSome}
use Rattle.pif_types.specs.Bounds.{Bounds}
use Rattle.pif_rules_model.specs.declared.rules.Rules.{Rules}
use Rattle.pif_history_model.specs.declared.facts.Fact.{Fact}
use Rattle.pif_history_model.specs.declared.facts.Fact.TheVariants.{Held, HeldOrNext, Next, Priority, WaitsFor}
use Rattle.pif_history_model.specs.declared.lines.Line.{Line}
use Rattle.pif_history_model.specs.Always.{IsAlwaysSo}
use Rattle.pif_judge_reasons.specs.declared.in_the_way.Obstacle.{Obstacle}

-- The thread that stands in the way by a fact, if the fact says that a thread holds, gets or waits for something.
abbrev pub blocker_of : Fact → Option ℕ
blocker_of (Held m t) = Some t
blocker_of (Next m t) = Some t
blocker_of (HeldOrNext m t) = Some t
blocker_of (WaitsFor u t) = Some u
blocker_of f = None

-- A fact is so in the last state of every run of the machine with these rules that shows these lines, oldest first.
abbrev pub IsSoBehind : Rules → Bounds → (before : List Line) → Fact → Type 0
IsSoBehind r l before = IsAlwaysSo r l (reverse before)

-- What is told is so: the fact, and the priority of the thread that stands in the way.
pub record IsInTheWay (r : Rules) (l : Bounds) (before : List Line) (x : Obstacle) : Type 0 where
  pub always : IsSoBehind r l before x.fact
  pub priority : IfSome (blocker_of x.fact) (λ t. IfSome x.priority (λ p. IsSoBehind r l before (Priority t p)))
