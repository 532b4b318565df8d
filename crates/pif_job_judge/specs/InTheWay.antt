-- What is in the way of an illegal line: a fact that is so in all states to which the lines before lead.
use Rattle.std.specs.Prelude.{ℕ, ◌≡◌, take, IfSome}
use Rattle.pif_history_model.specs.declared.facts.Fact.{Fact}
use Rattle.pif_history_model.specs.declared.facts.Fact.TheVariants.{Priority}
use Rattle.pif_judge_reasons.specs.InTheWay.{IsSoBehind as IsSo, blocker_of}
use Rattle.pif_history_text.specs.Histories.{Heard, limits_of}
use Rattle.pif_history_told.specs.declared.in_the_way.InTheWay.{InTheWay}
use Rattle.pif_history_told.specs.Why.{open_of}

-- A fact is so in the last state of every run of the machine, with the rules of a history, that shows its first lines.
abbrev pub IsSoBehind : (h : Heard) → (before : ℕ) → Fact → Type 0
IsSoBehind h before = IsSo h.allowed (limits_of h) (take before h.shown)

-- What is told is so: the fact, the priority of the thread that stands in the way, and where its open call began.
pub record IsInTheWay (h : Heard) (before : ℕ) (x : InTheWay) : Type 0 where
  pub always : IsSoBehind h before x.fact
  pub priority : IfSome (blocker_of x.fact) (λ t. IfSome x.priority (λ p. IsSoBehind h before (Priority t p)))
  pub began : x.began ≡ open_of (blocker_of x.fact) h before
