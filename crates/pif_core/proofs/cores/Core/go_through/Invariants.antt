use Rattle.std.proofs.Common.{◌≡◌, ◌≤◌, ◌-◌, None}
use Rattle.pif_model.specs.declared.events.Event.TheVariants.{Go}
use Rattle.pif_model.specs.Lines.{goes_on, table_refusal}
use Rattle.pif_core.proofs.cores.Core.go_through.Given as goal

abbrev pub invariant-loop-turn : goal.invariant-loop-turn
invariant-loop-turn l = record {
  within : l._turn ≤ 23;
  allowed : table_refusal l.self (Go l.thread) ≡ None;
  same : goes_on (23 - l._turn) l.thread l.self ≡ goes_on 23 l.thread l.initial.self;
}
