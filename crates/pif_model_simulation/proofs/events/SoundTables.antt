-- What a begun call, a step and the end of a thread leave is sound, as each event keeps it.
use Rattle.std.proofs.Common.{◌≡◌, ℕ, ◌≤◌, true, Option, None, ap, subst, arith}
use Rattle.std.proofs.lemmas.Bool.Decides.{nat_tests}
use Rattle.pif_types.specs.declared.errors.Refusal.{Refusal}
use Rattle.pif_types.specs.declared.requests.Request.{Request}
use Rattle.pif_model.specs.declared.events.Event.{Event}
use Rattle.pif_model.specs.declared.events.Event.TheVariants.{Begin, Go, End, Tick}
use Rattle.pif_model.specs.declared.lines.Line.{Line}
use Rattle.pif_model.specs.declared.lines.Line.TheVariants.{At}
use Rattle.pif_model.specs.declared.lines.Place.{Place}
use Rattle.pif_model.specs.Graph.{is_priority}
use Rattle.pif_model.specs.Refusals.{go_refused, end_refused}
use Rattle.pif_model.specs.PiKernel.{is_living}
use Rattle.pif_model.specs.Table.{Table, line_at}
use Rattle.pif_model.specs.Lines.{is_open, begun_table, table_refusal, go_outcome, ended_table, accepted_outcome, by_refusal, event_outcome}
use Rattle.pif_model.specs.Soundness.{IsSound}
use Rattle.pif_model_lemmas.proofs.kernel.Facts.{living-added}
use Rattle.pif_model_simulation.proofs.Simulation.{event_kept}

-- what an event leaves that is not refused
accepted_sound : (s : Table) (e : Event) → IsSound s → table_refusal s e ≡ None → IsSound (accepted_outcome e s).after
unfolding event_outcome
accepted_sound s e h r = subst (λ (x : Option Refusal). IsSound (by_refusal x e s).after) r (event_kept s e h).sound

-- a call that begins
pub begin_sound : (s : Table) (t : ℕ) (q : Request) → IsSound s → table_refusal s (Begin t q) ≡ None
    → IsSound (begun_table t q s)
unfolding accepted_outcome
begin_sound s t q h r = accepted_sound s (Begin t q) h r

-- a tick
pub tick_sound : (s : Table) (n : ℕ) → IsSound s → table_refusal s (Tick n) ≡ None → IsSound (record s { time = n })
unfolding accepted_outcome
tick_sound s n h r = accepted_sound s (Tick n) h r

-- a step of a living thread
pub step_sound : (s : Table) (t : ℕ) (q : Request) (p : Place) → IsSound s → is_living s.kernel t ≡ true
    → line_at s t ≡ At q p → IsSound (go_outcome (At q p) t s).after
unfolding accepted_outcome
step_sound s t q p h k e =
    subst (λ (l : Line). IsSound (go_outcome l t s).after) e
    (accepted_sound s (Go t) h (λ i. go_refused (living-added s.kernel t k i) (k i) (ap is_open e i)))

-- the end of a living thread
pub end_sound : (s : Table) (t : ℕ) → IsSound s → is_living s.kernel t ≡ true → IsSound (ended_table t s)
unfolding accepted_outcome
end_sound s t h k = accepted_sound s (End t) h (λ i. end_refused (living-added s.kernel t k i) (k i))

-- a number from 1 to 99 is a priority
pub priority : (p : ℕ) → 1 ≤ p → p ≤ 99 → is_priority p ≡ true
priority p low high = grind (arith, nat_tests)
