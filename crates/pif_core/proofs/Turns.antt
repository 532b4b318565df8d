-- What a begun call and a step that went leave to the next turn: it is not refused, and there are turns enough.
use Rattle.std.proofs.Common.{◌≡◌, ◌≢◌, ◌⊎◌, inl, inr, ℕ, ◌<◌, ◌≤◌, ◌-◌, true, length, Option, None, Some, refl, sym, ap, ◌∙◌}
use Rattle.std.proofs.lemmas.Bool.{cases_lt}
use Rattle.std.proofs.lemmas.List.{get_or-set_same}
use Rattle.pif_types.specs.declared.errors.Refusal.{Refusal}
use Rattle.pif_types.specs.declared.requests.Request.{Request}
use Rattle.pif_model.specs.declared.events.Event.{Event}
use Rattle.pif_model.specs.declared.events.Event.TheVariants.{Begin, Go}
use Rattle.pif_model.specs.declared.events.Seen.TheVariants.{Begun, Went, Refused}
use Rattle.pif_model.specs.declared.lines.Line.TheVariants.{Idle, At}
use Rattle.pif_model.specs.Refusals.{go_refused}
use Rattle.pif_model.specs.PiKernel.{is_living}
use Rattle.pif_model.specs.Deadlines.{plain}
use Rattle.pif_model.specs.Table.{Table, has_thread, line_at}
use Rattle.pif_model.specs.Lines.{Outcome, first_place, begun_table, is_open, table_refusal, accepted_outcome, by_refusal, event_outcome, goes_on}
use Rattle.pif_model_lemmas.proofs.kernel.Facts.{living-added}
use Rattle.pif_model_simulation.proofs.Bound.{ends_within_24}
use Rattle.pif_model_simulation.proofs.Shown.{begin_allowed}
use Rattle.pif_model_simulation.specs.Calls.{call_outcome}
use Rattle.pif_model_simulation.proofs.CallLemmas.{goes_on-other, goes_on-last, call_other}

-- an event that is refused, and one that is not
pub event_refused : (e : Event) (s : Table) (r : Refusal) → table_refusal s e ≡ Some r
    → event_outcome e s ≡ record { seen = Refused r; after = s }
unfolding event_outcome
event_refused e s r h = ap (λ (o : Option Refusal). by_refusal o e s) h

pub event_allowed : (e : Event) (s : Table) → table_refusal s e ≡ None → event_outcome e s ≡ accepted_outcome e s
unfolding event_outcome
event_allowed e s h = ap (λ (o : Option Refusal). by_refusal o e s) h

-- a call that begins is not refused its first step
pub begun_goes : (t : ℕ) (q : Request) (s : Table) → table_refusal s (Begin t q) ≡ None → t < length s.lines
    → table_refusal (begun_table t q s) (Go t) ≡ None
begun_goes t q s h lined =
    let known = (begin_allowed _ _ _ _ h).0 in
    λ i. go_refused (living-added s.kernel t known i) (known i) (ap is_open here i)
  where
    here : line_at (begun_table t q s) t ≡ At (plain q) (first_place q)
    here = get_or-set_same s.lines t (At (plain q) (first_place q)) Idle lined

-- and goes on
pub call_goes : (t : ℕ) (q : Request) (s : Table) → table_refusal s (Begin t q) ≡ None
    → call_outcome t q s ≡ goes_on 23 t (accepted_outcome (Begin t q) s).after
unfolding accepted_outcome
call_goes t q s h =
    let one = event_allowed (Begin t q) s h in
    call_other t q s (λ r e. not_refused r (sym (ap (λ (o : Outcome). o.seen) one) ∙ e))
    ∙ ap (λ (o : Outcome). goes_on 23 t o.after) one
  where
    not_refused : (r : Refusal) → Begun ≢ Refused r
    not_refused r e = absurd cc

-- a thread that is refused goes on no further
pub refused_at_once : (t : ℕ) (s : Table) (r : Refusal) → table_refusal s (Go t) ≡ Some r
    → goes_on 23 t s ≡ record { seen = Refused r; after = s }
refused_at_once t s r h =
    let one = event_refused (Go t) s r h in
    goes_on-other 23 t s (λ e. not_went (sym (ap (λ (o : Outcome). o.seen) one) ∙ e)) ∙ one
  where
    not_went : Refused r ≢ Went
    not_went e = absurd cc

-- a step that went is not the last of 24
pub turns_left : (i t : ℕ) (s old : Table) → goes_on (23 - i) t s ≡ goes_on 23 t old
    → (event_outcome (Go t) s).seen ≡ Went → i < 23
turns_left i t s old same e = by_count (cases_lt i 23)
  where
    by_count : (i < 23) ⊎ (23 ≤ i) → i < 23
    by_count (inl less) = less
    by_count (inr more) =
        absurd (ends_within_24 t old (ap (λ (o : Outcome). o.seen) (sym same ∙ goes_on-last i t s more) ∙ e))
