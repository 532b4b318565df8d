-- A call whose deadline doesn't count.
use Rattle.std.proofs.Common.{◌≡◌, ℕ, Bool, true, false, refl, ap, ◌∙◌, if◌then◌else◌}
use Rattle.pif_types.specs.declared.requests.Request.{Request}
use Rattle.pif_model.specs.declared.events.Seen.{Seen}
use Rattle.pif_model.specs.declared.events.Seen.TheVariants.{Answered}
use Rattle.pif_model.specs.declared.lines.Line.TheVariants.{At}
use Rattle.pif_model.specs.declared.lines.Place.{Place}
use Rattle.pif_model.specs.Deadlines.{is_reached, reported_result, reported_seen}
use Rattle.pif_model.specs.Table.{Table, status_at, timer_at}
use Rattle.pif_model.specs.Lines.{line_of, counts_at, is_line_due, expires_at, reported_outcome, go_outcome}

-- a result that is told as it is
told_same : (q : Request) (expired : Bool) → ((a : ℕ) → reported_result q expired a ≡ a) → (x : Seen) → reported_seen q expired x ≡ x
told_same q expired same (Answered a) = ap Answered (same a)
told_same q expired same x = refl

never : (b : Bool) → (if b then false else false) ≡ false
never true = refl
never false = refl

-- the step of a call that isn't due is its line, told by whether the call has expired
pub undue : (q : Request) (p : Place) (t : ℕ) (s : Table) → is_line_due (At q p) t s ≡ false
    → go_outcome (At q p) t s ≡ reported_outcome q (timer_at s t).expired (line_of q p t s)
unfolding go_outcome
undue q p t s h =
    ap (λ (b : Bool). if b then expires_at q p t s else reported_outcome q (timer_at s t).expired (line_of q p t s)) h

-- a step of a call whose deadline doesn't count, and whose result is told as it is, is its line
pub goes_by_line : (q : Request) (p : Place) (t : ℕ) (s : Table) → counts_at q p (status_at s t) ≡ false
    → ((expired : Bool) (a : ℕ) → reported_result q expired a ≡ a) → go_outcome (At q p) t s ≡ line_of q p t s
goes_by_line q p t s lasts same =
    let expired = (timer_at s t).expired in
    let reached = is_reached (timer_at s t).deadline s.time in
    let due : is_line_due (At q p) t s ≡ false
    = ap (λ (b : Bool). if reached then b else false) lasts ∙ never reached in
    undue q p t s due
    ∙ ap (λ (x : Seen). record (line_of q p t s) { seen = x })
    (told_same q expired (same expired) (line_of q p t s).seen)
