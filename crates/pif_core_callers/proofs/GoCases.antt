-- A step of an open call that is no wait: the call expires, or the step is that of its line.
use Rattle.std.proofs.Common.{◌≡◌, ℕ, Bool, true, false, refl, sym, ap, subst, if◌then◌else◌}
use Rattle.pif_types.specs.declared.requests.Request.{Request}
use Rattle.pif_model.specs.declared.events.Seen.{Seen}
use Rattle.pif_model.specs.declared.events.Seen.TheVariants.{Begun, Went, Waits, Answered, Ended, Ticked, Refused}
use Rattle.pif_model.specs.declared.lines.Line.TheVariants.{At}
use Rattle.pif_model.specs.declared.lines.Place.{Place}
use Rattle.pif_model.specs.Deadlines.{is_reached, reported_result, reported_seen}
use Rattle.pif_model.specs.Table.{Table, status_at, timer_at}
use Rattle.pif_model.specs.Lines.{Outcome, counts_at, expires_at, go_outcome, line_of, reported_outcome}

-- a call whose results are all answered as they are shows each step as it is
unreported_seen : (q : Request) (x : Bool) → ((a : ℕ) → reported_result q x a ≡ a) → (seen : Seen) → reported_seen q x seen ≡ seen
unreported_seen q x same (Answered a) = ap Answered (same a)
unreported_seen q x same Begun = refl
unreported_seen q x same Went = refl
unreported_seen q x same Waits = refl
unreported_seen q x same Ended = refl
unreported_seen q x same Ticked = refl
unreported_seen q x same (Refused r) = refl

untold : (q : Request) (x : Bool) → ((a : ℕ) → reported_result q x a ≡ a) → (o : Outcome) → reported_outcome q x o ≡ o
untold q x same o = ap (λ (seen : Seen). record { seen = seen; after = o.after }) (unreported_seen q x same o.seen)

-- a step of such a call at a place
pub go_cases : (P : Outcome → Type 0) (q : Request) (p : Place) (t : ℕ) (s : Table)
    → ((x : Bool) (a : ℕ) → reported_result q x a ≡ a) → (counts_at q p (status_at s t) ≡ true → P (expires_at q p t s))
    → P (line_of q p t s) → P (go_outcome (At q p) t s)
unfolding go_outcome
go_cases P q p t s same expires acts =
    by_due (is_reached (timer_at s t).deadline s.time) (counts_at q p (status_at s t)) refl
  where
    told_acts : P (reported_outcome q (timer_at s t).expired (line_of q p t s))
    told_acts =
        subst P (sym (untold q (timer_at s t).expired (same (timer_at s t).expired) (line_of q p t s))) acts

    by_due : (reached counts : Bool) → counts_at q p (status_at s t) ≡ counts
        → P (if (if reached then counts else false) then expires_at q p t s
        else reported_outcome q (timer_at s t).expired (line_of q p t s))
    by_due true true e = expires e
    by_due true false e = told_acts
    by_due false counts e = told_acts
