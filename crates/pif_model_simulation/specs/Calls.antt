-- What a whole call comes to, and which entries it adds to a history.
use Rattle.std.specs.Prelude.{ℕ, zero, suc, List, ◌∷◌, ◌++◌}
use Rattle.pif_types.specs.declared.requests.Request.{Request}
use Rattle.pif_model.specs.declared.events.Event.TheVariants.{Begin, Go}
use Rattle.pif_model.specs.declared.events.Seen.TheVariants.{Went, Refused}
use Rattle.pif_model.specs.declared.events.Entry.{Entry}
use Rattle.pif_model.specs.declared.events.Entry.TheVariants.{Step as Happened}
use Rattle.pif_model.specs.Posix.{World}
use Rattle.pif_model.specs.Standing.{Stands}
use Rattle.pif_model.specs.Table.{Table}
use Rattle.pif_model.specs.Lines.{Outcome, event_outcome, goes_on}

-- how many of the first steps of t, this many at most, are answered Went before the first that isn't
unfoldable pub steps_before : ℕ → ℕ → Table → ℕ
steps_before zero t s = 0
steps_before (suc more) t s =
    elim (event_outcome (Go t) s).seen [
      | Went ↦ suc (steps_before more t (event_outcome (Go t) s).after)
      | _ ↦ 0
    ]

-- a history, newest entry first, with this many steps of t more that were answered Went
unfoldable pub went : ℕ → ℕ → List Entry → List Entry
went zero t h = h
went (suc n) t h = went n t (Happened (Go t) Went ∷ h)

-- a history with the entries more by which t went on, this often at most after a first time, up to the first answer
-- that isn't Went
abbrev pub after_going : ℕ → ℕ → Table → List Entry → List Entry
after_going more t s h = Happened (Go t) (goes_on more t s).seen ∷ went (steps_before more t s) t h

-- how often a thread goes on at most after a first time: one less than the 24 steps within which an open call is
-- answered or waits
abbrev pub most_further_steps : ℕ
most_further_steps = 23

-- what t's open call comes to: t goes on, at most 24 times, up to the first answer that isn't Went
abbrev pub finish_outcome : ℕ → Table → Outcome
finish_outcome t s = goes_on most_further_steps t s

-- a history with the entries more by which t went on so
abbrev pub after_finish : ℕ → Table → List Entry → List Entry
after_finish t s h = after_going most_further_steps t s h

-- a whole call: t begins it, and if that is not refused goes on, at most 24 times, up to the first answer that isn't
-- Went
unfoldable pub call_outcome : ℕ → Request → Table → Outcome
call_outcome t q s =
    elim (event_outcome (Begin t q) s).seen [
      | Refused r ↦ event_outcome (Begin t q) s
      | _ ↦ goes_on most_further_steps t (event_outcome (Begin t q) s).after
    ]

-- a history with the entries more of a whole call
unfoldable pub after_call : ℕ → Request → Table → List Entry → List Entry
after_call t q s h =
    elim (event_outcome (Begin t q) s).seen [
      | Refused r ↦ Happened (Begin t q) (event_outcome (Begin t q) s).seen ∷ h
      | _ ↦ after_finish t (event_outcome (Begin t q) s).after (Happened (Begin t q) (event_outcome (Begin t q) s).seen ∷ h)
    ]

-- a core with this table stands after the history h, by a run that goes on from the state w, which it reached through
-- the states r (newest first)
pub record StandsOn (s : Table) (h : List Entry) (r : List World) (w : World) : Type 0 where
  -- the states that it went through since, newest first
  pub more : List World
  pub last : World
  pub stands : Stands s h (more ++ w ∷ r) last
