-- What a core is asked in worked examples, and what it shows, computed on the definitions themselves.
use Rattle.std.proofs.Common.{ℕ, zero, suc, List, [], ◌∷◌}
use Rattle.pif_types.specs.declared.requests.Request.{Request}
use Rattle.pif_model.specs.declared.events.Event.{Event}
use Rattle.pif_model.specs.declared.events.Event.TheVariants.{Begin, Go}
use Rattle.pif_model.specs.declared.events.Seen.{Seen}
use Rattle.pif_model.specs.declared.events.Seen.TheVariants.{Went}
use Rattle.pif_model.specs.Word.{bits_of}
use Rattle.pif_model.specs.Table.{Table, cell_at, uses_of}
use Rattle.pif_model.specs.PiKernel.{effective_in}
use Rattle.pif_model.specs.Lines.{Outcome, event_outcome, goes_on}

-- what a core is asked
pub data Ask : Type 0 where
  -- one event
  Do : Event → Ask
  -- a call, up to the first step that isn't Went
  Call : ℕ → Request → Ask
  -- the open call, up to the first step that isn't Went
  Finish : ℕ → Ask
  -- the word of a mutex, its health word, the condition word of a variable, and the effective priority of a thread
  Word : ℕ → Ask
  Health : ℕ → Ask
  Uses : ℕ → Ask
  Priority : ℕ → Ask

-- what it shows
pub data Shown : Type 0 where
  Saw : Seen → Shown
  Bits : ℕ → Shown
  HealthWord : ℕ → Shown
  CondWord : ℕ → Shown
  Effective : ℕ → Shown

-- at most 24 steps of t
unfoldable pub finished : ℕ → Table → Outcome
finished t s = goes_on 23 t s

-- what one question shows
unfoldable pub reply : Ask → Table → Shown
reply (Do e) s = Saw (event_outcome e s).seen
reply (Call t q) s = Saw (finished t (event_outcome (Begin t q) s).after).seen
reply (Finish t) s = Saw (finished t s).seen
reply (Word m) s = Bits (bits_of (cell_at s m).word)
reply (Health m) s = HealthWord (cell_at s m).health
reply (Uses c) s = CondWord (uses_of s c)
reply (Priority t) s = Effective (effective_in s.kernel t)

-- the table after it
unfoldable pub next : Ask → Table → Table
next (Do e) s = (event_outcome e s).after
next (Call t q) s = (finished t (event_outcome (Begin t q) s).after).after
next (Finish t) s = (finished t s).after
next (Word m) s = s
next (Health m) s = s
next (Uses c) s = s
next (Priority t) s = s

-- what some questions show
unfoldable pub shows : List Ask → Table → List Shown
shows [] s = []
shows (a ∷ more) s = reply a s ∷ shows more (next a s)

-- steps of t, this many, each of which is Went
unfoldable pub goes : ℕ → ℕ → List Ask
goes t zero = []
goes t (suc n) = Do (Go t) ∷ goes t n

unfoldable pub wents : ℕ → List Shown
wents zero = []
wents (suc n) = Saw Went ∷ wents n
