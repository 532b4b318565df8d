-- The turns of one word as one pass knows them. A turn is the time in which a pass has the word's value: it found the
-- value, and left one. Lists of turns stand newest first.
use Rattle.std.specs.Prelude.{◌≡◌, ◌⊎◌, ℕ, ◌==◌, List, [], ◌∷◌, ◌++◌, if◌then◌else◌, Option, Some, None}
use Rattle.pif_quick.specs.declared.rule.Turn.{Turn}
use Rattle.pif_quick.specs.declared.rule.Record.{Record}

module _ {T : Type 0} where
  -- the value that the last of these turns left, or the opening value if there is none
  abbrev pub left_by : Option T → List (Turn T) → Option T
  left_by opening [] = opening
  left_by opening (t ∷ ts) = Some t.left

  -- the first turn found the opening value, and each later one what the one before it left
  abbrev pub IsChainOfTurns : Option T → List (Turn T) → Type 0
  IsChainOfTurns opening [] = Unit {0}
  IsChainOfTurns opening (t ∷ ts) = (left_by opening ts ≡ Some t.found) × IsChainOfTurns opening ts

  -- what a pass found and left in its turns among these
  abbrev pub turns_by : ℕ → List (Turn T) → List (T × T)
  turns_by pass [] = []
  turns_by pass (t ∷ ts) = if t.pass == pass then (t.found, t.left) ∷ turns_by pass ts else turns_by pass ts

  -- one list is a prefix of the other in time: what the other has beyond it is newer
  abbrev pub IsOlder : List (Turn T) → List (Turn T) → Type 0
  IsOlder older all = (newer : List (Turn T)) × (newer ++ older ≡ all)

  -- there are no turns, or the newest is the pass's own
  abbrev pub EndsWithOwn : ℕ → List (Turn T) → Type 0
  EndsWithOwn pass [] = Unit {0}
  EndsWithOwn pass (t ∷ ts) = t.pass ≡ pass

  -- the pass has an open turn, which has left nothing yet
  abbrev pub IsOpen : Record T → Type 0
  IsOpen r = (f : T) × (r.found ≡ Some f)

  -- What holds of a pass's record, for any schedule
  pub record IsSound (pass : ℕ) (r : Record T) : Type 0 where
    -- closed turns found what the one before them left, the first one the opening value
    pub chain : IsChainOfTurns r.opening r.turns
    -- so did the open turn
    pub open_turn : (f : T) → r.found ≡ Some f → left_by r.opening r.turns ≡ Some f
    -- the pass's own turns are those that it made, in order, each once
    pub own : turns_by pass r.turns ≡ r.made
    -- it knows no turns that are newer than its own last one, but while its turn is open
    pub last : r.found ≡ None → EndsWithOwn pass r.turns

  -- Of two records of one word, one list with its open turn is a prefix of the other
  abbrev pub Agree : Record T → Record T → Type 0
  Agree r s = ((r.found ≡ None) × IsOlder r.turns s.turns) ⊎ ((s.found ≡ None) × IsOlder s.turns r.turns)

  -- the record before any turn
  abbrev pub fresh : Option T → Record T
  fresh opening = record { opening = opening; found = None; turns = []; made = [] }

  -- the record with newer closed turns and an open turn that found f
  abbrev pub with_open : T → List (Turn T) → Record T → Record T
  with_open f newer r = record { opening = r.opening; found = Some f; turns = newer ++ r.turns; made = r.made }

  -- The record goes on: newer turns of other passes, and an open turn of its own that found f
  abbrev pub OpensTurn : ℕ → T → Record T → Record T → Type 0
  OpensTurn pass f r r' = (newer : List (Turn T)) × (turns_by pass newer ≡ []) × (r' ≡ with_open f newer r)

  -- the record whose open turn, which found f, has left a value
  abbrev pub closed_from : ℕ → T → Option T → Record T → Record T
  closed_from pass left None r = r
  closed_from pass left (Some f) r =
      record {
        opening = r.opening;
        found = None;
        turns = (record { pass = pass; found = f; left = left }) ∷ r.turns;
        made = (f, left) ∷ r.made;
      }

  -- the record whose open turn has left a value
  abbrev pub closed : ℕ → T → Record T → Record T
  closed pass left r = closed_from pass left r.found r
