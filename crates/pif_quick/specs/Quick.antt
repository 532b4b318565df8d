-- What callers see of the quick path: for each pass its number and its records, one for each word.
use Rattle.std.specs.Prelude.{◌≡◌, ◌≢◌, ℕ, ◌*◌, ◌<◌, List, [], ◌∷◌, ◌++◌, map, length, replicate, slice_get, slice_index_or, slice_set, vec_len, Option, Some, None}
use Rattle.atomic_table.specs.Seated.{TableId}
use Rattle.atomic_table.specs.declared.shared.Seat.{Seat}
use Rattle.pif_quick.specs.declared.rule.View.{View}
use Rattle.pif_quick.specs.declared.rule.Record.{Record}
use Rattle.pif_quick.specs.declared.quick.Quick.{Quick}
use Rattle.pif_quick.specs.declared.quick.Pass.{Pass}
use Rattle.pif_quick.specs.declared.quick.Held.{Held}
use Rattle.pif_quick.specs.Turns.{IsOpen, IsSound, OpensTurn, fresh, closed}
use Rattle.pif_quick.specs.Places.{record_of, IsPlaceOf, IsFreshPlace}

module _ {T : Type 0} where
  -- how many words there are
  abbrev pub word_count : Quick T → ℕ
  word_count q = q.count

  -- a pass's number
  abbrev pub pass_number : Pass T → ℕ
  pass_number p = p.number

  -- a pass's records, one for each word
  abbrev pub records : Pass T → List (Record T)
  records p = map record_of p.places.items

  -- a pass's record of the word m
  abbrev pub record_at : Pass T → ℕ → Record T
  record_at p m = slice_index_or (records p) m (fresh None)

  -- the value of what is held
  abbrev pub held_value : Held T → T
  held_value h = h.value

  -- the word that is held
  abbrev pub held_word : Held T → ℕ
  held_word h = h.word

  -- What holds of a pass of these words
  pub record IsPassOf (q : Quick T) (p : Pass T) : Type 0 where
    -- it has a record for each word
    pub counted : vec_len p.places ≡ q.count
    -- it has a place to sleep
    pub numbered : p.number < vec_len q.handed
    -- its seats are the table's, one for each word
    pub place : (m : ℕ) (s : Seat (Option T) (View T)) → slice_get p.places.items m ≡ Some s
        → IsPlaceOf q.board.shared.table_id (8 * m) p.number s

  -- a pass as it is dealt, if these are the opening values, eight places apart
  pub record IsDealtPass (starts : List (Option T)) (z : TableId) (count number : ℕ) (p : Pass T) : Type 0 where
    pub number_is : p.number ≡ number
    pub counted : vec_len p.places ≡ count
    pub place : (m : ℕ) (s : Seat (Option T) (View T)) → slice_get p.places.items m ≡ Some s
        → IsFreshPlace starts z (8 * m) number s

  -- each of a pass's records is sound
  abbrev pub AreSound : Pass T → Type 0
  AreSound p = (m : ℕ) → m < length (records p) → IsSound (pass_number p) (record_at p m)

  -- the pass has no open turn
  abbrev pub IsIdle : Pass T → Type 0
  IsIdle p = (m : ℕ) → (record_at p m).found ≡ None

  -- the pass has no open turn but of the word m
  abbrev pub IsIdleBut : ℕ → Pass T → Type 0
  IsIdleBut m p = (k : ℕ) → k ≢ m → (record_at p k).found ≡ None

  -- the pass's records are as they were
  abbrev pub IsUnchanged : Pass T → Pass T → Type 0
  IsUnchanged p p' = (pass_number p' ≡ pass_number p) × (records p' ≡ records p)

  -- the pass's record of the word m changes in this way, and the others stay
  abbrev pub ChangesAt : ℕ → (Record T → Record T → Type 0) → Pass T → Pass T → Type 0
  ChangesAt m change p p' =
      (pass_number p' ≡ pass_number p) × (records p' ≡ slice_set (records p) m (record_at p' m))
      × change (record_at p m) (record_at p' m)

  -- what is held was locked among these words, and is the pass's open turn at its word
  abbrev pub IsTurnOf : Quick T → Pass T → Held T → Type 0
  IsTurnOf q p h =
      (h.home.value ≡ q.board.shared) × (h.pass ≡ pass_number p) × IsOpen (record_at p (held_word h))

  -- the pass opens a turn at the word m, and holds the value found: newer closed turns of others stand before it
  abbrev pub LocksWord : Quick T → ℕ → Pass T → Pass T → Held T → Type 0
  LocksWord q m p p' h =
      (held_word h ≡ m) × IsTurnOf q p' h × ChangesAt m (λ r r'. OpensTurn (pass_number p) (held_value h) r r') p p'

  -- the pass closes its turn with the value of what it held
  abbrev pub UnlocksWord : Held T → Pass T → Pass T → Type 0
  UnlocksWord h p p' = ChangesAt (held_word h) (λ r r'. r' ≡ closed (pass_number p) (held_value h) r) p p'

  -- a pass before any turn, if these are the opening values
  abbrev pub IsFresh : List T → Pass T → Type 0
  IsFresh values p =
      (length (records p) ≡ length values) × ((m : ℕ) (x : T) → slice_get values m ≡ Some x
      → record_at p m ≡ fresh (Some x))

-- the values, eight places apart, so that no two of their words share a line of the cache, nor two values if a slot
-- has at least eight bytes
abbrev pub spaced : {T : Type 0} → T → List (Option T)
spaced x = Some x ∷ replicate 7 None

abbrev pub spread : {T : Type 0} → List T → List (Option T)
spread [] = []
spread (x ∷ xs) = spaced x ++ spread xs
