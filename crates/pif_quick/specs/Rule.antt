-- The rule of the words, and what each step tells the pass that makes it.
use Rattle.std.specs.Prelude.{◌≡◌, ◌≢◌, ◌⊎◌, ℕ, ◌+◌, ◌<◌, ◌≤◌, ◌^◌, ◌==◌, List, [], ◌∷◌, ◌++◌, length, slice_index, slice_index_or, Option, Some, None, MatchOption}
use mathlib.Core.Option.{some, none}
use mathlib.Core.Option as maybe
use lib.ListN.{get_elem?}
use prog.Atomic.{either}
use Rattle.atomic_table.specs.Table.{State, Me, Step}
use Rattle.pif_model.specs.Word.{Word, word_of, free_word, held_by, take_word, release_word, mark_word, hand_word}
use Rattle.pif_quick.specs.declared.rule.Turn.{Turn}
use Rattle.pif_quick.specs.declared.rule.Record.{Record}
use Rattle.pif_quick.specs.declared.rule.View.{View}
use Rattle.pif_quick.specs.declared.rule.Role.TheVariants.{Dealer, Seated, Spent}
use Rattle.pif_quick.specs.Turns.{left_by, IsChainOfTurns, turns_by, EndsWithOwn, IsOlder, IsOpen, IsSound, fresh, with_open, closed}

-- the number in a word's bits
abbrev pub number_at : List ℕ → ℕ → ℕ
number_at words i = (word_of (slice_index words i)).number

-- what stood in a place at first: nothing if the place is between two words
abbrev pub opening_at : {T : Type 0} → List (Option T) → ℕ → Option T
opening_at starts i = slice_index_or starts i None

module _ {T : Type 0} where
  -- the dealer has given this place to this pass
  abbrev pub IsDealt : View T → ℕ → ℕ → Type 0
  IsDealt d pass word = (pass < d.pass) ⊎ ((pass ≡ d.pass) × (word < d.word))

  -- The value of a word is out with a seat, whose turn is open
  pub record IsOut (views : List (View T)) (word : ℕ) : Type 0 where
    pub seat : ℕ
    pub view : View T
    pub found : T
    pub there : get_elem? views seat ≡ some view
    pub seated : view.role ≡ Seated
    pub word_is : view.word ≡ word
    pub found_is : view.known.found ≡ Some found

  -- What holds of a seat whose turn is open: it owns the word, has the value, and knows all turns
  pub record HoldsItsWord (words : List ℕ) (homes : List (maybe.Option (Option T))) (log : List (Turn T)) (v : View T)
      (f : T) : Type 0 where
    pub owns : number_at words v.word ≡ v.pass
    pub out : get_elem? homes v.word ≡ some none
    pub knows : v.known.turns ≡ log
    pub left : left_by v.known.opening log ≡ Some f

  -- What holds of a seat of a pass at a word, of which the log has all closed turns
  pub record IsSeatOfPass (starts : List (Option T)) (words : List ℕ) (homes : List (maybe.Option (Option T)))
      (log : List (Turn T)) (v : View T) : Type 0 where
    -- passes have numbers that fit a word, from 1
    pub numbered : (1 ≤ v.pass) × (v.pass < 2 ^ 30)
    pub opening : v.known.opening ≡ opening_at starts v.word
    -- its turns are a prefix of all, and what it lacks are turns of others
    pub newer : List (Turn T)
    pub prefix : newer ++ v.known.turns ≡ log
    pub others : turns_by v.pass newer ≡ []
    pub made : turns_by v.pass v.known.turns ≡ v.known.made
    -- with its open turn, they are none or end with its own
    pub last : v.known.found ≡ None → EndsWithOwn v.pass v.known.turns
    pub holds : (f : T) → v.known.found ≡ Some f → HoldsItsWord words homes log v f

  -- Who sits where. Seats are dealt by one dealer, in order, one for each pass and word
  pub record IsSeating (starts : List (Option T)) (views : List (View T)) : Type 0 where
    pub unique : (j k : ℕ) (v w : View T) → get_elem? views j ≡ some v → get_elem? views k ≡ some w
        → v.role ≡ Seated → w.role ≡ Seated → v.pass ≡ w.pass → v.word ≡ w.word → j ≡ k
    pub dealer : (j : ℕ) (v : View T) → get_elem? views j ≡ some v → v.role ≡ Dealer → (j ≡ 0) × (v.starts ≡ starts)
    pub dealt : (j k : ℕ) (d v : View T) → get_elem? views j ≡ some d → d.role ≡ Dealer
        → get_elem? views k ≡ some v → v.role ≡ Seated → IsDealt d v.pass v.word

  -- The rule: what holds between any two steps, of the words' bits, the values at home, and all views
  pub record EachWordHasOneHolder (starts : List (Option T)) (s : State (Option T) (View T)) : Type 0 where
    -- the closed turns of each word, newest first: the longest list in all views
    pub logs : ℕ → List (Turn T)
    pub chain : (i : ℕ) → IsChainOfTurns (opening_at starts i) (logs i)
    -- a place for each word
    pub sized : length s.words ≡ length s.homes
    -- words have 32 bits
    pub narrow : (i : ℕ) → slice_index s.words i < 2 ^ 32
    pub seating : IsSeating starts s.views
    pub seats : (j : ℕ) (v : View T) → get_elem? s.views j ≡ some v → v.role ≡ Seated
        → IsSeatOfPass starts s.words s.homes (logs v.word) v
    -- a value at home is what the last turn left, and each other one is out with a seat
    pub homes : (i : ℕ) → i < length s.homes
        → (get_elem? s.homes i ≡ some (some (left_by (opening_at starts i) (logs i)))) ⊎ IsOut s.views i
    -- what a view has learnt of another pass is a prefix too
    pub beside : (j : ℕ) (v : View T) → get_elem? s.views j ≡ some v → IsOlder v.beside (logs v.word)
    -- who has no seat yet has made no turn
    pub undealt : (j : ℕ) (d : View T) → get_elem? s.views j ≡ some d → d.role ≡ Dealer
        → (pass word : ℕ) → ¬ IsDealt d pass word → turns_by pass (logs word) ≡ []

  -- two seats whose turns of one word are open are one seat
  abbrev pub OneHolds : List (View T) → Type 0
  OneHolds views = (j k : ℕ) (v w : View T) → get_elem? views j ≡ some v → get_elem? views k ≡ some w
      → v.role ≡ Seated → w.role ≡ Seated → v.word ≡ w.word → IsOpen v.known → IsOpen w.known → j ≡ k

  -- the view of a seat that is given up, and of what a join leaves
  abbrev pub spent_view : View T
  spent_view = record { role = Spent; pass = 0; word = 0; starts = []; known = fresh None; beside = [] }

  -- the first view: the dealer of these opening values, before any seat
  abbrev pub first_dealer : List (Option T) → View T
  first_dealer starts = record { role = Dealer; pass = 1; word = 0; starts = starts; known = fresh None; beside = [] }

  -- the dealer after a seat: the words of two neighbours lie eight places apart
  abbrev pub dealer_after : View T → View T
  dealer_after d = record d { word = d.word + 8 }

  -- the seat that the dealer gives
  abbrev pub seat_from : View T → View T
  seat_from d = record {
    role = Seated;
    pass = d.pass;
    word = d.word;
    starts = [];
    known =
        fresh (opening_at d.starts d.word);
    beside = [];
  }

  -- the closed turns of a seat, to be shown to another seat of its word
  abbrev pub note_of : View T → View T
  note_of v = record { role = Spent; pass = 0; word = v.word; starts = []; known = fresh None; beside = v.known.turns }

  -- the view with another record of its word
  abbrev pub with_record : Record T → View T → View T
  with_record r v = record v { known = r }

-- the word that is handed to this pass, or freed if there is none
abbrev pub handed_to : Option ℕ → Word
handed_to None = free_word
handed_to (Some u) = hand_word u

-- The word part of a step: the word becomes what the function says, or stays if that fails
abbrev pub IsWordStep : (Word → Option Word) → ℕ → ℕ → Type 0
IsWordStep f found left = MatchOption (f (word_of found)) (left ≡ found) (λ w. word_of left ≡ w)

-- what a compare-exchange leaves in a word in which it found this
abbrev pub exchanged_word : {S : Type 0} → Step S → ℕ → ℕ
exchanged_word st found = either (found == st.first) st.second found

abbrev Known : Type 0 → Type 0
Known T = Me (Option T) (View T)

abbrev At : Type 0 → Type 0
At T = Step (Option T)

module _ {T : Type 0} where
  -- the seat's turn is open, and it has the slot with the value that it found
  pub record Opened (word : ℕ) (m m' : Known T) : Type 0 where
    pub found : T
    pub newer : List (Turn T)
    pub others : turns_by m.0.pass newer ≡ []
    pub view : m'.0 ≡ with_record (with_open found newer m.0.known) m.0
    pub hand : m'.1 ≡ (word, Some found) ∷ m.1
    pub sound : IsSound m.0.pass m'.0.known

  -- the seat's turn is closed with the value v, and the slot is at home
  pub record Closed (m m' : Known T) (v : T) : Type 0 where
    pub view : m'.0 ≡ with_record (closed m.0.pass v m.0.known) m.0
    pub hand : m'.1 ≡ []
    pub sound : IsSound m.0.pass m'.0.known

  -- Take the word and its value, by a compare-exchange from 0 to one's number
  pub record Took (st : At T) (m : Known T) (found : ℕ) (m' : Known T) : Type 0 where
    pub word_part : IsWordStep (λ w. take_word w m.0.pass) found (exchanged_word st found)
    pub narrow : found < 2 ^ 32
    pub own : IsOpen m.0.known → (word_of found).number ≡ m.0.pass
    pub taken : found ≡ 0 → Opened st.word m m'
    pub kept : found ≢ 0 → m' ≡ m

  -- Put the value home if the word was what one expected, which has one's own number
  pub record Left (st : At T) (m : Known T) (found : ℕ) (m' : Known T) : Type 0 where
    pub given : found ≡ st.first → (v : T) → m.1 ≡ (st.word, Some v) ∷ [] → Closed m m' v
    pub kept : found ≢ st.first → m' ≡ m

  -- Release the word, by a compare-exchange from one's number to 0
  abbrev pub Released : At T → Known T → ℕ → Known T → Type 0
  Released st m found m' = IsWordStep (λ w. release_word w m.0.pass) found (exchanged_word st found)
      × Left st m found m'

  -- Hand the word, which is marked, to a pass that waits, or free it if none does
  abbrev pub Handed : At T → Known T → ℕ → Known T → Type 0
  Handed st m found m' =
      (found ≡ st.first → (word_of found ≡ mark_word (held_by m.0.pass))
      × ((next : Option ℕ) × (word_of (exchanged_word st found) ≡ handed_to next)))
      × (found ≢ st.first → exchanged_word st found ≡ found)
      × Left st m found m'

  -- Mark the word for a pass that is to wait
  abbrev pub Marked : At T → Known T → ℕ → Known T → Type 0
  Marked st m found m' =
      (found ≡ st.first → word_of (exchanged_word st found) ≡ mark_word (word_of found))
      × (found ≢ st.first → exchanged_word st found ≡ found)
      × (m' ≡ m)

  -- Read the word
  abbrev pub Looked : At T → Known T → ℕ → Known T → Type 0
  Looked st m found m' = (found < 2 ^ 32) × (m' ≡ m)

  -- Read the word, and take its value if the word has one's number: it was handed over
  pub record Claimed (st : At T) (m : Known T) (found : ℕ) (m' : Known T) : Type 0 where
    pub narrow : found < 2 ^ 32
    pub taken : (word_of found).number ≡ m.0.pass → Opened st.word m m'
    pub kept : (word_of found).number ≢ m.0.pass → m' ≡ m

  -- Compare one's own turns with what was learnt of another pass, and forget that
  pub record Compared (st : At T) (m : Known T) (found : ℕ) (m' : Known T) : Type 0 where
    pub view : m' ≡ (record m.0 { beside = [] }, m.1)
    pub either_way : IsOlder m.0.beside m.0.known.turns ⊎ IsOlder m.0.known.turns m.0.beside
    pub open_turn : IsOpen m.0.known → IsOlder m.0.beside m.0.known.turns

  -- The dealer goes on to the next pass
  abbrev pub Paged : At T → Known T → ℕ → Known T → Type 0
  Paged st m found m' = m' ≡ (record m.0 { pass = m.0.pass + 1; word = 0 }, m.1)
