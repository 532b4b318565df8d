-- The seat of one pass at one word, between two calls.
use Rattle.std.specs.Prelude.{◌≡◌, ℕ, ◌<◌, ◌≤◌, ◌^◌, List, [], ◌∷◌, Option, Some, None}
use Rattle.atomic_table.specs.Seated.{TableId}
use Rattle.atomic_table.specs.declared.shared.Seat.{Seat}
use Rattle.pif_quick.specs.declared.rule.View.{View}
use Rattle.pif_quick.specs.declared.rule.Record.{Record}
use Rattle.pif_quick.specs.declared.rule.Role.TheVariants.{Dealer, Seated}
use Rattle.pif_quick.specs.Turns.{IsSound, fresh}
use Rattle.pif_quick.specs.Rule.{opening_at}

module _ {T : Type 0} where
  -- what the pass knows of the word
  abbrev pub record_of : Seat (Option T) (View T) → Record T
  record_of p = p.me.0.known

  -- the number of the pass
  abbrev pub pass_of : Seat (Option T) (View T) → ℕ
  pass_of p = p.me.0.pass

  -- the slots in hand: the word's, empty, while a turn is open
  abbrev pub hand_if : Option T → ℕ → List (ℕ × Option T)
  hand_if None word = []
  hand_if (Some found) word = (word, None) ∷ []

  -- What holds of the seat of this pass at this word of the table
  pub record IsPlaceOf (z : TableId) (word pass : ℕ) (p : Seat (Option T) (View T)) : Type 0 where
    pub table : p.table_id ≡ z
    pub inside : (word < z.words) × (word < z.slots)
    pub seated : p.me.0.role ≡ Seated
    pub word_is : p.me.0.word ≡ word
    pub pass_is : p.me.0.pass ≡ pass
    pub numbered : (1 ≤ pass) × (pass < 2 ^ 30)
    pub opening : (x : T) × (p.me.0.known.opening ≡ Some x)
    pub hand : p.me.1 ≡ hand_if p.me.0.known.found word
    pub sound : IsSound pass p.me.0.known

  -- the seat of its pass at this word
  abbrev pub IsPlaceOfPass : TableId → ℕ → Seat (Option T) (View T) → Type 0
  IsPlaceOfPass z word p = IsPlaceOf z word (pass_of p) p

  -- the dealer of these opening values that is at this word and this pass
  abbrev pub dealer_at : List (Option T) → ℕ → ℕ → View T
  dealer_at starts word pass = record {
    role = Dealer;
    pass = pass;
    word = word;
    starts = starts;
    known =
        fresh None;
    beside = [];
  }

  -- the seat of a pass at this word, before any turn
  abbrev pub IsFreshPlace : List (Option T) → TableId → ℕ → ℕ → Seat (Option T) (View T) → Type 0
  IsFreshPlace starts z word pass p = IsPlaceOf z word pass p × (record_of p ≡ fresh (opening_at starts word))
