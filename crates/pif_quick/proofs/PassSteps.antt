-- A pass of which one seat has stepped.
use Rattle.std.proofs.Common.{◌≡◌, ◌⊎◌, ℕ, zero, suc, ◌+◌, ◌*◌, ◌<◌, List, [], ◌∷◌, length, get_or, set, Option, Some, None, sym, refl, ap, ◌∙◌, subst, ⊎_elim, inl, inr, arith, slice_get}
use borrow.Author.Count.{below_more}
use mathlib.Core.Logic.{dite}
use native.Mathlib.Decide.{dec_le}
use Rattle.std.specs.Vec.{with_item}
use Rattle.std.proofs.lemmas.Option.{slice_get-get_or, slice_get_within, get_or_from_slice_get}
use Rattle.std.proofs.lemmas.List.{length-map, map-set, get_or-map, get_or-set_same, get_or_past, set-get_or}
use Rattle.pif_quick.specs.declared.rule.Record.{Record}
use Rattle.pif_quick.specs.declared.quick.Quick.{Quick}
use Rattle.pif_quick.specs.declared.quick.Pass.{Pass}
use Rattle.pif_quick.specs.declared.quick.Held.{Held}
use Rattle.pif_quick.specs.Turns.{IsOpen, IsSound, Agree, OpensTurn, fresh}
use Rattle.pif_quick.specs.Places.{record_of, IsPlaceOf, IsPlaceOfPass}
use Rattle.pif_quick.specs.Quick.{records, record_at, IsPassOf, AreSound, IsIdle, IsUnchanged, ChangesAt, IsTurnOf, LocksWord}
use Rattle.pif_quick.proofs.Steps.{Known}
use Rattle.pif_quick.proofs.PlaceSteps.{Place, same_place}

module _ {A : Type 0} where
  got_set : (l : List A) (i j : ℕ) (a b : A) → slice_get (set l i a) j ≡ Some b
      → ((j ≡ i) × (a ≡ b)) ⊎ (slice_get l j ≡ Some b)
  got_set [] i j a b e = inr e
  got_set (x ∷ xs) zero zero a b e = inl (refl, cc)
  got_set (x ∷ xs) zero (suc j) a b e = inr e
  got_set (x ∷ xs) (suc i) zero a b e = inr e
  got_set (x ∷ xs) (suc i) (suc j) a b e = ⊎_elim (λ (t : (j ≡ i) × (a ≡ b)). inl (ap suc t.0, t.1))
      (λ (h : slice_get xs j ≡ Some b). inr h) (got_set xs i j a b e)

module _ {T : Type 0} where
  -- the record of a word is its seat's
  pub record_at-is : (p : Pass T) (m : ℕ) (s : Place T) → slice_get p.places.items m ≡ Some s
      → record_at p m ≡ record_of s
  record_at-is p m s e =
      get_or-map record_of p.places.items m s (fresh None) (slice_get_within p.places.items m s e)
      ∙ ap record_of (get_or_from_slice_get p.places.items m s s e)

  some_there : (l : List (Place T)) (i : ℕ) → i < length l → (s : Place T) × (slice_get l i ≡ Some s)
  some_there [] i h = absurd (omega arith)
  some_there (x ∷ xs) zero h = (x, refl)
  some_there (x ∷ xs) (suc i) h = some_there xs i (omega arith)

  -- records are sound if the seats' are
  pub sound_from : (p : Pass T) → ((m : ℕ) (s : Place T) → slice_get p.places.items m ≡ Some s
      → IsSound p.number (record_of s)) → AreSound p
  sound_from p each m lt =
      let got = some_there p.places.items m (omega (arith, length-map p.places.items record_of)) in
      subst (IsSound p.number) (sym (record_at-is p m got.0 got.1)) (each m got.0 got.1)

  pub same_records : (p p' : Pass T) (m : ℕ) → records p' ≡ records p → record_at p' m ≡ record_at p m
  same_records p p' m e = ap (λ (l : List (Record T)). get_or l m (fresh None)) e

  -- what holds of two records holds of them if they are unchanged
  same_agree : (p p' r r' : Pass T) (m : ℕ) → IsUnchanged p p' → IsUnchanged r r'
      → Agree (record_at p m) (record_at r m) → Agree (record_at p' m) (record_at r' m)
  same_agree p p' r r' m a b h = subst (λ (z : Record T × Record T). Agree z.0 z.1)
      (λ i. (sym (same_records p p' m a.1) i, sym (same_records r r' m b.1) i)) h

  agree_at : (p r : Pass T) (m : ℕ) (a b : Record T) → record_at p m ≡ a → record_at r m ≡ b → Agree a b
      → Agree (record_at p m) (record_at r m)
  agree_at p r m a b e f h = subst (λ (z : Record T × Record T). Agree z.0 z.1) (λ i. (sym e i, sym f i)) h

  module _ (q : Quick T) (p : Pass T) (own : IsPassOf q p) where
    items_count : length p.places.items ≡ q.count
    items_count = sym p.places.ok.0 ∙ own.counted

    -- what is held stands at one of the words
    pub held_inside : (h : Held T) → IsTurnOf q p h → h.word < q.count
    held_inside h t = dite (dec_le (length (records p)) h.word)
        (λ past. absurd (not_open t.2.0 (ap (λ (r : Record T). r.found)
        (sym (get_or_past (records p) h.word (fresh None) past)) ∙ t.2.1)))
        (λ inside. omega (arith, items_count, length-map p.places.items record_of))
      where
        not_open : (f : T) → ◌≡◌ {A = Option T} None (Some f) → ⊥
        not_open f e = cc

    -- a pass's records are sound
    pub sound_of : AreSound p
    sound_of = sound_from p (λ m s e. (own.place m s e).sound)

    module _ (m : ℕ) (lt : m < q.count) (s : Place T) (is : s ≡ get_or p.places.items m s) where
      there : slice_get p.places.items m ≡ Some s
      there = slice_get-get_or p.places.items m s (omega (arith, items_count)) ∙ ap (λ (x : Place T). Some x) (sym is)

      pub seat_of : IsPlaceOf q.board.shared.table_id (8 * m) p.number s
      seat_of = own.place m s there

      pub seat_own : IsPlaceOfPass q.board.shared.table_id (8 * m) s
      seat_own = subst (λ (k : ℕ). IsPlaceOf q.board.shared.table_id (8 * m) k s) (sym seat_of.pass_is) seat_of

      pub record_before : record_at p m ≡ record_of s
      record_before = record_at-is p m s there

      -- the seat of a pass that had no open turn
      pub seat_idle : (p₀ : Pass T) → IsUnchanged p₀ p → IsIdle p₀ → (record_of s).found ≡ None
      seat_idle p₀ u idle =
          ap (λ (r : Record T). r.found) (sym record_before ∙ same_records p₀ p m u.1) ∙ idle m

      pub seat_open : IsOpen (record_at p m) → IsOpen (record_of s)
      seat_open o = (o.0, ap (λ (r : Record T). r.found) (sym record_before) ∙ o.1)

      module _ (s' : Place T) where
        -- the seat is as it was
        pub looked_place : s'.table_id ≡ s.table_id → s'.me ≡ s.me
            → IsPlaceOf q.board.shared.table_id (8 * m) p.number s'
        looked_place t e = same_place q.board.shared.table_id (8 * m) p.number s seat_of s' (t ∙ seat_of.table)
            (ap (λ (y : Known T). y.0.role) e)
            (ap (λ (y : Known T). y.0.pass) e) (ap (λ (y : Known T). y.0.word) e) (ap (λ (y : Known T). y.0.known) e)
            (ap (λ (y : Known T). y.1) e ∙ seat_of.hand)

        -- the seat that knows itself
        pub place_named : IsPlaceOfPass q.board.shared.table_id (8 * m) s' → s'.me.0.pass ≡ s.me.0.pass
            → IsPlaceOf q.board.shared.table_id (8 * m) p.number s'
        place_named h e = subst (λ (k : ℕ). IsPlaceOf q.board.shared.table_id (8 * m) k s') (e ∙ seat_of.pass_is) h

        abbrev after : Pass T
        after = record { number = p.number; places = with_item p.places m s' }

        pub pass_after : IsPlaceOf q.board.shared.table_id (8 * m) p.number s' → IsPassOf q after
        pass_after h = record {
          counted = own.counted;
          numbered = own.numbered;
          place = λ k x e. ⊎_elim
              (λ (t : (k ≡ m) × (s' ≡ x)). subst (λ (y : ℕ × Place T). IsPlaceOf q.board.shared.table_id
              (8 * y.0) p.number y.1) (λ i. (sym t.0 i, t.1 i)) h)
              (λ (old : slice_get p.places.items k ≡ Some x). own.place k x old) (got_set p.places.items m k s' x e);
        }

        records_after : records after ≡ set (records p) m (record_of s')
        records_after = map-set record_of p.places.items m s'

        pub record_after : record_at after m ≡ record_of s'
        record_after = ap (λ (l : List (Record T)). get_or l m (fresh None)) records_after
            ∙ get_or-set_same (records p) m (record_of s') (fresh None)
            (omega (arith, items_count, length-map p.places.items record_of))

        pub changes : (Q : Record T → Record T → Type 0) → Q (record_of s) (record_of s') → ChangesAt m Q p after
        changes Q h = (
          refl,
          records_after ∙ ap (λ (r : Record T). set (records p) m r) (sym record_after),
          subst (λ (z : Record T × Record T). Q z.0 z.1) (λ i. (sym record_before i, sym record_after i)) h,
        )

        pub unchanged : record_of s' ≡ record_of s → IsUnchanged p after
        unchanged e = (
          refl,
          records_after ∙ (ap (λ (r : Record T). set (records p) m r) (e ∙ sym record_before)
              ∙ set-get_or (records p) m (fresh None)),
        )

        pub unchanged_since : (p₀ : Pass T) → IsUnchanged p₀ p → record_of s' ≡ record_of s → IsUnchanged p₀ after
        unchanged_since p₀ u e = let v = unchanged e in (v.0 ∙ u.0, v.1 ∙ u.1)

        -- a turn was opened, and its value is held
        pub locks : (h : Held T) → h.home.value ≡ q.board.shared → h.word ≡ m → h.pass ≡ p.number
            → OpensTurn p.number h.value (record_of s) (record_of s') → LocksWord q m p after h
        locks h home word number o = (
          word,
          (
            home,
            number,
            subst (λ (k : ℕ). IsOpen (record_at after k)) (sym word)
                (h.value, ap (λ (r : Record T). r.found) record_after ∙ ap (λ (r : Record T). r.found) o.2),
          ),
          changes (λ r r'. OpensTurn p.number h.value r r') o,
        )

  -- two passes have met at the words below m, and now at m
  pub meets_on : (q : Quick T) (p r : Pass T) (own : IsPassOf q p) (own_r : IsPassOf q r) (m : ℕ) (lt : m < q.count)
      (s u : Place T) (is : s ≡ get_or p.places.items m s) (is_u : u ≡ get_or r.places.items m u)
      (s' u' : Place T) → record_of s' ≡ record_of s → record_of u' ≡ record_of u → Agree (record_of s) (record_of u)
      → ((k : ℕ) → k < m → Agree (record_at p k) (record_at r k))
      → (k : ℕ) → k < m + 1 → Agree (record_at (after q p own m lt s is s') k)
      (record_at (after q r own_r m lt u is_u u') k)
  meets_on q p r own own_r m lt s u is is_u s' u' e e_u now below k at =
      same_agree p (after q p own m lt s is s') r (after q r own_r m lt u is_u u') k
      (unchanged q p own m lt s is s' e) (unchanged q r own_r m lt u is_u u' e_u)
      (below_more (λ (j : ℕ). Agree (record_at p j) (record_at r j)) m below
      (agree_at p r m (record_of s) (record_of u) (record_before q p own m lt s is)
      (record_before q r own_r m lt u is_u) now) k at)
