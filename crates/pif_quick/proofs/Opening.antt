-- What `open` makes: places for the values, and a seat for each pass and word.
use Rattle.std.proofs.Common.{◌≡◌, ◌⊎◌, ℕ, zero, suc, ◌+◌, ◌*◌, ◌<◌, ◌≤◌, ◌^◌, ◌-◌, List, [], ◌∷◌, ◌++◌, length, get_or, replicate, Option, Some, None, sym, refl, ap, ◌∙◌, subst, ⊎_elim, inl, inr, arith, slice_get, append-nil, vec_len}
use Rattle.std.proofs.lemmas.List.{append_assoc, length-map}
use Rattle.std.proofs.lemmas.Option.{slice_get_within}
use mathlib.Core.Option.{none}
use Rattle.atomic_table.specs.Seated.{TableId}
use Rattle.atomic_table.specs.Table.{step, Allows, Splits, opening}
use Rattle.pif_nodes_model.proofs.Places.{slice_get-more}
use Rattle.pif_quick.specs.declared.rule.Record.{Record}
use Rattle.pif_quick.specs.Turns.{IsSound, fresh}
use Rattle.pif_quick.specs.Rule.{EachWordHasOneHolder, opening_at, first_dealer, dealer_after, seat_from, Paged}
use Rattle.pif_quick.specs.Places.{record_of, hand_if, IsPlaceOf, dealer_at, IsFreshPlace}
use Rattle.pif_quick.specs.declared.quick.Quick.{Quick}
use Rattle.pif_quick.specs.declared.quick.Pass.{Pass}
use Rattle.pif_quick.specs.Quick.{spaced, spread, IsDealtPass, IsPassOf, AreSound, IsFresh}
use Rattle.pif_quick.proofs.Dealing.{dealing, paging, starting}
use Rattle.pif_quick.proofs.Steps.{Known}
use Rattle.pif_quick.proofs.PlaceSteps.{Place}
use Rattle.pif_quick.proofs.PassSteps.{record_at-is, sound_from}

module _ {A : Type 0} where
  -- what holds of each element, and of one more, holds of each of the longer list
  pub each_got : (P : ℕ → A → Type 0) (l : List A) (a : A) → ((j : ℕ) (b : A) → slice_get l j ≡ Some b → P j b)
      → P (length l) a → (j : ℕ) (b : A) → slice_get (l ++ a ∷ []) j ≡ Some b → P j b
  each_got P l a others last j b e = ⊎_elim (λ (h : slice_get l j ≡ Some b). others j b h)
      (λ (t : (j ≡ length l) × (b ≡ a)). subst (λ (x : ℕ × A). P x.0 x.1) (λ k. (sym t.0 k, sym t.1 k)) last)
      (slice_get-more l a j b e)

module _ {T : Type 0} where
  pub spread-end : (xs : List T) (x : T) → spread (xs ++ x ∷ []) ≡ spread xs ++ spaced x
  spread-end [] x = append-nil (spaced x)
  spread-end (y ∷ ys) x = ap (λ (l : List (Option T)). spaced y ++ l) (spread-end ys x)
      ∙ sym (append_assoc (spaced y) (spread ys) (spaced x))

  pub length-spread : (xs : List T) → length (spread xs) ≡ 8 * length xs
  length-spread [] = refl
  length-spread (x ∷ xs) = let h = length-spread xs in omega arith

  -- each value stands eight places on
  pub opening_at-spread : (xs : List T) (m : ℕ) → opening_at (spread xs) (8 * m) ≡ slice_get xs m
  opening_at-spread [] m = refl
  opening_at-spread (x ∷ xs) zero = refl
  opening_at-spread (x ∷ xs) (suc m) =
      let e : 8 * suc m ≡ suc (suc (suc (suc (suc (suc (suc (suc (8 * m)))))))) = omega arith in
      ap (λ (k : ℕ). get_or (spread (x ∷ xs)) k None) e ∙ opening_at-spread xs m

  pub sound-fresh : (pass : ℕ) (o : Option T) → IsSound pass (fresh o)
  sound-fresh pass o = record { chain = tt; open_turn = λ f e. absurd (not_open f e); own = refl; last = λ _. tt }
    where
      not_open : (f : T) → ◌≡◌ {A = Option T} None (Some f) → ⊥
      not_open f e = cc

  -- the seat that the dealer gave
  pub fresh_place : (starts : List (Option T)) (z : TableId) (word pass : ℕ) (p : Place T) → p.table_id ≡ z
      → p.me ≡ (seat_from (dealer_at starts word pass), [])
      → (word < z.words) × (word < z.slots) → (1 ≤ pass) × (pass < 2 ^ 30)
      → (x : T) × (opening_at starts word ≡ Some x) → IsFreshPlace starts z word pass p
  fresh_place starts z word pass p t is inside numbered opened =
      let known : record_of p ≡ fresh (opening_at starts word) = ap (λ (m : Known T). m.0.known) is in (
        record {
          table = t;
          inside = inside;
          seated = ap (λ (m : Known T). m.0.role) is;
          word_is = ap (λ (m : Known T). m.0.word) is;
          pass_is = ap (λ (m : Known T). m.0.pass) is;
          numbered = numbered;
          opening = (opened.0, ap (λ (r : Record T). r.opening) known ∙ opened.1);
          hand = ap (λ (m : Known T). m.1) is ∙ ap (λ (r : Record T). hand_if r.found word) (sym known);
          sound = subst (IsSound pass) (sym known) (sound-fresh pass (opening_at starts word));
        },
        known,
      )

  -- the dealer may give a seat
  pub deal_allowed : (starts held : List (Option T)) (word pass : ℕ) (p : Place T)
      → p.me ≡ (dealer_at held word pass, []) → (1 ≤ pass) × (pass < 2 ^ 30)
      → Splits (EachWordHasOneHolder starts) p.id p.me.0 (dealer_after p.me.0) (seat_from p.me.0)
  deal_allowed starts held word pass p is numbered =
      dealing starts p.id p.me.0 (ap (λ (m : Known T). m.0.role) is) (ap (λ (m : Known T). m.0.beside) is)
      (subst (λ (n : ℕ). (1 ≤ n) × (n < 2 ^ 30)) (sym (ap (λ (m : Known T). m.0.pass) is)) numbered)

  -- the dealer may go on
  pub page_allowed : (starts held : List (Option T)) (slots word pass : ℕ) (p : Place T)
      → p.me ≡ (dealer_at held word pass, []) → Allows (EachWordHasOneHolder starts) slots p.id p.me 0 (λ n. n)
      (Paged (step slots 0 0 0 none) p.me)
  page_allowed starts held slots word pass p is =
      paging starts slots p.id 0 p.me (ap (λ (m : Known T). m.0.role) is) (ap (λ (m : Known T). m.0.beside) is)

  -- the words and values at the start
  pub starts_well : (starts slots : List (Option T)) (words : List ℕ) → starts ≡ slots → length words ≡ length slots
      → ((i : ℕ) → get_or words i 0 ≡ 0) → EachWordHasOneHolder starts (opening words slots (first_dealer starts))
  starts_well starts slots words e same free =
      subst (λ (l : List (Option T)). EachWordHasOneHolder starts (opening words l (first_dealer starts))) e
      (starting starts words (same ∙ ap (λ (l : List (Option T)). length l) (sym e)) free)

  -- the values that the dealer has are those that were given
  pub opened_values : (starts : List (Option T)) (values : List T) (count : ℕ) → starts ≡ spread values
      → count ≡ length values → (m : ℕ) → m < count → (x : T) × (opening_at starts (8 * m) ≡ Some x)
  opened_values starts values count e c m lt =
      let got = value_there values m (omega arith) in (
        got.0,
        ap (λ (l : List (Option T)). opening_at l (8 * m)) e
            ∙ (opening_at-spread values m ∙ got.1),
      )
    where
      value_there : (xs : List T) (i : ℕ) → i < length xs → (x : T) × (slice_get xs i ≡ Some x)
      value_there [] i h = absurd (omega arith)
      value_there (x ∷ xs) zero h = (x, refl)
      value_there (x ∷ xs) (suc i) h = value_there xs i (omega arith)

  -- a pass as it was dealt is the words' own, and fresh
  pub dealt_own : (q : Quick T) (starts : List (Option T)) (number : ℕ) (p : Pass T)
      → number < vec_len q.handed → IsDealtPass starts q.board.shared.table_id q.count number p → IsPassOf q p
  dealt_own q starts number p lt d = record {
    counted = d.counted;
    numbered = subst (λ (n : ℕ). n < vec_len q.handed) (sym d.number_is) lt;
    place = λ m s e. subst (λ (n : ℕ). IsPlaceOf q.board.shared.table_id (8 * m) n s) (sym d.number_is)
        (d.place m s e).0;
  }

  pub dealt_sound : (starts : List (Option T)) (z : TableId) (count number : ℕ) (p : Pass T)
      → IsDealtPass starts z count number p → AreSound p
  dealt_sound starts z count number p d = sound_from p
      (λ m s e. subst (λ (n : ℕ). IsSound n (record_of s)) (sym d.number_is) (d.place m s e).0.sound)

  pub dealt_fresh : (starts : List (Option T)) (z : TableId) (count number : ℕ) (p : Pass T) (values : List T)
      → IsDealtPass starts z count number p → starts ≡ spread values → count ≡ length values → IsFresh values p
  dealt_fresh starts z count number p values d e c = (
    length-map p.places.items record_of ∙ (sym p.places.ok.0 ∙ (d.counted ∙ c)),
    (λ m x at. let lt : m < length values = slice_get_within values m x at in
        let there = seat_there p.places.items m (let k = d.counted in let o = p.places.ok.0 in omega arith) in
        record_at-is p m there.0 there.1 ∙ ((d.place m there.0 there.1).1
        ∙ ap (λ (o : Option T). fresh o) (ap (λ (l : List (Option T)). opening_at l (8 * m)) e
        ∙ (opening_at-spread values m ∙ at)))),
  )
    where
      seat_there : (l : List (Place T)) (i : ℕ) → i < length l → (s : Place T) × (slice_get l i ≡ Some s)
      seat_there [] i h = absurd (omega arith)
      seat_there (x ∷ xs) zero h = (x, refl)
      seat_there (x ∷ xs) (suc i) h = seat_there xs i (omega arith)

-- words that are all 0
pub zeros : (n i : ℕ) → get_or (replicate {A = ℕ} n 0) i 0 ≡ 0
zeros zero i = refl
zeros (suc n) zero = refl
zeros (suc n) (suc i) = zeros n i

-- so many empty places
abbrev nones : (T : Type 0) → ℕ → List (Option T)
nones T n = replicate n None

nones-more : (T : Type 0) (n : ℕ) → nones T n ++ None ∷ [] ≡ nones T (suc n)
nones-more T zero = refl
nones-more T (suc n) = ap (λ (l : List (Option T)). None ∷ l) (nones-more T n)

-- one place more
pub nones-end : (T : Type 0) (n : ℕ) → 1 ≤ n → nones T (n - 1) ++ None ∷ [] ≡ nones T (n + 1 - 1)
nones-end T n h =
    let e : suc (n - 1) ≡ n + 1 - 1 = omega arith in
    nones-more T (n - 1) ∙ ap (λ (k : ℕ). nones T k) e
