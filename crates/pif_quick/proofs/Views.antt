-- Views of which one has changed, and functions of numbers with another value at one.
use Rattle.std.proofs.Common.{◌≡◌, ◌≢◌, ◌⊎◌, ℕ, ◌<◌, List, set, Option, sym, refl, ap, ◌∙◌, subst, ⊎_elim}
use mathlib.Core.Option.{some, some-injective}
use native.Mathlib.Decide.{ℕ_discrete}
use lib.ListN.{get_elem?}
use Rattle.atomic_table.proofs.Lists.{at_set, set_else}
use Rattle.pif_quick.specs.declared.rule.View.{View}
use Rattle.pif_quick.specs.declared.rule.Role.{Role}
use Rattle.pif_quick.specs.declared.rule.Role.TheVariants.{Dealer, Seated, Spent}
use Rattle.pif_quick.specs.Rule.{IsDealt, IsOut, IsSeating}

pub spent_not_seated : ◌≡◌ {A = Role} Spent Seated → ⊥
spent_not_seated e = cc

pub spent_not_dealer : ◌≡◌ {A = Role} Spent Dealer → ⊥
spent_not_dealer e = cc

module _ {A : Type 0} where
  abbrev pick : {P : Type 0} → Dec P → A → A → A
  pick (yes _) a b = a
  pick (no _) a b = b

  -- f with another value at i
  pub put : (ℕ → A) → ℕ → A → ℕ → A
  put f i c j = pick (ℕ_discrete j i) c (f j)

  pub put_here : (f : ℕ → A) (i : ℕ) (c : A) → put f i c i ≡ c
  unfolding put
  put_here f i c = go (ℕ_discrete i i)
    where
      go : (d : Dec (i ≡ i)) → pick d c (f i) ≡ c
      go (yes _) = refl
      go (no n) = absurd (n refl)

  pub put_else : (f : ℕ → A) (i : ℕ) (c : A) (j : ℕ) → j ≢ i → put f i c j ≡ f j
  unfolding put
  put_else f i c j other = go (ℕ_discrete j i)
    where
      go : (d : Dec (j ≡ i)) → pick d c (f j) ≡ f j
      go (yes e) = absurd (other e)
      go (no _) = refl

  -- what holds of the changed element and of each other holds of each
  pub each_set : (P : ℕ → A → Type 0) (l : List A) (i : ℕ) (a : A) → P i a
      → ((j : ℕ) (b : A) → j ≢ i → get_elem? l j ≡ some b → P j b)
      → (j : ℕ) (b : A) → get_elem? (set l i a) j ≡ some b → P j b
  each_set P l i a mine others j b e =
      ⊎_elim (λ (t : (j ≡ i) × (a ≡ b)). subst (λ (x : ℕ × A). P x.0 x.1) (λ k. (sym t.0 k, t.1 k)) mine)
      (λ (t : (j ≢ i) × (get_elem? l j ≡ some b)). others j b t.0 t.1) (at_set l i j a b e)

module _ {T : Type 0} where
  -- the view of one seat, before and after
  pub record IsSameSeat (v w : View T) : Type 0 where
    pub role : w.role ≡ v.role
    pub pass : w.pass ≡ v.pass
    pub word : w.word ≡ v.word
    pub starts : w.starts ≡ v.starts

  pub same_seat : (v : View T) → IsSameSeat v v
  same_seat v = record { role = refl; pass = refl; word = refl; starts = refl }

  -- the seat of a view, before one seat changed its view
  before : (l : List (View T)) (i : ℕ) (v w : View T) → get_elem? l i ≡ some v → IsSameSeat v w
      → (j : ℕ) (b : View T) → get_elem? (set l i w) j ≡ some b
      → (a : View T) × (get_elem? l j ≡ some a) × IsSameSeat a b
  before l i v w at same =
      each_set (λ (j : ℕ) (b : View T). (a : View T) × (get_elem? l j ≡ some a) × IsSameSeat a b) l i w (v, at, same)
      (λ j b n e. (b, e, same_seat b))

  dealt_same : (d d' : View T) (p p' k k' : ℕ) → d'.pass ≡ d.pass → d'.word ≡ d.word → p' ≡ p → k' ≡ k
      → IsDealt d p k → IsDealt d' p' k'
  dealt_same d d' p p' k k' a b c e h =
      subst (λ (z : ℕ × ℕ × ℕ × ℕ). (z.0 < z.1) ⊎ ((z.0 ≡ z.1) × (z.2 < z.3)))
      (λ i. (sym c i, sym a i, sym e i, sym b i)) h

  -- views of which each seat's and the dealer's stood there before
  pub seating_from : (starts : List (Option T)) (l l' : List (View T))
      → ((j : ℕ) (b : View T) → get_elem? l' j ≡ some b → b.role ≢ Spent
      → (a : View T) × (get_elem? l j ≡ some a) × IsSameSeat a b) → IsSeating starts l → IsSeating starts l'
  seating_from starts l l' f s =
      let of_seat : (j : ℕ) (b : View T) → get_elem? l' j ≡ some b → b.role ≡ Seated
      → (a : View T) × (get_elem? l j ≡ some a) × IsSameSeat a b =
      λ j b e r. f j b e (λ q. spent_not_seated (sym q ∙ r)) in
      let of_dealer : (j : ℕ) (b : View T) → get_elem? l' j ≡ some b → b.role ≡ Dealer
      → (a : View T) × (get_elem? l j ≡ some a) × IsSameSeat a b =
      λ j b e r. f j b e (λ q. spent_not_dealer (sym q ∙ r)) in record {
        unique = λ j k b c eb ec rb rc p q. let x = of_seat j b eb rb in let y = of_seat k c ec rc in
            s.unique j k x.0 y.0 x.1 y.1 (sym x.2.role ∙ rb) (sym y.2.role ∙ rc) (sym x.2.pass ∙ (p ∙ y.2.pass))
            (sym x.2.word ∙ (q ∙ y.2.word));
        dealer = λ j b e r. let x = of_dealer j b e r in let d =
            s.dealer j x.0 x.1 (sym x.2.role ∙ r) in (d.0, x.2.starts ∙ d.1);
        dealt = λ j k d b ed rd eb rb. let x = of_dealer j d ed rd in let y = of_seat k b eb rb in
            dealt_same x.0 d y.0.pass b.pass y.0.word b.word x.2.pass x.2.word y.2.pass y.2.word
            (s.dealt j k x.0 y.0 x.1 (sym x.2.role ∙ rd) y.1 (sym y.2.role ∙ rb));
      }

  -- the seats are as they were if one has changed its view
  pub seating_stays : (starts : List (Option T)) (l : List (View T)) (i : ℕ) (v w : View T) → get_elem? l i ≡ some v
      → IsSameSeat v w → IsSeating starts l → IsSeating starts (set l i w)
  seating_stays starts l i v w at same s = seating_from starts l (set l i w) (λ j b e _. before l i v w at same j b e) s

  -- the value of another word stays out with the seat that has it
  pub out_stays : (l : List (View T)) (i : ℕ) (v w : View T) (k : ℕ) → get_elem? l i ≡ some v → k ≢ v.word
      → IsOut l k → IsOut (set l i w) k
  out_stays l i v w k at other o =
      let apart : o.seat ≢ i = λ e. other (sym o.word_is
      ∙ ap (λ (u : View T). u.word) (some-injective o.view v (sym o.there ∙ (ap (get_elem? l) e ∙ at)))) in record {
        seat = o.seat;
        view = o.view;
        found = o.found;
        there = set_else l i o.seat w apart ∙ o.there;
        seated = o.seated;
        word_is = o.word_is;
        found_is = o.found_is;
      }
