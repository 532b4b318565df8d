-- Views come and change while words and values stay: seats are dealt, and one is told of another's turns.
use Rattle.std.proofs.Common.{◌≡◌, ◌≢◌, ◌⊎◌, ℕ, zero, suc, ◌+◌, ◌<◌, ◌≤◌, ◌^◌, List, [], ◌∷◌, ◌++◌, map, length, get_or, set, Option, Some, None, sym, refl, ap, ◌∙◌, subst, ⊎_elim, inl, inr, arith, append-nil}
use Rattle.std.proofs.lemmas.List.{set-get_or}
use mathlib.Core.Option.{some, none, some-injective, some-ne-none}
use mathlib.Core.Logic.{dite}
use native.Mathlib.Decide.{ℕ_discrete}
use lib.ListN.{get_elem?, length-map}
use Rattle.atomic_table.specs.Table.{Me, step, keeps, Allows, Splits, Joins, opening}
use Rattle.atomic_table.proofs.Lists.{set_else, set_again, at_longer}
use Rattle.pif_quick.specs.declared.rule.Turn.{Turn}
use Rattle.pif_quick.specs.declared.rule.View.{View}
use Rattle.pif_quick.specs.declared.rule.Role.{Role}
use Rattle.pif_quick.specs.declared.rule.Role.TheVariants.{Dealer, Seated, Spent}
use Rattle.pif_quick.specs.Turns.{left_by, turns_by, IsOlder}
use Rattle.pif_quick.specs.Rule.{opening_at, IsDealt, IsOut, IsSeatOfPass, IsSeating, EachWordHasOneHolder, spent_view, first_dealer, dealer_after, seat_from, note_of, Paged}
use Rattle.pif_quick.proofs.Views.{spent_not_seated, spent_not_dealer, each_set, IsSameSeat, same_seat, seating_from, seating_stays}
use Rattle.pif_quick.proofs.OneStep.{Board}
use Rattle.pif_quick.proofs.Turning.{set_there}

dealer_not_seated : ◌≡◌ {A = Role} Dealer Seated → ⊥
dealer_not_seated e = cc

module _ {A : Type 0} where
  at_end : (l : List A) (a b : A) (j : ℕ) → get_elem? (l ++ a ∷ []) j ≡ some b
      → (get_elem? l j ≡ some b) ⊎ ((j ≡ length l) × (a ≡ b))
  at_end [] a b zero e = inr (refl, some-injective a b e)
  at_end [] a b (suc j) e = absurd (some-ne-none b (sym e))
  at_end (x ∷ xs) a b zero e = inl e
  at_end (x ∷ xs) a b (suc j) e = ⊎_elim (λ (h : get_elem? xs j ≡ some b). inl h)
      (λ (t : (j ≡ length xs) × (a ≡ b)). inr (omega arith, t.1)) (at_end xs a b j e)

  -- what holds of the last element and of each before it holds of each
  each_end : (P : ℕ → A → Type 0) (l : List A) (a : A) → P (length l) a
      → ((j : ℕ) (b : A) → get_elem? l j ≡ some b → P j b) → (j : ℕ) (b : A) → get_elem? (l ++ a ∷ []) j ≡ some b
      → P j b
  each_end P l a last others j b e = ⊎_elim (λ (h : get_elem? l j ≡ some b). others j b h)
      (λ (t : (j ≡ length l) × (a ≡ b)). subst (λ (x : ℕ × A). P x.0 x.1) (λ k. (sym t.0 k, t.1 k)) last)
      (at_end l a b j e)

  at_first : (a b : A) (j : ℕ) → get_elem? (a ∷ []) j ≡ some b → (j ≡ 0) × (a ≡ b)
  at_first a b zero e = (refl, some-injective a b e)
  at_first a b (suc j) e = absurd (some-ne-none b (sym e))

  at_all : (xs : List A) (i : ℕ) (d : A) → i < length xs → get_elem? (map some xs) i ≡ some (some (get_or xs i d))
  at_all [] i d h = absurd (omega arith)
  at_all (x ∷ xs) zero d h = refl
  at_all (x ∷ xs) (suc i) d h = at_all xs i d (omega arith)

module _ {T : Type 0} (starts : List (Option T)) where
  module _ (s : Board T) (r : EachWordHasOneHolder starts s) where
    -- one view changes
    abbrev swaps : (id : ℕ) (w : View T) → IsSeating starts (set s.views id w)
        → (w.role ≡ Seated → IsSeatOfPass starts s.words s.homes (r.logs w.word) w)
        → ((i : ℕ) → IsOut s.views i → IsOut (set s.views id w) i) → IsOlder w.beside (r.logs w.word)
        → (w.role ≡ Dealer → (p i : ℕ) → ¬ IsDealt w p i → turns_by p (r.logs i) ≡ [])
        → EachWordHasOneHolder starts record { words = s.words; homes = s.homes; views = set s.views id w }
    swaps id w seating mine out beside undealt = record {
      logs = r.logs;
      chain = r.chain;
      sized = r.sized;
      narrow = r.narrow;
      seating = seating;
      seats = each_set (λ (j : ℕ) (u : View T). u.role ≡ Seated
          → IsSeatOfPass starts s.words s.homes (r.logs u.word) u) s.views id w mine (λ j u _ e. r.seats j u e);
      homes = λ i lt. ⊎_elim (λ (h : get_elem? s.homes i ≡ some (some (left_by (opening_at starts i) (r.logs i)))).
          inl h) (λ (o : IsOut s.views i). inr (out i o)) (r.homes i lt);
      beside = each_set (λ (j : ℕ) (u : View T). IsOlder u.beside (r.logs u.word)) s.views id w beside
          (λ j u _ e. r.beside j u e);
      undealt = each_set (λ (j : ℕ) (d : View T). d.role ≡ Dealer → (p i : ℕ) → ¬ IsDealt d p i
          → turns_by p (r.logs i) ≡ []) s.views id w undealt (λ j d _ e. r.undealt j d e);
    }

    -- a value stays out if another view changes
    out_with_other : (id : ℕ) (v w : View T) → get_elem? s.views id ≡ some v → v.role ≢ Seated → (i : ℕ)
        → IsOut s.views i → IsOut (set s.views id w) i
    out_with_other id v w at other i o =
        let apart : o.seat ≢ id =
        λ e. other (ap (λ (u : View T). u.role) (some-injective v o.view (sym at
        ∙ (ap (get_elem? s.views) (sym e) ∙ o.there))) ∙ o.seated) in record {
          seat = o.seat;
          view = o.view;
          found = o.found;
          there = set_else s.views id o.seat w apart ∙ o.there;
          seated = o.seated;
          word_is = o.word_is;
          found_is = o.found_is;
        }

    -- a seat is told of another's turns
    told : (id : ℕ) (v : View T) (b : List (Turn T)) → get_elem? s.views id ≡ some v → v.role ≡ Seated
        → IsOlder b (r.logs v.word)
        → EachWordHasOneHolder starts record {
          words = s.words;
          homes = s.homes;
          views =
              set s.views id (record v { beside = b });
        }
    told id v b at role older = swaps id (record v { beside = b })
        (seating_stays starts s.views id v (record v { beside = b }) at
        (record { role = refl; pass = refl; word = refl; starts = refl }) r.seating)
        (λ _. let x = r.seats id v at role in record {
          numbered = x.numbered;
          opening = x.opening;
          newer = x.newer;
          prefix = x.prefix;
          others = x.others;
          made = x.made;
          last = x.last;
          holds = λ f e. let h = x.holds f e in record {
            owns = h.owns;
            out = h.out;
            knows = h.knows;
            left = h.left;
          };
        })
        out_still older (λ e. absurd (dealer_not_seated (sym e ∙ role)))
      where
        out_still : (i : ℕ) → IsOut s.views i → IsOut (set s.views id (record v { beside = b })) i
        out_still i o = dite (ℕ_discrete o.seat id)
            (λ is. let same : o.view ≡ v = some-injective o.view v (sym o.there
            ∙ (ap (get_elem? s.views) is ∙ at)) in record {
              seat = id;
              view = record v { beside = b };
              found = o.found;
              there = set_there s.views id v (record v { beside = b }) at;
              seated = role;
              word_is = ap (λ (u : View T). u.word) (sym same) ∙ o.word_is;
              found_is = ap (λ (u : View T). u.known.found) (sym same) ∙ o.found_is;
            })
            (λ isnt. record {
              seat = o.seat;
              view = o.view;
              found = o.found;
              there = set_else s.views id o.seat (record v { beside = b }) isnt ∙ o.there;
              seated = o.seated;
              word_is = o.word_is;
              found_is = o.found_is;
            })

    -- what is no seat is given up
    gives_up : (id : ℕ) (v : View T) → get_elem? s.views id ≡ some v → v.role ≡ Spent
        → EachWordHasOneHolder starts record { words = s.words; homes = s.homes; views = set s.views id spent_view }
    gives_up id v at role = swaps id spent_view seating (λ e. absurd (spent_not_seated e))
        (out_with_other id v spent_view at (λ e. spent_not_seated (sym role ∙ e)))
        (r.logs 0, append-nil (r.logs 0)) (λ e. absurd (spent_not_dealer e))
      where
        seating : IsSeating starts (set s.views id spent_view)
        seating = seating_from starts s.views (set s.views id spent_view)
            (each_set (λ (j : ℕ) (b : View T). b.role ≢ Spent
            → (a : View T) × (get_elem? s.views j ≡ some a) × IsSameSeat a b) s.views id spent_view
            (λ ne. absurd (ne refl)) (λ j b _ e _. (b, e, same_seat b))) r.seating

    -- a seat stood there before the dealer went on
    seat_before : (id : ℕ) (d' : View T) → d'.role ≡ Dealer → (j : ℕ) (b : View T)
        → get_elem? (set s.views id d') j ≡ some b → b.role ≡ Seated → get_elem? s.views j ≡ some b
    seat_before id d' role' = each_set (λ (j : ℕ) (b : View T). b.role ≡ Seated
        → get_elem? s.views j ≡ some b) s.views id d' (λ e. absurd (dealer_not_seated (sym role' ∙ e))) (λ j b _ e _. e)

    seating_on : (id : ℕ) (d d' : View T) → get_elem? s.views id ≡ some d → d.role ≡ Dealer → d'.role ≡ Dealer
        → d'.starts ≡ d.starts
        → ((p i : ℕ) → IsDealt d p i → IsDealt d' p i) → IsSeating starts (set s.views id d')
    seating_on id d d' at role role' starts' more = record {
      unique = λ j k b c eb ec rb rc p q. r.seating.unique j k b c (seat_before id d' role' j b eb rb)
          (seat_before id d' role' k c ec rc) rb rc p q;
      dealer = each_set (λ (j : ℕ) (b : View T). b.role ≡ Dealer → (j ≡ 0) × (b.starts ≡ starts)) s.views id d'
          (λ _. let x = r.seating.dealer id d at role in (x.0, starts' ∙ x.1)) (λ j b _ e. r.seating.dealer j b e);
      dealt = λ j k b c eb rb ec rc. let x = seat_before id d' role' k c ec rc in
          each_set (λ (j : ℕ) (b : View T). b.role ≡ Dealer → IsDealt b c.pass c.word) s.views id d'
          (λ _. more c.pass c.word (r.seating.dealt id k d c at role x rc))
          (λ j b _ e rb. r.seating.dealt j k b c e rb x rc) j b eb rb;
    }

    -- the dealer goes on
    abbrev deals_on : (id : ℕ) (d d' : View T) → get_elem? s.views id ≡ some d → d.role ≡ Dealer → d'.role ≡ Dealer
        → d'.starts ≡ d.starts → d'.beside ≡ []
        → ((p i : ℕ) → IsDealt d p i → IsDealt d' p i)
        → EachWordHasOneHolder starts record { words = s.words; homes = s.homes; views = set s.views id d' }
    deals_on id d d' at role role' starts' none_beside more =
        swaps id d' (seating_on id d d' at role role' starts' more) (λ e. absurd (dealer_not_seated (sym role' ∙ e)))
        (out_with_other id d d' at (λ e. dealer_not_seated (sym role ∙ e)))
        (r.logs d'.word, ap (λ (l : List (Turn T)). r.logs d'.word ++ l) none_beside ∙ append-nil (r.logs d'.word))
        (λ _ p i isnt. r.undealt id d at role p i (λ h. isnt (more p i h)))

    -- a view more
    sits : (b : View T) → b.role ≢ Dealer → (b.role ≡ Seated → IsSeatOfPass starts s.words s.homes (r.logs b.word) b)
        → IsOlder b.beside (r.logs b.word)
        → ((j : ℕ) (v : View T) → get_elem? s.views j ≡ some v → v.role ≡ Seated → b.role ≡ Seated → v.pass ≡ b.pass
        → v.word ≡ b.word → ⊥)
        → ((j : ℕ) (d : View T) → get_elem? s.views j ≡ some d → d.role ≡ Dealer → b.role ≡ Seated
        → IsDealt d b.pass b.word)
        → EachWordHasOneHolder starts record { words = s.words; homes = s.homes; views = s.views ++ b ∷ [] }
    sits b no_dealer seat beside apart dealt = record {
      logs = r.logs;
      chain = r.chain;
      sized = r.sized;
      narrow = r.narrow;
      seating = record {
        unique = λ j k v w ev ew rv rw p q. ⊎_elim
            (λ (old_v : get_elem? s.views j ≡ some v). ⊎_elim
            (λ (old_w : get_elem? s.views k ≡ some w). r.seating.unique j k v w old_v old_w rv rw p q)
            (λ (new_w : (k ≡ length s.views) × (b ≡ w)). absurd
            (apart j v old_v rv (ap (λ (x : View T). x.role) new_w.1 ∙ rw)
            (p ∙ ap (λ (x : View T). x.pass) (sym new_w.1)) (q ∙ ap (λ (x : View T). x.word) (sym new_w.1))))
            (at_end s.views b w k ew))
            (λ (new_v : (j ≡ length s.views) × (b ≡ v)). ⊎_elim
            (λ (old_w : get_elem? s.views k ≡ some w). absurd
            (apart k w old_w rw (ap (λ (x : View T). x.role) new_v.1 ∙ rv)
            (sym p ∙ ap (λ (x : View T). x.pass) (sym new_v.1)) (sym q ∙ ap (λ (x : View T). x.word) (sym new_v.1))))
            (λ (new_w : (k ≡ length s.views) × (b ≡ w)). new_v.0 ∙ sym new_w.0)
            (at_end s.views b w k ew))
            (at_end s.views b v j ev);
        dealer = each_end (λ (j : ℕ) (v : View T). v.role ≡ Dealer → (j ≡ 0) × (v.starts ≡ starts)) s.views b
            (λ e. absurd (no_dealer e)) (λ j v e. r.seating.dealer j v e);
        dealt = λ j k d v ed rd ev rv. each_end (λ (j : ℕ) (d : View T). d.role ≡ Dealer
            → IsDealt d v.pass v.word) s.views b (λ e. absurd (no_dealer e))
            (λ j d e rd. each_end (λ (k : ℕ) (v : View T). v.role ≡ Seated → IsDealt d v.pass v.word) s.views b
            (λ rb. dealt j d e rd rb)
            (λ k v f rv. r.seating.dealt j k d v e rd f rv) k v ev rv) j d ed rd;
      };
      seats = each_end (λ (j : ℕ) (u : View T). u.role ≡ Seated
          → IsSeatOfPass starts s.words s.homes (r.logs u.word) u) s.views b seat (λ j u e. r.seats j u e);
      homes = λ i lt. ⊎_elim (λ (h : get_elem? s.homes i ≡ some (some (left_by (opening_at starts i) (r.logs i)))).
          inl h)
          (λ (o : IsOut s.views i). inr (record {
            seat = o.seat;
            view = o.view;
            found = o.found;
            there = at_longer s.views (b ∷ []) o.seat o.view o.there;
            seated = o.seated;
            word_is = o.word_is;
            found_is = o.found_is;
          })) (r.homes i lt);
      beside = each_end (λ (j : ℕ) (u : View T). IsOlder u.beside (r.logs u.word)) s.views b beside
          (λ j u e. r.beside j u e);
      undealt = each_end (λ (j : ℕ) (d : View T). d.role ≡ Dealer → (p i : ℕ) → ¬ IsDealt d p i
          → turns_by p (r.logs i) ≡ []) s.views b (λ e. absurd (no_dealer e)) (λ j d e. r.undealt j d e);
    }

  -- a seat's closed turns are noted
  pub noting : (id : ℕ) (v : View T) → v.role ≡ Seated → Splits (EachWordHasOneHolder starts) id v v (note_of v)
  noting id v role s r at =
      subst (λ (l : List (View T)). EachWordHasOneHolder starts record {
        words = s.words;
        homes = s.homes;
        views =
            l ++ note_of v ∷ [];
      }) (sym (set_again s.views id v at))
      (let x = r.seats id v at role in sits s r (note_of v) (λ e. spent_not_dealer e)
      (λ e. absurd (spent_not_seated e)) (x.newer, x.prefix)
      (λ j u _ _ e. absurd (spent_not_seated e)) (λ j d _ _ e. absurd (spent_not_seated e)))

  -- and shown to another seat of the word
  pub showing : (id other : ℕ) (v w : View T) → v.role ≡ Seated → w.role ≡ Spent → w.word ≡ v.word
      → Joins (EachWordHasOneHolder starts) id v other w (record v { beside = w.beside }) spent_view
  showing id other v w role spent same s r at apart there =
      let there' : get_elem? s.views other ≡ some w =
      sym (set_else s.views id other (record v { beside = w.beside }) apart) ∙ there in
      let older : IsOlder w.beside (r.logs v.word) =
      subst (λ (k : ℕ). IsOlder w.beside (r.logs k)) same (r.beside other w there') in
      gives_up record { words = s.words; homes = s.homes; views = set s.views id (record v { beside = w.beside }) }
      (told s r id v w.beside at role older) other w there spent

  -- the dealer gives a seat
  pub dealing : (id : ℕ) (d : View T) → d.role ≡ Dealer → d.beside ≡ [] → (1 ≤ d.pass) × (d.pass < 2 ^ 30)
      → Splits (EachWordHasOneHolder starts) id d (dealer_after d) (seat_from d)
  dealing id d role none_beside numbered s r at =
      let mine = r.seating.dealer id d at role in
      sits record { words = s.words; homes = s.homes; views = set s.views id (dealer_after d) }
      (deals_on s r id d (dealer_after d) at role role refl none_beside more)
      (seat_from d) (λ e. dealer_not_seated (sym e))
      (λ _. record {
        numbered = numbered;
        opening = ap (λ (l : List (Option T)). opening_at l d.word) mine.1;
        newer = r.logs d.word;
        prefix = append-nil (r.logs d.word);
        others = r.undealt id d at role d.pass d.word not_yet;
        made = refl;
        last = λ _. tt;
        holds = λ f e. absurd (not_open f e);
      })
      (r.logs d.word, append-nil (r.logs d.word))
      (λ j v e rv _ p q. not_yet (subst (λ (z : ℕ × ℕ). IsDealt d z.0 z.1) (λ k. (p k, q k))
      (r.seating.dealt id j d v at role (seat_before s r id (dealer_after d) role j v e rv) rv)))
      (each_set (λ (j : ℕ) (e : View T). e.role ≡ Dealer → ◌≡◌ {A = Role} Seated Seated
      → IsDealt e d.pass d.word) s.views id (dealer_after d)
      (λ _ _. inr (refl, omega arith))
      (λ j e other at_j role_j _. absurd (other ((r.seating.dealer j e at_j role_j).0 ∙ sym mine.0))))
    where
      more : (p i : ℕ) → IsDealt d p i → IsDealt (dealer_after d) p i
      more p i h = ⊎_elim (λ (l : p < d.pass). inl l)
          (λ (e : (p ≡ d.pass) × (i < d.word)). inr (e.0, let l = e.1 in omega arith)) h

      not_yet : ¬ IsDealt d d.pass d.word
      not_yet h = ⊎_elim (λ (l : d.pass < d.pass). absurd (omega arith))
          (λ (e : (d.pass ≡ d.pass) × (d.word < d.word)). let l = e.1 in absurd (omega arith)) h

      not_open : (f : T) → ◌≡◌ {A = Option T} None (Some f) → ⊥
      not_open f e = cc

  -- the dealer goes on to the next pass
  pub paging : (slots id i : ℕ) (m : Me (Option T) (View T)) → m.0.role ≡ Dealer → m.0.beside ≡ []
      → Allows (EachWordHasOneHolder starts) slots id m i (λ n. n) (Paged (step slots i 0 0 none) m)
  paging slots id i m role none_beside s r deep at wide = (
    next,
    keeps,
    tt,
    subst (λ (l : List ℕ). EachWordHasOneHolder starts record { words = l; homes = s.homes; views = set s.views id next })
        (sym (set-get_or s.words i 0))
        (deals_on s r id m.0 next at role role refl none_beside more),
    refl,
  )
    where
      next : View T
      next = record m.0 { pass = m.0.pass + 1; word = 0 }

      more : (p k : ℕ) → IsDealt m.0 p k → IsDealt next p k
      more p k h = ⊎_elim (λ (l : p < m.0.pass). inl (omega arith)) (λ (e : (p ≡ m.0.pass) × (k < m.0.word)). let l =
          e.0 in inl (omega arith)) h

  -- the table at the start: each word free, each value at home
  pub starting : (words : List ℕ) → length words ≡ length starts → ((i : ℕ) → get_or words i 0 ≡ 0)
      → EachWordHasOneHolder starts (opening words starts (first_dealer starts))
  starting words same free = record {
    logs = λ _. [];
    chain = λ _. tt;
    sized = same ∙ sym (length-map starts some);
    narrow = λ i. let e = free i in omega arith;
    seating = record {
      unique = λ j k v w ev ew rv rw p q. absurd (no_seat j v ev rv);
      dealer = λ j v e role. let x = at_first (first_dealer starts) v j e in
          (x.0, ap (λ (u : View T). u.starts) (sym x.1));
      dealt = λ j k d v ed rd ev rv. absurd (no_seat k v ev rv);
    };
    seats = λ j v e role. absurd (no_seat j v e role);
    homes = λ i lt. inl (at_all starts i None (let l = length-map starts some in omega arith));
    beside = λ j v e. ([], ap (λ (u : View T). u.beside) (sym (at_first (first_dealer starts) v j e).1));
    undealt = λ j d e role p i isnt. refl;
  }
    where
      no_seat : (j : ℕ) (v : View T) → get_elem? (first_dealer starts ∷ []) j ≡ some v → v.role ≡ Seated → ⊥
      no_seat j v e role = dealer_not_seated (ap (λ (u : View T). u.role) (at_first (first_dealer starts) v j e).1
          ∙ role)
