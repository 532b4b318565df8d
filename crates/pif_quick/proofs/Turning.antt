-- A seat opens its turn, closes it, or leaves everything but the bits of its word as they were.
use Rattle.std.proofs.Common.{◌≡◌, ◌≢◌, ℕ, zero, suc, ◌<◌, ◌^◌, List, [], ◌∷◌, length, set, Option, Some, None, sym, refl, ap, ◌∙◌, subst, ⊎_elim, inl, inr, arith, length-set, get_or-set_same}
use mathlib.Core.Option.{some, none, some-injective, some-ne-none}
use mathlib.Core.Logic.{dite}
use native.Mathlib.Decide.{ℕ_discrete}
use lib.ListN.{get_elem?}
use Rattle.atomic_table.proofs.Lists.{set_here, set_else}
use Rattle.pif_model.specs.Word.{word_of}
use Rattle.pif_quick.specs.declared.rule.Turn.{Turn}
use Rattle.pif_quick.specs.declared.rule.Record.{Record}
use Rattle.pif_quick.specs.declared.rule.View.{View}
use Rattle.pif_quick.specs.declared.rule.Role.TheVariants.{Seated}
use Rattle.pif_quick.specs.Turns.{left_by, IsChainOfTurns, turns_by, IsOlder, IsSound, with_open, closed, closed_from}
use Rattle.pif_quick.specs.Rule.{number_at, opening_at, IsOut, IsSeatOfPass, EachWordHasOneHolder, OneHolds, with_record}
use Rattle.pif_quick.proofs.TurnLists.{turns_by-others, turns_by-one, turns_by-other, chain-older, left_by-some, open-not_none, older-more, sound-opened, sound-closed, closed-is}
use Rattle.pif_quick.proofs.OneStep.{Homes, Board, seat_quiet, Keeps, one_step}

pub set_there : {A : Type 0} (l : List A) (i : ℕ) (a b : A) → get_elem? l i ≡ some a → get_elem? (set l i b) i ≡ some b
set_there [] i a b e = absurd (some-ne-none a (sym e))
set_there (x ∷ xs) zero a b e = refl
set_there (x ∷ xs) (suc i) a b e = set_there xs i a b e

module _ {T : Type 0} where
  -- a seat if the bits of its word change and not the number
  seat_reworded : (starts : List (Option T)) (words : List ℕ) (homes : Homes T) (log : List (Turn T)) (u w : View T)
      (i n : ℕ)
      → i < length words → (word_of n).number ≡ number_at words i → u.word ≡ i → w.pass ≡ u.pass → w.word ≡ u.word
      → w.known ≡ u.known
      → IsSeatOfPass starts words homes log u → IsSeatOfPass starts (set words i n) homes log w
  seat_reworded starts words homes log u w i n lt num is p k q x =
      subst (λ (z : ℕ × ℕ × Record T). IsSeatOfPass starts (set words i n) homes log
      (record w { pass = z.0; word = z.1; known = z.2 })) (λ c. (sym p c, sym k c, sym q c)) record {
        numbered = x.numbered;
        opening = x.opening;
        newer = x.newer;
        prefix = x.prefix;
        others = x.others;
        made = x.made;
        last = x.last;
        holds = λ f e. let h = x.holds f e in record {
          owns = ap (λ (z : ℕ). number_at (set words i n) z) is
              ∙ (ap (λ (b : ℕ). (word_of b).number) (get_or-set_same words i n 0 lt)
              ∙ (num ∙ (ap (number_at words) (sym is) ∙ h.owns)));
          out = h.out;
          knows = h.knows;
          left = h.left;
        };
      }

  module _ (starts : List (Option T)) (s : Board T) (r : EachWordHasOneHolder starts s) (id : ℕ) (v : View T)
      (at : get_elem? s.views id ≡ some v) (seated : v.role ≡ Seated) where
    abbrev me : IsSeatOfPass starts s.words s.homes (r.logs v.word) v
    me = r.seats id v at seated

    -- no seat of the word has an open turn
    abbrev pub Quiet : Type 0
    Quiet = (j : ℕ) (u : View T) (f : T) → get_elem? s.views j ≡ some u → u.role ≡ Seated → u.word ≡ v.word
        → u.known.found ≡ Some f → ⊥

    -- no other seat has an open turn if the word has this seat's number
    pub others_quiet : number_at s.words v.word ≡ v.pass → (j : ℕ) (u : View T) (f : T) → j ≢ id
        → get_elem? s.views j ≡ some u → u.role ≡ Seated → u.word ≡ v.word → u.known.found ≡ Some f → ⊥
    others_quiet owns j u f other e role is open_turn =
        let h = (r.seats j u e role).holds f open_turn in
        other (r.seating.unique j id u v e at role seated (sym h.owns ∙ (ap (number_at s.words) is ∙ owns)) is)

    -- what a seat knows of its word is sound
    pub seat_sound : IsSound v.pass v.known
    seat_sound = record {
      chain = chain-older v.known.opening me.newer v.known.turns
          (subst (λ (z : Option T × List (Turn T)). IsChainOfTurns z.0 z.1) (λ c. (sym me.opening c, sym me.prefix c))
          (r.chain v.word));
      open_turn = λ f e. let h = me.holds f e in ap (left_by v.known.opening) h.knows ∙ h.left;
      own = me.made;
      last = me.last;
    }

    pub record OpensSeat (n : ℕ) : Type 0 where
      pub found : T
      pub newer : List (Turn T)
      pub others : turns_by v.pass newer ≡ []
      pub at_home : get_elem? s.homes v.word ≡ some (some (Some found))
      pub sound : IsSound v.pass (with_open found newer v.known)
      pub kept : EachWordHasOneHolder starts record {
        words = set s.words v.word n;
        homes = set s.homes v.word none;
        views =
            set s.views id (with_record (with_open found newer v.known) v);
      }

    module _ (n : ℕ) (narrow : n < 2 ^ 32) (num : (word_of n).number ≡ v.pass) (lt : v.word < length s.homes)
        (quiet : Quiet) where
      opens_with : (f : T) → left_by (opening_at starts v.word) (r.logs v.word) ≡ Some f
          → Keeps starts s r id v at seated n (set s.homes v.word none) []
          (with_record (with_open f me.newer v.known) v)
      opens_with f left = record {
        narrow = narrow;
        same = record { role = refl; pass = refl; word = refl; starts = refl };
        sized = length-set s.homes v.word none;
        away = λ k other. set_else s.homes v.word k none other;
        mine = record {
          numbered = me.numbered;
          opening = me.opening;
          newer = [];
          prefix = me.prefix;
          others = refl;
          made = turns_by-others v.pass me.newer v.known.turns me.others ∙ me.made;
          last = λ e. absurd (open-not_none f e);
          holds = λ g e. record {
            owns = let lt' : v.word < length s.words = omega (arith, r.sized) in
                ap (λ (b : ℕ). (word_of b).number) (get_or-set_same s.words v.word n 0 lt') ∙ num;
            out = set_here s.homes v.word none lt;
            knows = me.prefix;
            left = ap (λ (o : Option T). left_by o (r.logs v.word)) me.opening ∙ (left ∙ e);
          };
        };
        others = λ j u other e role is. seat_quiet starts s.words (set s.words v.word n) s.homes
            (set s.homes v.word none) [] (r.logs v.word) u
            (λ g q. quiet j u g e role is q) refl (subst (λ (z : ℕ). IsSeatOfPass starts s.words s.homes (r.logs z) u) is
            (r.seats j u e role));
        home = λ _. inr record {
          seat = id;
          view = with_record (with_open f me.newer v.known) v;
          found = f;
          there = set_there s.views id v (with_record (with_open f me.newer v.known) v) at;
          seated = seated;
          word_is = refl;
          found_is = refl;
        };
        chain = r.chain v.word;
        beside = r.beside id v at;
        by = λ p _. refl;
      }

      opened : (f : T) → left_by (opening_at starts v.word) (r.logs v.word) ≡ Some f
          → get_elem? s.homes v.word ≡ some (some (left_by (opening_at starts v.word) (r.logs v.word))) → OpensSeat n
      opened f left home = record {
        found = f;
        newer = me.newer;
        others = me.others;
        at_home = home ∙ ap (λ (o : Option T). some (some o)) left;
        sound = sound-opened v.pass f me.newer v.known
            (subst (λ (z : Option T × List (Turn T)). IsChainOfTurns z.0 z.1) (λ c. (sym me.opening c, sym me.prefix c))
            (r.chain v.word))
            (ap (left_by v.known.opening) me.prefix ∙ (ap (λ (o : Option T). left_by o (r.logs v.word)) me.opening
            ∙ left)) me.others me.made;
        kept = one_step starts s r id v at seated n (set s.homes v.word none) []
            (with_record (with_open f me.newer v.known) v) (opens_with f left);
      }

      -- the seat's turn opens, if the word becomes n, which has its number, and no turn is open
      pub opens : (x : T) → v.known.opening ≡ Some x → OpensSeat n
      opens x op =
          let l = left_by-some (opening_at starts v.word) x (r.logs v.word) (sym me.opening ∙ op) in
          ⊎_elim (λ (h : get_elem? s.homes v.word ≡ some
          (some (left_by (opening_at starts v.word) (r.logs v.word)))). opened l.0 l.1 h)
          (λ (o : IsOut s.views v.word). absurd (quiet o.seat o.view o.found o.there o.seated o.word_is o.found_is))
          (r.homes v.word lt)

    module _ (n : ℕ) (narrow : n < 2 ^ 32) (f x : T) (found_is : v.known.found ≡ Some f) where
      abbrev turn : Turn T
      turn = record { pass = v.pass; found = f; left = x }

      abbrev shut : View T
      shut = with_record (closed_from v.pass x (Some f) v.known) v

      abbrev held : Rattle.pif_quick.specs.Rule.HoldsItsWord s.words s.homes (r.logs v.word) v f
      held = me.holds f found_is

      closes_with : Keeps starts s r id v at seated n (set s.homes v.word (some (Some x))) (turn ∷ []) shut
      closes_with = record {
        narrow = narrow;
        same = record { role = refl; pass = refl; word = refl; starts = refl };
        sized = length-set s.homes v.word (some (Some x));
        away = λ k other. set_else s.homes v.word k (some (Some x)) other;
        mine = record {
          numbered = me.numbered;
          opening = me.opening;
          newer = [];
          prefix = ap (λ (l : List (Turn T)). turn ∷ l) held.knows;
          others = refl;
          made = turns_by-one v.pass turn v.known.turns refl ∙ ap (λ (l : List (T × T)). (f, x) ∷ l) me.made;
          last = λ _. refl;
          holds = λ g e. absurd (not_open g e);
        };
        others = λ j u other e role is. seat_quiet starts s.words (set s.words v.word n) s.homes
            (set s.homes v.word (some (Some x))) (turn ∷ []) (r.logs v.word) u
            (λ g q. others_quiet held.owns j u g other e role is q)
            (turns_by-other u.pass turn [] (λ p. other (r.seating.unique j id u v e at role seated (sym p) is)))
            (subst (λ (z : ℕ). IsSeatOfPass starts s.words s.homes (r.logs z) u) is (r.seats j u e role));
        home = λ lt. inl (set_here s.homes v.word (some (Some x)) lt);
        chain = (ap (λ (o : Option T). left_by o (r.logs v.word)) (sym me.opening) ∙ held.left, r.chain v.word);
        beside = older-more (turn ∷ []) v.beside (r.logs v.word) (r.beside id v at);
        by = λ p other. turns_by-other p turn [] (λ e. other (sym e));
      }
        where
          not_open : (g : T) → ◌≡◌ {A = Option T} None (Some g) → ⊥
          not_open g e = cc

      -- the seat's turn closes with x, whatever its word becomes
      pub closes : EachWordHasOneHolder starts record {
        words = set s.words v.word n;
        homes =
            set s.homes v.word (some (Some x));
        views = set s.views id (with_record (closed v.pass x v.known) v);
      }
      closes = subst (λ (k : Record T). EachWordHasOneHolder starts record {
        words = set s.words v.word n;
        homes =
            set s.homes v.word (some (Some x));
        views = set s.views id (with_record k v);
      })
          (sym (closed-is v.pass x f v.known found_is))
          (one_step starts s r id v at seated n (set s.homes v.word (some (Some x))) (turn ∷ []) shut closes_with)

      pub closes-sound : IsSound v.pass (closed v.pass x v.known)
      closes-sound = sound-closed v.pass x f v.known found_is seat_sound

    module _ (n : ℕ) (narrow : n < 2 ^ 32) (lt : v.word < length s.homes)
        (num : (word_of n).number ≡ number_at s.words v.word) (b : List (Turn T))
        (older : IsOlder b (r.logs v.word)) where
      abbrev told : View T
      told = record v { beside = b }

      lt' : v.word < length s.words
      lt' = omega (arith, r.sized)

      out_still : IsOut s.views v.word → IsOut (set s.views id told) v.word
      out_still o = dite (ℕ_discrete o.seat id)
          (λ is. record {
            seat = id;
            view = told;
            found = o.found;
            there = set_there s.views id v told at;
            seated = seated;
            word_is = refl;
            found_is = ap (λ (u : View T). u.known.found)
                (some-injective v o.view (sym at ∙ (ap (get_elem? s.views) (sym is) ∙ o.there))) ∙ o.found_is;
          })
          (λ isnt. record {
            seat = o.seat;
            view = o.view;
            found = o.found;
            there = set_else s.views id o.seat told isnt ∙ o.there;
            seated = o.seated;
            word_is = o.word_is;
            found_is = o.found_is;
          })

      rewords_with : Keeps starts s r id v at seated n s.homes [] told
      rewords_with = record {
        narrow = narrow;
        same = record { role = refl; pass = refl; word = refl; starts = refl };
        sized = refl;
        away = λ k other. refl;
        mine = seat_reworded starts s.words s.homes (r.logs v.word) v told v.word n lt' num refl refl refl refl me;
        others = λ j u other e role is. seat_reworded starts s.words s.homes
            (r.logs v.word) u u v.word n lt' num is refl refl refl
            (subst (λ (z : ℕ). IsSeatOfPass starts s.words s.homes (r.logs z) u) is (r.seats j u e role));
        home = λ l. ⊎_elim (λ (h : get_elem? s.homes v.word ≡ some
            (some (left_by (opening_at starts v.word) (r.logs v.word)))). inl h)
            (λ (o : IsOut s.views v.word). inr (out_still o)) (r.homes v.word l);
        chain = r.chain v.word;
        beside = older;
        by = λ p _. refl;
      }

      -- only the bits of the word change, and not its number
      pub rewords : EachWordHasOneHolder starts record {
        words = set s.words v.word n;
        homes = s.homes;
        views =
            set s.views id told;
      }
      rewords = one_step starts s r id v at seated n s.homes [] told rewords_with

  -- two seats whose turns of one word are open have one number, which stands in the word
  pub one_holds : (starts : List (Option T)) (s : Board T) (r : EachWordHasOneHolder starts s) → OneHolds s.views
  one_holds starts s r j k v w ev ew rv rw same ov ow =
      let a = (r.seats j v ev rv).holds ov.0 ov.1 in
      let b = (r.seats k w ew rw).holds ow.0 ow.1 in
      r.seating.unique j k v w ev ew rv rw (sym a.owns ∙ (ap (number_at s.words) same ∙ b.owns)) same
