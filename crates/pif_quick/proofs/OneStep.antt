-- One seat steps at its word: the rule is kept if it is kept of that word.
use Rattle.std.proofs.Common.{◌≡◌, ◌≢◌, ◌⊎◌, ℕ, ◌<◌, ◌^◌, List, [], ◌++◌, length, get_or, set, Option, Some, sym, ap, ◌∙◌, subst, ⊎_elim, inl, inr, arith, length-set, get_or-set_same, get_or-set_other}
use mathlib.Core.Option.{some, none, some-injective}
use mathlib.Core.Option as maybe
use mathlib.Core.Logic.{dite}
use native.Mathlib.Decide.{ℕ_discrete, dec_le}
use Rattle.std.proofs.lemmas.List.{append_assoc, set_past}
use lib.ListN.{get_elem?}
use Rattle.atomic_table.specs.Table.{State}
use Rattle.pif_model.specs.Word.{word_of}
use Rattle.pif_quick.specs.declared.rule.Turn.{Turn}
use Rattle.pif_quick.specs.declared.rule.View.{View}
use Rattle.pif_quick.specs.declared.rule.Role.TheVariants.{Dealer, Seated}
use Rattle.pif_quick.specs.Turns.{left_by, IsChainOfTurns, turns_by, IsOlder}
use Rattle.pif_quick.specs.Rule.{opening_at, IsDealt, IsOut, IsSeatOfPass, EachWordHasOneHolder}
use Rattle.pif_quick.proofs.TurnLists.{turns_by-append, older-more}
use Rattle.pif_quick.proofs.Views.{put, put_here, put_else, each_set, IsSameSeat, seating_stays, out_stays}

abbrev pub Homes : Type 0 → Type 0
Homes T = List (maybe.Option (Option T))

abbrev pub Board : Type 0 → Type 0
Board T = State (Option T) (View T)

module _ {T : Type 0} where
  -- a seat of another word
  pub seat_elsewhere : (starts : List (Option T)) (words : List ℕ) (homes homes' : Homes T) (log : List (Turn T))
      (u : View T) (i n : ℕ)
      → u.word ≢ i → get_elem? homes' u.word ≡ get_elem? homes u.word → IsSeatOfPass starts words homes log u
      → IsSeatOfPass starts (set words i n) homes' log u
  seat_elsewhere starts words homes homes' log u i n other away x = record {
    numbered = x.numbered;
    opening = x.opening;
    newer = x.newer;
    prefix = x.prefix;
    others = x.others;
    made = x.made;
    last = x.last;
    holds = λ f e. let h = x.holds f e in record {
      owns = ap (λ (b : ℕ). (word_of b).number) (get_or-set_other words i u.word n 0 other) ∙ h.owns;
      out = away ∙ h.out;
      knows = h.knows;
      left = h.left;
    };
  }

  -- a seat that has no open turn, if the log grows by turns of others
  pub seat_quiet : (starts : List (Option T)) (words words' : List ℕ) (homes homes' : Homes T)
      (extra log : List (Turn T)) (u : View T)
      → ((f : T) → u.known.found ≡ Some f → ⊥) → turns_by u.pass extra ≡ [] → IsSeatOfPass starts words homes log u
      → IsSeatOfPass starts words' homes' (extra ++ log) u
  seat_quiet starts words words' homes homes' extra log u quiet by x =
      record {
        numbered = x.numbered;
        opening = x.opening;
        newer = extra ++ x.newer;
        prefix = append_assoc extra x.newer u.known.turns ∙ ap (λ (l : List (Turn T)). extra ++ l) x.prefix;
        others = turns_by-append u.pass extra x.newer
            ∙ (ap (λ (l : List (T × T)). l ++ turns_by u.pass x.newer) by ∙ x.others);
        made = x.made;
        last = x.last;
        holds = λ f e. absurd (quiet f e);
      }

  module _ (starts : List (Option T)) (s : Board T) (r : EachWordHasOneHolder starts s) (id : ℕ) (v : View T)
      (at : get_elem? s.views id ≡ some v) (seated : v.role ≡ Seated) where
    abbrev here : ℕ
    here = v.word

    -- What a step of the seat keeps of its own word, if n is what it writes, and the log grows by `extra`
    pub record Keeps (n : ℕ) (homes' : Homes T) (extra : List (Turn T)) (w : View T) : Type 0 where
      pub narrow : n < 2 ^ 32
      pub same : IsSameSeat v w
      pub sized : length homes' ≡ length s.homes
      pub away : (k : ℕ) → k ≢ here → get_elem? homes' k ≡ get_elem? s.homes k
      pub mine : IsSeatOfPass starts (set s.words here n) homes' (extra ++ r.logs here) w
      pub others : (j : ℕ) (u : View T) → j ≢ id → get_elem? s.views j ≡ some u → u.role ≡ Seated → u.word ≡ here
          → IsSeatOfPass starts (set s.words here n) homes' (extra ++ r.logs here) u
      pub home : here < length s.homes
          → (get_elem? homes' here ≡ some (some (left_by (opening_at starts here) (extra ++ r.logs here))))
          ⊎ IsOut (set s.views id w) here
      pub chain : IsChainOfTurns (opening_at starts here) (extra ++ r.logs here)
      pub beside : IsOlder w.beside (extra ++ r.logs here)
      pub by : (p : ℕ) → p ≢ v.pass → turns_by p extra ≡ []

    module _ (n : ℕ) (homes' : Homes T) (extra : List (Turn T)) (w : View T) (k : Keeps n homes' extra w) where
      abbrev longer : List (Turn T)
      longer = extra ++ r.logs here

      logs' : ℕ → List (Turn T)
      logs' = put r.logs here longer

      logs_here : (i : ℕ) → i ≡ here → logs' i ≡ longer
      unfolding logs'
      logs_here i e = ap (put r.logs here longer) e ∙ put_here r.logs here longer

      logs_else : (i : ℕ) → i ≢ here → logs' i ≡ r.logs i
      unfolding logs'
      logs_else i e = put_else r.logs here longer i e

      seats' : (j : ℕ) (u : View T) → get_elem? (set s.views id w) j ≡ some u → u.role ≡ Seated
          → IsSeatOfPass starts (set s.words here n) homes' (logs' u.word) u
      seats' = each_set (λ (j : ℕ) (u : View T). u.role ≡ Seated
          → IsSeatOfPass starts (set s.words here n) homes' (logs' u.word) u) s.views id w
          (λ _. subst (λ (l : List (Turn T)). IsSeatOfPass starts (set s.words here n) homes' l w)
          (sym (logs_here w.word k.same.word)) k.mine)
          (λ j u other e role. dite (ℕ_discrete u.word here)
          (λ is. subst (λ (l : List (Turn T)). IsSeatOfPass starts (set s.words here n) homes' l u)
          (sym (logs_here u.word is)) (k.others j u other e role is))
          (λ isnt. subst (λ (l : List (Turn T)). IsSeatOfPass starts (set s.words here n) homes' l u)
          (sym (logs_else u.word isnt))
          (seat_elsewhere starts s.words s.homes homes' (r.logs u.word) u here n isnt (k.away u.word isnt)
          (r.seats j u e role))))

      homes_kept : (i : ℕ) → i < length homes'
          → (get_elem? homes' i ≡ some (some (left_by (opening_at starts i) (logs' i)))) ⊎ IsOut (set s.views id w) i
      homes_kept i lt = let lt' : i < length s.homes = omega (arith, k.sized) in dite (ℕ_discrete i here)
          (λ is. subst (λ (z : ℕ × List (Turn T)). (get_elem? homes' z.0 ≡ some
          (some (left_by (opening_at starts z.0) z.1))) ⊎ IsOut (set s.views id w) z.0)
          (λ c. (sym is c, sym (logs_here i is) c)) (k.home (subst (λ (z : ℕ). z < length s.homes) is lt')))
          (λ isnt. ⊎_elim
          (λ (h : get_elem? s.homes i ≡ some (some (left_by (opening_at starts i) (r.logs i)))).
          inl (k.away i isnt ∙ (h ∙ ap (λ (l : List (Turn T)). some (some (left_by (opening_at starts i) l)))
          (sym (logs_else i isnt)))))
          (λ (o : IsOut s.views i). inr (out_stays s.views id v w i at isnt o)) (r.homes i lt'))

      undealt' : (j : ℕ) (d : View T) → get_elem? (set s.views id w) j ≡ some d → d.role ≡ Dealer → (p i : ℕ)
          → ¬ IsDealt d p i → turns_by p (logs' i) ≡ []
      undealt' = each_set (λ (j : ℕ) (d : View T). d.role ≡ Dealer → (p i : ℕ) → ¬ IsDealt d p i
          → turns_by p (logs' i) ≡ []) s.views id w
          (λ role. absurd (no_dealer (sym (sym k.same.role ∙ role) ∙ seated)))
          (λ j d other e role p i isnt. dite (ℕ_discrete i here)
          (λ is. let d_not : p ≢ v.pass =
          λ q. isnt (subst (λ (z : ℕ × ℕ). IsDealt d z.0 z.1) (λ c. (sym q c, sym is c))
          (r.seating.dealt j id d v e role at seated)) in
          ap (turns_by p) (logs_here i is) ∙ (turns_by-append p extra (r.logs here)
          ∙ (ap (λ (l : List (T × T)). l ++ turns_by p (r.logs here)) (k.by p d_not)
          ∙ (ap (λ (z : ℕ). turns_by p (r.logs z)) (sym is) ∙ r.undealt j d e role p i isnt))))
          (λ other_word. ap (turns_by p) (logs_else i other_word) ∙ r.undealt j d e role p i isnt))
        where
          no_dealer : ◌≡◌ {A = Rattle.pif_quick.specs.declared.rule.Role.Role} Dealer Seated → ⊥
          no_dealer e = cc

      narrow' : (i : ℕ) → get_or (set s.words here n) i 0 < 2 ^ 32
      narrow' i = dite (ℕ_discrete i here)
          (λ is. dite (dec_le (length s.words) here)
          (λ past. subst (λ (l : List ℕ). get_or l i 0 < 2 ^ 32) (sym (set_past s.words here n past)) (r.narrow i))
          (λ inside. let lt : here < length s.words = omega arith in
          subst (λ (z : ℕ). z < 2 ^ 32) (sym (ap (λ (z : ℕ). get_or (set s.words here n) z 0) is
          ∙ get_or-set_same s.words here n 0 lt)) k.narrow))
          (λ isnt. subst (λ (z : ℕ). z < 2 ^ 32) (sym (get_or-set_other s.words here i n 0 isnt)) (r.narrow i))

      pub one_step : EachWordHasOneHolder starts record { words = set s.words here n; homes = homes'; views = set s.views id w }
      one_step = record {
        logs = logs';
        chain = λ i. dite (ℕ_discrete i here)
            (λ is. subst (λ (z : ℕ × List (Turn T)). IsChainOfTurns (opening_at starts z.0) z.1)
            (λ c. (sym is c, sym (logs_here i is) c)) k.chain)
            (λ isnt. subst (IsChainOfTurns (opening_at starts i)) (sym (logs_else i isnt)) (r.chain i));
        sized = length-set s.words here n ∙ (r.sized ∙ sym k.sized);
        narrow = narrow';
        seating = seating_stays starts s.views id v w at k.same r.seating;
        seats = seats';
        homes = homes_kept;
        beside = each_set (λ (j : ℕ) (u : View T). IsOlder u.beside (logs' u.word)) s.views id w
            (subst (IsOlder w.beside) (sym (logs_here w.word k.same.word)) k.beside)
            (λ j u other e. dite (ℕ_discrete u.word here)
            (λ is. subst (IsOlder u.beside) (sym (logs_here u.word is))
            (older-more extra u.beside (r.logs here) (subst (λ (z : ℕ). IsOlder u.beside (r.logs z)) is
            (r.beside j u e))))
            (λ isnt. subst (IsOlder u.beside) (sym (logs_else u.word isnt)) (r.beside j u e)));
        undealt = undealt';
      }
