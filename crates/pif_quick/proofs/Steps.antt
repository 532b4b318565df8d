-- Each step of a seat at its word keeps the rule, and tells what it says.
use Rattle.std.proofs.Common.{◌≡◌, ◌≢◌, ℕ, ◌<◌, ◌^◌, eqb, List, [], ◌∷◌, length, get_or, Option, Some, None, sym, refl, ap, ◌∙◌, subst, arith, append-nil}
use mathlib.Core.Option.{some, none, some-injective}
use mathlib.Core.Logic.{dite}
use native.Mathlib.Decide.{ℕ_discrete}
use lib.ListN.{get_elem?}
use prog.Atomic.{either}
use Rattle.std.specs.Prelude.{MatchOption}
use Rattle.atomic_table.specs.Table.{Me, step, Act, keeps, takes, gives, Valid, stepped, carried_after, Allows}
use Rattle.atomic_table.proofs.Lists.{exchanged}
use Rattle.pif_model.specs.Word.{Word, word_of, held_by, take_word, release_word, mark_word}
use Rattle.pif_model_lemmas.proofs.WordBits.{word_of-number, take_word-hit, take_word-miss, release_word-hit, release_word-miss}
use Rattle.pif_quick.specs.declared.rule.View.{View}
use Rattle.pif_quick.specs.declared.rule.Role.TheVariants.{Seated}
use Rattle.pif_quick.specs.Turns.{IsOpen, with_open, closed}
use Rattle.pif_quick.specs.Rule.{number_at, handed_to, IsWordStep, EachWordHasOneHolder, with_record, Opened, Closed, Took, Left, Released, Handed, Marked, Looked, Claimed, Compared}
use Rattle.pif_quick.proofs.TurnLists.{older-either}
use Rattle.pif_quick.proofs.OneStep.{Board}
use Rattle.pif_quick.proofs.Turning.{Quiet, others_quiet, OpensSeat, opens, closes, closes-sound, rewords}

-- the word part of a take
take_part : (n t : ℕ) → n < 2 ^ 32 → t < 2 ^ 30 → IsWordStep (λ w. take_word w t) n (either (eqb n 0) t n)
take_part n t narrow fits = exchanged n 0 t (λ (k : ℕ). IsWordStep (λ w. take_word w t) n k)
    (λ e. subst (λ (o : Option Word). MatchOption o (t ≡ n) (λ w. word_of t ≡ w)) (sym (take_word-hit n t fits e)) refl)
    (λ ne. subst (λ (o : Option Word). MatchOption o (n ≡ n) (λ w. word_of n ≡ w))
    (sym (take_word-miss n t narrow ne)) refl)

-- the word part of a release
release_part : (n t : ℕ) → n < 2 ^ 32 → t < 2 ^ 30 → IsWordStep (λ w. release_word w t) n (either (eqb n t) 0 n)
release_part n t narrow fits = exchanged n t 0 (λ (k : ℕ). IsWordStep (λ w. release_word w t) n k)
    (λ e. subst (λ (o : Option Word). MatchOption o (0 ≡ n) (λ w. word_of 0 ≡ w))
    (sym (release_word-hit n t fits e)) refl)
    (λ ne. subst (λ (o : Option Word). MatchOption o (n ≡ n) (λ w. word_of n ≡ w))
    (sym (release_word-miss n t narrow fits ne)) refl)

-- what holds of the word that a compare-exchange leaves, if it went and if it failed
exchange_cases : (n old new : ℕ) (F : ℕ → Type 0) → F new
    → (n ≡ old → F (either (eqb n old) new n)) × (n ≢ old → either (eqb n old) new n ≡ n)
exchange_cases n old new F new_is =
    exchanged n old new (λ (k : ℕ). (n ≡ old → F k) × (n ≢ old → k ≡ n))
    (λ e. ((λ _. new_is), (λ ne. absurd (ne e)))) (λ ne. ((λ e. absurd (ne e)), (λ _. refl)))

abbrev pub Known : Type 0 → Type 0
Known T = Me (Option T) (View T)

module _ {T : Type 0} where
  -- What a step owes at one state: a new view and an act that keep the rule, and what it tells
  abbrev Owes : (starts : List (Option T)) (s : Board T) (id : ℕ) (m : Known T) (n : ℕ) → (Known T → Type 0) → Type 0
  Owes starts s id m n tells = (w : View T) × (a : Act (Option T)) × Valid s.homes m.1 a
      × EachWordHasOneHolder starts (stepped s m.0.word n id m.1 w a) × tells (w, carried_after m.1 a)

  module _ (starts : List (Option T)) (slots id : ℕ) (v : View T) (hand : List (ℕ × Option T))
      (seated : v.role ≡ Seated) (fits : v.word < slots) where
    abbrev m : Known T
    m = (v, hand)

    module _ (s : Board T) (r : EachWordHasOneHolder starts s) (deep : length s.homes ≡ slots)
        (at : get_elem? s.views id ≡ some v) where
      abbrev n : ℕ
      n = get_or s.words v.word 0

      lt : v.word < length s.homes
      lt = omega (arith, deep, fits)

      -- nothing changes
      stays : (tells : Known T → Type 0) → tells m → Owes starts s id m n tells
      stays tells t = (
        v,
        keeps,
        tt,
        rewords starts s r id v at seated n (r.narrow v.word) lt refl v.beside
            (r.beside id v at),
        t,
      )

      -- the word gets other bits and keeps its number
      reworded : (k : ℕ) → k < 2 ^ 32 → (word_of k).number ≡ (word_of n).number → (tells : Known T → Type 0)
          → tells m → Owes starts s id m k tells
      reworded k narrow num tells t = (
        v,
        keeps,
        tt,
        rewords starts s r id v at seated k narrow lt num v.beside (r.beside id v at),
        t,
      )

      -- the seat takes the word's value
      takes_value : (k : ℕ) → OpensSeat starts s r id v at seated k → (tells : Known T → Type 0)
          → ((m' : Known T) → Opened v.word m m' → tells m') → Owes starts s id m k tells
      takes_value k o tells t = (
        with_record (with_open o.found o.newer v.known) v,
        takes v.word (Some o.found),
        o.at_home,
        o.kept,
        t (with_record (with_open o.found o.newer v.known) v, (v.word, Some o.found) ∷ hand)
            record { found = o.found; newer = o.newer; others = o.others; view = refl; hand = refl; sound = o.sound },
      )

      -- a word that is 0 has no open turn
      zero_quiet : n ≡ 0 → Quiet starts s r id v at seated
      zero_quiet e j u f there role is open_turn =
          let x = r.seats j u there role in
          let h = x.holds f open_turn in
          let z : u.pass ≡ 0 = sym h.owns ∙ (ap (number_at s.words) is
          ∙ (ap (λ (b : ℕ). (word_of b).number) e ∙ ap (λ (w : Word). w.number)
          (word_of-number 0 (omega arith)))) in
          let p = x.numbered.0 in
          absurd (omega arith)

      -- a word with the seat's number has no open turn but the seat's
      own_quiet : (word_of n).number ≡ v.pass → v.known.found ≡ None → Quiet starts s r id v at seated
      own_quiet e none_open j u f there role is open_turn = dite (ℕ_discrete j id)
          (λ same. no_turn (sym none_open
          ∙ (ap (λ (x : View T). x.known.found) (some-injective v u (sym at
          ∙ (ap (get_elem? s.views) (sym same) ∙ there))) ∙ open_turn)))
          (λ other. others_quiet starts s r id v at seated e j u f other there role is open_turn)
        where
          no_turn : ◌≡◌ {A = Option T} None (Some f) → ⊥
          no_turn q = cc

    -- by a compare-exchange from 0 to one's number
    pub taking : (x : T) → v.known.opening ≡ Some x
        → Allows (EachWordHasOneHolder starts) slots id m v.word (λ k. either (eqb k 0) v.pass k)
        (Took (step slots v.word 0 v.pass none) m)
    taking x op s r deep at wide =
        let k : ℕ = get_or s.words v.word 0 in
        let num = (r.seats id v at seated).numbered in
        let narrow : k < 2 ^ 32 = r.narrow v.word in
        let own : IsOpen v.known → (word_of k).number ≡ v.pass = λ o. ((r.seats id v at seated).holds o.0 o.1).owns in
        let told : (m' : Known T) → (k ≡ 0 → Opened v.word m m') → (k ≢ 0 → m' ≡ m)
        → Took (step slots v.word 0 v.pass none) m k m' =
        λ m' a b. record {
          word_part = take_part k v.pass narrow num.1;
          narrow = narrow;
          own = own;
          taken = a;
          kept =
              b;
        } in
        exchanged k 0 v.pass (λ (j : ℕ). Owes starts s id m j (Took (step slots v.word 0 v.pass none) m k))
        (λ e. takes_value s r deep at v.pass (opens starts s r id v at seated v.pass (pass_narrow num.1)
        (ap (λ (w : Word). w.number) (word_of-number v.pass num.1)) (lt s r deep at)
        (zero_quiet s r deep at e) x op)
        (Took (step slots v.word 0 v.pass none) m k) (λ m' o. told m' (λ _. o) (λ ne. absurd (ne e))))
        (λ ne. stays s r deep at (Took (step slots v.word 0 v.pass none) m k) (told m (λ e. absurd (ne e)) (λ _. refl)))
      where
        pass_narrow : v.pass < 2 ^ 30 → v.pass < 2 ^ 32
        pass_narrow h = omega arith

    -- by a load that finds one's number
    pub claiming : (x : T) → v.known.opening ≡ Some x → v.known.found ≡ None
        → Allows (EachWordHasOneHolder starts) slots id m v.word (λ k. k) (Claimed (step slots v.word 0 0 none) m)
    claiming x op none_open s r deep at wide =
        let k : ℕ = get_or s.words v.word 0 in
        let told : (m' : Known T) → ((word_of k).number ≡ v.pass → Opened v.word m m')
        → ((word_of k).number ≢ v.pass → m' ≡ m) → Claimed (step slots v.word 0 0 none) m k m' =
        λ m' a b. record { narrow = r.narrow v.word; taken = a; kept = b } in
        dite (ℕ_discrete (word_of k).number v.pass)
        (λ e. takes_value s r deep at k (opens starts s r id v at seated k (r.narrow v.word) e (lt s r deep at)
        (own_quiet s r deep at e none_open) x op)
        (Claimed (step slots v.word 0 0 none) m k) (λ m' o. told m' (λ _. o) (λ ne. absurd (ne e))))
        (λ ne. stays s r deep at (Claimed (step slots v.word 0 0 none) m k) (told m (λ e. absurd (ne e)) (λ _. refl)))

    -- by a load
    pub looking : Allows (EachWordHasOneHolder starts) slots id m v.word (λ k. k) (Looked (step slots v.word 0 0 none) m)
    looking s r deep at wide = stays s r deep at (Looked (step slots v.word 0 0 none) m (get_or s.words v.word 0))
        (r.narrow v.word, refl)

    -- by a load, after which what was learnt is forgotten
    pub comparing : Allows (EachWordHasOneHolder starts) slots id m v.word (λ k. k) (Compared (step slots v.word 0 0 none) m)
    comparing s r deep at wide =
        let me = r.seats id v at seated in
        let b = r.beside id v at in (
          record v { beside = [] },
          keeps,
          tt,
          rewords starts s r id v at seated (get_or s.words v.word 0) (r.narrow v.word) (lt s r deep at) refl []
              (r.logs v.word, append-nil (r.logs v.word)),
          record {
            view = refl;
            either_way = older-either b.0 me.newer v.beside v.known.turns (b.1 ∙ sym me.prefix);
            open_turn = λ o. (b.0, b.1 ∙ sym (me.holds o.0 o.1).knows);
          },
        )

    -- by a compare-exchange that keeps the number and sets WAITERS
    pub marking : (old new : ℕ) → new < 2 ^ 32 → word_of new ≡ mark_word (word_of old)
        → Allows (EachWordHasOneHolder starts) slots id m v.word (λ k. either (eqb k old) new k)
        (Marked (step slots v.word old new none) m)
    marking old new narrow marks s r deep at wide =
        let k : ℕ = get_or s.words v.word 0 in
        let parts = exchange_cases k old new (λ (j : ℕ). word_of j ≡ mark_word (word_of old)) marks in
        let told : Marked (step slots v.word old new none) m k m =
        ((λ e. parts.0 e ∙ ap (λ (b : ℕ). mark_word (word_of b)) (sym e)), parts.1, refl) in
        exchanged k old new (λ (j : ℕ). Owes starts s id m j (Marked (step slots v.word old new none) m k))
        (λ e. reworded s r deep at new narrow (ap (λ (w : Word). w.number) marks
        ∙ ap (λ (b : ℕ). (word_of b).number) (sym e)) (Marked (step slots v.word old new none) m k) told)
        (λ ne. stays s r deep at (Marked (step slots v.word old new none) m k) told)

  module _ (starts : List (Option T)) (slots id : ℕ) (v : View T) (f x : T) (seated : v.role ≡ Seated)
      (fits : v.word < slots) (found_is : v.known.found ≡ Some f) where
    abbrev held : Known T
    held = (v, (v.word, Some x) ∷ [])

    abbrev some_or : T → Option T → T
    some_or d None = d
    some_or d (Some z) = z

    abbrev first_or : T → List (ℕ × Option T) → T
    first_or d [] = d
    first_or d (y ∷ ys) = some_or d y.1

    -- the value goes home by a compare-exchange from a word that has one's number
    leaving : (old new : ℕ) → (word_of old).number ≡ v.pass → new < 2 ^ 32 → (tells : ℕ → Known T → Type 0)
        → ((k : ℕ) → k < 2 ^ 32 → (m' : Known T) → Left (step slots v.word old new none) held k m' → tells k m')
        → Allows (EachWordHasOneHolder starts) slots id held v.word (λ k. either (eqb k old) new k) tells
    leaving old new owns narrow tells t s r deep at wide =
        let k : ℕ = get_or s.words v.word 0 in
        let small : k < 2 ^ 32 = r.narrow v.word in
        let shut : View T = with_record (closed v.pass x v.known) v in
        let done : Closed held (shut, []) x = record {
          view = refl;
          hand = refl;
          sound =
              closes-sound starts s r id v at seated new narrow f x found_is;
        } in
        exchanged k old new (λ (j : ℕ). Owes starts s id held j (tells k))
        (λ e. (
          shut,
          gives,
          tt,
          closes starts s r id v at seated new narrow f x found_is,
          t k small (shut, []) record {
            given = λ _ y same. subst (Closed held (shut, [])) (same_value y same) done;
            kept = λ ne. absurd (ne e);
          },
        ))
        (λ ne. stays starts slots id v ((v.word, Some x) ∷ []) seated fits s r deep at (tells k)
        (t k small held record {
          given = λ e. absurd (ne e);
          kept = λ _. refl;
        }))
      where
        same_value : (y : T) → ◌≡◌ {A = List (ℕ × Option T)} ((v.word, Some x) ∷ []) ((v.word, Some y) ∷ []) → x ≡ y
        same_value y same = ap (first_or x) same

    -- by a compare-exchange from one's number to 0
    pub releasing : v.pass < 2 ^ 30 → Allows (EachWordHasOneHolder starts) slots id held v.word
        (λ k. either (eqb k v.pass) 0 k) (Released (step slots v.word v.pass 0 none) held)
    releasing small = leaving v.pass 0 (ap (λ (w : Word). w.number) (word_of-number v.pass small)) (omega arith)
        (Released (step slots v.word v.pass 0 none) held)
        (λ k narrow m' l. (release_part k v.pass narrow small, l))

    -- by a compare-exchange from one's marked word to the word of another, or to 0
    pub handing : (old new : ℕ) → word_of old ≡ mark_word (held_by v.pass) → new < 2 ^ 32
        → (next : Option ℕ) × (word_of new ≡ handed_to next)
        → Allows (EachWordHasOneHolder starts) slots id held v.word (λ k. either (eqb k old) new k)
        (Handed (step slots v.word old new none) held)
    handing old new marks narrow to = leaving old new (ap (λ (w : Word). w.number) marks) narrow
        (Handed (step slots v.word old new none) held)
        (λ k small m' l. let parts = exchange_cases k old new
        (λ (j : ℕ). (next : Option ℕ) × (word_of j ≡ handed_to next)) to in
        ((λ e. (ap word_of e ∙ marks, parts.0 e)), parts.1, l))
