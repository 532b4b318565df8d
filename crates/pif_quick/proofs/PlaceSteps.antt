-- The steps of a seat between two calls: what each asks of it, and what it is after each.
use Rattle.std.proofs.Common.{◌≡◌, ℕ, ◌<◌, ◌^◌, eqb, List, [], ◌∷◌, Option, Some, None, sym, refl, ap, ◌∙◌, subst}
use mathlib.Core.Option.{none}
use prog.Atomic.{either}
use Rattle.atomic_table.specs.Seated.{TableId}
use Rattle.atomic_table.specs.Table.{step, Allows, Splits, Joins}
use Rattle.atomic_table.specs.declared.shared.Seat.{Seat}
use Rattle.pif_model.specs.Word.{word_of, held_by, mark_word}
use Rattle.pif_quick.specs.declared.rule.Turn.{Turn}
use Rattle.pif_quick.specs.declared.rule.Record.{Record}
use Rattle.pif_quick.specs.declared.rule.View.{View}
use Rattle.pif_quick.specs.Turns.{IsOpen, IsSound, closed, closed_from}
use Rattle.pif_quick.specs.Rule.{EachWordHasOneHolder, handed_to, spent_view, note_of, Closed, Took, Released, Handed, Marked, Looked, Claimed, Compared}
use Rattle.pif_quick.specs.Places.{record_of, hand_if, IsPlaceOf}
use Rattle.pif_quick.proofs.Dealing.{noting, showing}
use Rattle.pif_quick.proofs.Steps.{Known, taking, claiming, looking, marking, releasing, handing, comparing}

abbrev pub Place : Type 0 → Type 0
Place T = Seat (Option T) (View T)

module _ {T : Type 0} where
  pub found_of-closed : (pass : ℕ) (x : T) (o : Option T) (r : Record T) → r.found ≡ o
      → (closed_from pass x o r).found ≡ None
  found_of-closed pass x None r e = e
  found_of-closed pass x (Some f) r e = refl

  opening_of-closed : (pass : ℕ) (x : T) (o : Option T) (r : Record T) → (closed_from pass x o r).opening ≡ r.opening
  opening_of-closed pass x None r = refl
  opening_of-closed pass x (Some f) r = refl

  module _ (z : TableId) (word pass : ℕ) (p : Place T) (h : IsPlaceOf z word pass p) where
    abbrev v : View T
    v = p.me.0

    here : v.word < z.slots
    here = subst (λ (k : ℕ). k < z.slots) (sym h.word_is) h.inside.1

    -- the same seat with a view that knows as much, and its slot in hand
    pub same_place : (q : Place T) → q.table_id ≡ z → q.me.0.role ≡ v.role → q.me.0.pass ≡ v.pass
        → q.me.0.word ≡ v.word → q.me.0.known ≡ v.known → q.me.1 ≡ hand_if v.known.found word → IsPlaceOf z word pass q
    same_place q t a b c d e = record {
      table = t;
      inside = h.inside;
      seated = a ∙ h.seated;
      word_is = c ∙ h.word_is;
      pass_is = b ∙ h.pass_is;
      numbered = h.numbered;
      opening = (h.opening.0, ap (λ (r : Record T). r.opening) d ∙ h.opening.1);
      hand = e ∙ ap (λ (r : Record T). hand_if r.found word) (sym d);
      sound = subst (IsSound pass) (sym d) h.sound;
    }

    pub take_allowed : (t : ℕ) → t ≡ pass → (starts : List (Option T))
        → Allows (EachWordHasOneHolder starts) z.slots p.id p.me word (λ n. either (eqb n 0) t n)
        (Took (step z.slots word 0 t none) p.me)
    take_allowed t is starts =
        subst (λ (x : ℕ × ℕ). Allows (EachWordHasOneHolder starts) z.slots p.id p.me x.0 (λ n. either (eqb n 0) x.1 n)
        (Took (step z.slots x.0 0 x.1 none) p.me))
        (λ k. (h.word_is k, (h.pass_is ∙ sym is) k))
        (taking starts z.slots p.id v p.me.1 h.seated here h.opening.0 h.opening.1)

    pub claim_allowed : v.known.found ≡ None → (starts : List (Option T))
        → Allows (EachWordHasOneHolder starts) z.slots p.id p.me word (λ n. n) (Claimed (step z.slots word 0 0 none) p.me)
    claim_allowed quiet starts =
        subst (λ (x : ℕ). Allows (EachWordHasOneHolder starts) z.slots p.id p.me x (λ n. n)
        (Claimed (step z.slots x 0 0 none) p.me))
        h.word_is (claiming starts z.slots p.id v p.me.1 h.seated here h.opening.0 h.opening.1 quiet)

    pub look_allowed : (starts : List (Option T))
        → Allows (EachWordHasOneHolder starts) z.slots p.id p.me word (λ n. n) (Looked (step z.slots word 0 0 none) p.me)
    look_allowed starts =
        subst (λ (x : ℕ). Allows (EachWordHasOneHolder starts) z.slots p.id p.me x (λ n. n)
        (Looked (step z.slots x 0 0 none) p.me))
        h.word_is (looking starts z.slots p.id v p.me.1 h.seated here)

    pub compare_allowed : (starts : List (Option T))
        → Allows (EachWordHasOneHolder starts) z.slots p.id p.me word (λ n. n) (Compared (step z.slots word 0 0 none) p.me)
    compare_allowed starts =
        subst (λ (x : ℕ). Allows (EachWordHasOneHolder starts) z.slots p.id p.me x (λ n. n)
        (Compared (step z.slots x 0 0 none) p.me))
        h.word_is (comparing starts z.slots p.id v p.me.1 h.seated here)

    pub note_allowed : (starts : List (Option T)) → Splits (EachWordHasOneHolder starts) p.id v v (note_of v)
    note_allowed starts = noting starts p.id v h.seated

    -- the note of another seat of the word is shown to this one
    pub show_allowed : (u : View T) (note : Place T) → u.word ≡ word → note.me ≡ (note_of u, [])
        → (starts : List (Option T))
        → Joins (EachWordHasOneHolder starts) p.id v note.id note.me.0 (record v { beside = note.me.0.beside }) spent_view
    show_allowed u note same is starts = showing starts p.id note.id v note.me.0 h.seated
        (ap (λ (m : Known T). m.0.role) is)
        (ap (λ (m : Known T). m.0.word) is ∙ (same ∙ sym h.word_is))

    -- the seat that is told of another's turns
    pub shown_place : (b : List (Turn T)) (q : Place T) → q.table_id ≡ z → q.me ≡ (record v { beside = b }, p.me.1)
        → IsPlaceOf z word pass q
    shown_place b q t is = same_place q t (ap (λ (m : Known T). m.0.role) is) (ap (λ (m : Known T). m.0.pass) is)
        (ap (λ (m : Known T). m.0.word) is)
        (ap (λ (m : Known T). m.0.known) is) (ap (λ (m : Known T). m.1) is ∙ h.hand)

    pub mark_allowed : (old new : ℕ) → new < 2 ^ 32 → word_of new ≡ mark_word (word_of old) → (starts : List (Option T))
        → Allows (EachWordHasOneHolder starts) z.slots p.id p.me word (λ n. either (eqb n old) new n)
        (Marked (step z.slots word old new none) p.me)
    mark_allowed old new narrow marks starts =
        subst (λ (x : ℕ). Allows (EachWordHasOneHolder starts) z.slots p.id p.me x (λ n. either (eqb n old) new n)
        (Marked (step z.slots x old new none) p.me))
        h.word_is (marking starts z.slots p.id v p.me.1 h.seated here old new narrow marks)

    -- the seat with its value in the slot
    module _ (q : Place T) (x : T) (same : q.me ≡ (v, (word, Some x) ∷ [])) (open_turn : IsOpen v.known) where
      pub release_allowed : (t : ℕ) → t ≡ pass → (starts : List (Option T))
          → Allows (EachWordHasOneHolder starts) z.slots q.id q.me word (λ n. either (eqb n t) 0 n)
          (Released (step z.slots word t 0 none) q.me)
      release_allowed t is starts =
          subst (λ (m : Known T). Allows (EachWordHasOneHolder starts) z.slots q.id m word (λ n. either (eqb n t) 0 n)
          (Released (step z.slots word t 0 none) m)) (sym same)
          (subst (λ (y : ℕ × ℕ). Allows (EachWordHasOneHolder starts) z.slots q.id (v, (y.0, Some x) ∷ []) y.0
          (λ n. either (eqb n y.1) 0 n) (Released (step z.slots y.0 y.1 0 none) (v, (y.0, Some x) ∷ [])))
          (λ k. (h.word_is k, (h.pass_is ∙ sym is) k))
          (releasing starts z.slots q.id v open_turn.0 x h.seated here open_turn.1
          (subst (λ (k : ℕ). k < 2 ^ 30) (sym h.pass_is) h.numbered.1)))

      pub hand_allowed : (old new : ℕ) → word_of old ≡ mark_word (held_by pass) → new < 2 ^ 32
          → (next : Option ℕ) × (word_of new ≡ handed_to next) → (starts : List (Option T))
          → Allows (EachWordHasOneHolder starts) z.slots q.id q.me word (λ n. either (eqb n old) new n)
          (Handed (step z.slots word old new none) q.me)
      hand_allowed old new marks narrow to starts =
          subst (λ (m : Known T). Allows (EachWordHasOneHolder starts) z.slots q.id m word (λ n. either (eqb n old) new n)
          (Handed (step z.slots word old new none) m)) (sym same)
          (subst (λ (y : ℕ). Allows (EachWordHasOneHolder starts) z.slots q.id (v, (y, Some x) ∷ []) y
          (λ n. either (eqb n old) new n) (Handed (step z.slots y old new none) (v, (y, Some x) ∷ [])))
          h.word_is
          (handing starts z.slots q.id v open_turn.0 x h.seated here open_turn.1 old new (marks
          ∙ ap (λ (k : ℕ). mark_word (held_by k)) (sym h.pass_is)) narrow to))

      -- the value is home
      module _ (m' : Known T) (c : Closed q.me m' x) where
        record_is : m'.0.known ≡ closed pass x v.known
        record_is = ap (λ (w : View T). w.known) c.view ∙ (λ k. closed ((same k).0.pass) x ((same k).0.known))
            ∙ ap (λ (n : ℕ). closed n x v.known) h.pass_is

        pub closed_record : (e : Place T) → e.me ≡ m' → record_of e ≡ closed pass x v.known
        closed_record e is = ap (λ (m : Known T). m.0.known) is ∙ record_is

        pub closed_place : (e : Place T) → e.table_id ≡ z → e.me ≡ m' → IsPlaceOf z word pass e
        closed_place e t is = record {
          table = t;
          inside = h.inside;
          seated = ap (λ (m : Known T). m.0.role) is ∙ (ap (λ (w : View T). w.role) c.view
              ∙ (ap (λ (m : Known T). m.0.role) same ∙ h.seated));
          word_is = ap (λ (m : Known T). m.0.word) is ∙ (ap (λ (w : View T). w.word) c.view
              ∙ (ap (λ (m : Known T). m.0.word) same ∙ h.word_is));
          pass_is = ap (λ (m : Known T). m.0.pass) is ∙ (ap (λ (w : View T). w.pass) c.view
              ∙ (ap (λ (m : Known T). m.0.pass) same ∙ h.pass_is));
          numbered = h.numbered;
          opening = (
            h.opening.0,
            ap (λ (r : Record T). r.opening) (closed_record e is)
                ∙ (opening_of-closed pass x v.known.found v.known ∙ h.opening.1),
          );
          hand = ap (λ (m : Known T). m.1) is ∙ (c.hand ∙ ap (λ (f : Option T). hand_if f word)
              (sym (ap (λ (r : Record T). r.found) (closed_record e is)
              ∙ found_of-closed pass x v.known.found v.known refl)));
          sound = subst (λ (y : ℕ × Record T). IsSound y.0 y.1)
              (λ k. (
                (ap (λ (m : Known T). m.0.pass) same ∙ h.pass_is) k,
                ap (λ (m : Known T). m.0.known) (sym is) k,
              )) c.sound;
        }
