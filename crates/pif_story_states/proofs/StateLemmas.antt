-- States behind commands that are handed on, one after the other.
use Rattle.std.proofs.Common.{◌≡◌, ℕ, ◌+◌, ◌<◌, ◌≤◌, Bool, true, false, List, [], ◌∷◌, ◌++◌, drop, get_or, length, Option, Some, None, refl, sym, ap, ◌∙◌, append-nil, append_assoc}
use Rattle.std.specs.Prelude.{map, option_and_then}
use Rattle.std.proofs.lemmas.List.{drop_all, drop_more}
use Rattle.pif_model.specs.Table.{Table}
use Rattle.pif_text_model.specs.declared.replies.Reply.{Reply}
use Rattle.pif_script_model.specs.Running.{Answer}
use Rattle.pif_script_model.specs.declared.rows.AnsweredRow.{AnsweredRow}
use Rattle.pif_script_model.specs.Rows.{AreRowsOf, Asked, asked_by, asked_in}
use Rattle.pif_script_model.specs.Stories.{NumberedRow}
use Rattle.pif_story_states.specs.States.{IsTold, answer_behind, answer_to, state_line, states_from}

-- the states behind these commands
unfoldable pub told_from : (names : List ℕ) → Option Table → List AnsweredRow → List ℕ
told_from names before [] = []
told_from names before (row ∷ rows) =
    elim (answer_behind before row.command) [
      | None ↦ []
      | Some a ↦ state_line names row.line row.words.now a.0 a.1 ++ told_from names (Some a.1) rows
    ]

told_nothing : (names : List ℕ) (before : Option Table) → told_from names before [] ≡ []
unfolding told_from
told_nothing names before = refl

told_fault : (names : List ℕ) (before : Option Table) (row : AnsweredRow) (rows : List AnsweredRow)
    → answer_behind before row.command ≡ None → told_from names before (row ∷ rows) ≡ []
unfolding told_from
told_fault names before row rows e = rw (told_from, e) refl

told_next : (names : List ℕ) (before : Option Table) (row : AnsweredRow) (rows : List AnsweredRow) (r : Reply) (s : Table)
    → answer_behind before row.command ≡ Some (r, s)
    → told_from names before (row ∷ rows)
    ≡ state_line names row.line row.words.now r s ++ told_from names (Some s) rows
unfolding told_from
told_next names before row rows r s e = rw (told_from, e) refl

-- ---- the same as of the commands of the story

-- the state behind one, and behind those after it
abbrev line_and_more : (names : List ℕ) → Option Answer → ℕ → (words : List ℕ) → (Option Table → List ℕ) → List ℕ
line_and_more names None line words more = []
line_and_more names (Some a) line words more = state_line names line words a.0 a.1 ++ more (Some a.1)

told_by : (names : List ℕ) (before : Option Table) (row : AnsweredRow) (rows : List AnsweredRow)
    → told_from names before (row ∷ rows)
    ≡ line_and_more names (answer_behind before row.command) row.line row.words.now (λ s. told_from names s rows)
unfolding told_from
told_by names before row rows = by_answer (answer_behind before row.command)
  where
    by_answer : (o : Option Answer)
        → elim o [ None ↦ [] | Some a ↦ state_line names row.line row.words.now a.0 a.1 ++ told_from names (Some a.1) rows ]
        ≡ line_and_more names o row.line row.words.now (λ s. told_from names s rows)
    by_answer None = refl
    by_answer (Some a) = refl

states_by : (names : List ℕ) (before : Option Table) (row : NumberedRow) (rows : List NumberedRow)
    → states_from names before (row ∷ rows)
    ≡ line_and_more names (answer_to before row.1.0) row.0 row.1.0 (λ s. states_from names s rows)
unfolding states_from
states_by names before row rows = by_answer (answer_to before row.1.0)
  where
    by_answer : (o : Option Answer)
        → elim o [ None ↦ [] | Some a ↦ state_line names row.0 row.1.0 a.0 a.1 ++ states_from names (Some a.1) rows ]
        ≡ line_and_more names o row.0 row.1.0 (λ s. states_from names s rows)
    by_answer None = refl
    by_answer (Some a) = refl

first-asked : (one other : Asked) (ones others : List Asked) → ◌≡◌ {A = List Asked} (one ∷ ones) (other ∷ others)
    → (one ≡ other) × (ones ≡ others)
first-asked one other ones others e = (cc, cc)

more-same : (names : List ℕ) (o : Option Answer) (line : ℕ) (words : List ℕ) (f g : Option Table → List ℕ)
    → ((s : Option Table) → f s ≡ g s) → line_and_more names o line words f ≡ line_and_more names o line words g
more-same names None line words f g e = refl
more-same names (Some a) line words f g e = ap (λ l. state_line names line words a.0 a.1 ++ l) (e (Some a.1))

pub told_same : (names : List ℕ) (before : Option Table) (numbered : List NumberedRow) (rows : List AnsweredRow)
    → AreRowsOf numbered rows → told_from names before rows ≡ states_from names before numbered
unfolding states_from
told_same names before [] [] e = told_nothing names before
told_same names before [] (row ∷ rows) e = absurd (cc)
told_same names before (n ∷ ns) [] e = absurd (cc)
told_same names before (n ∷ ns) (row ∷ rows) e =
    let parts = first-asked (asked_in row) (asked_by n) (map asked_in rows) (map asked_by ns) e in
    told_by names before row rows
    ∙ ap (λ (x : Asked). line_and_more names (option_and_then (answer_behind before) x.2) x.0 x.1 (λ s. told_from names s rows)) parts.0
    ∙ more-same names (answer_to before n.1.0) n.0 n.1.0 (λ s. told_from names s rows) (λ s. states_from names s ns)
    (λ s. told_same names s ns rows parts.1)
    ∙ sym (states_by names before n ns)

-- ---- the command at a place

module _ (names whole text : List ℕ) (rows : List AnsweredRow) (place : ℕ) (before : Option Table)
    (told : whole ≡ text ++ told_from names before (drop place rows)) where
  module _ (row : AnsweredRow) (within : place < length rows) (here : row ≡ get_or rows place row) where
    told_here : whole ≡ text ++ told_from names before (row ∷ drop (place + 1) rows)
    told_here =
        told ∙ ap (λ l. text ++ told_from names before l) (drop_more rows place row within)
        ∙ ap (λ r. text ++ told_from names before (r ∷ drop (place + 1) rows)) (sym here)

    -- as the code tells it: one that is a fault
    pub told_out : (after : Option Table) (new : List ℕ) (more : Bool)
        → IsTold names row before after text new more → more ≡ false → new ≡ whole
    told_out after new true t n = absurd (cc)
    told_out after new false t n =
        t.1
        ∙ sym (told_here ∙ ap (λ more. text ++ more) (told_fault names before row (drop (place + 1) rows) t.0)
        ∙ append-nil text)

    -- and one that is answered
    pub told_on : (after : Option Table) (new : List ℕ) (more : Bool)
        → IsTold names row before after text new more → more ≡ true
        → whole ≡ new ++ told_from names after (drop (place + 1) rows)
    told_on after new false t n = absurd (cc)
    told_on after new true (r, s, a, f, m) n =
        rw (m, f)
        (told_here ∙ ap (λ more. text ++ more) (told_next names before row (drop (place + 1) rows) r s a)
        ∙ sym (append_assoc text (state_line names row.line row.words.now r s) (told_from names (Some s) (drop (place + 1) rows))))

  -- no command is left
  pub told_whole : length rows ≤ place → text ≡ whole
  told_whole le =
      sym (told ∙ ap (λ l. text ++ told_from names before l) (drop_all place rows le)
      ∙ ap (λ more. text ++ more) (told_nothing names before) ∙ append-nil text)
