-- Which stories are ok.
use Rattle.std.proofs.Common.{◌≡◌, ℕ, ◌-◌, ◌≤◌, ◌==◌, ◌&&◌, not, nat_lt, Bool, true, false, cond, List, [], ◌∷◌, ◌++◌, length, Option, Some, None, Result, Ok, Err, inl, inr, append-nil, append_assoc, arith, refl, sym, ap, ◌∙◌, subst, if◌then◌else◌}
use Rattle.std.specs.Prelude.{filter_map, is_ok, slice_get}
use Rattle.std.specs.List.{cons_option, zip}
use Rattle.std.proofs.lemmas.Bool.{and_parts, false≢true}
use Rattle.std.proofs.lemmas.Bool.Decides.{nat_tests}
use Rattle.std.proofs.lemmas.List.{append_cancel_left, append_cancel_right}
use Rattle.pif_model.specs.Table.{Table}
use Rattle.pif_text_model.specs.declared.replies.Cause.TheVariants.{Cut}
use Rattle.pif_text_model.proofs.Plain.{lacks}
use Rattle.pif_script_model.specs.declared.ending.Ending.{Ending}
use Rattle.pif_script_model.specs.declared.ending.Ending.TheVariants.{Differs, Fault}
use Rattle.pif_script_model.specs.declared.ending.End.{End}
use Rattle.pif_script_model.specs.Running.{script}
use Rattle.pif_script_model.specs.Runs.{last_text}
use Rattle.pif_script_model.specs.Scripts.{Scan, ended_by, end_at, reading_of, start}
use Rattle.pif_script_model.specs.Transcripts.{script_end}
use Rattle.pif_script_model.proofs.DifferenceLemmas.{script_ends-with_fault}
use Rattle.pif_script_model.proofs.ScriptLemmas.{by_cases}
use Rattle.pif_script_model.specs.Answers.{Says, says}
use Rattle.pif_script_model.specs.Lines.{lines, plain_lines}
use Rattle.pif_script_model.specs.Stories.{NumberedRow, rows_of, script_of}
use Rattle.pif_script_model.specs.Verdicts.{Fault as ScriptFault, Flaw, differing, fault_at, flaw_at, flaw_beside, flaws_of_rows, is_refusal, refusing}
use Rattle.pif_script_model.specs.Checks.{AnswersRefusals, HasItsAnswers, IsAnswerBehind, OkExactly, StrictExactly, answers_to, fault_by, fault_in, flaws_beside, script_fault, story_flaws, text_of_run}
use Rattle.pif_script_model.proofs.AnswerLines.{AreAnswered, answer_lines, answered_all, answered_behind, answered_nothing, answered_text, answers_from, line_of}
use Rattle.pif_script_model.proofs.AnswersLemmas.{says_back, says_forth}
use Rattle.pif_script_model.proofs.RowLemmas.{none_ends}

-- ---- lines of answers

pub line-first : (a rest : List ℕ) → lacks 10 a ≡ true → lines (a ++ 10 ∷ rest) ≡ a ∷ lines rest
unfolding lines
line-first [] rest l = refl
line-first (x ∷ xs) rest l =
    let parts = and_parts (not (x == 10)) (lacks 10 xs) l in
    let unequal : not (x == 10) ≡ true = parts.0 in
    let other : (x == 10) ≡ false = grind (arith, nat_tests) in
    rw (other, line-first xs rest parts.1) refl

lines-answered : (rows : List NumberedRow) (answers : List (List ℕ)) (s t : Scan Table) → AreAnswered s rows answers t
    → lines (answer_lines answers) ≡ answers ++ [] ∷ []
unfolding lines
lines-answered [] [] s t a = refl
lines-answered [] (x ∷ xs) s t a = absurd a
lines-answered (row ∷ rows) [] s t a = absurd a
lines-answered (row ∷ rows) (x ∷ xs) s t a =
    ap lines (append_assoc x (10 ∷ []) (answer_lines xs)) ∙ line-first x (answer_lines xs) a.3
    ∙ ap (λ l. x ∷ l) (lines-answered rows xs a.0 t a.4)

-- ---- answers that say what is written

-- an answer that is written says this one; or none is written, and a strict check wants none
abbrev Stands : (strict : Bool) → (written : Option (List ℕ)) → (answer : List ℕ) → Type 0
Stands strict None answer = strict ≡ true → is_refusal answer ≡ false
Stands strict (Some written) answer = Says written answer

-- a command without a flaw is one whose answer stands
module _ (strict : Bool) (line : ℕ) (command answer : List ℕ) where
  flawless-stands : (written : Option (List ℕ)) → flaw_beside strict line command written answer ≡ None
      → Stands strict written answer
  flawless-stands None e = λ is. by_test (is_refusal answer) (ap (λ s. if s && is_refusal answer then Some (refusing line command answer) else None) (sym is) ∙ e)
    where
      by_test : (b : Bool) → (if true && b then Some (refusing line command answer) else None) ≡ None → b ≡ false
      by_test true e = cc
      by_test false e = refl
  flawless-stands (Some written) e = says_forth written answer (by_test (says written answer) e)
    where
      by_test : (b : Bool) → (if b then None else Some (differing line command written answer)) ≡ None → b ≡ true
      by_test true e = refl
      by_test false e = cc

  stands-flawless : (written : Option (List ℕ)) → Stands strict written answer
      → flaw_beside strict line command written answer ≡ None
  stands-flawless None h = by_test strict h
    where
      by_test : (b : Bool) → (b ≡ true → is_refusal answer ≡ false)
          → (if b && is_refusal answer then Some (refusing line command answer) else None) ≡ None
      by_test true h = rw (h refl) refl
      by_test false h = refl
  stands-flawless (Some written) h = rw (says_back written answer h) refl

-- no command has a flaw
find-none : (strict : Bool) (p : NumberedRow × List ℕ) (ps : List (NumberedRow × List ℕ))
    → filter_map (flaw_at strict) (p ∷ ps) ≡ [] → (flaw_at strict p ≡ None) × (filter_map (flaw_at strict) ps ≡ [])
find-none strict p ps e = by_flaw (flaw_at strict p) e
  where
    by_flaw : (o : Option Flaw) → cons_option o (filter_map (flaw_at strict) ps) ≡ []
        → (o ≡ None) × (filter_map (flaw_at strict) ps ≡ [])
    by_flaw None e = (refl, e)
    by_flaw (Some flaw) e = cc

-- the command behind these is answered so that what is written stands
abbrev StandsAt : (strict : Bool) → Scan Table → List NumberedRow → NumberedRow → Type 0
StandsAt strict s before row =
    (answer : List ℕ) × (answers_from s (before ++ row ∷ []) ≡ answers_from s before ++ (answer ++ 10 ∷ []))
    × Stands strict row.1.1 answer

-- then that is so of the command at any place
at-place : (strict : Bool) (before behind : List NumberedRow) (row : NumberedRow) (answers more : List (List ℕ))
    (s t : Scan Table) → AreAnswered s (before ++ row ∷ behind) answers t
    → filter_map (flaw_at strict) (zip (before ++ row ∷ behind) (answers ++ more)) ≡ []
    → StandsAt strict s before row
at-place strict [] behind row [] more s t a e = absurd a
at-place strict [] behind row (x ∷ xs) more s t a e =
    let stands = flawless-stands strict row.0 row.1.0 x row.1.1
    (find-none strict (row, x) (zip behind (xs ++ more)) e).0 in (
      x,
      answered_behind row [] s a.0 a.2 ∙ ap (λ l. (reading_of script s (line_of row)).text ++ l) (answered_nothing a.0)
          ∙ append-nil _ ∙ a.1 ∙ ap (λ l. l ++ (x ++ 10 ∷ [])) (sym (answered_nothing s)),
      stands,
    )
at-place strict (first ∷ before) behind row [] more s t a e = absurd a
at-place strict (first ∷ before) behind row (x ∷ xs) more s t a e =
    let here =
    at-place strict before behind row xs more a.0 t a.4
    (find-none strict (first, x) (zip (before ++ row ∷ behind) (xs ++ more)) e).1 in (
      here.0,
      answered_behind first (before ++ row ∷ []) s a.0 a.2
          ∙ ap (λ l. (reading_of script s (line_of first)).text ++ l) here.1
          ∙ sym (append_assoc _ (answers_from a.0 before) (here.0 ++ 10 ∷ []))
          ∙ ap (λ l. l ++ (here.0 ++ 10 ∷ [])) (sym (answered_behind first before s a.0 a.2)),
      here.2,
    )

-- if all that is given for a command stands, none has a flaw
none-flawed : (strict : Bool) (rows : List NumberedRow) (answers more : List (List ℕ)) (s t : Scan Table)
    → AreAnswered s rows answers t
    → ((before behind : List NumberedRow) (row : NumberedRow) (answer : List ℕ) → rows ≡ before ++ row ∷ behind
    → answers_from s (before ++ row ∷ []) ≡ answers_from s before ++ (answer ++ 10 ∷ [])
    → Stands strict row.1.1 answer)
    → filter_map (flaw_at strict) (zip rows (answers ++ more)) ≡ []
none-flawed strict [] answers more s t a h = refl
none-flawed strict (row ∷ rows) [] more s t a h = absurd a
none-flawed strict (row ∷ rows) (x ∷ xs) more s t a h =
    let here : flaw_at strict (row, x) ≡ None =
    stands-flawless strict row.0 row.1.0 x row.1.1 (h [] rows row x refl
    (answered_behind row [] s a.0 a.2 ∙ ap (λ l. (reading_of script s (line_of row)).text ++ l) (answered_nothing a.0)
    ∙ append-nil _ ∙ a.1 ∙ ap (λ l. l ++ (x ++ 10 ∷ [])) (sym (answered_nothing s)))) in
    rw here (none-flawed strict rows xs more a.0 t a.4 (λ before behind r w e f.
    h (row ∷ before) behind r w (ap (λ l. row ∷ l) e)
    (answered_behind row (before ++ r ∷ []) s a.0 a.2
    ∙ ap (λ l. (reading_of script s (line_of row)).text ++ l) f
    ∙ sym (append_assoc _ (answers_from a.0 before) (w ++ 10 ∷ []))
    ∙ ap (λ l. l ++ (w ++ 10 ∷ [])) (sym (answered_behind row before s a.0 a.2)))))

-- ---- scripts without a fault

no-fault : (bytes : List ℕ) → script_fault bytes ≡ None → is_ok (script_end bytes) ≡ true
unfolding script_fault script_end
no-fault bytes e = by_end (ended_by script (reading_of script start bytes).stands) refl e
  where
    by_ending : (line : ℕ) (x : Ending)
        → ended_by script (reading_of script start bytes).stands ≡ Err (record { line = line; ending = x })
        → fault_by line x ≡ None → ⊥
    by_ending line (Fault cause) p e = cc
    by_ending line (Differs reply) p e = script_ends-with_fault bytes line reply p

    by_end : (r : Result (List ℕ) End) → ended_by script (reading_of script start bytes).stands ≡ r → fault_in r ≡ None
        → is_ok r ≡ true
    by_end (Ok text) p e = refl
    by_end (Err end) p e = absurd (by_ending end.line end.ending p e)

fault-none : (bytes : List ℕ) → is_ok (script_end bytes) ≡ true → script_fault bytes ≡ None
unfolding script_fault
fault-none bytes ok = by_end (script_end bytes) ok
  where
    by_end : (r : Result (List ℕ) End) → is_ok r ≡ true → fault_in r ≡ None
    by_end (Ok text) ok = refl
    by_end (Err end) ok = absurd (false≢true ok)

-- where it stands at its end, and what is printed for it
stands-at : (bytes : List ℕ) → is_ok (script_end bytes) ≡ true
    → (t : Scan Table) × ((reading_of script start bytes).stands ≡ Ok t)
    × (text_of_run bytes ≡ (reading_of script start bytes).text)
unfolding script_end text_of_run
stands-at bytes ok =
    elim (by_cases (reading_of script start bytes).stands) [
      | inl r ↦
          let well = ap (λ e. is_ok (ended_by script e)) (sym r.1) ∙ ok in
          let end = by_close (length r.0.line == 0) (end_at r.0 (Fault Cut)) well in (
            r.0,
            r.1,
            ap (λ e. (reading_of script start bytes).text ++ last_text script.said_of (ended_by script e)) r.1
                ∙ ap (λ e. (reading_of script start bytes).text ++ last_text script.said_of e) end
                ∙ append-nil (reading_of script start bytes).text,
          )
      | inr r ↦ absurd (false≢true (ap (λ e. is_ok (ended_by script e)) (sym r.1) ∙ ok))
    ]
  where
    by_close : (b : Bool) (x : End) → is_ok (cond {A = Result (List ℕ) End} b (Ok []) (Err x)) ≡ true
        → ◌≡◌ {A = Result (List ℕ) End} (cond b (Ok []) (Err x)) (Ok [])
    by_close true x ok = refl
    by_close false x ok = absurd (false≢true ok)

-- ---- flaws

no-front : {A : Type 0} (xs ys : List A) → xs ++ ys ≡ [] → (xs ≡ []) × (ys ≡ [])
no-front [] ys e = (refl, e)
no-front (x ∷ xs) ys e = cc

compared-ok : (strict : Bool) (last : ℕ) (fault : Option ScriptFault) (rows : List NumberedRow)
    (answers : List (List ℕ)) → flaws_of_rows strict last fault rows answers ≡ []
    → (fault ≡ None) × (filter_map (flaw_at strict) (zip rows answers) ≡ [])
unfolding flaws_of_rows
compared-ok strict last None rows answers e = (refl, (no-front _ [] e).0)
compared-ok strict last (Some fault) rows answers e =
    let bad : fault_at last fault.1 (slice_get rows (fault.0 - 1)) ∷ [] ≡ [] = (no-front _ _ e).1 in absurd (cc)

compared-same : (strict : Bool) (last : ℕ) (rows : List NumberedRow) (answers : List (List ℕ))
    → filter_map (flaw_at strict) (zip rows answers) ≡ [] → flaws_of_rows strict last None rows answers ≡ []
unfolding flaws_of_rows
compared-same strict last rows answers e = rw e refl

story_flaws-small : (strict : Bool) (story : List ℕ) → length story ≤ 16777216
    → story_flaws strict story
    ≡ flaws_of_rows strict (length (plain_lines story)) (script_fault (script_of story)) (rows_of story)
    (lines (text_of_run (script_of story)))
unfolding story_flaws flaws_beside
story_flaws-small strict story h =
    let small : nat_lt 16777216 (length story) ≡ false = grind (arith, nat_tests) in rw small refl

-- each command of a story has an answer that stands
abbrev AllStand : (strict : Bool) → List ℕ → Type 0
AllStand strict story =
    (before behind : List NumberedRow) (row : NumberedRow) → rows_of story ≡ before ++ row ∷ behind
    → (answer : List ℕ) × IsAnswerBehind before row answer × Stands strict row.1.1 answer

-- and so does each answer that it may have
abbrev AnyStands : (strict : Bool) → List ℕ → Type 0
AnyStands strict story =
    (before behind : List NumberedRow) (row : NumberedRow) (answer : List ℕ) → rows_of story ≡ before ++ row ∷ behind
    → IsAnswerBehind before row answer → Stands strict row.1.1 answer

flawless-forth : (strict : Bool) (story : List ℕ) → length story ≤ 16777216 → story_flaws strict story ≡ []
    → (is_ok (script_end (script_of story)) ≡ true) × AllStand strict story
unfolding script_of
flawless-forth strict story h ok =
    let rows = rows_of story in
    let found = compared-ok strict _ _ rows _ (sym (story_flaws-small strict story h) ∙ ok) in
    let clean = no-fault (script_of story) found.0 in
    let end = stands-at (script_of story) clean in
    let all = answered_all rows start end.0 (none_ends story) end.1 in
    let text = answered_text rows all.0 start end.0 all.1 in
    let given = ap lines (end.2 ∙ text) ∙ lines-answered rows all.0 start end.0 all.1 in
    let same = subst (λ l. filter_map (flaw_at strict) (zip rows l) ≡ []) given found.1 in (
      clean,
      λ before behind row e.
          at-place strict before behind row all.0 ([] ∷ []) start end.0
          (subst (λ r. AreAnswered start r all.0 end.0) e all.1)
          (subst (λ r. filter_map (flaw_at strict) (zip r (all.0 ++ [] ∷ [])) ≡ []) e same),
    )

flawless-back : (strict : Bool) (story : List ℕ) → length story ≤ 16777216
    → is_ok (script_end (script_of story)) ≡ true → AnyStands strict story → story_flaws strict story ≡ []
unfolding script_of
flawless-back strict story h ok stands =
    let rows = rows_of story in
    let end = stands-at (script_of story) ok in
    let all = answered_all rows start end.0 (none_ends story) end.1 in
    let text = answered_text rows all.0 start end.0 all.1 in
    let given = ap lines (end.2 ∙ text) ∙ lines-answered rows all.0 start end.0 all.1 in
    let none = none-flawed strict rows all.0 ([] ∷ []) start end.0 all.1 stands in
    let same = subst (λ l. filter_map (flaw_at strict) (zip rows l) ≡ []) (sym given) none in
    story_flaws-small strict story h
    ∙ ap (λ f. flaws_of_rows strict (length (plain_lines story)) f rows (lines (text_of_run (script_of story))))
    (fault-none (script_of story) ok)
    ∙ compared-same strict (length (plain_lines story)) rows (lines (text_of_run (script_of story))) same

-- the answer of a command is one
one-answer : (before : List NumberedRow) (row : NumberedRow) (one other : List ℕ) → IsAnswerBehind before row one
    → IsAnswerBehind before row other → one ≡ other
one-answer before row one other e f =
    append_cancel_right one other (10 ∷ []) (append_cancel_left (answers_to before) _ _ (sym e ∙ f))

has-answers : (strict : Bool) (story : List ℕ) → AllStand strict story → HasItsAnswers story
has-answers strict story all before behind row written e w =
    let here = all before behind row e in
    (here.0, here.1, subst (λ o. Stands strict o here.0) w here.2)

answers-refusals : (story : List ℕ) → AllStand true story → AnswersRefusals story
answers-refusals story all before behind row answer e n a =
    let here = all before behind row e in
    ap is_refusal (one-answer before row answer here.0 a here.1) ∙ subst (λ o. Stands true o here.0) n here.2 refl

-- what is asked of commands with an answer, and of those without one
any-stands : (strict : Bool) (story : List ℕ) → HasItsAnswers story
    → (strict ≡ true → AnswersRefusals story) → AnyStands strict story
any-stands strict story has refusals before behind row answer e a = by_written row.1.1 refl
  where
    by_written : (o : Option (List ℕ)) → row.1.1 ≡ o → Stands strict o answer
    by_written None n = λ is. refusals is before behind row answer e n a
    by_written (Some written) w =
        let here = has before behind row written e w in
        subst (λ x. Says written x) (one-answer before row here.0 answer here.1 a) here.2

pub ok_exactly : OkExactly
ok_exactly story h = (
  λ ok. let found = flawless-forth false story h ok in (found.0, has-answers false story found.1),
  λ p. flawless-back false story h p.0 (any-stands false story p.1 (λ is. absurd (false≢true is))),
)

pub strict_exactly : StrictExactly
strict_exactly story h = (
  λ ok.
      let found = flawless-forth true story h ok in
      (found.0, has-answers true story found.1, answers-refusals story found.1),
  λ p. flawless-back true story h p.0 (any-stands true story p.1 (λ is. p.2)),
)
