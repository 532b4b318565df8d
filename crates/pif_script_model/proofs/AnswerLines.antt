-- What `run` answers the commands of a script: a line for each.
use Rattle.std.proofs.Common.{◌≡◌, ℕ, ◌+◌, ◌==◌, not, nat_lt, length, true, false, List, [], ◌∷◌, ◌++◌, Option, Some, None, Result, Ok, Err, ◌⊎◌, inl, inr, append-nil, refl, sym, ap, ◌∙◌, subst}
use Rattle.std.specs.Prelude.{flat_map}
use Rattle.std.proofs.lemmas.Bool.{and_parts, false≢true}
use Rattle.pif_model.specs.Table.{Table}
use Rattle.pif_text_model.specs.declared.commands.Command.{Command}
use Rattle.pif_text_model.specs.declared.replies.Cause.{Cause}
use Rattle.pif_text_model.specs.declared.replies.Cause.TheVariants.{Command as NoCommand}
use Rattle.pif_text_model.specs.declared.traces.Version.{Version}
use Rattle.pif_text_model.specs.Commands.{command_in}
use Rattle.pif_text_model.specs.Replies.{text_of}
use Rattle.pif_text_model.proofs.Plain.{lacks}
use Rattle.pif_script_model.specs.declared.ending.End.{End}
use Rattle.pif_script_model.specs.declared.ending.Ending.TheVariants.{Fault}
use Rattle.pif_script_model.specs.Running.{Answer, answer_line, answer_or_fault, command_answer, first_answer, first_line_meaning, line_meaning, made_by, script}
use Rattle.pif_script_model.specs.Scripts.{Answered, Hearing, Meaning, Scan, after_line, answer_to_line, answered_first, answered_later, byte_taken, line_answer, reading_of, version_after, with_byte}
use Rattle.pif_script_model.proofs.MigrateLemmas.{byte-taken}
use Rattle.pif_script_model.proofs.ScriptLemmas.{by_cases, reading_of-append, reading_of-err, reading_of-nil, reading_of-ok}
use Rattle.pif_script_model.specs.Stories.{NumberedRow, script_by}
use Rattle.pif_script_model.proofs.AnswerTexts.{reply_lacks}
use Rattle.pif_script_model.proofs.StoriesLemmas.{script_by_nothing, script_by_row}

-- nothing that stands behind a line that ends a script is read
pub stopped : {S : Type 0} (hearing : Hearing S) (xs ys : List ℕ) (s : Scan S) (e : End)
    → (reading_of hearing s xs).stands ≡ Err e
    → ((reading_of hearing s (xs ++ ys)).text ≡ (reading_of hearing s xs).text)
    × ((reading_of hearing s (xs ++ ys)).stands ≡ Err e)
stopped hearing [] ys s e f = let bad : Ok s ≡ Err e = sym (reading_of-nil hearing s).1 ∙ f in (cc, cc)
stopped hearing (x ∷ xs) ys s e f =
    elim (by_cases (byte_taken hearing s x)) [
      | inl r ↦
          let one = reading_of-ok hearing s x xs r.0 r.1 in
          let all = reading_of-ok hearing s x (xs ++ ys) r.0 r.1 in
          let rest = stopped hearing xs ys r.0.1 e (sym one.1 ∙ f) in
          (all.0 ∙ ap (λ l. r.0.0 ++ l) rest.0 ∙ sym one.0, all.1 ∙ rest.1)
      | inr r ↦
          let one = reading_of-err hearing s x xs r.0 r.1 in
          let all = reading_of-err hearing s x (xs ++ ys) r.0 r.1 in
          (all.0 ∙ sym one.0, all.1 ∙ sym one.1 ∙ f)
    ]

-- an answer without LF, and an LF behind it
abbrev pub IsAnswerLine : List ℕ → Type 0
IsAnswerLine text = (answer : List ℕ) × (text ≡ answer ++ 10 ∷ []) × (lacks 10 answer ≡ true)

-- ---- one line

reply-line : (a : Result Answer Cause) (m : List ℕ × Table) → answer_line a ≡ Ok m → IsAnswerLine m.0
reply-line (Ok a) m e =
    let p : (text_of a.0 ++ 10 ∷ [], a.1) ≡ m = cc in
    (text_of a.0, sym (ap (λ (x : List ℕ × Table). x.0) p), reply_lacks a.0)
reply-line (Err c) m e = cc

made-line : (x : Meaning Table) (m : List ℕ × Option Table) → ((y : List ℕ × Table) → x ≡ Ok y → IsAnswerLine y.0)
    → answered_first (made_by x) ≡ Ok m → IsAnswerLine m.0
made-line (Ok y) m h e =
    let p : (y.0, Some y.1) ≡ m = cc in
    subst IsAnswerLine (ap (λ (x : List ℕ × Option Table). x.0) p) (h y refl)
made-line (Err f) m h e = cc

heard-line : (x : Meaning Table) (m : List ℕ × Option Table) → ((y : List ℕ × Table) → x ≡ Ok y → IsAnswerLine y.0)
    → answered_later x ≡ Ok m → IsAnswerLine m.0
heard-line (Ok y) m h e =
    let p : (y.0, Some y.1) ≡ m = cc in
    subst IsAnswerLine (ap (λ (x : List ℕ × Option Table). x.0) p) (h y refl)
heard-line (Err f) m h e = cc

first-line : (o : Option Command) (m : List ℕ × Option Table)
    → answered_first (elim o [ None ↦ Err (Fault NoCommand) | Some c ↦ made_by (answer_line (first_answer c)) ]) ≡ Ok m
    → IsAnswerLine m.0
first-line None m e = cc
first-line (Some c) m e = made-line (answer_line (first_answer c)) m (reply-line (first_answer c)) e

later-line : (o : Option Command) (s : Table) (m : List ℕ × Option Table)
    → answered_later (elim o as (λ _. Meaning Table)
    [ None ↦ Err (Fault NoCommand) | Some c ↦ answer_line (answer_or_fault (command_answer c s)) ]) ≡ Ok m
    → IsAnswerLine m.0
later-line None s m e = cc
later-line (Some c) s m e =
    let reply = answer_or_fault (command_answer c s) in
    heard-line (answer_line reply) m (reply-line reply) e

-- what a line is answered that is answered
answered-line : (l : Option Table) (version : Option Version) (line : List ℕ) (m : List ℕ × Option Table)
    → answer_to_line script l version line ≡ Ok m → IsAnswerLine m.0
unfolding first_line_meaning line_meaning
answered-line None version line m e = first-line (command_in line) m e
answered-line (Some s) version line m e = later-line (command_in line) s m e

ended-line : (s : Scan Table) (x : Answered Table) (r : List ℕ × Scan Table)
    → ((m : List ℕ × Option Table) → x ≡ Ok m → IsAnswerLine m.0) → after_line s x ≡ Ok r → IsAnswerLine r.0
ended-line s (Ok m) r h e =
    let next : Scan Table =
    record { listener = m.1; version = version_after s; line = []; number = s.number + 1; taken = s.taken + 1 } in
    let p : (m.0, next) ≡ r = cc in
    subst IsAnswerLine (ap (λ (x : List ℕ × Scan Table). x.0) p) (h m refl)
ended-line s (Err f) r h e = cc

-- bytes of a line, and the LF behind them
line_read : (c : List ℕ) (s t : Scan Table) → lacks 10 c ≡ true → (reading_of script s (c ++ 10 ∷ [])).stands ≡ Ok t
    → IsAnswerLine (reading_of script s (c ++ 10 ∷ [])).text
line_read [] s t l e =
    elim (by_cases (byte_taken script s 10)) [
      | inl r ↦
          let one = reading_of-ok script s 10 [] r.0 r.1 in
          let none = reading_of-nil script r.0.1 in
          let text = one.0 ∙ ap (λ l. r.0.0 ++ l) none.0 ∙ append-nil r.0.0 in
          subst IsAnswerLine (sym text) (by_end r.0 (byte-taken script s 10 r.0 r.1).1)
      | inr r ↦ let bad : Err r.0 ≡ Ok t = sym (reading_of-err script s 10 [] r.0 r.1).1 ∙ e in absurd (cc)
    ]
  where
    by_end : (r : List ℕ × Scan Table)
        → ((true ≡ true) × (after_line s (line_answer script s) ≡ Ok r))
        ⊎ ((true ≡ false) × (nat_lt (length s.line) 120 ≡ true) × (r ≡ ([], with_byte s 10))) → IsAnswerLine r.0
    by_end r (inl w) = ended-line s (line_answer script s) r (answered-line s.listener s.version s.line) w.1
    by_end r (inr w) = absurd (false≢true (sym w.0))
line_read (b ∷ bs) s t l e =
    let other = and_parts (not (b == 10)) _ l in
    elim (by_cases (byte_taken script s b)) [
      | inl r ↦
          let one = reading_of-ok script s b (bs ++ 10 ∷ []) r.0 r.1 in
          elim (byte-taken script s b r.0 r.1).1 [
            | inl w ↦ absurd (false≢true (sym (ap not w.0) ∙ other.0))
            | inr w ↦
                let none : r.0.0 ≡ [] = ap (λ (x : List ℕ × Scan Table). x.0) w.2 in
                let text = one.0 ∙ ap (λ l. l ++ (reading_of script r.0.1 (bs ++ 10 ∷ [])).text) none in
                subst IsAnswerLine (sym text) (line_read bs r.0.1 t other.1 (sym one.1 ∙ e))
          ]
      | inr r ↦
          let bad : Err r.0 ≡ Ok t = sym (reading_of-err script s b (bs ++ 10 ∷ []) r.0 r.1).1 ∙ e in absurd (cc)
    ]

-- ---- commands

-- what is answered, and where the script stands then
abbrev pub answers_from : Scan Table → List NumberedRow → List ℕ
answers_from s rows = (reading_of script s (script_by rows)).text

abbrev pub line_of : NumberedRow → List ℕ
line_of row = row.1.0 ++ 10 ∷ []

-- these commands are answered so from where the script stands at s, and it stands at t then
abbrev pub AreAnswered : Scan Table → List NumberedRow → List (List ℕ) → Scan Table → Type 0
AreAnswered s [] [] t = t ≡ s
AreAnswered s [] (a ∷ more) t = ⊥
AreAnswered s (row ∷ rows) [] t = ⊥
AreAnswered s (row ∷ rows) (a ∷ more) t =
    (m : Scan Table) × ((reading_of script s (line_of row)).text ≡ a ++ 10 ∷ [])
    × ((reading_of script s (line_of row)).stands ≡ Ok m) × (lacks 10 a ≡ true) × AreAnswered m rows more t

-- none of these commands has an LF
abbrev pub NoneEnds : List NumberedRow → Type 0
NoneEnds [] = Unit {0}
NoneEnds (row ∷ rows) = (lacks 10 row.1.0 ≡ true) × NoneEnds rows

-- commands that have no fault are answered
pub answered_all : (rows : List NumberedRow) (s t : Scan Table) → NoneEnds rows
    → (reading_of script s (script_by rows)).stands ≡ Ok t
    → (answers : List (List ℕ)) × AreAnswered s rows answers t
answered_all [] s t n e =
    let end = sym (reading_of-nil script s).1 ∙ ap (λ l. (reading_of script s l).stands) (sym script_by_nothing) ∙ e in
    ([], cc)
answered_all (row ∷ rows) s t n e =
    let all = ap (λ l. (reading_of script s l).stands) (sym (script_by_row row rows)) ∙ e in
    elim (by_cases (reading_of script s (line_of row)).stands) [
      | inl r ↦
          let one = line_read row.1.0 s r.0 n.0 r.1 in
          let rest = (reading_of-append script (line_of row) (script_by rows) s r.0 r.1).1 in
          let more = answered_all rows r.0 t n.1 (sym rest ∙ all) in
          (one.0 ∷ more.0, (r.0, one.1, r.1, one.2, more.1))
      | inr r ↦
          let bad : Err r.0 ≡ Ok t = sym (stopped script (line_of row) (script_by rows) s r.0 r.1).1 ∙ all in
          absurd (cc)
    ]

-- the lines of their answers
abbrev pub answer_lines : List (List ℕ) → List ℕ
answer_lines answers = flat_map (λ answer. answer ++ 10 ∷ []) answers

pub answered_text : (rows : List NumberedRow) (answers : List (List ℕ)) (s t : Scan Table)
    → AreAnswered s rows answers t → answers_from s rows ≡ answer_lines answers
answered_text [] [] s t a = ap (λ l. (reading_of script s l).text) script_by_nothing ∙ (reading_of-nil script s).0
answered_text [] (x ∷ xs) s t a = absurd a
answered_text (row ∷ rows) [] s t a = absurd a
answered_text (row ∷ rows) (x ∷ xs) s t a =
    ap (λ l. (reading_of script s l).text) (script_by_row row rows)
    ∙ (reading_of-append script (line_of row) (script_by rows) s a.0 a.2).0
    ∙ ap (λ l. l ++ answers_from a.0 rows) a.1
    ∙ ap (λ l. (x ++ 10 ∷ []) ++ l) (answered_text rows xs a.0 t a.4)

-- what is answered behind a command that is answered
pub answered_behind : (row : NumberedRow) (rows : List NumberedRow) (s m : Scan Table)
    → (reading_of script s (line_of row)).stands ≡ Ok m
    → answers_from s (row ∷ rows) ≡ (reading_of script s (line_of row)).text ++ answers_from m rows
answered_behind row rows s m e =
    ap (λ l. (reading_of script s l).text) (script_by_row row rows)
    ∙ (reading_of-append script (line_of row) (script_by rows) s m e).0

pub answered_nothing : (s : Scan Table) → answers_from s [] ≡ []
answered_nothing s = ap (λ l. (reading_of script s l).text) script_by_nothing ∙ (reading_of-nil script s).0
