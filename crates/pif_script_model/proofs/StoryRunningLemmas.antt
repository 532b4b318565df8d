-- The commands of a story that are run one by one, beside the script that they are.
use Rattle.std.proofs.Common.{◌≡◌, ℕ, zero, suc, ◌+◌, ◌-◌, ◌<◌, ◌≤◌, ◌==◌, nat_le, nat_lt, not, Bool, true, false, cond, List, [], ◌∷◌, ◌++◌, append_assoc, append-nil, drop, take, get_or, length, length-append, arith, Option, Some, None, Result, Ok, Err, ◌⊎◌, inl, inr, refl, sym, ap, ◌∙◌, take-append-drop, if◌then◌else◌}
use Rattle.std.specs.Prelude.{filter_map, map, min, slice_get}
use Rattle.std.specs.List.{zip}
use Rattle.std.proofs.Math.Nat.{min-eq_left, min-eq_right, min-le_left, min-le_right}
use Rattle.std.proofs.Math.Seq.{drop-append-add, get_or-append_seam, take-append_seam}
use Rattle.std.proofs.lemmas.Bool.{and_parts}
use Rattle.std.proofs.lemmas.Bool.Decides.{nat_tests}
use Rattle.std.proofs.lemmas.List.{drop_more, length-take-le}
use Rattle.pif_model.specs.Table.{Table}
use Rattle.pif_text_model.specs.declared.commands.Command.{Command}
use Rattle.pif_text_model.specs.declared.replies.Cause.{Cause}
use Rattle.pif_text_model.specs.declared.replies.Cause.TheVariants as cause
use Rattle.pif_text_model.specs.declared.traces.Version.{Version}
use Rattle.pif_text_model.specs.Commands.{command_in}
use Rattle.pif_text_model.specs.Replies.{text_of}
use Rattle.pif_text_model.proofs.Plain.{lacks}
use Rattle.pif_script_model.specs.declared.ending.End.{End}
use Rattle.pif_script_model.specs.declared.ending.Ending.TheVariants.{Fault}
use Rattle.pif_script_model.specs.declared.faults.CliFault.{CliFault}
use Rattle.pif_script_model.specs.declared.faults.CliFault.TheVariants.{Script}
use Rattle.pif_script_model.specs.Running.{Answer, answer_line, answer_or_fault, command_answer, first_answer, first_line_meaning, line_meaning, made_by, script}
use Rattle.pif_script_model.specs.Scripts.{Answered, Scan, after_line, answer_to_line, answered_first, answered_later, byte_taken, end_at, ended_by, reading_of, start, version_after}
use Rattle.pif_script_model.specs.Transcripts.{script_end}
use Rattle.pif_script_model.proofs.LineLemmas.{TakesSome-line, TakesSome-plain}
use Rattle.pif_script_model.proofs.ScriptLemmas.{by_cases, byte_taken-end, byte_taken-long, byte_taken-size, reading_of-append, reading_of-err, reading_of-nil}
use Rattle.pif_script_model.specs.Checks.{check_end, fault_in, fill_telling, filled_or, flaws_beside, script_fault}
use Rattle.pif_script_model.specs.Lines.{StoryRow, lines, plain_lines, row_in}
use Rattle.pif_script_model.specs.Rows.{Asked, asked_by, filling_end, line_outcome, size_fault, words_outcome}
use Rattle.pif_script_model.specs.Stories.{NumberedRow, rows_from, rows_of, script_by, script_of}
use Rattle.pif_script_model.specs.Verdicts.{Fault as ScriptFault, Flaw, differing, fault_flaws, faulty, flaw_at, flaws_of_rows, refusing, rows_before}
use Rattle.pif_script_model.proofs.AnswerLines.{NoneEnds}
use Rattle.pif_script_model.proofs.RowLemmas.{text_ends}
use Rattle.pif_script_model.proofs.StoriesLemmas.{rows_from_nothing, rows_from_row, script_by_nothing, script_by_row}

-- ---- what a line is answered

-- what a line of a script is answered, by what it does
abbrev answer_of : Result Answer Cause → Answered Table
answer_of (Ok a) = Ok (text_of a.0 ++ 10 ∷ [], Some a.1)
answer_of (Err cause) = Err (Fault cause)

first-answer : (r : Result Answer Cause) → answered_first (made_by (answer_line r)) ≡ answer_of r
first-answer (Ok a) = refl
first-answer (Err cause) = refl

later-answer : (r : Result Answer Cause) → answered_later (answer_line r) ≡ answer_of r
later-answer (Ok a) = refl
later-answer (Err cause) = refl

answer_is : (before : Option Table) (version : Option Version) (words : List ℕ)
    → answer_to_line script before version words ≡ answer_of (words_outcome before words)
unfolding first_line_meaning line_meaning
answer_is None version words = by_command (command_in words)
  where
    by_command : (o : Option Command)
        → answered_first (elim o [ None ↦ Err (Fault cause.Command) | Some c ↦ made_by (answer_line (first_answer c)) ])
        ≡ answer_of (elim o [ None ↦ Err cause.Command | Some c ↦ first_answer c ])
    by_command None = refl
    by_command (Some c) = first-answer (first_answer c)
answer_is (Some s) version words = by_command (command_in words)
  where
    by_command : (o : Option Command)
        → answered_later (elim o [ None ↦ Err (Fault cause.Command) | Some c ↦ answer_line (answer_or_fault (command_answer c s)) ])
        ≡ answer_of (elim o [ None ↦ Err cause.Command | Some c ↦ answer_or_fault (command_answer c s) ])
    by_command None = refl
    by_command (Some c) = later-answer (answer_or_fault (command_answer c s))

-- ---- why a line is a fault by its size

size-cases : (taken : ℕ) (words : List ℕ)
    → ((size_fault taken words ≡ Some cause.Size) × (16777216 ≤ taken + min (length words) 120))
    ⊎ (((size_fault taken words ≡ Some cause.Long) × (taken + 120 < 16777216) × (120 < length words))
    ⊎ ((size_fault taken words ≡ None) × (taken + length words < 16777216) × (length words ≤ 120)))
unfolding size_fault
size-cases taken words =
    by_tests (nat_le 16777216 (taken + min (length words) 120)) (nat_lt 120 (length words)) refl refl
  where
    by_tests : (large long : Bool) → nat_le 16777216 (taken + min (length words) 120) ≡ large
        → nat_lt 120 (length words) ≡ long
        → (((if large then Some cause.Size else (if long then Some cause.Long else None)) ≡ Some cause.Size)
        × (16777216 ≤ taken + min (length words) 120))
        ⊎ ((((if large then Some cause.Size else (if long then Some cause.Long else None)) ≡ Some cause.Long)
        × (taken + 120 < 16777216) × (120 < length words))
        ⊎ (((if large then Some cause.Size else (if long then Some cause.Long else None)) ≡ None)
        × (taken + length words < 16777216) × (length words ≤ 120)))
    by_tests true long e f = inl (refl, grind (arith, nat_tests))
    by_tests false true e f =
        let more : 120 < length words = grind (arith, nat_tests) in
        let same : min (length words) 120 ≡ 120 = min-eq_right (omega arith) in
        let fits : taken + min (length words) 120 < 16777216 = grind (arith, nat_tests) in
        inr (inl (refl, omega arith, more))
    by_tests false false e f =
        let fewer : length words ≤ 120 = grind (arith, nat_tests) in
        let same : min (length words) 120 ≡ length words = min-eq_left fewer in
        let fits : taken + min (length words) 120 < 16777216 = grind (arith, nat_tests) in
        inr (inr (refl, omega arith, fewer))

-- by that, or else by what it asks for
sized : (before : Option Table) (taken : ℕ) (words : List ℕ) (o : Option Cause) (r : Result Answer Cause)
    → size_fault taken words ≡ o → line_outcome before taken words ≡ r
    → (elim o [ None ↦ words_outcome before words | Some cause ↦ Err cause ]) ≡ r
sized before taken words o r p e =
    sym (ap (λ o. elim o [ None ↦ words_outcome before words | Some cause ↦ Err cause ]) p) ∙ e

same-cause : (one other : Cause) → ◌≡◌ {A = Result Answer Cause} (Err one) (Err other) → one ≡ other
same-cause one other e = cc

-- the script still fits behind a line that is answered
pub line_fits : (before : Option Table) (taken : ℕ) (words : List ℕ) (a : Answer)
    → line_outcome before taken words ≡ Ok a → taken + (length words + 1) ≤ 16777216
line_fits before taken words a e =
    elim (size-cases taken words) [
      | inl p ↦ let bad : Err cause.Size ≡ Ok a = sized before taken words _ _ p.0 e in absurd (cc)
      | inr (inl p) ↦ let bad : Err cause.Long ≡ Ok a = sized before taken words _ _ p.0 e in absurd (cc)
      | inr (inr p) ↦ let few = p.1 in omega arith
    ]

-- ---- a line of a script

no-end : (words rest : List ℕ) → lacks 10 words ≡ true → (k : ℕ) → k < length words → get_or (words ++ rest) k 0 ≡ 10 → ⊥
no-end [] rest l k h e = omega arith
no-end (x ∷ xs) rest l zero h e =
    let parts = and_parts (not (x == 10)) (lacks 10 xs) l in
    let unequal : not (x == 10) ≡ true = parts.0 in
    let other : (x == 10) ≡ false = grind (arith, nat_tests) in
    grind (arith, nat_tests)
no-end (x ∷ xs) rest l (suc k) h e = no-end xs rest (and_parts (not (x == 10)) (lacks 10 xs) l).1 k (omega arith) e

module _ (words behind : List ℕ) (s : Scan Table) (fresh : s.line ≡ []) (lack : lacks 10 words ≡ true) where
  -- the line, and what stands behind it
  abbrev written : List ℕ
  written = words ++ 10 ∷ behind

  -- within it
  abbrev at : ℕ → Scan Table
  at n = record s { line = take n written; taken = s.taken + n }

  longer : length words < length written
  longer = let long = length-append words (10 ∷ behind) in omega arith

  front : (n : ℕ) → n ≤ length words → n ≤ 120 → s.taken + n ≤ 16777216
      → (reading_of script s (take n written)).stands ≡ Ok (at n)
  front n w h t =
      let long = longer in
      let empty : length s.line ≡ 0 = ap length fresh in
      (TakesSome-plain script s written n [] (take n written) (omega arith) (omega arith) t
      (λ k lt. no-end words (10 ∷ behind) lack k (omega arith)) (ap (λ l. l ++ take n written) (sym fresh))).0

  -- the byte there ends the script
  stops : (n : ℕ) (f : End) → n ≤ length words → n ≤ 120 → s.taken + n ≤ 16777216
      → byte_taken script (at n) (get_or written n 0) ≡ Err f → (reading_of script s written).stands ≡ Err f
  stops n f w h t e =
      let long = longer in
      ap (λ l. (reading_of script s l).stands)
      (sym (take-append-drop n written) ∙ ap (λ l. take n written ++ l) (drop_more written n 0 (omega arith)))
      ∙ (reading_of-append script (take n written) (get_or written n 0 ∷ drop (n + 1) written) s (at n) (front n w h t)).1
      ∙ (reading_of-err script (at n) (get_or written n 0) (drop (n + 1) written) f e).1

  line_large : s.taken ≤ 16777216 → 16777216 ≤ s.taken + min (length words) 120
      → (reading_of script s written).stands ≡ Err (end_at s (Fault cause.Size))
  line_large few full =
      let left = min-le_left (length words) 120 in
      let right = min-le_right (length words) 120 in
      stops (16777216 - s.taken) (end_at s (Fault cause.Size)) (omega arith) (omega arith) (omega arith)
      (byte_taken-size script (at (16777216 - s.taken)) (get_or written (16777216 - s.taken) 0) (omega arith))

  line_long : s.taken + 120 < 16777216 → 120 < length words
      → (reading_of script s written).stands ≡ Err (end_at s (Fault cause.Long))
  line_long few more =
      let long = longer in
      let size : length (take 120 written) ≡ 120 = length-take-le 120 written (omega arith) in
      stops 120 (end_at s (Fault cause.Long)) (omega arith) (omega arith) (omega arith)
      (byte_taken-long script (at 120) (get_or written 120 0) few (no-end words (10 ∷ behind) lack 120 more) (omega arith))

  answered : (version : Option Version)
      → answer_to_line script s.listener version (take (length words) written) ≡ answer_of (words_outcome s.listener words)
  answered version =
      ap (answer_to_line script s.listener version) (take-append_seam words (10 ∷ behind))
      ∙ answer_is s.listener version words

  -- it is a fault by what it asks for
  line_faulty : (c : Cause) → s.taken + length words < 16777216 → length words ≤ 120
      → words_outcome s.listener words ≡ Err c → (reading_of script s written).stands ≡ Err (end_at s (Fault c))
  line_faulty c few fewer e =
      stops (length words) (end_at s (Fault c)) (omega arith) fewer (omega arith)
      (byte_taken-end script (at (length words)) (get_or written (length words) 0) few (get_or-append_seam words 10 behind 0)
      ∙ ap (after_line (at (length words))) (answered s.version ∙ ap answer_of e))

  -- where the script stands behind one that is answered
  abbrev next : Answer → Scan Table
  next a = record {
    listener = Some a.1;
    version = version_after (record s { line = take (length words) written });
    line = s.line;
    number = s.number + 1;
    taken = s.taken + (length words + 1);
  }

  line_answered : (a : Answer) → s.taken + length words < 16777216 → length words ≤ 120
      → words_outcome s.listener words ≡ Ok a
      → (reading_of script s written).stands ≡ (reading_of script (next a) behind).stands
  line_answered a few fewer e =
      let taken =
      TakesSome-line script s written (length words) fresh fewer few longer (no-end words (10 ∷ behind) lack)
      (get_or-append_seam words 10 behind 0) [] (text_of a.0 ++ 10 ∷ []) (Some a.1)
      (version_after (record s { line = take (length words) written })) tt
      (text_of a.0 ++ 10 ∷ [], answered s.version ∙ ap answer_of e, refl) refl in
      ap (λ l. (reading_of script s l).stands)
      (sym (take-append-drop (length words + 1) written)
      ∙ ap (λ l. take (length words + 1) written ++ l) (drop-append-add words (10 ∷ behind) 1))
      ∙ (reading_of-append script (take (length words + 1) written) behind s (next a) taken.0).1

  -- it goes on, or ends the script
  pub line_on : (a : Answer) → line_outcome s.listener s.taken words ≡ Ok a
      → (reading_of script s written).stands ≡ (reading_of script (next a) behind).stands
  line_on a e =
      elim (size-cases s.taken words) [
        | inl p ↦ let bad : Err cause.Size ≡ Ok a = sized s.listener s.taken words _ _ p.0 e in absurd (cc)
        | inr (inl p) ↦ let bad : Err cause.Long ≡ Ok a = sized s.listener s.taken words _ _ p.0 e in absurd (cc)
        | inr (inr p) ↦ line_answered a p.1 p.2 (sized s.listener s.taken words _ _ p.0 e)
      ]

  pub line_out : (c : Cause) → s.taken ≤ 16777216 → line_outcome s.listener s.taken words ≡ Err c
      → (reading_of script s written).stands ≡ Err (end_at s (Fault c))
  line_out c few e =
      elim (size-cases s.taken words) [
        | inl p ↦
            line_large few p.1
            ∙ ap (λ r. Err (end_at s (Fault r))) (same-cause cause.Size c (sized s.listener s.taken words _ _ p.0 e))
        | inr (inl p) ↦
            line_long p.1 p.2
            ∙ ap (λ r. Err (end_at s (Fault r))) (same-cause cause.Long c (sized s.listener s.taken words _ _ p.0 e))
        | inr (inr p) ↦ line_faulty c p.1 p.2 (sized s.listener s.taken words _ _ p.0 e)
      ]

-- ---- commands one by one

-- how running these commands ends, from a core on, behind so many bytes of their script
unfoldable pub rows_end : Option Table → (taken : ℕ) → List NumberedRow → Result (Unit {0}) CliFault
rows_end before taken [] = Ok tt
rows_end before taken (row ∷ rows) =
    elim (line_outcome before taken row.1.0) [
      | Ok a ↦ rows_end (Some a.1) (taken + (length row.1.0 + 1)) rows
      | Err cause ↦ Err (Script row.0 cause)
    ]

rows_end-nothing : (before : Option Table) (taken : ℕ) → rows_end before taken [] ≡ Ok tt
unfolding rows_end
rows_end-nothing before taken = refl

rows_end-on : (before : Option Table) (taken : ℕ) (row : NumberedRow) (rows : List NumberedRow) (a : Answer)
    → line_outcome before taken row.1.0 ≡ Ok a
    → rows_end before taken (row ∷ rows) ≡ rows_end (Some a.1) (taken + (length row.1.0 + 1)) rows
unfolding rows_end
rows_end-on before taken row rows a e =
    ap (λ r. elim r [ Ok a ↦ rows_end (Some a.1) (taken + (length row.1.0 + 1)) rows | Err cause ↦ Err (Script row.0 cause) ]) e

rows_end-out : (before : Option Table) (taken : ℕ) (row : NumberedRow) (rows : List NumberedRow) (c : Cause)
    → line_outcome before taken row.1.0 ≡ Err c → rows_end before taken (row ∷ rows) ≡ Err (Script row.0 c)
unfolding rows_end
rows_end-out before taken row rows c e =
    ap (λ r. elim r [ Ok a ↦ rows_end (Some a.1) (taken + (length row.1.0 + 1)) rows | Err cause ↦ Err (Script row.0 cause) ]) e

at-front : (front : List NumberedRow) (row : NumberedRow) (rows : List NumberedRow)
    → slice_get (front ++ row ∷ rows) (length front) ≡ Some row
at-front [] row rows = refl
at-front (x ∷ xs) row rows = at-front xs row rows

module _ (last : ℕ) where
  -- how filling in all these commands ends, by where the script of the last of them stands before these
  abbrev end_from : (all : List NumberedRow) → Result (Scan Table) End → Result (Unit {0}) CliFault
  end_from all r = check_end (fault_flaws last (fault_in (ended_by script r)) all)

  at-end : (all : List NumberedRow) (s : Scan Table) → s.line ≡ [] → end_from all (Ok s) ≡ Ok tt
  at-end all s e =
      ap (λ l. check_end (fault_flaws last (fault_in (cond {A = Result (List ℕ) End} (length l == 0) (Ok []) (Err (end_at s (Fault cause.Cut))))) all)) e

  at-fault : (front rows : List NumberedRow) (row : NumberedRow) (s : Scan Table) (c : Cause) → s.number ≡ length front + 1
      → end_from (front ++ row ∷ rows) (Err (end_at s (Fault c))) ≡ Err (Script row.0 c)
  at-fault front rows row s c n =
      let place : s.number - 1 ≡ length front = omega arith in
      rw (place, at-front front row rows) refl

  one-by-one : (rows front : List NumberedRow) (s : Scan Table) → s.line ≡ [] → s.taken ≤ 16777216
      → s.number ≡ length front + 1 → NoneEnds rows
      → end_from (front ++ rows) (reading_of script s (script_by rows)).stands ≡ rows_end s.listener s.taken rows
  one-by-one [] front s f t n e =
      ap (λ l. end_from (front ++ []) (reading_of script s l).stands) script_by_nothing
      ∙ ap (end_from (front ++ [])) (reading_of-nil script s).1 ∙ at-end (front ++ []) s f
      ∙ sym (rows_end-nothing s.listener s.taken)
  one-by-one (row ∷ rows) front s f t n e =
      let whole =
      ap (λ l. end_from (front ++ row ∷ rows) (reading_of script s l).stands)
      (script_by_row row rows ∙ append_assoc row.1.0 (10 ∷ []) (script_by rows)) in
      elim (by_cases (line_outcome s.listener s.taken row.1.0)) [
        | inl a ↦
            let one = line_on row.1.0 (script_by rows) s f e.0 a.0 a.1 in
            let longer = length-append front (row ∷ []) in
            whole ∙ ap (end_from (front ++ row ∷ rows)) one
            ∙ ap (λ all. end_from all (reading_of script (next row.1.0 (script_by rows) s f e.0 a.0) (script_by rows)).stands)
            (sym (append_assoc front (row ∷ []) rows))
            ∙ one-by-one rows (front ++ row ∷ []) (next row.1.0 (script_by rows) s f e.0 a.0) f
            (line_fits s.listener s.taken row.1.0 a.0 a.1) (omega arith) e.1
            ∙ sym (rows_end-on s.listener s.taken row rows a.0 a.1)
        | inr c ↦
            whole ∙ ap (end_from (front ++ row ∷ rows)) (line_out row.1.0 (script_by rows) s f e.0 c.0 t c.1)
            ∙ at-fault front rows row s c.0 n ∙ sym (rows_end-out s.listener s.taken row rows c.0 c.1)
      ]

zip-none : {A B : Type 0} (xs : List A) → zip {X = B} xs [] ≡ []
zip-none [] = refl
zip-none (x ∷ xs) = refl

flaws-alone : (last : ℕ) (fault : Option ScriptFault) (rows : List NumberedRow)
    → flaws_of_rows false last fault rows [] ≡ fault_flaws last fault rows
unfolding flaws_of_rows
flaws-alone last fault rows =
    ap (λ pairs. filter_map (flaw_at false) pairs ++ fault_flaws last fault rows) (zip-none {B = List ℕ} (rows_before fault rows))

-- filling in ends as running the commands one by one does
pub ends_whole : (text : List ℕ) → filling_end (lines text) ≡ rows_end None 0 (rows_from 1 (lines text))
unfolding script_fault script_end
ends_whole text =
    let rows = rows_from 1 (lines text) in
    ap check_end (flaws-alone (length (lines text)) (script_fault (script_by rows)) rows)
    ∙ one-by-one (length (lines text)) rows [] start refl (omega arith) refl (text_ends text)

-- ---- a line of a story

module _ (end : Result (Unit {0}) CliFault) (line : List ℕ) (behind : List (List ℕ)) (number : ℕ) (before : Option Table)
    (taken : ℕ) (left : end ≡ rows_end before taken (rows_from number (line ∷ behind))) where
  -- with a command that is answered
  pub ends_on : (row : StoryRow) (a : Answer) → row_in line ≡ Some row → line_outcome before taken row.0 ≡ Ok a
      → end ≡ rows_end (Some a.1) (taken + (length row.0 + 1)) (rows_from (number + 1) behind)
  ends_on row a r e =
      left ∙ ap (rows_end before taken) (rows_from_row number line behind row r)
      ∙ rows_end-on before taken (number, row) (rows_from (number + 1) behind) a e

  -- with one that is a fault
  pub ends_out : (row : StoryRow) (c : Cause) → row_in line ≡ Some row → line_outcome before taken row.0 ≡ Err c
      → end ≡ Err (Script number c)
  ends_out row c r e =
      left ∙ ap (rows_end before taken) (rows_from_row number line behind row r)
      ∙ rows_end-out before taken (number, row) (rows_from (number + 1) behind) c e

-- no line is left
pub ends_well : (end : Result (Unit {0}) CliFault) (number : ℕ) (before : Option Table) (taken : ℕ)
    → end ≡ rows_end before taken (rows_from number []) → end ≡ Ok tt
ends_well end number before taken e =
    e ∙ ap (rows_end before taken) (rows_from_nothing number) ∙ rows_end-nothing before taken

-- one more command was handed on
pub handed_on : (whole told new : List Asked) (line : List ℕ) (behind : List (List ℕ)) (number : ℕ) (row : StoryRow)
    → whole ≡ told ++ map asked_by (rows_from number (line ∷ behind)) → row_in line ≡ Some row
    → new ≡ told ++ asked_by (number, row) ∷ [] → whole ≡ new ++ map asked_by (rows_from (number + 1) behind)
handed_on whole told new line behind number row e r n =
    e ∙ ap (λ rows. told ++ map asked_by rows) (rows_from_row number line behind row r)
    ∙ sym (append_assoc told (asked_by (number, row) ∷ []) (map asked_by (rows_from (number + 1) behind)))
    ∙ ap (λ l. l ++ map asked_by (rows_from (number + 1) behind)) (sym n)

-- all were
pub handed_all : (whole told : List Asked) (number : ℕ) → whole ≡ told ++ map asked_by (rows_from number []) → told ≡ whole
handed_all whole told number e =
    sym (e ∙ ap (λ rows. told ++ map asked_by rows) (rows_from_nothing number) ∙ append-nil told)

-- ---- whole stories

filled-end : (story : List ℕ) (flaws : List Flaw) → (filled_or [] story flaws).1 ≡ check_end flaws
filled-end story [] = refl
filled-end story (faulty line command cause ∷ more) = refl
filled-end story (differing line command _ _ ∷ more) = refl
filled-end story (refusing line command given ∷ more) = refl

-- one that is not too large is filled in as its commands are
pub end_of_small : (story : List ℕ) → length story ≤ 16777216
    → filling_end (plain_lines story) ≡ (fill_telling [] story).1
unfolding fill_telling flaws_beside script_of
end_of_small story few =
    let small : nat_lt 16777216 (length story) ≡ false = grind (arith, nat_tests) in
    sym (filled-end story (flaws_beside false story [])
    ∙ ap (λ b. check_end (if b then faulty (length (lines (take 16777216 story))) [] cause.Size ∷ [] else flaws_of_rows false (length (plain_lines story)) (script_fault (script_of story)) (rows_of story) [])) small)

-- one that is too large is not
pub end_of_large : (story : List ℕ) → 16777216 < length story
    → (fill_telling [] story).1 ≡ Err (Script (length (lines (take 16777216 story))) cause.Size)
unfolding fill_telling flaws_beside
end_of_large story more =
    let large : nat_lt 16777216 (length story) ≡ true = grind (arith, nat_tests) in
    filled-end story (flaws_beside false story [])
    ∙ ap (λ b. check_end (if b then faulty (length (lines (take 16777216 story))) [] cause.Size ∷ [] else flaws_of_rows false (length (plain_lines story)) (script_fault (script_of story)) (rows_of story) [])) large
