-- The notes that a run keeps are those on its script.
use Rattle.std.proofs.Common.{◌≡◌, ℕ, zero, suc, ◌+◌, ◌<◌, ◌≤◌, ◌==◌, not, nat_lt, Bool, true, false, cond, List, [], ◌∷◌, ◌++◌, append_assoc, length, Option, Some, None, Result, Ok, Err, ◌⊎◌, inl, inr, refl, sym, ap, ◌∙◌, subst, eqb-true, arith}
use Rattle.std.proofs.lemmas.Bool.Decides.{nat_tests}
use Rattle.std.proofs.lemmas.List.{nil_from_length}
use Rattle.std.specs.List.{cons_option}
use Rattle.std.specs.Option.{option_map_or}
use Rattle.std.specs.Prelude.{is_ok, option_map}
use Rattle.pif_model.specs.Table.{Table}
use Rattle.pif_text_model.specs.declared.commands.Command.{Command}
use Rattle.pif_text_model.specs.declared.replies.Cause.{Cause}
use Rattle.pif_text_model.specs.declared.replies.Cause.TheVariants as cause
use Rattle.pif_text_model.specs.declared.traces.Version.{Version}
use Rattle.pif_text_model.specs.Commands.{command_in, command_of_one, command_of_words}
use Rattle.pif_text_model.specs.Questions.{question_in_one}
use Rattle.pif_text_model.specs.Words.{words}
use Rattle.pif_text_model.specs.Replies.{text_of}
use Rattle.pif_text_model.proofs.Plain.{lacks, lacks-append}
use Rattle.pif_script_model.specs.declared.ending.End.{End}
use Rattle.pif_script_model.specs.declared.ending.Ending.TheVariants.{Fault}
use Rattle.pif_script_model.specs.declared.faults.CliFault.{CliFault}
use Rattle.pif_script_model.specs.Leaving.{RunsOn}
use Rattle.pif_script_model.specs.Running.{Answer, RunsTo, answer_line, answer_or_fault, command_answer, first_answer, first_line_meaning, line_meaning, made_by, outcome_behind, script}
use Rattle.pif_script_model.specs.Runs.{EndsAfter, RunsFrom}
use Rattle.pif_script_model.specs.Scripts.{Answered, FirstMeaning, Meaning, Scan, after_line, answer_to_line, answered_first, answered_later, byte_taken, closed_at, end_at, ended_by, line_answer, reading_of, start, version_after, with_byte}
use Rattle.pif_script_model.proofs.DifferenceLemmas.{RunsTo-from}
use Rattle.pif_script_model.proofs.ScriptLemmas.{by_cases, reading_of-err, reading_of-nil, reading_of-ok}
use Rattle.pif_script_model.proofs.UnderLemmas.{EndsAfter_under, first_under, later_under, scan_under}
use Rattle.pif_script_model.specs.Lines.{lines}
use Rattle.pif_script_model.specs.Rows.{words_outcome}
use Rattle.pif_script_model.proofs.OkLemmas.{line-first}
use Rattle.pif_story.specs.declared.missing.Known.{Known}
use Rattle.pif_story.specs.declared.missing.Missing.{Missing}
use Rattle.pif_story.specs.declared.missing.Note.{Note}
use Rattle.pif_story.specs.Notes.{known_behind, note_at, noted, one_more, row_known, with_found, with_notes, words_noted}
use Rattle.pif_job_run.specs.Noting.{Heard, Noting, RunsNoting, Tally, answered, first_noted, later_noted, noted_line, noting, notes_on, nothing_tallied, run_notes, tally_behind}

-- ---- as a run hears it

-- the core of a run that is noted
abbrev core_of : Noting → Table
core_of n = n.core

same_line : (t : Tally) (line : List ℕ) (c : Command) (r : Result Answer Cause)
    → answer_line r ≡ later_under core_of (noted_line t line c r)
same_line t line c (Ok a) = refl
same_line t line c (Err e) = refl

made : (m : Meaning Noting) → made_by (later_under core_of m) ≡ first_under core_of (made_by m)
made (Ok m) = refl
made (Err e) = refl

same_first : (line : List ℕ) → first_line_meaning line ≡ first_under core_of (first_noted line)
unfolding first_line_meaning first_noted
same_first line = by_command (command_in line)
  where
    by_command : (o : Option Command)
        → (elim o as (λ o. FirstMeaning Table) [
          | None ↦ Err (Fault cause.Command)
          | Some c ↦ made_by (answer_line (first_answer c))
        ])
        ≡ first_under core_of (elim o as (λ o. FirstMeaning Noting) [
          | None ↦ Err (Fault cause.Command)
          | Some c ↦ made_by (noted_line nothing_tallied line c (first_answer c))
        ])
    by_command None = refl
    by_command (Some c) =
        ap made_by (same_line nothing_tallied line c (first_answer c))
        ∙ made (noted_line nothing_tallied line c (first_answer c))

same_later : (n : Noting) (line : List ℕ) → line_meaning n.core line ≡ later_under core_of (later_noted n line)
unfolding line_meaning later_noted
same_later n line = by_command (command_in line)
  where
    by_command : (o : Option Command)
        → (elim o as (λ o. Meaning Table) [
          | None ↦ Err (Fault cause.Command)
          | Some c ↦ answer_line (answer_or_fault (command_answer c n.core))
        ])
        ≡ later_under core_of (elim o as (λ o. Meaning Noting) [
          | None ↦ Err (Fault cause.Command)
          | Some c ↦ noted_line n.tally line c (answer_or_fault (command_answer c n.core))
        ])
    by_command None = refl
    by_command (Some c) = same_line n.tally line c (answer_or_fault (command_answer c n.core))

-- a run that is noted ends as one that isn't
ends_alike : (read : List ℕ) (after held holds : Option (List ℕ)) (result : Result (Unit {0}) CliFault)
    → EndsAfter noting start read after held holds result → EndsAfter script start read after held holds result
ends_alike read after held holds result e =
    EndsAfter_under core_of noting script (λ version line. same_first line) same_later (λ n. refl) (λ e. refl) start read
    after held holds result e

RunsTo_noted : (a b h k : Option (List ℕ)) (fault : CliFault) → RunsFrom noting start a b h k (Err fault)
    → RunsTo a b h k (Err fault)
RunsTo_noted a b h k fault r =
    RunsTo-from a b h k (Err fault) (r.0, r.1, ends_alike r.0 b h k (Err fault) r.2)

-- ---- what a line leaves

-- what a run keeps for its notes, and its core
abbrev tally_of : Option Noting → Tally
tally_of None = nothing_tallied
tally_of (Some n) = n.tally

abbrev table_of : Option Noting → Option Table
table_of l = option_map core_of l

-- a line with this command that is answered so leaves this
abbrev left_by : Tally → (line : List ℕ) → Command → Answer → Noting
left_by t line c a = record { core = a.1; tally = tally_behind t line c (text_of a.0) }

-- what is known of a line that leaves m
abbrev Leaves : Option Noting → (line : List ℕ) → Option Noting → Type 0
Leaves l line m =
    (c : Command) × (a : Answer) × (command_in line ≡ Some c) × (words_outcome (table_of l) line ≡ Ok a)
    × (m ≡ Some (left_by (tally_of l) line c a))

heard_first : (line : List ℕ) (c : Command) (r : Result Answer Cause) (text : List ℕ) (m : Option Noting)
    → answered_first (made_by (noted_line nothing_tallied line c r)) ≡ Ok (text, m)
    → (a : Answer) × (r ≡ Ok a) × (m ≡ Some (left_by nothing_tallied line c a))
heard_first line c (Ok a) text m e =
    let same : (text_of a.0 ++ 10 ∷ [], Some (left_by nothing_tallied line c a)) ≡ (text, m) = cc in
    (a, refl, sym (ap (λ (x : List ℕ × Option Noting). x.1) same))
heard_first line c (Err x) text m e = absurd (cc)

heard_later : (n : Noting) (line : List ℕ) (c : Command) (r : Result Answer Cause) (text : List ℕ) (m : Option Noting)
    → answered_later (noted_line n.tally line c r) ≡ Ok (text, m)
    → (a : Answer) × (r ≡ Ok a) × (m ≡ Some (left_by n.tally line c a))
heard_later n line c (Ok a) text m e =
    let same : (text_of a.0 ++ 10 ∷ [], Some (left_by n.tally line c a)) ≡ (text, m) = cc in
    (a, refl, sym (ap (λ (x : List ℕ × Option Noting). x.1) same))
heard_later n line c (Err x) text m e = absurd (cc)

outcome_of : (before : Option Table) (line : List ℕ) (c : Command) (r : Result Answer Cause) → command_in line ≡ Some c
    → outcome_behind before c ≡ r → words_outcome before line ≡ r
outcome_of before line c r is e =
    ap (λ o. elim o as (λ o. Result Answer Cause) [ None ↦ Err cause.Command | Some c ↦ outcome_behind before c ]) is ∙ e

heard : (l : Option Noting) (version : Option Version) (line text : List ℕ) (m : Option Noting)
    → answer_to_line noting l version line ≡ Ok (text, m) → Leaves l line m
unfolding first_noted later_noted
heard None version line text m e = by_command (command_in line) refl e
  where
    by_command : (o : Option Command) → command_in line ≡ o
        → ◌≡◌ {A = Answered Noting} (answered_first (elim o as (λ o. FirstMeaning Noting) [
          | None ↦ Err (Fault cause.Command)
          | Some c ↦ made_by (noted_line nothing_tallied line c (first_answer c))
        ])) (Ok (text, m))
        → Leaves None line m
    by_command None is e = absurd (cc)
    by_command (Some c) is e =
        let h = heard_first line c (first_answer c) text m e in
        (c, h.0, is, outcome_of None line c (Ok h.0) is h.1, h.2)
heard (Some n) version line text m e = by_command (command_in line) refl e
  where
    by_command : (o : Option Command) → command_in line ≡ o
        → ◌≡◌ {A = Answered Noting} (answered_later (elim o as (λ o. Meaning Noting) [
          | None ↦ Err (Fault cause.Command)
          | Some c ↦ noted_line n.tally line c (answer_or_fault (command_answer c n.core))
        ])) (Ok (text, m))
        → Leaves (Some n) line m
    by_command None is e = absurd (cc)
    by_command (Some c) is e =
        let h = heard_later n line c (answer_or_fault (command_answer c n.core)) text m e in
        (c, h.0, is, outcome_of (Some n.core) line c (Ok h.0) is h.1, h.2)

-- ---- the notes so far, and those on what is left

abbrev noted_at_end : Tally → List Heard → List Note
noted_at_end t heards = with_notes t.notes (notes_on t.known t.number heards)

found : (told : List Note) (o : Option Note) (more : List Note)
    → with_notes told (cons_option o more) ≡ with_notes (with_found told o) more
unfolding with_notes
found told None more = refl
found told (Some note) more = refl

next_number : (n : ℕ) → n < 4294967295 → one_more n ≡ n + 1
next_number n few = let test : nat_lt n 4294967295 ≡ true = grind (arith, nat_tests, few) in rw test refl

-- one line
noted_line-next : (t : Tally) (line given : List ℕ) (c : Command) (more : List Heard) → command_in line ≡ Some c
    → t.number < 4294967295 → noted_at_end t ((line, given) ∷ more) ≡ noted_at_end (tally_behind t line c given) more
unfolding notes_on words_noted row_known
noted_line-next t line given c more is few =
    let note = option_map (note_at t.number line) (noted t.known c given) in
    ap (λ o. with_notes t.notes (cons_option (option_map (note_at t.number line)
    (elim o as (λ o. Option Missing) [ None ↦ None | Some c ↦ noted t.known c given ]))
    (notes_on (elim o as (λ o. Known) [ None ↦ t.known | Some c ↦ known_behind t.known c given ]) (t.number + 1) more))) is
    ∙ found t.notes note (notes_on (known_behind t.known c given) (t.number + 1) more)
    ∙ ap (λ n. with_notes (with_found t.notes note) (notes_on (known_behind t.known c given) n more))
    (sym (next_number t.number few))

answered-next : (before : Option Table) (line : List ℕ) (behind : List (List ℕ)) (a : Answer)
    → words_outcome before line ≡ Ok a
    → answered before (line ∷ behind) ≡ (line, text_of a.0) ∷ answered (Some a.1) behind
unfolding answered
answered-next before line behind a e =
    ap (λ r. elim r as (λ r. List Heard) [ Ok a ↦ (line, text_of a.0) ∷ answered (Some a.1) behind | Err cause ↦ [] ]) e

-- no byte is left, and no line stands open
no_command : command_in [] ≡ None
unfolding command_in words command_of_words command_of_one question_in_one
no_command = refl

answered-nothing : (before : Option Table) → answered before (lines []) ≡ []
unfolding answered lines
answered-nothing before =
    ap (λ o. elim (elim o as (λ o. Result Answer Cause) [ None ↦ Err cause.Command | Some c ↦ outcome_behind before c ])
    as (λ r. List Heard) [ Ok a ↦ ([], text_of a.0) ∷ answered (Some a.1) [] | Err cause ↦ [] ]) no_command

ends_here : (l : Option Noting) → (tally_of l).notes ≡ noted_at_end (tally_of l) (answered (table_of l) (lines []))
unfolding notes_on with_notes
ends_here l = sym (ap (noted_at_end (tally_of l)) (answered-nothing (table_of l)))

-- ---- all bytes

-- how a byte is taken: it goes on in the line, or it ends the line, which is answered so
abbrev Taken : (s : Scan Noting) → ℕ → List ℕ × Scan Noting → Type 0
Taken s b r =
    (s.taken < 16777216)
    × ((((b == 10) ≡ false) × (r.1 ≡ with_byte s b))
    ⊎ (((b == 10) ≡ true) × (after_line s (line_answer noting s) ≡ Ok r)))

taken_so : (s : Scan Noting) (b : ℕ) (r : List ℕ × Scan Noting) → byte_taken noting s b ≡ Ok r → Taken s b r
unfolding byte_taken
taken_so s b r e =
    by_tests (nat_lt s.taken 16777216) (b == 10) (nat_lt (length s.line) 120) _ _ refl refl e
  where
    by_tests : (x y z : Bool) (long size : End) → nat_lt s.taken 16777216 ≡ x → (b == 10) ≡ y
        → cond x (cond y (after_line s (line_answer noting s)) (cond z (Ok ([], with_byte s b)) (Err long))) (Err size) ≡ Ok r
        → Taken s b r
    by_tests true true z long size p q e = (grind (arith, nat_tests, p), inr (q, e))
    by_tests true false true long size p q e =
        let same : ([], with_byte s b) ≡ r = cc in
        (grind (arith, nat_tests, p), inl (q, ap (λ (x : List ℕ × Scan Noting). x.1) (sym same)))
    by_tests true false false long size p q e = absurd (cc)
    by_tests false y z long size p q e = absurd (cc)

-- where the script stands behind a line that leaves m
abbrev behind_line : Scan Noting → Option Noting → Scan Noting
behind_line s m = record {
  listener = m;
  version = version_after s;
  line = [];
  number = s.number + 1;
  taken = s.taken + 1;
}

stands_behind : (s : Scan Noting) (answer : Answered Noting) (r : List ℕ × Scan Noting) → after_line s answer ≡ Ok r
    → (x : List ℕ × Option Noting) × (answer ≡ Ok x) × (r.1 ≡ behind_line s x.1)
stands_behind s (Ok x) r e =
    let same : (x.0, behind_line s x.1) ≡ r = cc in
    (x, refl, ap (λ (y : List ℕ × Scan Noting). y.1) (sym same))
stands_behind s (Err f) r e = absurd (cc)

abbrev NotesOn : (bs : List ℕ) → (s t : Scan Noting) → Type 0
NotesOn bs s t =
    (tally_of t.listener).notes
    ≡ noted_at_end (tally_of s.listener) (answered (table_of s.listener) (lines (s.line ++ bs)))

-- in a line
on_in_line : (bs : List ℕ) (b : ℕ) (s t : Scan Noting) → NotesOn bs (with_byte s b) t → NotesOn (b ∷ bs) s t
on_in_line bs b s t e =
    e ∙ ap (λ l. noted_at_end (tally_of s.listener) (answered (table_of s.listener) (lines l)))
    (append_assoc s.line (b ∷ []) bs)

-- behind a line
on_behind : (bs : List ℕ) (s t : Scan Noting) (c : Command) (a : Answer) → lacks 10 s.line ≡ true
    → (tally_of s.listener).number < 4294967295 → command_in s.line ≡ Some c
    → words_outcome (table_of s.listener) s.line ≡ Ok a
    → NotesOn bs (behind_line s (Some (left_by (tally_of s.listener) s.line c a))) t → NotesOn (10 ∷ bs) s t
on_behind bs s t c a plain few is answer e =
    let l = tally_of s.listener in
    e ∙ sym (noted_line-next l s.line (text_of a.0) c (answered (Some a.1) (lines bs)) is few)
    ∙ ap (noted_at_end l) (sym (ap (answered (table_of s.listener)) (line-first s.line bs plain)
    ∙ answered-next (table_of s.listener) s.line (lines bs) a answer))

pub runs_noted : (bs : List ℕ) (s t : Scan Noting) → lacks 10 s.line ≡ true
    → (tally_of s.listener).number ≤ s.taken + 1 → (reading_of noting s bs).stands ≡ Ok t → t.line ≡ []
    → NotesOn bs s t
runs_noted [] s t plain few e closed =
    let n = reading_of-nil noting s in
    let same : s ≡ t = cc in
    let empty : s.line ≡ [] = ap (λ (u : Scan Noting). u.line) same ∙ closed in
    ap (λ (u : Scan Noting). (tally_of u.listener).notes) (sym same) ∙ ends_here s.listener
    ∙ ap (λ l. noted_at_end (tally_of s.listener) (answered (table_of s.listener) (lines (l ++ [])))) (sym empty)
runs_noted (b ∷ bs) s t plain few e closed =
    elim (by_cases (byte_taken noting s b)) [
      | inl r ↦
          let all = reading_of-ok noting s b bs r.0 r.1 in
          let took = taken_so s b r.0 r.1 in
          elim took.1 [
            | inl w ↦
                let end : lacks 10 (b ∷ []) ≡ true = rw w.0 refl in
                on_in_line bs b s t (runs_noted bs (with_byte s b) t (lacks-append 10 s.line (b ∷ []) plain end)
                (omega (arith, few)) (ap (λ u. (reading_of noting u bs).stands) (sym w.1) ∙ sym all.1 ∙ e) closed)
            | inr w ↦
                let x = stands_behind s (line_answer noting s) r.0 w.1 in
                let h = heard s.listener s.version s.line x.0.0 x.0.1 x.1 in
                let u = behind_line s (Some (left_by (tally_of s.listener) s.line h.0 h.1)) in
                let stands : r.0.1 ≡ u = x.2 ∙ ap (behind_line s) h.4 in
                let small : (tally_of s.listener).number < 4294967295 = omega (arith, few, took.0) in
                let more : one_more (tally_of s.listener).number ≤ s.taken + 1 + 1 =
                rw (next_number (tally_of s.listener).number small) (omega (arith, few)) in
                subst (λ y. NotesOn (y ∷ bs) s t) (sym (eqb-true b 10 w.0))
                (on_behind bs s t h.0 h.1 plain small h.2 h.3
                (runs_noted bs u t refl more
                (ap (λ v. (reading_of noting v bs).stands) (sym stands) ∙ sym all.1 ∙ e) closed))
          ]
      | inr r ↦
          let one = reading_of-err noting s b bs r.0 r.1 in
          let bad : ◌≡◌ {A = Result (Scan Noting) End} (Err r.0) (Ok t) = sym one.1 ∙ e in absurd (cc)
    ]

-- ---- whole runs

-- a script that ends well stands at no line
no_line : (t : Scan Noting) → is_ok (closed_at noting t) ≡ true → t.line ≡ []
no_line t e = by_test (length t.line == 0) refl e
  where
    by_test : (b : Bool) → (length t.line == 0) ≡ b
        → is_ok (cond {A = Result (List ℕ) End} b (Ok []) (Err (end_at t (Fault cause.Cut)))) ≡ true → t.line ≡ []
    by_test true is e = nil_from_length t.line (eqb-true (length t.line) 0 is)
    by_test false is e = absurd (cc)

kept_notes : (l : Option Noting) → option_map_or (λ n. n.tally.notes) l [] ≡ (tally_of l).notes
kept_notes None = refl
kept_notes (Some n) = refl

pub RunsNoting_left : (s t : Scan Noting) (a b h k : Option (List ℕ)) → s ≡ start → RunsOn noting s t a b h k (Ok tt)
    → RunsNoting a b h k (option_map_or (λ n. n.tally.notes) t.listener [])
unfolding run_notes
RunsNoting_left s t a b h k is r =
    let run = subst (λ s. RunsOn noting s t a b h k (Ok tt)) is r in
    let ends : is_ok (closed_at noting t) ≡ true = sym (ap (λ x. is_ok (ended_by noting x)) run.2) ∙ run.3.0 in (
      run.0,
      run.1,
      ends_alike run.0 b h k (Ok tt) run.3,
      kept_notes t.listener ∙ runs_noted run.0 start t refl (omega arith) run.2 (no_line t ends),
    )

pub RunsTo_left : (s t : Scan Noting) (a b h k : Option (List ℕ)) (fault : CliFault) → s ≡ start
    → RunsOn noting s t a b h k (Err fault) → RunsTo a b h k (Err fault)
RunsTo_left s t a b h k fault is r =
    RunsTo_noted a b h k fault (subst (λ s. RunsFrom noting s a b h k (Err fault)) is r)
