-- A trace whose lines have no fault of form comes to the same in version 2: it is heard three times over the same
-- bytes, under each version and by its form. What has no fault of form under version 1 is heard alike by the others, or
-- ends both alike.
use Rattle.std.proofs.Common.{◌≡◌, ℕ, ◌+◌, ◌<◌, ◌≤◌, ◌==◌, zero, suc, nat_lt, Bool, cond, true, false, List, [], ◌∷◌, ◌++◌, drop, set, length, length-append, Option, Some, None, Result, Ok, Err, ◌⊎◌, inl, inr, refl, sym, ap, ◌∙◌, subst, append_assoc, append-nil, arith, bytes_eq, if◌then◌else◌}
use Rattle.std.specs.Prelude.{is_ok, option_map, option_and_then}
use Rattle.std.specs.Io.KnownBytes.{Appends, Consumes, IsAtEnd, Keeps}
use Rattle.std.proofs.KnownBytes.{Consumes-kept, Consumes-nil, Consumes-trans, Keeps-refl}
use Rattle.std.proofs.lemmas.Bool.{false≢true}
use Rattle.std.proofs.lemmas.Bool.Decides.{nat_tests}
use Rattle.pif_types.specs.Bounds.{Bounds}
use Rattle.pif_model.specs.Table.{Table}
use Rattle.pif_text_model.specs.declared.commands.Command.{Command}
use Rattle.pif_text_model.specs.declared.commands.Command.TheVariants as command
use Rattle.pif_text_model.specs.declared.replies.Cause.{Cause}
use Rattle.pif_text_model.specs.declared.replies.Cause.TheVariants.{Command as NoCommand, Limits as BadLimits, Size, Long, Cut}
use Rattle.pif_text_model.specs.declared.replies.Reply.{Reply}
use Rattle.pif_text_model.specs.declared.traces.Version.{Version}
use Rattle.pif_text_model.specs.declared.traces.Version.TheVariants.{One, Two}
use Rattle.pif_text_model.specs.Commands.{command_in}
use Rattle.pif_text_model.specs.Replies.{text_of}
use Rattle.pif_text_model.specs.Traces.{header_text, if_traced, parts_of, version_in}
use Rattle.pif_text_model.proofs.PlainTexts.{IsLine}
use Rattle.pif_text_model.proofs.Versions.{header_is, later_version}
use Rattle.pif_script_model.specs.declared.faults.CliFault.{CliFault}
use Rattle.pif_script_model.specs.declared.faults.CliFault.TheVariants as fault
use Rattle.pif_script_model.specs.declared.ending.Ending.{Ending}
use Rattle.pif_script_model.specs.declared.ending.Ending.TheVariants.{Fault, Differs}
use Rattle.pif_script_model.specs.declared.ending.End.{End}
use Rattle.pif_script_model.specs.declared.ending.Stop.TheVariants.{Ended}
use Rattle.pif_script_model.specs.Scripts.{Hearing, FirstMeaning, Meaning, Answered, Scan, start, byte_taken, reading_of, line_answer, answer_to_line, answered_first, answered_later, after_line, version_after, end_at, with_byte, at_end, closed_at, ended_by, Takes, Tells}
use Rattle.pif_script_model.specs.Runs.{Stops, Writes, WritesPart, end_line, last_text}
use Rattle.pif_script_model.specs.Running.{Answer, answer_or_fault, command_answer, first_answer, made_by}
use Rattle.pif_script_model.specs.Traces.{Replay, comparison, header_meaning, opening_meaning, second_line_meaning, traced_in, traced_meaning, trace_hearing, trace_end, verdict}
use Rattle.pif_script_model.specs.Transcripts.{first_limits}
use Rattle.pif_script_model.specs.Migrating.{FailsToRead, MigratesTo, ReadsMore, ReadsTo, VerdictStays, first_form, form_end, form_hearing, later_form, line_form, migrated, opening_form, second_line_form}
use Rattle.pif_script_model.proofs.DifferenceLemmas.{IsFault, ends-with_fault, fault-is}
use Rattle.pif_script_model.proofs.SameAgainLemmas.{reading_of-line, version_kept}
use Rattle.pif_script_model.proofs.ScriptLemmas.{by_cases, reading_of-nil, reading_of-ok, reading_of-err}

by_option : {A : Type 0} (o : Option A) → (o ≡ None) ⊎ ((x : A) × (o ≡ Some x))
by_option None = inl refl
by_option (Some x) = inr (x, refl)

-- ---- one byte

-- a byte that was taken ended a line that was answered, or lengthened the line
module _ {S : Type 0} (hearing : Hearing S) where
  abbrev pub IsTaken : Scan S → ℕ → List ℕ × Scan S → Type 0
  IsTaken s b r =
      (nat_lt s.taken 16777216 ≡ true)
      × ((((b == 10) ≡ true) × (after_line s (line_answer hearing s) ≡ Ok r))
      ⊎ (((b == 10) ≡ false) × (nat_lt (length s.line) 120 ≡ true) × (r ≡ ([], with_byte s b))))

  taken-by : (x y z : Bool) (s : Scan S) (b : ℕ) (m : Answered S) (f g : End) (r : List ℕ × Scan S)
      → cond x (cond y (after_line s m) (cond z (Ok ([], with_byte s b)) (Err f))) (Err g) ≡ Ok r
      → (x ≡ true) × (((y ≡ true) × (after_line s m ≡ Ok r)) ⊎ ((y ≡ false) × (z ≡ true) × (r ≡ ([], with_byte s b))))
  taken-by true true z s b m f g r e = (refl, inl (refl, e))
  taken-by true false true s b m f g r e = let q : ([], with_byte s b) ≡ r = cc in (refl, inr (refl, refl, sym q))
  taken-by true false false s b m f g r e = cc
  taken-by false y z s b m f g r e = cc

  pub byte-taken : (s : Scan S) (b : ℕ) (r : List ℕ × Scan S) → byte_taken hearing s b ≡ Ok r → IsTaken s b r
  unfolding byte_taken
  byte-taken s b r e =
      taken-by (nat_lt s.taken 16777216) (b == 10) (nat_lt (length s.line) 120) s b (line_answer hearing s) _ _ r e

  pub byte-lengthens : (s : Scan S) (b : ℕ) → nat_lt s.taken 16777216 ≡ true → (b == 10) ≡ false
      → nat_lt (length s.line) 120 ≡ true → byte_taken hearing s b ≡ Ok ([], with_byte s b)
  unfolding byte_taken
  byte-lengthens s b x y z = rw (x, y, z) refl

  pub byte-ends : (s : Scan S) (b : ℕ) → nat_lt s.taken 16777216 ≡ true → (b == 10) ≡ true
      → byte_taken hearing s b ≡ after_line s (line_answer hearing s)
  unfolding byte_taken
  byte-ends s b x y = rw (x, y) refl

  -- how bytes end a script from here
  abbrev pub ends : Scan S → List ℕ → Result (List ℕ) End
  ends s bs = ended_by hearing (reading_of hearing s bs).stands

  pub ends-ok : (s : Scan S) (b : ℕ) (bs : List ℕ) (r : List ℕ × Scan S) → byte_taken hearing s b ≡ Ok r
      → ends s (b ∷ bs) ≡ ends r.1 bs
  ends-ok s b bs r e = ap (ended_by hearing) (reading_of-ok hearing s b bs r e).1

  pub ends-err : (s : Scan S) (b : ℕ) (bs : List ℕ) (f : End) → byte_taken hearing s b ≡ Err f
      → ends s (b ∷ bs) ≡ Err f
  ends-err s b bs f e = ap (ended_by hearing) (reading_of-err hearing s b bs f e).1

  pub ends-nil : (s : Scan S) → ends s [] ≡ closed_at hearing s
  ends-nil s = ap (ended_by hearing) (reading_of-nil hearing s).1

abbrev failed : End → Result (List ℕ) End
failed f = Err f

not_ok : (f : End) → is_ok (failed f) ≡ true → ⊥
not_ok f e = false≢true e

-- ---- one line, under both versions

-- a trace of a version that is held to this core, if there is one yet
abbrev replay_at : Version → Option Table → (line : List ℕ) → (number taken : ℕ) → Scan Replay
replay_at v c line number taken = record {
  listener = option_map (λ s. record { version = v; core = s }) c;
  version = Some v;
  line = line;
  number = number;
  taken = taken;
}

-- and its form
abbrev form_at : Option Table → (line : List ℕ) → (number taken : ℕ) → Scan Version
form_at c line number taken = record {
  listener = option_map (λ s. One) c;
  version = Some One;
  line = line;
  number = number;
  taken = taken;
}

-- two hearings of a line leave the same core, or end the trace alike
abbrev Alike : Answered Replay → Answered Replay → Type 0
Alike one two =
    ((s : Table) × (one ≡ Ok ([], Some (record { version = One; core = s })))
    × (two ≡ Ok ([], Some (record { version = Two; core = s }))))
    ⊎ ((e : Ending) × (one ≡ Err e) × (two ≡ Err e))

later-alike : (recorded : List ℕ) (x : Result Answer Cause)
    → Alike (answered_later (comparison One recorded x)) (answered_later (comparison Two recorded x))
later-alike recorded (Err c) = inr (Fault c, refl, refl)
later-alike recorded (Ok a) = by_test (bytes_eq (text_of a.0) recorded)
  where
    by_test : (x : Bool) → Alike
        (answered_later (cond x (Ok ([], record { version = One; core = a.1 })) (Err (Differs a.0))))
        (answered_later (cond x (Ok ([], record { version = Two; core = a.1 })) (Err (Differs a.0))))
    by_test true = inl (a.1, refl, refl)
    by_test false = inr (Differs a.0, refl, refl)

first-alike : (recorded : List ℕ) (x : Result Answer Cause)
    → Alike (answered_first (made_by (comparison One recorded x))) (answered_first (made_by (comparison Two recorded x)))
first-alike recorded (Err c) = inr (Fault c, refl, refl)
first-alike recorded (Ok a) = by_test (bytes_eq (text_of a.0) recorded)
  where
    by_test : (x : Bool) → Alike
        (answered_first (made_by (cond x (Ok ([], record { version = One; core = a.1 })) (Err (Differs a.0)))))
        (answered_first (made_by (cond x (Ok ([], record { version = Two; core = a.1 })) (Err (Differs a.0)))))
    by_test true = inl (a.1, refl, refl)
    by_test false = inr (Differs a.0, refl, refl)

-- a line of version 1 is one of version 2
traced-parts : (parts : List ℕ × List ℕ) (o : Option Command) (p : Command × List ℕ)
    → option_map (λ c. (c, parts.1)) (option_and_then (if_traced One) o) ≡ Some p
    → option_map (λ c. (c, parts.1)) (option_and_then (if_traced Two) o) ≡ Some p
traced-parts parts None p e = e
traced-parts parts (Some c) p e = by_known (if_traced One c) refl e
  where
    by_known : (o : Option Command) → if_traced One c ≡ o → option_map (λ d. (d, parts.1)) o ≡ Some p
        → option_map (λ d. (d, parts.1)) (if_traced Two c) ≡ Some p
    by_known None k e = cc
    by_known (Some d) k e = ap (option_map (λ x. (x, parts.1))) (later_version c d k) ∙ e

traced-later : (line : List ℕ) (p : Command × List ℕ) → traced_in One line ≡ Some p → traced_in Two line ≡ Some p
unfolding traced_in
traced-later line p e = by_parts (parts_of line) e
  where
    by_parts : (o : Option (List ℕ × List ℕ))
        → option_and_then (λ parts. option_map (λ c. (c, parts.1)) (option_and_then (if_traced One) (command_in parts.0))) o
        ≡ Some p
        → option_and_then (λ parts. option_map (λ c. (c, parts.1)) (option_and_then (if_traced Two) (command_in parts.0))) o
        ≡ Some p
    by_parts None e = e
    by_parts (Some parts) e = traced-parts parts (command_in parts.0) p e

line-replayed : (v : Version) (s : Table) (line : List ℕ) (p : Command × List ℕ) → traced_in v line ≡ Some p
    → traced_meaning (record { version = v; core = s }) line
    ≡ comparison v p.1 (answer_or_fault (command_answer p.0 s))
unfolding traced_meaning
line-replayed v s line p e = rw (traced_meaning, e) refl

second_line-replayed : (v : Version) (line : List ℕ) (p : Command × List ℕ) → traced_in v line ≡ Some p
    → second_line_meaning v line ≡ made_by (comparison v p.1 (first_answer p.0))
unfolding second_line_meaning
second_line-replayed v line p e = rw (second_line_meaning, e) refl

Alike-by : (a b c d : Answered Replay) → a ≡ c → b ≡ d → Alike c d → Alike a b
Alike-by a b c d e f h = subst (λ x. Alike x b) (sym e) (subst (λ x. Alike c x) (sym f) h)

answered_later-ok : (c : Command) (m : List ℕ × Option Version) → answered_later (later_form One c) ≡ Ok m
    → m ≡ ([], Some One)
answered_later-ok (command.Limits t n v s) m e = cc
answered_later-ok (command.Add a) m e = let q : ([], Some One) ≡ m = cc in sym q
answered_later-ok (command.Event v) m e = let q : ([], Some One) ≡ m = cc in sym q
answered_later-ok (command.Run t q) m e = let q : ([], Some One) ≡ m = cc in sym q
answered_later-ok (command.Ask q) m e = let q : ([], Some One) ≡ m = cc in sym q

abbrev formed_later : Option (Command × List ℕ) → Answered Version
formed_later o =
    answered_later (elim o as (λ _. Meaning Version) [ None ↦ Err (Fault NoCommand) | Some p ↦ later_form One p.0 ])

abbrev formed_second : Option (Command × List ℕ) → Answered Version
formed_second o =
    answered_first (elim o as (λ _. FirstMeaning Version)
    [ None ↦ Err (Fault NoCommand) | Some p ↦ first_form One p.0 ])

abbrev limited_form : Option Bounds → Answered Version
limited_form o =
    answered_first (elim o as (λ _. FirstMeaning Version)
    [ None ↦ Err (Fault BadLimits) | Some b ↦ Ok (Some ([], One)) ])

unanswered : (f : Ending) (x : List ℕ × Option Version) → ◌≡◌ {A = Answered Version} (Err f) (Ok x) → ⊥
unanswered f x e = cc

limited : (o : Option Bounds) (m : List ℕ × Option Version) → limited_form o ≡ Ok m → m ≡ ([], Some One)
limited None m e = cc
limited (Some b) m e = let q : ([], Some One) ≡ m = cc in sym q

-- a later line that has its form
line-alike : (s : Table) (line : List ℕ) (m : List ℕ × Option Version) → answered_later (line_form One line) ≡ Ok m
    → (m ≡ ([], Some One))
    × Alike (answered_later (traced_meaning (record { version = One; core = s }) line))
    (answered_later (traced_meaning (record { version = Two; core = s }) line))
unfolding line_form
line-alike s line m e =
    elim (by_option (traced_in One line)) [
      | inl n ↦ absurd (unanswered _ m (sym (ap formed_later n) ∙ e))
      | inr p ↦ (
        answered_later-ok p.0.0 m (sym (ap formed_later p.1) ∙ e),
        Alike-by _ _ _ _ (ap answered_later (line-replayed One s line p.0 p.1))
            (ap answered_later (line-replayed Two s line p.0 (traced-later line p.0 p.1)))
            (later-alike p.0.1 (answer_or_fault (command_answer p.0.0 s))),
      )
    ]

-- the second line, if it has its form
second_line-alike : (line : List ℕ) (m : List ℕ × Option Version) → answered_first (second_line_form One line) ≡ Ok m
    → (m ≡ ([], Some One))
    × Alike (answered_first (second_line_meaning One line)) (answered_first (second_line_meaning Two line))
unfolding second_line_form first_form
second_line-alike line m e =
    elim (by_option (traced_in One line)) [
      | inl n ↦ absurd (unanswered _ m (sym (ap formed_second n) ∙ e))
      | inr p ↦ (
        limited (first_limits p.0.0) m (sym (ap formed_second p.1) ∙ e),
        Alike-by _ _ _ _ (ap answered_first (second_line-replayed One line p.0 p.1))
            (ap answered_first (second_line-replayed Two line p.0 (traced-later line p.0 p.1)))
            (first-alike p.0.1 (first_answer p.0.0)),
      )
    ]

-- a line behind the header that has its form
answered-alike : (c : Option Table) (line : List ℕ) (m : List ℕ × Option Version)
    → answer_to_line form_hearing (option_map (λ s. One) c) (Some One) line ≡ Ok m
    → (m ≡ ([], Some One))
    × Alike (answer_to_line trace_hearing (option_map (λ s. record { version = One; core = s }) c) (Some One) line)
    (answer_to_line trace_hearing (option_map (λ s. record { version = Two; core = s }) c) (Some Two) line)
answered-alike None line m e = second_line-alike line m e
answered-alike (Some s) line m e = line-alike s line m e

-- ---- bytes behind the header

after-ok : {S : Type 0} (s : Scan S) (x : Answered S) (m : List ℕ × Option S) (v : Option Version) → x ≡ Ok m
    → version_after s ≡ v
    → after_line s x
    ≡ Ok (m.0, record { listener = m.1; version = v; line = []; number = s.number + 1; taken = s.taken + 1 })
after-ok s x m v e f =
    ap (after_line s) e
    ∙ ap (λ w. Ok (m.0, record { listener = m.1; version = w; line = []; number = s.number + 1; taken = s.taken + 1 })) f

formed-line : (s : Scan Version) (x : Answered Version) (r : List ℕ × Scan Version) → after_line s x ≡ Ok r
    → (m : List ℕ × Option Version) × (x ≡ Ok m)
formed-line s (Ok m) r e = (m, refl)
formed-line s (Err f) r e = cc

closed-same : (c : Option Table) (line : List ℕ) (number taken : ℕ)
    → closed_at trace_hearing (replay_at One c line number taken)
    ≡ closed_at trace_hearing (replay_at Two c line number taken)
closed-same c line number taken = closed-by (length line == 0) (trace_hearing.end_text number)
  where
    closed-by : (x : Bool) (told : Result (List ℕ) Cause)
        → cond x (at_end (replay_at One c line number taken) told)
        (Err (end_at (replay_at One c line number taken) (Fault Cut)))
        ≡ cond x (at_end (replay_at Two c line number taken) told)
        (Err (end_at (replay_at Two c line number taken) (Fault Cut)))
    closed-by true (Ok text) = refl
    closed-by true (Err f) = refl
    closed-by false told = refl

same-end : (bs : List ℕ) (c : Option Table) (line : List ℕ) (number taken : ℕ) → 1 < number
    → is_ok (ends form_hearing (form_at c line number taken) bs) ≡ true
    → ends trace_hearing (replay_at One c line number taken) bs
    ≡ ends trace_hearing (replay_at Two c line number taken) bs
same-end [] c line number taken h ok =
    ends-nil trace_hearing (replay_at One c line number taken) ∙ closed-same c line number taken
    ∙ sym (ends-nil trace_hearing (replay_at Two c line number taken))
same-end (b ∷ bs) c line number taken h ok =
    let f = form_at c line number taken in
    let one = replay_at One c line number taken in
    let two = replay_at Two c line number taken in
    elim (by_cases (byte_taken form_hearing f b)) [
      | inr r ↦ absurd (not_ok r.0 (sym (ap is_ok (ends-err form_hearing f b bs r.0 r.1)) ∙ ok))
      | inl r ↦
          let taken-as = byte-taken form_hearing f b r.0 r.1 in
          let rest = sym (ap is_ok (ends-ok form_hearing f b bs r.0 r.1)) ∙ ok in
          elim taken-as.1 [
            | inl w ↦
                let m = formed-line f (line_answer form_hearing f) r.0 w.1 in
                let alike = answered-alike c line m.0 m.1 in
                let kept = after-ok f (line_answer form_hearing f) m.0 (Some One) m.1
                (version_kept number line (Some One) h) in
                elim alike.1 [
                  | inl a ↦
                      let to = form_at (Some a.0) [] (number + 1) (taken + 1) in
                      let same : ([], to) ≡ r.0 = formed-next to m.0 r.0 alike.0 (sym kept ∙ w.1) in
                      let more = subst (λ (x : List ℕ × Scan Version). is_ok (ends form_hearing x.1 bs) ≡ true)
                      (sym same) rest in
                      let first = after-ok one (line_answer trace_hearing one) _ (Some One) a.1
                      (version_kept number line (Some One) h) in
                      let second = after-ok two (line_answer trace_hearing two) _ (Some Two) a.2
                      (version_kept number line (Some Two) h) in
                      ends-ok trace_hearing one b bs _ (byte-ends trace_hearing one b taken-as.0 w.0 ∙ first)
                      ∙ same-end bs (Some a.0) [] (number + 1) (taken + 1) (omega arith) more
                      ∙ sym (ends-ok trace_hearing two b bs _ (byte-ends trace_hearing two b taken-as.0 w.0 ∙ second))
                  | inr a ↦
                      let first = byte-ends trace_hearing one b taken-as.0 w.0 ∙ ap (after_line one) a.1 in
                      let second = byte-ends trace_hearing two b taken-as.0 w.0 ∙ ap (after_line two) a.2 in
                      ends-err trace_hearing one b bs _ first ∙ sym (ends-err trace_hearing two b bs _ second)
                ]
            | inr w ↦
                let more = subst (λ (x : List ℕ × Scan Version). is_ok (ends form_hearing x.1 bs) ≡ true) w.2 rest in
                ends-ok trace_hearing one b bs _ (byte-lengthens trace_hearing one b taken-as.0 w.0 w.1)
                ∙ same-end bs c (line ++ b ∷ []) number (taken + 1) h more
                ∙ sym (ends-ok trace_hearing two b bs _ (byte-lengthens trace_hearing two b taken-as.0 w.0 w.1))
          ]
    ]
  where
    formed-next : (to : Scan Version) (m : List ℕ × Option Version) (r : List ℕ × Scan Version) → m ≡ ([], Some One)
        → ◌≡◌ {A = Result (List ℕ × Scan Version) End}
        (Ok (m.0, record { listener = m.1; version = Some One; line = []; number = to.number; taken = to.taken })) (Ok r)
        → ([], record { listener = Some One; version = Some One; line = []; number = to.number; taken = to.taken }) ≡ r
    formed-next to m r e f =
        let q : (m.0, record { listener = m.1; version = Some One; line = []; number = to.number; taken = to.taken }) ≡ r = cc in
        sym (ap (λ (x : List ℕ × Option Version). (x.0, record { listener = x.1; version = Some One; line = []; number = to.number; taken = to.taken })) e) ∙ q

-- ---- the header

named : (o : Option Version) (m : List ℕ × Option Version) → answered_first (header_meaning o) ≡ Ok m
    → (v : Version) × (o ≡ Some v)
named (Some v) m e = (v, refl)
named None m e = absurd (unanswered _ m e)

-- a trace in its first line
abbrev unheaded : (line : List ℕ) → (taken : ℕ) → Scan Version
unheaded line taken = record { listener = None; version = None; line = line; number = 1; taken = taken }

unclosed : (x : Bool) (s : Scan Version) → is_ok (cond x (at_end s (Err NoCommand)) (Err (end_at s (Fault Cut)))) ≡ true
    → ⊥
unclosed true s e = false≢true e
unclosed false s e = false≢true e

is_feed : (b : ℕ) → (b == 10) ≡ true → b ≡ 10
is_feed b e = grind (arith, nat_tests)

-- bytes whose lines have their form begin with a header
header-first : (bs line : List ℕ) (taken : ℕ) → is_ok (ends form_hearing (unheaded line taken) bs) ≡ true
    → (front : List ℕ) × (rest : List ℕ) × (v : Version) × (bs ≡ front ++ 10 ∷ rest)
    × (version_in (line ++ front) ≡ Some v)
header-first [] line taken ok =
    absurd (unclosed (length line == 0) (unheaded line taken)
    (sym (ap is_ok (ends-nil form_hearing (unheaded line taken))) ∙ ok))
header-first (b ∷ bs) line taken ok =
    let s = unheaded line taken in
    elim (by_cases (byte_taken form_hearing s b)) [
      | inl r ↦
          let taken-as = byte-taken form_hearing s b r.0 r.1 in
          let rest = sym (ap is_ok (ends-ok form_hearing s b bs r.0 r.1)) ∙ ok in
          elim taken-as.1 [
            | inl w ↦
                let m = formed-line s (line_answer form_hearing s) r.0 w.1 in
                let v = named (version_in line) m.0 m.1 in
                ([], bs, v.0, ap (λ x. x ∷ bs) (is_feed b w.0), ap version_in (append-nil line) ∙ v.1)
            | inr w ↦
                let more = subst (λ (x : List ℕ × Scan Version). is_ok (ends form_hearing x.1 bs) ≡ true) w.2 rest in
                let later = header-first bs (line ++ b ∷ []) (taken + 1) more in (
                  b ∷ later.0,
                  later.1,
                  later.2,
                  ap (λ l. b ∷ l) later.3,
                  ap version_in (sym (append_assoc line (b ∷ []) later.0)) ∙ later.4,
                )
          ]
      | inr r ↦ absurd (not_ok r.0 (sym (ap is_ok (ends-err form_hearing s b bs r.0 r.1)) ∙ ok))
    ]

-- such bytes are a header and what stands behind it
pub headed : (bytes : List ℕ) → is_ok (form_end bytes) ≡ true
    → (rest : List ℕ) × (v : Version) × (bytes ≡ header_text v ++ 10 ∷ rest)
unfolding form_end
headed bytes ok =
    let h = header-first bytes [] 0 ok in
    (h.1, h.2, h.3 ∙ ap (λ l. l ++ 10 ∷ h.1) (header_is h.0 h.2 h.4))

header-line : (v : Version) → IsLine (header_text v)
header-line One = record { no_end = refl; short = omega arith }
header-line Two = record { no_end = refl; short = omega arith }

header-named : (v : Version) → version_in (header_text v) ≡ Some v
unfolding version_in
header-named One = refl
header-named Two = refl

header-length : (v : Version) → length (header_text v) ≡ 11
header-length One = refl
header-length Two = refl

-- behind its header a trace is heard so
module _ {S : Type 0} (hearing : Hearing S) where
  behind-header : (v : Version) (rest : List ℕ) → hearing.first_meaning None (header_text v) ≡ Ok None
      → ends hearing start (header_text v ++ 10 ∷ rest)
      ≡ ends hearing (record { listener = None; version = Some v; line = []; number = 2; taken = 12 }) rest
  behind-header v rest e =
      let small : 0 + length (header_text v) < 16777216 = omega (arith, header-length v) in
      let count : 0 + length (header_text v) + 1 ≡ 12 = omega (arith, header-length v) in
      ap (ended_by hearing) (ap (λ l. (reading_of hearing start l).stands) (sym (append_assoc (header_text v) (10 ∷ []) rest))
      ∙ reading_of-line hearing (header_text v) rest None None (Some v) 1 0 ([], None) (header-line v) small
      (ap answered_first e) (header-named v)
      ∙ ap (λ n. (reading_of hearing (record {
        listener = None;
        version = Some v;
        line = [];
        number = 2;
        taken = n;
      }) rest).stands) count)

passed : {S : Type 0} (v : Version) → header_meaning {S = S} (version_in (header_text v)) ≡ Ok None
passed {S = S} v = ap (header_meaning {S = S}) (header-named v)

-- ---- the law

migrated-is : (bytes : List ℕ) → is_ok (form_end bytes) ≡ true → migrated bytes ≡ header_text Two ++ drop 11 bytes
unfolding migrated
migrated-is bytes ok = by_end (form_end bytes) ok
  where
    by_end : (r : Result (List ℕ) End) → is_ok r ≡ true
        → ◌≡◌ {A = List ℕ} (elim r [ Ok text ↦ header_text Two ++ drop 11 bytes | Err e ↦ end_line e ])
        (header_text Two ++ drop 11 bytes)
    by_end (Ok text) e = refl
    by_end (Err f) e = absurd (not_ok f e)

header-dropped : (v : Version) (rest : List ℕ) → drop 11 (header_text v ++ 10 ∷ rest) ≡ 10 ∷ rest
header-dropped One rest = refl
header-dropped Two rest = refl

-- a trace in version 2
pub migrated-headed : (bytes rest : List ℕ) (v : Version) → is_ok (form_end bytes) ≡ true
    → bytes ≡ header_text v ++ 10 ∷ rest → migrated bytes ≡ header_text Two ++ 10 ∷ rest
migrated-headed bytes rest v ok e =
    migrated-is bytes ok ∙ ap (λ l. header_text Two ++ l) (ap (drop 11) e ∙ header-dropped v rest)

verdict-same : (rest : List ℕ) (v : Version) → is_ok (form_end (header_text v ++ 10 ∷ rest)) ≡ true
    → verdict (header_text Two ++ 10 ∷ rest) ≡ verdict (header_text v ++ 10 ∷ rest)
unfolding verdict trace_end form_end
verdict-same rest Two ok = refl
verdict-same rest One ok =
    let formed = sym (ap is_ok (behind-header form_hearing One rest (passed One))) ∙ ok in
    ap (last_text end_line) (behind-header trace_hearing Two rest (passed Two)
    ∙ sym (same-end rest None [] 2 12 (omega arith) formed)
    ∙ sym (behind-header trace_hearing One rest (passed One)))

pub verdict_stays : VerdictStays
verdict_stays bytes ok =
    let h = headed bytes ok in
    ap verdict (migrated-headed bytes h.0 h.1 ok h.2)
    ∙ verdict-same h.0 h.1 (subst (λ l. is_ok (form_end l) ≡ true) h.2 ok)
    ∙ ap verdict (sym h.2)

-- ---- what is written

-- a trace has its header and the LF behind it
pub formed-length : (bytes : List ℕ) → is_ok (form_end bytes) ≡ true → 10 < length bytes
formed-length bytes ok =
    let h = headed bytes ok in
    let all = ap length h.2 ∙ length-append (header_text h.1) (10 ∷ h.0) in
    omega (arith, all, header-length h.1)

set-header : (v : Version) (rest : List ℕ) → set (header_text v ++ 10 ∷ rest) 10 50 ≡ header_text Two ++ 10 ∷ rest
set-header One rest = refl
set-header Two rest = refl

-- one byte of it is that of the version
pub migrated-set : (bytes : List ℕ) → is_ok (form_end bytes) ≡ true → set bytes 10 50 ≡ migrated bytes
migrated-set bytes ok =
    let h = headed bytes ok in
    ap (λ l. set l 10 50) h.2 ∙ set-header h.1 h.0 ∙ sym (migrated-headed bytes h.0 h.1 ok h.2)

migrated-fault : (bytes : List ℕ) (e : End) → form_end bytes ≡ Err e → migrated bytes ≡ end_line e
unfolding migrated
migrated-fault bytes e f = rw (migrated, f) refl

-- a trace in version 2 was written, or a part of it
pub Migrates-written : (a b h k : Option (List ℕ)) (bytes shown : List ℕ) (result : Result (Unit {0}) CliFault)
    → ReadsTo a b bytes → is_ok (form_end bytes) ≡ true → shown ≡ set bytes 10 50 → Writes h k shown result
    → MigratesTo a b h k result
Migrates-written a b h k bytes shown (Ok x) r ok e w =
    (bytes, r.0, r.1, (ok, r.2, subst (λ l. Appends h k l) (e ∙ migrated-set bytes ok) w))
Migrates-written a b h k bytes shown (Err fault.Write) r ok e w =
    (bytes, r.0, r.1, (r.2, subst (λ l. WritesPart h k l) (e ∙ migrated-set bytes ok) w))
Migrates-written a b h k bytes shown (Err fault.Read) r ok e w = absurd w
Migrates-written a b h k bytes shown (Err fault.NoMemory) r ok e w = absurd w
Migrates-written a b h k bytes shown (Err (fault.Script l c)) r ok e w = absurd w
Migrates-written a b h k bytes shown (Err (fault.Differs l)) r ok e w = absurd w

-- ---- a fault of form is no difference

header-fault : {S : Type 0} (o : Option Version) (e : Ending) → header_meaning {S = S} o ≡ Err e → IsFault e
header-fault (Some v) e p = cc
header-fault None e p = let q : Fault NoCommand ≡ e = cc in subst IsFault q (fault-is NoCommand)

limited-fault : (v : Version) (o : Option Bounds) (e : Ending)
    → ◌≡◌ {A = FirstMeaning Version} (elim o [ None ↦ Err (Fault BadLimits) | Some b ↦ Ok (Some ([], v)) ]) (Err e)
    → IsFault e
limited-fault v None e p = let q : Fault BadLimits ≡ e = cc in subst IsFault q (fault-is BadLimits)
limited-fault v (Some b) e p = cc

second-fault : (v : Version) (o : Option (Command × List ℕ)) (e : Ending)
    → ◌≡◌ {A = FirstMeaning Version} (elim o [ None ↦ Err (Fault NoCommand) | Some p ↦ first_form v p.0 ]) (Err e)
    → IsFault e
unfolding first_form
second-fault v None e p = let q : Fault NoCommand ≡ e = cc in subst IsFault q (fault-is NoCommand)
second-fault v (Some x) e p = limited-fault v (first_limits x.0) e p

opening-fault : (version : Option Version) (line : List ℕ) (e : Ending) → opening_form version line ≡ Err e → IsFault e
unfolding second_line_form
opening-fault None line e p = header-fault (version_in line) e p
opening-fault (Some v) line e p = second-fault v (traced_in v line) e p

later_form-fault : (v : Version) (c : Command) (e : Ending) → later_form v c ≡ Err e → IsFault e
later_form-fault v (command.Limits t n m s) e p =
    let q : Fault NoCommand ≡ e = cc in subst IsFault q (fault-is NoCommand)
later_form-fault v (command.Add a) e p = cc
later_form-fault v (command.Event x) e p = cc
later_form-fault v (command.Run t q) e p = cc
later_form-fault v (command.Ask q) e p = cc

later-fault : (v : Version) (o : Option (Command × List ℕ)) (e : Ending)
    → ◌≡◌ {A = Meaning Version} (elim o [ None ↦ Err (Fault NoCommand) | Some p ↦ later_form v p.0 ]) (Err e)
    → IsFault e
later-fault v None e p = let q : Fault NoCommand ≡ e = cc in subst IsFault q (fault-is NoCommand)
later-fault v (Some x) e p = later_form-fault v x.0 e p

line-fault : (v : Version) (line : List ℕ) (e : Ending) → line_form v line ≡ Err e → IsFault e
unfolding line_form
line-fault v line e p = later-fault v (traced_in v line) e p

no_difference : (bytes : List ℕ) (line : ℕ) (r : Reply)
    → form_end bytes ≡ Err (record { line = line; ending = Differs r }) → ⊥
unfolding form_end
no_difference bytes line r e = ends-with_fault form_hearing opening-fault line-fault bytes start line r e

-- the line of a fault of form was written, or a part of it
pub Migrates-stopped : (a b h k : Option (List ℕ)) (bytes : List ℕ) (e : End) (f : CliFault) → ReadsTo a b bytes
    → form_end bytes ≡ Err e → Stops h k [] (end_line e) e f → MigratesTo a b h k (Err f)
Migrates-stopped a b h k bytes e (fault.Script l c) r p w =
    (bytes, r.0, r.1, (p ∙ ap Err w.0, r.2, subst (λ t. Appends h k t) (sym (migrated-fault bytes e p)) w.1))
Migrates-stopped a b h k bytes e (fault.Differs l) r p w = absurd (no_difference bytes l w.0.0 (p ∙ ap Err w.0.1))
Migrates-stopped a b h k bytes e fault.Write r p w =
    (bytes, r.0, r.1, (r.2, subst (λ t. WritesPart h k t) (sym (migrated-fault bytes e p)) w))
Migrates-stopped a b h k bytes e fault.Read r p w = absurd w
Migrates-stopped a b h k bytes e fault.NoMemory r p w = absurd w

-- ---- looking for a fault

-- how these bytes end by their form, from where a scanner stands among them
abbrev pub EndsSo : List ℕ → Scan Version → List ℕ → Type 0
EndsSo bytes s rest = form_end bytes ≡ ends form_hearing s rest

pub EndsSo-start : (bytes rest : List ℕ) (s : Scan Version) → s ≡ start → rest ≡ bytes → EndsSo bytes s rest
unfolding form_end
EndsSo-start bytes rest s e f = rw (e, f) refl

pub EndsSo-more : (bytes rest : List ℕ) (s t : Scan Version) (b : ℕ) (old new : List ℕ) (x : Unit {0})
    → EndsSo bytes s (b ∷ rest) → Takes form_hearing s b old new t (Ok x) → EndsSo bytes t rest
EndsSo-more bytes rest s t b old new x e w = e ∙ ends-ok form_hearing s b rest (w.0, t) w.1

pub EndsSo-stopped : (bytes rest : List ℕ) (s t : Scan Version) (b : ℕ) (old new : List ℕ) (f : End)
    → EndsSo bytes s (b ∷ rest) → Takes form_hearing s b old new t (Err (Ended f)) → form_end bytes ≡ Err f
EndsSo-stopped bytes rest s t b old new f e w = e ∙ ends-err form_hearing s b rest f w.0

pub EndsSo-closed : (bytes rest : List ℕ) (s : Scan Version) (old new : List ℕ) (x : Unit {0}) → EndsSo bytes s rest
    → rest ≡ [] → Tells (closed_at form_hearing s) old new (Ok x) → is_ok (form_end bytes) ≡ true
EndsSo-closed bytes rest s old new x e f w =
    ap is_ok (e ∙ ap (ends form_hearing s) f ∙ ends-nil form_hearing s ∙ w.1)

pub EndsSo-unclosed : (bytes rest : List ℕ) (s : Scan Version) (old new : List ℕ) (g : End) → EndsSo bytes s rest
    → rest ≡ [] → Tells (closed_at form_hearing s) old new (Err g) → form_end bytes ≡ Err g
EndsSo-unclosed bytes rest s old new g e f w = e ∙ ap (ends form_hearing s) f ∙ ends-nil form_hearing s ∙ w.0

-- ---- reading all

pub reading-fails : (a b c : Option (List ℕ)) (most : ℕ) (old new : List ℕ) (f : CliFault) → Consumes a b old
    → length old + most ≤ 16777217 → ReadsMore b c most old new (Err f) → FailsToRead a c f
reading-fails a b c most old new fault.Read p h r = (old, Consumes-kept a b c old p r, omega arith)
reading-fails a b c most old new fault.NoMemory p h r =
    let most-read : length r.0 ≤ most = r.2 in
    (old ++ r.0, Consumes-trans a b c old r.0 p r.1, omega (arith, length-append old r.0))
reading-fails a b c most old new fault.Write p h r = absurd r
reading-fails a b c most old new (fault.Script l x) p h r = absurd r
reading-fails a b c most old new (fault.Differs l) p h r = absurd r
