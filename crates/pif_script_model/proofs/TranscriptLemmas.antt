-- The lines of a script whose trace is written.
use Rattle.std.proofs.Common.{◌≡◌, ℕ, ◌+◌, ◌==◌, Bool, cond, true, false, List, [], ◌∷◌, ◌++◌, length, Option, Some, None, Result, Ok, Err, ◌⊎◌, inl, inr, refl, sym, ap, ◌∙◌, subst, append_assoc, append-nil}
use Rattle.std.specs.Prelude.{is_ok, option_and_then}
use Rattle.std.specs.Io.KnownBytes.{Appends}
use Rattle.pif_types.specs.Bounds.{Bounds}
use Rattle.pif_model.specs.declared.events.Entry.{Entry}
use Rattle.pif_model.specs.Table.{Table, new_table}
use Rattle.pif_text_model.specs.declared.commands.Command.{Command}
use Rattle.pif_text_model.specs.declared.replies.Reply.{Reply}
use Rattle.pif_text_model.specs.declared.replies.Cause.TheVariants.{Command as NoCommand, Limits as LimitsCause, Cut}
use Rattle.pif_text_model.specs.declared.traces.Version.{Version}
use Rattle.pif_text_model.specs.Commands.{command_in}
use Rattle.pif_script_model.specs.declared.faults.CliFault.{CliFault}
use Rattle.pif_script_model.specs.declared.faults.CliFault.TheVariants as fault
use Rattle.pif_script_model.specs.declared.ending.Ending.{Ending}
use Rattle.pif_script_model.specs.declared.ending.Ending.TheVariants.{Fault, Differs}
use Rattle.pif_script_model.specs.declared.ending.End.{End}
use Rattle.pif_script_model.specs.Scripts.{FirstMeaning, Meaning, Answered, Scan, start, byte_taken, reading_of, line_answer, answer_to_line, answered_first, answered_later, after_line, version_after, with_byte, end_at, ended_by, at_end, Opens, Hears, NeedsListener, NeedsIn}
use Rattle.pif_script_model.specs.Runs.{RunsFrom, WritesPart, last_text}
use Rattle.pif_script_model.specs.Running.{answer_line, answer_or_fault, command_answer, first_answer, first_line_meaning, line_meaning, made_by, script}
use Rattle.pif_script_model.specs.Traces.{entry_line, front_lines, trace}
use Rattle.pif_script_model.specs.Transcripts.{Transcribed, TracesTo, command_entries, entries_by, entry_lines, first_entries, first_limits, first_line_lines, first_lines, first_with_text, later_line_lines, line_entries, with_text, script_end, script_entries, script_limits, script_trace, transcript}
use Rattle.pif_script_model.proofs.DifferenceLemmas.{script_ends-with_fault}
use Rattle.pif_script_model.proofs.EntryLemmas.{first-answered, first-done, first-fault}
use Rattle.pif_script_model.proofs.ScriptLemmas.{by_cases, reading_of-nil, reading_of-ok, reading_of-err, byte_taken-unheard}

pub none≢some : {A : Type 0} {x : A} → ◌≡◌ {A = Option A} None (Some x) → ⊥
none≢some e = cc

pub by_option : {A : Type 0} (o : Option A) → (o ≡ None) ⊎ ((x : A) × (o ≡ Some x))
by_option None = inl refl
by_option (Some x) = inr (x, refl)

-- ---- a later line

pub line-no_command : (s : Table) (line : List ℕ) → command_in line ≡ None → line_meaning s line ≡ Err (Fault NoCommand)
unfolding line_meaning
line-no_command s line e = rw (line_meaning, e) refl

pub line-answered : (s : Table) (line : List ℕ) (c : Command) → command_in line ≡ Some c
    → line_meaning s line ≡ answer_line (answer_or_fault (command_answer c s))
unfolding line_meaning
line-answered s line c e = rw (line_meaning, e) refl

later-lines : (s : Table) (line : List ℕ) (c : Command) → command_in line ≡ Some c
    → later_line_lines s line ≡ entry_lines (command_entries c s)
unfolding later_line_lines
later-lines s line c e = rw (later_line_lines, e) refl

pub with_text-no_command : (s : Table) (line : List ℕ) → command_in line ≡ None
    → with_text (later_line_lines s line) (line_meaning s line) ≡ Err (Fault NoCommand)
with_text-no_command s line e = ap (with_text (later_line_lines s line)) (line-no_command s line e)

pub Hears-done : (s t : Table) (line old new : List ℕ) (c : Command) (r : Reply) → command_in line ≡ Some c
    → Transcribed c s t old new (Some r)
    → Hears (with_text (later_line_lines s line) (line_meaning s line)) old new t (Ok tt)
Hears-done s t line old new c r e w =
    let meant = line-answered s line c e ∙ ap (λ a. answer_line (answer_or_fault a)) w.0 in (
      later_line_lines s line,
      ap (with_text (later_line_lines s line)) meant,
      w.1 ∙ ap (λ l. old ++ l) (sym (later-lines s line c e)),
    )

pub Hears-limits : (s t : Table) (line old new : List ℕ) (c : Command) → command_in line ≡ Some c
    → Transcribed c s t old new None
    → Hears (with_text (later_line_lines s line) (line_meaning s line)) old new t (Err (Fault NoCommand))
Hears-limits s t line old new c e w =
    let meant = line-answered s line c e ∙ ap (λ a. answer_line (answer_or_fault a)) w.0 in
    (ap (with_text (later_line_lines s line)) meant, w.2)

-- ---- the first line

first_line-no_command : (line : List ℕ) → command_in line ≡ None → first_line_meaning line ≡ Err (Fault NoCommand)
unfolding first_line_meaning
first_line-no_command line e = rw (first_line_meaning, e) refl

pub first_line-answered : (line : List ℕ) (c : Command) → command_in line ≡ Some c
    → first_line_meaning line ≡ made_by (answer_line (first_answer c))
unfolding first_line_meaning
first_line-answered line c e = rw (first_line_meaning, e) refl

first_line-lines : (line : List ℕ) (c : Command) (b : Bounds) → command_in line ≡ Some c → first_limits c ≡ Some b
    → first_line_lines line ≡ front_lines b ++ entry_lines (command_entries c (new_table b))
unfolding first_line_lines first_lines
first_line-lines line c b e f = rw (first_line_lines, e, first_lines, f) refl

pub Opens-no_command : (line : List ℕ) → command_in line ≡ None
    → first_with_text (first_line_lines line) (first_line_meaning line) ≡ Err (Fault NoCommand)
Opens-no_command line e = ap (first_with_text (first_line_lines line)) (first_line-no_command line e)

pub Opens-limits : (line : List ℕ) (c : Command) → command_in line ≡ Some c → first_limits c ≡ None
    → first_with_text (first_line_lines line) (first_line_meaning line) ≡ Err (Fault LimitsCause)
Opens-limits line c e f =
    ap (first_with_text (first_line_lines line))
    (first_line-answered line c e ∙ ap (λ a. made_by (answer_line a)) (first-fault c f))

pub Opens-no_memory : (line : List ℕ) (c : Command) (b : Bounds) → command_in line ≡ Some c → first_limits c ≡ Some b
    → NeedsListener (first_with_text (first_line_lines line) (first_line_meaning line))
Opens-no_memory line c b e f =
    let a = first-answered c b f in
    subst (λ m. NeedsListener (first_with_text (first_line_lines line) m))
    (sym (first_line-answered line c e ∙ ap (λ x. made_by (answer_line x)) a.1)) tt

pub Opens-done : (line old shown front new : List ℕ) (c : Command) (b : Bounds) (t : Table) (r : Option Reply)
    → command_in line ≡ Some c → first_limits c ≡ Some b → shown ≡ front_lines b → front ≡ old ++ shown
    → Transcribed c (new_table b) t front new r
    → Opens (first_with_text (first_line_lines line) (first_line_meaning line)) old new (Ok (Some t))
Opens-done line old shown front new c b t r e f g h w =
    let a = first-done c b t front new r f w in
    let meant = first_line-answered line c e ∙ ap (λ x. made_by (answer_line x)) a.1 in
    let lines = entry_lines (command_entries c (new_table b)) in (
      first_line_lines line,
      ap (first_with_text (first_line_lines line)) meant,
      a.2 ∙ ap (λ l. l ++ lines) (h ∙ ap (λ l. old ++ l) g) ∙ append_assoc old (front_lines b) lines
          ∙ ap (λ l. old ++ l) (sym (first_line-lines line c b e f)),
    )

-- ---- beside a run

-- a line of a script leaves no one who hears it only if it ends it
made-heard : (m : Meaning Table) → made_by m ≡ Ok None → ⊥
made-heard (Ok m) e = cc
made-heard (Err x) e = cc

first_line-heard : (line : List ℕ) → first_line_meaning line ≡ Ok None → ⊥
first_line-heard line e =
    elim (by_option (command_in line)) [
      | inl n ↦ let bad : ◌≡◌ {A = FirstMeaning Table} (Err (Fault NoCommand)) (Ok None) =
          sym (first_line-no_command line n) ∙ e in cc
      | inr c ↦ made-heard (answer_line (first_answer c.0)) (sym (first_line-answered line c.0 c.1) ∙ e)
    ]

-- what a line is answered, by a core or by none
abbrev pub line_lines : Option Table → List ℕ → List ℕ
line_lines None line = first_line_lines line
line_lines (Some s) line = later_line_lines s line

first-same : (text : List ℕ) (x : FirstMeaning Table) (m : List ℕ × Option Table) → (x ≡ Ok None → ⊥)
    → answered_first x ≡ Ok m → (answered_first (first_with_text text x) ≡ Ok (text, m.1)) × (m.1 ≡ None → ⊥)
first-same text (Ok (Some y)) m n e =
    let q : (y.0, Some y.1) ≡ m = cc in
    let some = ap (λ (z : List ℕ × Option Table). z.1) q in
    (ap (λ o. Ok (text, o)) some, λ none. none≢some (sym (some ∙ none)))
first-same text (Ok None) m n e = absurd (n refl)
first-same text (Err x) m n e = (cc, cc)

later-same : (text : List ℕ) (x : Meaning Table) (m : List ℕ × Option Table) → answered_later x ≡ Ok m
    → (answered_later (with_text text x) ≡ Ok (text, m.1)) × (m.1 ≡ None → ⊥)
later-same text (Ok y) m e =
    let q : (y.0, Some y.1) ≡ m = cc in
    let some = ap (λ (z : List ℕ × Option Table). z.1) q in
    (ap (λ o. Ok (text, o)) some, λ none. none≢some (sym (some ∙ none)))
later-same text (Err x) m e = (cc, cc)

pub answered-same : (l : Option Table) (version : Option Version) (line : List ℕ) (m : List ℕ × Option Table)
    → answer_to_line script l version line ≡ Ok m
    → (answer_to_line transcript l version line ≡ Ok (line_lines l line, m.1)) × (m.1 ≡ None → ⊥)
answered-same None version line m e =
    first-same (first_line_lines line) (first_line_meaning line) m (first_line-heard line) e
answered-same (Some s) version line m e = later-same (later_line_lines s line) (line_meaning s line) m e

first-ends : (text : List ℕ) (x : FirstMeaning Table) (f : Ending) → answered_first x ≡ Err f
    → answered_first (first_with_text text x) ≡ Err f
first-ends text (Ok (Some y)) f e = cc
first-ends text (Ok None) f e = cc
first-ends text (Err x) f e = e

later-ends : (text : List ℕ) (x : Meaning Table) (f : Ending) → answered_later x ≡ Err f
    → answered_later (with_text text x) ≡ Err f
later-ends text (Ok y) f e = cc
later-ends text (Err x) f e = e

answered-ends : (l : Option Table) (version : Option Version) (line : List ℕ) (f : Ending)
    → answer_to_line script l version line ≡ Err f → answer_to_line transcript l version line ≡ Err f
answered-ends None version line f e = first-ends (first_line_lines line) (first_line_meaning line) f e
answered-ends (Some s) version line f e = later-ends (later_line_lines s line) (line_meaning s line) f e

after_line-same : (s : Scan Table) (x y : Answered Table) (r : List ℕ × Scan Table)
    → ((m : List ℕ × Option Table) → x ≡ Ok m → (y ≡ Ok (line_lines s.listener s.line, m.1)) × (m.1 ≡ None → ⊥))
    → after_line s x ≡ Ok r
    → (after_line s y ≡ Ok (line_lines s.listener s.line, r.1))
    × ((m : List ℕ × Option Table) × (x ≡ Ok m) × (r.1.listener ≡ m.1))
after_line-same s (Ok m) y r u e =
    let q : (m.0, record { listener = m.1; version = version_after s; line = []; number = s.number + 1; taken = s.taken + 1 }) ≡ r = cc in
    let w = u m refl in (
      ap (after_line s) w.0
          ∙ ap (λ (z : List ℕ × Scan Table). Ok (line_lines s.listener s.line, z.1)) q,
      (m, refl, sym (ap (λ (z : List ℕ × Scan Table). z.1.listener) q)),
    )
after_line-same s (Err f) y r u e = (cc, cc)

same-by : (x y z : Bool) (s : Scan Table) (b : ℕ) (m n : Answered Table) (f g : End) (r : List ℕ × Scan Table)
    → ((v : List ℕ × Option Table) → m ≡ Ok v → (n ≡ Ok (line_lines s.listener s.line, v.1)) × (v.1 ≡ None → ⊥))
    → cond x (cond y (after_line s m) (cond z (Ok ([], with_byte s b)) (Err f))) (Err g) ≡ Ok r
    → (cond x (cond y (after_line s n) (cond z (Ok ([], with_byte s b)) (Err f))) (Err g)
    ≡ Ok (cond y (line_lines s.listener s.line) [], r.1))
    × (((y ≡ true) × (v : List ℕ × Option Table) × (m ≡ Ok v) × (r.1.listener ≡ v.1))
    ⊎ ((y ≡ false) × (r.1.listener ≡ s.listener)))
same-by true true z s b m n f g r u e =
    let w = after_line-same s m n r u e in (w.0, inl (refl, w.1.0, w.1.1, w.1.2))
same-by true false true s b m n f g r u e =
    let q : ([], with_byte s b) ≡ r = cc in (
      ap (λ (x : List ℕ × Scan Table). Ok ([], x.1)) q,
      inr (refl, sym (ap (λ (x : List ℕ × Scan Table). x.1.listener) q)),
    )
same-by true false false s b m n f g r u e = (cc, cc)
same-by false y z s b m n f g r u e = (cc, cc)

pub byte-same : (s : Scan Table) (b : ℕ) (r : List ℕ × Scan Table) → byte_taken script s b ≡ Ok r
    → (byte_taken transcript s b ≡ Ok (cond (b == 10) (line_lines s.listener s.line) [], r.1))
    × ((((b == 10) ≡ true) × (v : List ℕ × Option Table) × (line_answer script s ≡ Ok v) × (r.1.listener ≡ v.1))
    ⊎ (((b == 10) ≡ false) × (r.1.listener ≡ s.listener)))
unfolding byte_taken
byte-same s b r e =
    same-by _ (b == 10) _ s b (line_answer script s) (line_answer transcript s) _ _ r
    (answered-same s.listener s.version s.line) e

after_line-ends : (s : Scan Table) (x y : Answered Table) (f : End)
    → ((v : Ending) → x ≡ Err v → y ≡ Err v) → after_line s x ≡ Err f → after_line s y ≡ Err f
after_line-ends s (Ok m) y f u e = cc
after_line-ends s (Err v) y f u e = ap (after_line s) (u v refl) ∙ e

ends-by : (x y z : Bool) (s : Scan Table) (b : ℕ) (m n : Answered Table) (f g h : End)
    → ((v : Ending) → m ≡ Err v → n ≡ Err v)
    → cond x (cond y (after_line s m) (cond z (Ok ([], with_byte s b)) (Err f))) (Err g) ≡ Err h
    → cond x (cond y (after_line s n) (cond z (Ok ([], with_byte s b)) (Err f))) (Err g) ≡ Err h
ends-by true true z s b m n f g h u e = after_line-ends s m n h u e
ends-by true false z s b m n f g h u e = e
ends-by false y z s b m n f g h u e = e

byte-ends : (s : Scan Table) (b : ℕ) (f : End) → byte_taken script s b ≡ Err f → byte_taken transcript s b ≡ Err f
unfolding byte_taken
byte-ends s b f e =
    ends-by _ (b == 10) _ s b (line_answer script s) (line_answer transcript s) _ _ f
    (answered-ends s.listener s.version s.line) e

-- a script whose trace is written stands where it stands in a run
pub stands-same : (bs : List ℕ) (s : Scan Table) → (reading_of transcript s bs).stands ≡ (reading_of script s bs).stands
stands-same [] s = (reading_of-nil transcript s).1 ∙ sym (reading_of-nil script s).1
stands-same (b ∷ bs) s =
    elim (by_cases (byte_taken script s b)) [
      | inl r ↦
          let one = reading_of-ok script s b bs r.0 r.1 in
          let two = reading_of-ok transcript s b bs _ (byte-same s b r.0 r.1).0 in
          two.1 ∙ stands-same bs r.0.1 ∙ sym one.1
      | inr r ↦
          let one = reading_of-err script s b bs r.0 r.1 in
          let two = reading_of-err transcript s b bs r.0 (byte-ends s b r.0 r.1) in
          two.1 ∙ sym one.1
    ]

-- ---- what is written

lines-append : (xs ys : List Entry) → entry_lines (xs ++ ys) ≡ entry_lines xs ++ entry_lines ys
lines-append [] ys = refl
lines-append (x ∷ xs) ys =
    ap (λ l. entry_line x ++ l) (lines-append xs ys)
    ∙ sym (append_assoc (entry_line x) (entry_lines xs) (entry_lines ys))

later-entries : (o : Option Command) (s : Table)
    → ◌≡◌ {A = List ℕ} (elim o [ None ↦ [] | Some c ↦ entry_lines (command_entries c s) ])
    (entry_lines (elim o [ None ↦ [] | Some c ↦ command_entries c s ]))
later-entries None s = refl
later-entries (Some c) s = refl

-- a line that a core hears makes the lines of its entries
line-entries : (s : Scan Table) (t : Table) → s.listener ≡ Some t
    → line_lines s.listener s.line ≡ entry_lines (line_entries s)
unfolding later_line_lines line_entries
line-entries s t e =
    ap (λ l. line_lines l s.line) e ∙ later-entries (command_in s.line) t
    ∙ ap (λ l. entry_lines (elim (command_in s.line) as (λ _. List Entry) [ None ↦ [] | Some c ↦ entries_by l c ])) (sym e)

lines-if : (y : Bool) (text : List ℕ) (es : List Entry) → text ≡ entry_lines es
    → cond y text [] ≡ entry_lines (cond y es [])
lines-if true text es e = e
lines-if false text es e = refl

pub entries-ok : (s : Scan Table) (b : ℕ) (bs : List ℕ) (r : List ℕ × Scan Table) → byte_taken script s b ≡ Ok r
    → script_entries s (b ∷ bs) ≡ cond (b == 10) (line_entries s) [] ++ script_entries r.1 bs
unfolding script_entries
entries-ok s b bs r e = rw (script_entries, e) refl

pub entries-err : (s : Scan Table) (b : ℕ) (bs : List ℕ) (f : End) → byte_taken script s b ≡ Err f
    → script_entries s (b ∷ bs) ≡ []
unfolding script_entries
entries-err s b bs f e = rw (script_entries, e) refl

pub entries-nil : (s : Scan Table) → script_entries s [] ≡ []
unfolding script_entries
entries-nil s = refl

pub limits-ok : (s : Scan Table) (b : ℕ) (bs : List ℕ) (r : List ℕ × Scan Table) (o : Option Table)
    → byte_taken script s b ≡ Ok r
    → r.1.listener ≡ o → script_limits s (b ∷ bs)
    ≡ (elim o [ None ↦ script_limits r.1 bs | Some core ↦ option_and_then first_limits (command_in s.line) ])
unfolding script_limits
limits-ok s b bs r o e f = rw (script_limits, e, ← f) refl

pub limits-err : (s : Scan Table) (b : ℕ) (bs : List ℕ) (f : End) → byte_taken script s b ≡ Err f
    → script_limits s (b ∷ bs) ≡ None
unfolding script_limits
limits-err s b bs f e = rw (script_limits, e) refl

pub limits-nil : (s : Scan Table) → script_limits s [] ≡ None
unfolding script_limits
limits-nil s = refl

-- a core stays
pub still-heard : (s : Scan Table) (b : ℕ) (r : List ℕ × Scan Table) (t : Table) → byte_taken script s b ≡ Ok r
    → s.listener ≡ Some t → r.1.listener ≡ None → ⊥
still-heard s b r t e f n = none≢some (sym (byte_taken-unheard script s b r e n).0 ∙ f)

text-later : (bs : List ℕ) (s : Scan Table) (t : Table) → s.listener ≡ Some t
    → (reading_of transcript s bs).text ≡ entry_lines (script_entries s bs)
text-later [] s t e = (reading_of-nil transcript s).0 ∙ ap entry_lines (sym (entries-nil s))
text-later (b ∷ bs) s t e =
    elim (by_cases (byte_taken script s b)) [
      | inl r ↦
          let two = reading_of-ok transcript s b bs _ (byte-same s b r.0 r.1).0 in
          let line = lines-if (b == 10) (line_lines s.listener s.line) (line_entries s) (line-entries s t e) in
          let rest : (reading_of transcript r.0.1 bs).text ≡ entry_lines (script_entries r.0.1 bs) =
          elim (by_option r.0.1.listener) [
            | inl n ↦ absurd (still-heard s b r.0 t r.1 e n)
            | inr u ↦ text-later bs r.0.1 u.0 u.1
          ] in
          two.0 ∙ ap (λ l. cond (b == 10) (line_lines s.listener s.line) [] ++ l) rest
          ∙ ap (λ l. l ++ entry_lines (script_entries r.0.1 bs)) line
          ∙ sym (lines-append (cond (b == 10) (line_entries s) []) (script_entries r.0.1 bs))
          ∙ ap entry_lines (sym (entries-ok s b bs r.0 r.1))
      | inr r ↦
          let two = reading_of-err transcript s b bs r.0 (byte-ends s b r.0 r.1) in
          two.0 ∙ ap entry_lines (sym (entries-err s b bs r.0 r.1))
    ]

-- the trace of a core that was made under these limits
abbrev made_trace : Option Bounds → List Entry → List ℕ
made_trace o es = elim o [ None ↦ [] | Some b ↦ trace b es ]

-- a first line that was answered makes a core
pub opened : (line : List ℕ) (m : List ℕ × Option Table) → answered_first (first_line_meaning line) ≡ Ok m
    → (c : Command) × (b : Bounds) × (command_in line ≡ Some c) × (first_limits c ≡ Some b)
opened line m e =
    elim (by_option (command_in line)) [
      | inl n ↦
          let bad : ◌≡◌ {A = Answered Table} (Err (Fault NoCommand)) (Ok m) =
          sym (ap answered_first (first_line-no_command line n)) ∙ e in absurd (err≢ok bad)
      | inr c ↦ elim (by_option (first_limits c.0)) [
        | inl n ↦
            let meant = first_line-answered line c.0 c.1
            ∙ ap (λ a. made_by (answer_line a)) (first-fault c.0 n) in
            let bad : ◌≡◌ {A = Answered Table} (Err (Fault LimitsCause)) (Ok m) =
            sym (ap answered_first meant) ∙ e in absurd (err≢ok bad)
        | inr b ↦ (c.0, b.0, c.1, b.1)
      ]
    ]
  where
    err≢ok : {f : Ending} {x : List ℕ × Option Table} → ◌≡◌ {A = Answered Table} (Err f) (Ok x) → ⊥
    err≢ok e = cc

pub opened-entries : (s : Scan Table) (c : Command) (b : Bounds) → s.listener ≡ None → command_in s.line ≡ Some c
    → first_limits c ≡ Some b → line_entries s ≡ command_entries c (new_table b)
unfolding line_entries
opened-entries s c b e f g =
    ap (λ l. elim (command_in s.line) as (λ _. List Entry) [ None ↦ [] | Some c ↦ entries_by l c ]) e
    ∙ ap (λ o. elim o as (λ _. List Entry) [ None ↦ [] | Some c ↦ first_entries c ]) f
    ∙ ap (λ o. elim o as (λ _. List Entry) [ None ↦ [] | Some b ↦ command_entries c (new_table b) ]) g

opened-trace : (b : Bounds) (es : List Entry) → trace b es ≡ front_lines b ++ entry_lines es
unfolding trace
opened-trace b es = refl

-- the line that makes the core, and those behind it
opened-text : (s : Scan Table) (c : Command) (b : Bounds) (rest : List Entry) (y : Bool) → y ≡ true
    → s.listener ≡ None → command_in s.line ≡ Some c → first_limits c ≡ Some b
    → cond y (line_lines s.listener s.line) [] ++ entry_lines rest
    ≡ made_trace (option_and_then first_limits (command_in s.line)) (cond y (line_entries s) [] ++ rest)
opened-text s c b rest true h e f g =
    let front = ap (λ l. line_lines l s.line) e ∙ first_line-lines s.line c b f g in
    let entries = opened-entries s c b e f g in
    let limits : option_and_then first_limits (command_in s.line) ≡ Some b = rw f g in
    ap (λ l. l ++ entry_lines rest) front
    ∙ append_assoc (front_lines b) (entry_lines (command_entries c (new_table b))) (entry_lines rest)
    ∙ ap (λ l. front_lines b ++ l) (sym (lines-append (command_entries c (new_table b)) rest))
    ∙ ap (λ l. front_lines b ++ entry_lines (l ++ rest)) (sym entries)
    ∙ sym (opened-trace b (line_entries s ++ rest))
    ∙ ap (λ o. made_trace o (line_entries s ++ rest)) (sym limits)
opened-text s c b rest false h e f g = cc

unheard-made : (bs : List ℕ) (s : Scan Table) (b : ℕ) (r : List ℕ × Scan Table) → byte_taken script s b ≡ Ok r
    → s.listener ≡ None → r.1.listener ≡ None
    → (reading_of transcript r.1 bs).text ≡ made_trace (script_limits r.1 bs) (script_entries r.1 bs)
    → (reading_of transcript s (b ∷ bs)).text
    ≡ made_trace (script_limits s (b ∷ bs)) (script_entries s (b ∷ bs))
unheard-made bs s b r e f n rest =
    let same = byte-same s b r e in
    elim same.1 [
      | inl w ↦ absurd ((answered-same s.listener s.version s.line w.1 w.2).1 (sym w.3 ∙ n))
      | inr w ↦
          let two = reading_of-ok transcript s b bs _ same.0 in
          let text = ap (λ y. cond y (line_lines s.listener s.line) [] ++ (reading_of transcript r.1 bs).text) w.0 in
          let entries = entries-ok s b bs r e ∙ ap (λ y. cond y (line_entries s) [] ++ script_entries r.1 bs) w.0 in
          two.0 ∙ text ∙ rest
          ∙ ap (λ o. made_trace o (script_entries r.1 bs)) (sym (limits-ok s b bs r None e n))
          ∙ ap (made_trace (script_limits s (b ∷ bs))) (sym entries)
    ]

heard-made : (bs : List ℕ) (s : Scan Table) (b : ℕ) (r : List ℕ × Scan Table) (t : Table)
    → byte_taken script s b ≡ Ok r → s.listener ≡ None → r.1.listener ≡ Some t
    → (reading_of transcript s (b ∷ bs)).text
    ≡ made_trace (script_limits s (b ∷ bs)) (script_entries s (b ∷ bs))
heard-made bs s b r t e f n =
    let same = byte-same s b r e in
    elim same.1 [
      | inl w ↦
          let two = reading_of-ok transcript s b bs _ same.0 in
          let meant = subst (λ l. answer_to_line script l s.version s.line ≡ Ok w.1) f w.2 in
          let c = opened s.line w.1 meant in
          two.0 ∙ ap (λ l. cond (b == 10) (line_lines s.listener s.line) [] ++ l) (text-later bs r.1 t n)
          ∙ opened-text s c.0 c.1 (script_entries r.1 bs) (b == 10) w.0 f c.2 c.3
          ∙ ap (made_trace (option_and_then first_limits (command_in s.line))) (sym (entries-ok s b bs r e))
          ∙ ap (λ o. made_trace o (script_entries s (b ∷ bs))) (sym (limits-ok s b bs r (Some t) e n))
      | inr w ↦ absurd (none≢some (sym (w.1 ∙ f) ∙ n))
    ]

text-made : (bs : List ℕ) (s : Scan Table) → s.listener ≡ None
    → (reading_of transcript s bs).text ≡ made_trace (script_limits s bs) (script_entries s bs)
text-made [] s e =
    (reading_of-nil transcript s).0 ∙ ap (λ o. made_trace o (script_entries s [])) (sym (limits-nil s))
text-made (b ∷ bs) s e =
    elim (by_cases (byte_taken script s b)) [
      | inl r ↦ elim (by_option r.0.1.listener) [
        | inl n ↦ unheard-made bs s b r.0 r.1 e n (text-made bs r.0.1 n)
        | inr t ↦ heard-made bs s b r.0 t.0 r.1 e t.1
      ]
      | inr r ↦
          (reading_of-err transcript s b bs r.0 (byte-ends s b r.0 r.1)).0
          ∙ ap (λ o. made_trace o (script_entries s (b ∷ bs))) (sym (limits-err s b bs r.0 r.1))
    ]

trace-told : (bytes : List ℕ) → (reading_of transcript start bytes).text ≡ script_trace bytes
unfolding script_trace
trace-told bytes = text-made bytes start refl

-- ---- how it ends

ended-same : (x : Result (Scan Table) End) → ended_by transcript x ≡ ended_by script x
ended-same (Ok s) = refl
ended-same (Err e) = refl

end-same : (bytes : List ℕ) → ended_by transcript (reading_of transcript start bytes).stands ≡ script_end bytes
unfolding script_end
end-same bytes = ended-same (reading_of transcript start bytes).stands ∙ ap (ended_by script) (stands-same bytes start)

closed-silent : (y : Bool) (s : Scan Table)
    → last_text (λ e. []) (cond y (at_end s (Ok [])) (Err (end_at s (Fault Cut)))) ≡ []
closed-silent true s = refl
closed-silent false s = refl

last-silent : (x : Result (Scan Table) End) → last_text (λ e. []) (ended_by transcript x) ≡ []
last-silent (Ok s) = closed-silent (length s.line == 0) s
last-silent (Err e) = refl

-- all that is written
output-told : (bytes : List ℕ)
    → (reading_of transcript start bytes).text
    ++ last_text (λ e. []) (ended_by transcript (reading_of transcript start bytes).stands) ≡ script_trace bytes
output-told bytes =
    ap (λ l. (reading_of transcript start bytes).text ++ l) (last-silent (reading_of transcript start bytes).stands)
    ∙ append-nil (reading_of transcript start bytes).text ∙ trace-told bytes

needs-core : (text : List ℕ) (x : FirstMeaning Table) → NeedsListener (first_with_text text x) → NeedsListener x
needs-core text (Ok (Some m)) n = tt
needs-core text (Ok None) n = absurd n
needs-core text (Err (Differs r)) n = tt
needs-core text (Err (Fault c)) n = absurd n

needs-same : (bytes : List ℕ) → NeedsIn transcript start bytes → NeedsIn script start bytes
needs-same bytes n = (
  n.0,
  n.1,
  n.2,
  n.3,
  n.4,
  sym (stands-same n.0 start) ∙ n.5,
  (n.6.0, needs-core (first_line_lines n.1.line) (first_line_meaning n.1.line) n.6.1, n.6.2, n.6.3),
)

no-difference : (bytes : List ℕ) (line : ℕ) (given : Reply)
    → ended_by transcript (reading_of transcript start bytes).stands
    ≡ Err (record { line = line; ending = Differs given })
    → ended_by script (reading_of script start bytes).stands ≡ Err (record { line = line; ending = Differs given })
unfolding script_end
no-difference bytes line given e = sym (end-same bytes) ∙ e

pub TracesTo-from : (a b h k : Option (List ℕ)) (result : Result (Unit {0}) CliFault)
    → RunsFrom transcript start a b h k result → TracesTo a b h k result
TracesTo-from a b h k (Ok x) r = (
  r.0,
  r.1,
  (ap is_ok (sym (end-same r.0)) ∙ r.2.0, r.2.1, subst (λ l. Appends h k l) (output-told r.0) r.2.2),
)
TracesTo-from a b h k (Err (fault.Script line cause)) r = (
  r.0,
  r.1,
  (
    sym (end-same r.0) ∙ r.2.0,
    λ o. r.2.1 (ap is_ok (stands-same r.0 start) ∙ o),
    subst (λ l. Appends h k l) (output-told r.0) r.2.2,
  ),
)
TracesTo-from a b h k (Err (fault.Differs line)) r =
    absurd (script_ends-with_fault r.0 line r.2.0.0 (no-difference r.0 line r.2.0.0 r.2.0.1))
TracesTo-from a b h k (Err fault.Read) r = (
  r.0,
  r.1,
  (ap is_ok (sym (stands-same r.0 start)) ∙ r.2.0, subst (λ l. Appends h k l) (trace-told r.0) r.2.1),
)
TracesTo-from a b h k (Err fault.Write) r = (r.0, r.1, subst (λ l. WritesPart h k l) (output-told r.0) r.2)
TracesTo-from a b h k (Err fault.NoMemory) r = (r.0, r.1, (needs-same r.0 r.2.0, r.2.1))
