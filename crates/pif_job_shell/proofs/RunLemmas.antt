-- What a session keeps is a script that `run` answers alike.
use Rattle.std.proofs.Common.{zero, suc, ◌≡◌, ℕ, ◌+◌, ◌*◌, ◌<◌, ◌≤◌, ◌==◌, not, true, List, [], ◌∷◌, ◌++◌, Option, Some, None, Result, Ok, Err, length, length-append, refl, sym, ap, subst, ◌∙◌, append_assoc, append-nil, arith, if◌then◌else◌}
use Rattle.std.specs.Prelude.{All, flat_map}
use Rattle.std.proofs.lemmas.Bool.{and_parts}
use Rattle.std.proofs.lemmas.Bool.Decides.{nat_tests}
use Rattle.std.proofs.lemmas.Grind.{flat_map-append}
use Rattle.std.proofs.lemmas.List.Elements.{All-append}
use Rattle.pif_model.specs.Table.{Table}
use Rattle.pif_text_model.specs.declared.commands.Command.{Command}
use Rattle.pif_text_model.specs.declared.replies.Cause.{Cause}
use Rattle.pif_text_model.specs.declared.replies.Cause.TheVariants.{Command as NoCommand}
use Rattle.pif_text_model.specs.declared.traces.Version.{Version}
use Rattle.pif_text_model.specs.Commands.{command_in}
use Rattle.pif_text_model.specs.CommandTexts.{command_text, IsWritten}
use Rattle.pif_text_model.specs.Replies.{text_of}
use Rattle.pif_text_model.specs.Traces.{version_in}
use Rattle.pif_text_model.proofs.Plain.{lacks}
use Rattle.pif_text_model.proofs.PlainTexts.{command-line}
use Rattle.pif_text_model.proofs.ReadBack.{command_back}
use Rattle.pif_script_model.specs.declared.ending.Ending.TheVariants.{Fault}
use Rattle.pif_script_model.specs.CommandLines.{command_line, script_lines}
use Rattle.pif_script_model.specs.Running.{Answer, answer_line, answer_or_fault, command_answer, first_answer, first_line_meaning, line_meaning, made_by, script}
use Rattle.pif_script_model.specs.Scripts.{FirstMeaning, Hearing, Meaning, Scan, after_line, answer_to_line, answered_first, answered_later, closed_at, ended_by, reading_of, start, with_byte}
use Rattle.pif_script_model.specs.Transcripts.{script_end}
use Rattle.pif_script_model.proofs.SameAgainLemmas.{reading_of-line}
use Rattle.pif_script_model.proofs.ScriptLemmas.{byte_taken-byte, byte_taken-end, reading_of-append, reading_of-nil, reading_of-ok}
use Rattle.pif_job_shell.specs.Sessions.{AnswersAsRuns, IsPlayed, KeepsRuns, Leaves, answer_by}

-- ---- one line

-- a line that names a command is answered as that, by a core and as the first one
later_by : (o : Option Command) (c : Command) (s : Table) (a : Answer) → o ≡ Some c
    → answer_or_fault (command_answer c s) ≡ Ok a
    → ◌≡◌ {A = Meaning Table}
    (elim o [ None ↦ Err (Fault NoCommand) | Some x ↦ answer_line (answer_or_fault (command_answer x s)) ])
    (Ok (text_of a.0 ++ 10 ∷ [], a.1))
later_by o c s a e g =
    subst (λ x. ◌≡◌ {A = Meaning Table}
    (elim x [ None ↦ Err (Fault NoCommand) | Some y ↦ answer_line (answer_or_fault (command_answer y s)) ])
    (Ok (text_of a.0 ++ 10 ∷ [], a.1))) (sym e) (ap answer_line g)

first_by : (o : Option Command) (c : Command) (a : Answer) → o ≡ Some c → first_answer c ≡ Ok a
    → ◌≡◌ {A = FirstMeaning Table}
    (elim o [ None ↦ Err (Fault NoCommand) | Some x ↦ made_by (answer_line (first_answer x)) ])
    (Ok (Some (text_of a.0 ++ 10 ∷ [], a.1)))
first_by o c a e g =
    subst (λ x. ◌≡◌ {A = FirstMeaning Table}
    (elim x [ None ↦ Err (Fault NoCommand) | Some y ↦ made_by (answer_line (first_answer y)) ])
    (Ok (Some (text_of a.0 ++ 10 ∷ [], a.1)))) (sym e) (ap (λ x. made_by (answer_line x)) g)

line_answered : (l : Option Table) (version : Option Version) (c : Command) (a : Answer) → IsWritten c
    → answer_by l c ≡ Ok a
    → answer_to_line script l version (command_text c) ≡ Ok (text_of a.0 ++ 10 ∷ [], Some a.1)
unfolding first_line_meaning line_meaning
line_answered None version c a w e = ap answered_first (first_by (command_in (command_text c)) c a (command_back c w) e)
line_answered (Some s) version c a w e =
    ap answered_later (later_by (command_in (command_text c)) c s a (command_back c w) e)

-- what is told of the bytes of a line up to its end
line_text : {S : Type 0} (hearing : Hearing S) (bytes : List ℕ) (s : Scan S) (m : List ℕ × Option S)
    → lacks 10 bytes ≡ true → length s.line + length bytes ≤ 120 → s.taken + length bytes < 16777216
    → answer_to_line hearing s.listener s.version (s.line ++ bytes) ≡ Ok m
    → (reading_of hearing s (bytes ++ 10 ∷ [])).text ≡ m.0
line_text hearing [] s m e short small a =
    let here = ap (λ l. answer_to_line hearing s.listener s.version l) (sym (append-nil s.line)) ∙ a in
    let one = reading_of-ok hearing s 10 [] _ (byte_taken-end hearing s 10 (omega arith) refl ∙ ap (after_line s) here) in
    one.0 ∙ ap (λ l. m.0 ++ l) (reading_of-nil hearing _).0 ∙ append-nil m.0
line_text hearing (b ∷ bs) s m e short small a =
    let t = and_parts (not (b == 10)) (lacks 10 bs) e in
    let other : b ≡ 10 → ⊥ = λ h. let unequal : not (b == 10) ≡ true = t.0 in grind (arith, nat_tests) in
    let one = reading_of-ok hearing s b (bs ++ 10 ∷ []) ([], with_byte s b)
    (byte_taken-byte hearing s b (omega arith) other (omega arith)) in
    one.0 ∙ line_text hearing bs (with_byte s b) m t.1 (omega (arith, length-append s.line (b ∷ []))) (omega arith)
    (ap (λ l. answer_to_line hearing s.listener s.version l) (append_assoc s.line (b ∷ []) bs) ∙ a)

-- ---- all lines

-- what holds of all holds of the last
last_of : (P : Command → Type 0) (cs : List Command) (c : Command) → All P (cs ++ c ∷ []) → P c
last_of P [] c h = h 0 c (omega arith)
last_of P (x ∷ cs) c h = last_of P cs c (λ k d below. h (suc k) d (omega arith))

-- how long commands are as lines
pub lines_short : (cs : List Command) → All IsWritten cs → length (flat_map command_line cs) ≤ 121 * length cs
lines_short [] w = omega arith
lines_short (c ∷ cs) w =
    let one = command-line c (w 0 c (omega arith)) in
    let short : length (command_text c) ≤ 120 = one.short in
    omega (
      arith,
      length-append (command_line c) (flat_map command_line cs),
      length-append (command_text c) (10 ∷ []),
      lines_short cs (λ k d below. w (suc k) d (omega arith)),
    )

pub lines_fit : (cs : List Command) → All IsWritten cs → length cs ≤ 131072 → length (script_lines cs) ≤ 15859712
unfolding script_lines
lines_fit cs w short = omega (arith, lines_short cs w)

-- the lines of commands that leave a core are heard to their end, and leave that core
heard : (cs : List Command) (l left : Option Table) (version : Option Version) (number taken : ℕ)
    → Leaves l cs left → All IsWritten cs → taken + length (flat_map command_line cs) ≤ 16777216
    → (s : Scan Table) × ((reading_of script
    (record { listener = l; version = version; line = []; number = number; taken = taken }) (flat_map command_line cs)).stands
    ≡ Ok s) × (s.line ≡ []) × (s.listener ≡ left) × (s.taken ≡ taken + length (flat_map command_line cs))
heard [] l left version number taken k w small =
    let s : Scan Table = record { listener = l; version = version; line = []; number = number; taken = taken } in
    (s, (reading_of-nil script s).1, refl, sym k, omega arith)
heard (c ∷ cs) l left version number taken k w small =
    let here = w 0 c (omega arith) in
    let one = line_answered l version c k.0 here k.1 in
    let m : List ℕ × Option Table = (text_of k.0.0 ++ 10 ∷ [], Some k.0.1) in
    let size : length (flat_map command_line (c ∷ cs)) ≡ length (command_text c) + 1 + length (flat_map command_line cs) =
    omega (
      arith,
      length-append (command_line c) (flat_map command_line cs),
      length-append (command_text c) (10 ∷ []),
    ) in
    let next : Option Version = if number == 1 then version_in (command_text c) else version in
    let line = reading_of-line script (command_text c) (flat_map command_line cs) l version next number taken m
    (command-line c here) (omega (arith, size)) one refl in
    let rest = heard cs (Some k.0.1) left next (number + 1) (taken + length (command_text c) + 1) k.2
    (λ i d below. w (suc i) d (omega arith)) (omega (arith, size)) in
    (rest.0, line ∙ rest.1, rest.2, rest.3, omega (arith, rest.4, size))

closed : (s : Scan Table) → s.line ≡ [] → closed_at script s ≡ Ok []
closed s e = ap (λ line. closed_at script (record s { line = line })) e

pub keeps_runs : KeepsRuns
unfolding script_lines script_end
keeps_runs cs core played =
    let size : length (flat_map command_line cs) ≤ 15859712 = lines_fit cs played.1 played.2 in
    let all = heard cs None core None 1 0 played.0 played.1 (omega (arith, size)) in
    (ap (ended_by script) all.1 ∙ closed all.0 all.2, (all.0, all.1, all.3))

pub answers_as_runs : AnswersAsRuns
unfolding script_lines
answers_as_runs cs core c a played more e =
    let size : length (flat_map command_line cs) ≤ 15859712 = lines_fit cs played.1 played.2 in
    let all = heard cs None core None 1 0 played.0 played.1 (omega (arith, size)) in
    let last : IsWritten c = last_of IsWritten cs c more.1 in
    let s = all.0 in
    let both = reading_of-append script (flat_map command_line cs) (command_line c) start s all.1 in
    let lines : flat_map command_line (cs ++ c ∷ []) ≡ flat_map command_line cs ++ command_line c =
    flat_map-append command_line cs (c ∷ []) ∙ ap (λ t. flat_map command_line cs ++ t) (append-nil (command_line c)) in
    let m : List ℕ × Option Table = (text_of a.0 ++ 10 ∷ [], Some a.1) in
    let one = command-line c last in
    let empty : length s.line ≡ 0 = ap length all.2 in
    let heard_by : answer_to_line script s.listener s.version (s.line ++ command_text c) ≡ Ok m =
    rw (all.2, all.3) (line_answered core s.version c a last e) in
    let told = line_text script (command_text c) s m one.no_end (omega (arith, one.short)) (omega (arith, one.short, all.4))
    heard_by in
    ap (λ t. (reading_of script start t).text) lines ∙ both.0
    ∙ ap (λ t. (reading_of script start (flat_map command_line cs)).text ++ t) told
