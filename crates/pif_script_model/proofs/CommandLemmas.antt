-- Lists of commands are scripts without a fault.
use Rattle.std.proofs.Common.{suc, ◌≡◌, ℕ, ◌+◌, ◌<◌, ◌≤◌, ◌==◌, List, [], ◌∷◌, ◌++◌, Option, Some, None, Ok, Err, length, length-append, refl, sym, ap, subst, ◌∙◌, arith, if◌then◌else◌}
use Rattle.std.specs.Prelude.{All, flat_map}
use Rattle.pif_model.specs.Table.{Table, new_table}
use Rattle.pif_text_model.specs.declared.commands.Command.{Command}
use Rattle.pif_text_model.specs.declared.commands.Command.TheVariants as command
use Rattle.pif_text_model.specs.declared.traces.Version.{Version}
use Rattle.pif_text_model.specs.declared.replies.Cause.TheVariants.{Command as NoCommand}
use Rattle.pif_text_model.specs.Commands.{command_in}
use Rattle.pif_text_model.specs.CommandTexts.{command_text, IsWritten}
use Rattle.pif_text_model.specs.Replies.{text_of}
use Rattle.pif_text_model.specs.Traces.{version_in}
use Rattle.pif_text_model.proofs.PlainTexts.{command-line}
use Rattle.pif_text_model.proofs.ReadBack.{command_back}
use Rattle.pif_script_model.specs.declared.ending.Ending.TheVariants.{Fault}
use Rattle.pif_script_model.specs.Scripts.{FirstMeaning, Meaning, Scan, answer_to_line, answered_first, answered_later, closed_at, ended_by, reading_of, start}
use Rattle.pif_text_model.specs.Limits.{default_limits}
use Rattle.pif_script_model.specs.Running.{Answer, answer_line, answer_or_fault, command_answer, first_answer, first_line_meaning, line_meaning, made_by, script}
use Rattle.pif_script_model.specs.CommandLines.{HasNoFault, IsNoLimits, StandsAnywhere, command_line, script_lines}
use Rattle.pif_script_model.proofs.SameAgainLemmas.{reading_of-line}
use Rattle.pif_script_model.proofs.ScriptLemmas.{reading_of-nil}

-- each of these commands is answered by each core
answered : (c : Command) (s : Table) → IsNoLimits c → (a : Answer) × (command_answer c s ≡ Some a)
unfolding command_answer
answered (command.Limits t m k n) s h = absurd h
answered (command.Add a) s h = (_, refl)
answered (command.Event e) s h = (_, refl)
answered (command.Run t q) s h = (_, refl)
answered (command.Ask q) s h = (_, refl)

-- and as the first command it makes a core under the default limits
first_answered : (c : Command) → IsNoLimits c
    → first_answer c ≡ answer_or_fault (command_answer c (new_table default_limits))
unfolding first_answer
first_answered (command.Limits t m k n) h = absurd h
first_answered (command.Add a) h = refl
first_answered (command.Event e) h = refl
first_answered (command.Run t q) h = refl
first_answered (command.Ask q) h = refl

-- a line that names such a command is answered, by a core, and also if there is none
later_by : (o : Option Command) (c : Command) (s : Table) (a : Answer) → o ≡ Some c → command_answer c s ≡ Some a
    → ◌≡◌ {A = Meaning Table}
    (elim o [ None ↦ Err (Fault NoCommand) | Some x ↦ answer_line (answer_or_fault (command_answer x s)) ])
    (Ok (text_of a.0 ++ 10 ∷ [], a.1))
later_by o c s a e g =
    subst (λ x. ◌≡◌ {A = Meaning Table}
    (elim x [ None ↦ Err (Fault NoCommand) | Some y ↦ answer_line (answer_or_fault (command_answer y s)) ])
    (Ok (text_of a.0 ++ 10 ∷ [], a.1))) (sym e) (ap (λ x. answer_line (answer_or_fault x)) g)

first_by : (o : Option Command) (c : Command) (a : Answer) → o ≡ Some c → first_answer c ≡ Ok a
    → ◌≡◌ {A = FirstMeaning Table}
    (elim o [ None ↦ Err (Fault NoCommand) | Some x ↦ made_by (answer_line (first_answer x)) ])
    (Ok (Some (text_of a.0 ++ 10 ∷ [], a.1)))
first_by o c a e g =
    subst (λ x. ◌≡◌ {A = FirstMeaning Table}
    (elim x [ None ↦ Err (Fault NoCommand) | Some y ↦ made_by (answer_line (first_answer y)) ])
    (Ok (Some (text_of a.0 ++ 10 ∷ [], a.1)))) (sym e) (ap (λ x. made_by (answer_line x)) g)

-- so its line is answered, whoever hears it
line_answered : (l : Option Table) (version : Option Version) (c : Command) → StandsAnywhere c
    → (m : List ℕ × Option Table) × (answer_to_line script l version (command_text c) ≡ Ok m)
unfolding first_line_meaning line_meaning
line_answered None version c h =
    let a = answered c (new_table default_limits) h.0 in
    let first = first_answered c h.0 ∙ ap answer_or_fault a.1 in
    let m : List ℕ × Option Table = (text_of a.0.0 ++ 10 ∷ [], Some a.0.1) in
    (m, ap answered_first (first_by (command_in (command_text c)) c a.0 (command_back c h.1) first))
line_answered (Some s) version c h =
    let a = answered c s h.0 in
    let m : List ℕ × Option Table = (text_of a.0.0 ++ 10 ∷ [], Some a.0.1) in
    (m, ap answered_later (later_by (command_in (command_text c)) c s a.0 (command_back c h.1) a.1))

-- the lines of commands are heard to their end, from between two lines on
lines_answered : (cs : List Command) (l : Option Table) (version : Option Version) (number taken : ℕ)
    → All StandsAnywhere cs → taken + length (flat_map command_line cs) ≤ 16777216
    → (s : Scan Table) × ((reading_of script
    (record { listener = l; version = version; line = []; number = number; taken = taken }) (flat_map command_line cs)).stands
    ≡ Ok s) × (s.line ≡ [])
lines_answered [] l version number taken h small =
    let s : Scan Table = record { listener = l; version = version; line = []; number = number; taken = taken } in
    (s, (reading_of-nil script s).1, refl)
lines_answered (c ∷ cs) l version number taken h small =
    let one = line_answered l version c (h 0 c (omega arith)) in
    let bound : taken + (length (command_text c) + 1) + length (flat_map command_line cs) ≤ 16777216 =
    omega (
      arith,
      length-append (command_line c) (flat_map command_line cs),
      length-append (command_text c) (10 ∷ []),
    ) in
    let next : Option Version = if number == 1 then version_in (command_text c) else version in
    let line = reading_of-line script (command_text c) (flat_map command_line cs) l version next number taken one.0
    (command-line c (h 0 c (omega arith)).1) (omega arith) one.1 refl in
    let rest = lines_answered cs one.0.1 next (number + 1) (taken + length (command_text c) + 1)
    (λ k d below. h (suc k) d (omega arith)) (omega arith) in
    (rest.0, line ∙ rest.1, rest.2)

closed : (s : Scan Table) → s.line ≡ [] → closed_at script s ≡ Ok []
closed s e = ap (λ line. closed_at script (record s { line = line })) e

pub no_fault : (cs : List Command) → All StandsAnywhere cs → length (script_lines cs) ≤ 16777216
    → HasNoFault (script_lines cs)
unfolding script_lines
no_fault cs h small =
    let size : length (flat_map command_line cs) ≤ 16777216 = small in
    let all = lines_answered cs None None 1 0 h (omega (arith, size)) in
    ap (ended_by script) all.1 ∙ closed all.0 all.2
