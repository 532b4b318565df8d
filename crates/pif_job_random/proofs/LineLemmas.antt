-- One line more, and what is written line by line.
use Rattle.std.proofs.Common.{zero, suc, ◌≡◌, ℕ, ◌+◌, ◌-◌, ◌<◌, ◌≤◌, ◌*◌, List, [], ◌∷◌, ◌++◌, length, length-append, refl, sym, ap, subst, ◌∙◌, append_assoc, append-nil, arith, Option, Result, Ok, Err}
use Rattle.std.proofs.KnownBytes.{Appends-nil, Appends-trans}
use Rattle.std.specs.Io.KnownBytes.{Appends}
use Rattle.std.specs.Prelude.{All, flat_map}
use Rattle.std.proofs.lemmas.List.Elements.{All-append, All-nil}
use Rattle.pif_text_model.specs.declared.commands.Command.{Command}
use Rattle.pif_script_model.specs.CommandLines.{HasNoFault, StandsAnywhere, command_line, script_lines}
use Rattle.pif_script_model.specs.Runs.{Writes, WritesPart}
use Rattle.pif_script_model.specs.declared.faults.CliFault.{CliFault}
use Rattle.pif_script_model.specs.declared.faults.CliFault.TheVariants.{Read, Write, NoMemory, Script, Differs}
use Rattle.pif_script_model.proofs.CommandLemmas.{no_fault}
use Rattle.pif_script_model.proofs.RunLemmas.{Writes-more}
use Rattle.pif_job_random.specs.Lines.{AddsLines, IsRandom, WritesLines, WritesScript}

-- ---- lines that are appended

no_line : (old : List ℕ) → AddsLines 0 old old
unfolding script_lines
no_line old = ([], refl, All-nil StandsAnywhere, sym (append-nil old), omega arith)

flat_map-append : (xs ys : List Command)
    → flat_map command_line (xs ++ ys) ≡ flat_map command_line xs ++ flat_map command_line ys
flat_map-append [] ys = refl
flat_map-append (x ∷ xs) ys =
    ap (λ t. command_line x ++ t) (flat_map-append xs ys)
    ∙ sym (append_assoc (command_line x) (flat_map command_line xs) (flat_map command_line ys))

single : (c : Command) → StandsAnywhere c → All StandsAnywhere (c ∷ [])
single c h zero d below = h
single c h (suc i) d below = absurd (omega (arith, below))

one_line : (count : ℕ) (old new next : List ℕ) (c : Command) → AddsLines count old new → StandsAnywhere c
    → next ≡ new ++ command_line c → length (command_line c) ≤ 63 → AddsLines (count + 1) old next
unfolding script_lines
one_line count old new next c h stands e short =
    let cs = h.0 in
    let lines = flat_map command_line cs in
    let more : flat_map command_line (cs ++ c ∷ []) ≡ lines ++ command_line c =
    flat_map-append cs (c ∷ []) ∙ ap (λ t. lines ++ t) (append-nil (command_line c)) in (
      cs ++ c ∷ [],
      omega (arith, h.1, length-append cs (c ∷ [])),
      All-append StandsAnywhere cs (c ∷ []) h.2 (single c stands),
      e ∙ ap (λ t. t ++ command_line c) h.3 ∙ append_assoc old lines (command_line c)
          ∙ ap (λ t. old ++ t) (sym more),
      omega (arith, ap length more, length-append lines (command_line c), h.4),
    )

-- ---- lines that are written

-- so many lines were written
abbrev pub Written : (count : ℕ) → (held holds : Option (List ℕ)) → Type 0
Written count held holds = (text : List ℕ) × AddsLines count [] text × Appends held holds text

pub none_written : (held : Option (List ℕ)) → Written 0 held held
none_written held = ([], no_line [], Appends-nil held)

pub one_written : (count : ℕ) (held holds after : Option (List ℕ)) (c : Command) → Written count held holds
    → StandsAnywhere c → length (command_line c) ≤ 63 → Appends holds after (command_line c) → Written (count + 1) held after
one_written count held holds after c w stands short next = (
  w.0 ++ command_line c,
  one_line count [] w.0 (w.0 ++ command_line c) c w.1 stands refl short,
  Appends-trans held holds after w.0 (command_line c) w.2 next,
)

-- a text of which a part was written may go on in any way: here by the same line again and again
more_lines : (more count all : ℕ) (text : List ℕ) (c : Command) → StandsAnywhere c → length (command_line c) ≤ 63
    → all ≡ more + count → AddsLines count [] text → (rest : List ℕ) × AddsLines all [] (text ++ rest)
more_lines zero count all text c stands short e h =
    let same : count ≡ all = omega (arith, e) in
    ([], subst (λ n. AddsLines n [] (text ++ [])) same (subst (AddsLines count []) (sym (append-nil text)) h))
more_lines (suc more) count all text c stands short e h =
    let next = more_lines more count (more + count) text c stands short refl h in
    let line = command_line c in
    let same : more + count + 1 ≡ all = omega (arith, e) in (
      next.0 ++ line,
      subst (λ n. AddsLines n [] (text ++ (next.0 ++ line))) same
          (one_line (more + count) [] (text ++ next.0) (text ++ (next.0 ++ line)) c next.1 stands
          (sym (append_assoc text next.0 line)) short),
    )

-- a line was not written to its end, and none was to come after so many
pub line_unwritten : (lines count : ℕ) (held holds after : Option (List ℕ)) (c : Command) (e : CliFault) → count < lines
    → Written count held holds → StandsAnywhere c → length (command_line c) ≤ 63
    → Writes holds after (command_line c) (Err e) → WritesLines lines held after (Err e)
line_unwritten lines count held holds after c Write below w stands short part =
    let text = w.0 ++ command_line c in
    let many : lines ≡ lines - (count + 1) + (count + 1) = omega (arith, below) in
    let all = more_lines (lines - (count + 1)) (count + 1) lines text c stands short many
    (one_line count [] w.0 text c w.1 stands refl short) in (
      text ++ all.0,
      all.1,
      subst (WritesPart held after) (sym (append_assoc w.0 (command_line c) all.0))
          (Writes-more w.0 (command_line c) (command_line c) all.0 held holds after Write w.2 refl part),
    )
line_unwritten lines count held holds after c Read below w stands short part = absurd part
line_unwritten lines count held holds after c NoMemory below w stands short part = absurd part
line_unwritten lines count held holds after c (Script l x) below w stands short part = absurd part
line_unwritten lines count held holds after c (Differs l) below w stands short part = absurd part

-- ---- scripts

is_random : (count : ℕ) (text : List ℕ) → AddsLines count [] text → IsRandom count text
is_random count text a =
    ((a.0, a.1, a.2, a.3), λ few. subst HasNoFault (sym a.3) (no_fault a.0 a.2 (omega (arith, a.4, few))))

-- lines that were written are a script
pub as_script : (count : ℕ) (held holds : Option (List ℕ)) (result : Result (Unit {0}) CliFault)
    → WritesLines count held holds result → WritesScript count held holds result
as_script count held holds (Ok x) w = (w.0, is_random count w.0 w.1, w.2)
as_script count held holds (Err Write) w = (w.0, is_random count w.0 w.1, w.2)
as_script count held holds (Err Read) w = absurd w
as_script count held holds (Err NoMemory) w = absurd w
as_script count held holds (Err (Script l x)) w = absurd w
as_script count held holds (Err (Differs l)) w = absurd w
