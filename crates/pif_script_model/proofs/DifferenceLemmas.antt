-- If no line is a difference, a run ends with none; and a run of a script has none.
use Rattle.std.proofs.Common.{◌≡◌, ℕ, ◌==◌, Bool, cond, length, true, false, List, [], ◌∷◌, Option, Some, None, Result, Ok, Err, refl, sym, ap, ◌∙◌, subst, inl, inr}
use Rattle.pif_model.specs.Table.{Table}
use Rattle.pif_text_model.specs.declared.commands.Command.{Command}
use Rattle.pif_text_model.specs.declared.replies.Cause.{Cause}
use Rattle.pif_text_model.specs.declared.replies.Cause.TheVariants.{Command as NoCommand, Size, Long, Cut}
use Rattle.pif_text_model.specs.declared.replies.Reply.{Reply}
use Rattle.pif_text_model.specs.declared.traces.Version.{Version}
use Rattle.pif_text_model.specs.Commands.{command_in}
use Rattle.pif_script_model.specs.declared.faults.CliFault.{CliFault}
use Rattle.pif_script_model.specs.declared.faults.CliFault.TheVariants as fault
use Rattle.pif_script_model.specs.declared.ending.Ending.{Ending}
use Rattle.pif_script_model.specs.declared.ending.Ending.TheVariants.{Fault, Differs}
use Rattle.pif_script_model.specs.declared.ending.End.{End}
use Rattle.pif_script_model.specs.Scripts.{Hearing, FirstMeaning, Meaning, Answered, Scan, start, byte_taken, reading_of, line_answer, answer_to_line, answered_first, answered_later, after_line, end_at, with_byte, at_end, ended_by}
use Rattle.pif_script_model.specs.Runs.{RunsFrom}
use Rattle.pif_script_model.specs.Running.{Answer, RunsTo, script, first_line_meaning, line_meaning, first_answer, answer_or_fault, command_answer, answer_line, made_by}
use Rattle.pif_script_model.proofs.ScriptLemmas.{by_cases, reading_of-nil, reading_of-ok, reading_of-err}

-- an end that is a fault
abbrev pub IsFault : Ending → Type 0
IsFault e = (r : Reply) → e ≡ Differs r → ⊥

pub fault-is : (c : Cause) → IsFault (Fault c)
fault-is c r e = cc

module _ {S : Type 0} (hearing : Hearing S)
    (first : (version : Option Version) (line : List ℕ) (e : Ending) → hearing.first_meaning version line ≡ Err e → IsFault e)
    (later : (s : S) (line : List ℕ) (e : Ending) → hearing.meaning s line ≡ Err e → IsFault e) where
  first-fault : (m : FirstMeaning S) (e : Ending) → answered_first m ≡ Err e → m ≡ Err e
  first-fault (Ok (Some m)) e p = cc
  first-fault (Ok None) e p = cc
  first-fault (Err x) e p = let q : x ≡ e = cc in ap Err q

  later-fault : (m : Meaning S) (e : Ending) → answered_later m ≡ Err e → m ≡ Err e
  later-fault (Ok m) e p = cc
  later-fault (Err x) e p = let q : x ≡ e = cc in ap Err q

  answered-fault : (l : Option S) (version : Option Version) (line : List ℕ) (e : Ending) → answer_to_line hearing l version line ≡ Err e
      → IsFault e
  answered-fault None version line e p = first version line e (first-fault (hearing.first_meaning version line) e p)
  answered-fault (Some l) version line e p = later l line e (later-fault (hearing.meaning l line) e p)

  after_line-fault : (s : Scan S) (m : Answered S) (x : End) → ((e : Ending) → m ≡ Err e → IsFault e)
      → after_line s m ≡ Err x → IsFault x.ending
  after_line-fault s (Ok m) x u p = cc
  after_line-fault s (Err e) x u p =
      let q : end_at s e ≡ x = cc in subst IsFault (ap (λ (y : End). y.ending) q) (u e refl)

  fault-by : (x y z : Bool) (s : Scan S) (b : ℕ) (m : Answered S) (e : End) → ((v : Ending) → m ≡ Err v → IsFault v)
      → cond x (cond y (after_line s m) (cond z (Ok ([], with_byte s b)) (Err (end_at s (Fault Long)))))
      (Err (end_at s (Fault Size))) ≡ Err e → IsFault e.ending
  fault-by true true z s b m e u p = after_line-fault s m e u p
  fault-by true false true s b m e u p = cc
  fault-by true false false s b m e u p =
      let q : end_at s (Fault Long) ≡ e = cc in subst IsFault (ap (λ (y : End). y.ending) q) (fault-is Long)
  fault-by false y z s b m e u p =
      let q : end_at s (Fault Size) ≡ e = cc in subst IsFault (ap (λ (y : End). y.ending) q) (fault-is Size)

  byte_taken-fault : (s : Scan S) (b : ℕ) (e : End) → byte_taken hearing s b ≡ Err e → IsFault e.ending
  unfolding byte_taken
  byte_taken-fault s b e p = fault-by _ _ _ s b (line_answer hearing s) e (answered-fault s.listener s.version s.line) p

  reading_of-fault : (bs : List ℕ) (s : Scan S) (e : End) → (reading_of hearing s bs).stands ≡ Err e → IsFault e.ending
  reading_of-fault [] s e p = let n = reading_of-nil hearing s in let bad : Ok s ≡ Err e = sym n.1 ∙ p in cc
  reading_of-fault (b ∷ bs) s e p =
      elim (by_cases (byte_taken hearing s b)) [
        | inl r ↦ let one = reading_of-ok hearing s b bs r.0 r.1 in reading_of-fault bs r.0.1 e (sym one.1 ∙ p)
        | inr r ↦
            let one = reading_of-err hearing s b bs r.0 r.1 in
            let same : Err r.0 ≡ Err e = sym one.1 ∙ p in
            let q : r.0 ≡ e = cc in
            subst IsFault (ap (λ (y : End). y.ending) q) (byte_taken-fault s b r.0 r.1)
      ]

  at_end-fault : (s : Scan S) (told : Result (List ℕ) Cause) (e : End) → at_end s told ≡ Err e → IsFault e.ending
  at_end-fault s (Ok text) e p = cc
  at_end-fault s (Err c) e p =
      let q : end_at s (Fault c) ≡ e = cc in subst IsFault (ap (λ (y : End). y.ending) q) (fault-is c)

  closed-by : (x : Bool) (s : Scan S) (told : Result (List ℕ) Cause) (e : End)
      → cond x (at_end s told) (Err (end_at s (Fault Cut))) ≡ Err e → IsFault e.ending
  closed-by true s told e p = at_end-fault s told e p
  closed-by false s told e p =
      let q : end_at s (Fault Cut) ≡ e = cc in subst IsFault (ap (λ (y : End). y.ending) q) (fault-is Cut)

  ended-by : (stands : Result (Scan S) End) (e : End) → ((x : End) → stands ≡ Err x → IsFault x.ending)
      → ended_by hearing stands ≡ Err e → IsFault e.ending
  ended-by (Err x) e u p = let q : x ≡ e = cc in u e (ap Err q)
  ended-by (Ok s) e u p = closed-by (length s.line == 0) s (hearing.end_text s.number) e p

  -- bytes that end a script end it with a fault
  pub ends-with_fault : (bs : List ℕ) (s : Scan S) (line : ℕ) (r : Reply)
      → ended_by hearing (reading_of hearing s bs).stands ≡ Err (record { line = line; ending = Differs r }) → ⊥
  ends-with_fault bs s line r p = ended-by (reading_of hearing s bs).stands _ (reading_of-fault bs s) p r refl

-- ---- scripts

answer_line-fault : (a : Result Answer Cause) (e : Ending) → answer_line a ≡ Err e → IsFault e
answer_line-fault (Ok a) e p = cc
answer_line-fault (Err c) e p = let q : Fault c ≡ e = cc in subst IsFault q (fault-is c)

made-fault : (m : Meaning Table) (e : Ending) → made_by m ≡ Err e → m ≡ Err e
made-fault (Ok m) e p = cc
made-fault (Err x) e p = let q : x ≡ e = cc in ap Err q

no_command-fault : (e : Ending) → Fault NoCommand ≡ e → IsFault e
no_command-fault e p = subst IsFault p (fault-is NoCommand)

first_line-by : (o : Option Command) (e : Ending)
    → ◌≡◌ {A = FirstMeaning Table} (elim o
    [ None ↦ Err (Fault NoCommand) | Some c ↦ made_by (answer_line (first_answer c)) ]) (Err e) → IsFault e
first_line-by None e p = no_command-fault e (cc)
first_line-by (Some c) e p = answer_line-fault (first_answer c) e (made-fault (answer_line (first_answer c)) e p)

line-by : (o : Option Command) (s : Table) (e : Ending)
    → ◌≡◌ {A = Meaning Table} (elim o
    [ None ↦ Err (Fault NoCommand) | Some c ↦ answer_line (answer_or_fault (command_answer c s)) ]) (Err e) → IsFault e
line-by None s e p = no_command-fault e (cc)
line-by (Some c) s e p = answer_line-fault (answer_or_fault (command_answer c s)) e p

first_line-fault : (line : List ℕ) (e : Ending) → first_line_meaning line ≡ Err e → IsFault e
unfolding first_line_meaning
first_line-fault line e p = first_line-by (command_in line) e p

line-fault : (s : Table) (line : List ℕ) (e : Ending) → line_meaning s line ≡ Err e → IsFault e
unfolding line_meaning
line-fault s line e p = line-by (command_in line) s e p

-- a script ends with no difference
pub script_ends-with_fault : (bs : List ℕ) (line : ℕ) (r : Reply)
    → ended_by script (reading_of script start bs).stands ≡ Err (record { line = line; ending = Differs r }) → ⊥
script_ends-with_fault bs line r p = ends-with_fault script (λ version. first_line-fault) line-fault bs start line r p

pub RunsTo-from : (a b h k : Option (List ℕ)) (result : Result (Unit {0}) CliFault)
    → RunsFrom script start a b h k result → RunsTo a b h k result
RunsTo-from a b h k (Ok x) r = r
RunsTo-from a b h k (Err (fault.Differs line)) r =
    script_ends-with_fault r.0 line r.2.0.0 r.2.0.1
RunsTo-from a b h k (Err (fault.Script line cause)) r = r
RunsTo-from a b h k (Err fault.Read) r = r
RunsTo-from a b h k (Err fault.Write) r = r
RunsTo-from a b h k (Err fault.NoMemory) r = r
