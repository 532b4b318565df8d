-- If no line is told anything, nothing is; and so it is with traces.
use Rattle.std.proofs.Common.{◌≡◌, ℕ, ◌+◌, ◌==◌, Bool, cond, true, false, List, [], ◌∷◌, ◌++◌, Option, Some, None, Result, Ok, Err, bytes_eq, refl, sym, ap, ◌∙◌, subst, inl, inr}
use Rattle.std.specs.Io.KnownBytes.{Appends}
use Rattle.std.proofs.KnownBytes.{Keeps-refl}
use Rattle.pif_text_model.specs.declared.commands.Command.{Command}
use Rattle.pif_text_model.specs.declared.replies.Cause.{Cause}
use Rattle.pif_text_model.specs.declared.replies.Cause.TheVariants.{Command as NoCommand}
use Rattle.pif_text_model.specs.Replies.{text_of}
use Rattle.pif_text_model.specs.declared.traces.Version.{Version}
use Rattle.pif_text_model.specs.Traces.{version_in}
use Rattle.pif_script_model.specs.declared.faults.CliFault.{CliFault}
use Rattle.pif_script_model.specs.declared.faults.CliFault.TheVariants as fault
use Rattle.pif_script_model.specs.declared.ending.Ending.TheVariants.{Fault, Differs}
use Rattle.pif_script_model.specs.declared.ending.End.{End}
use Rattle.pif_script_model.specs.Scripts.{Hearing, FirstMeaning, Meaning, Answered, Scan, start, byte_taken, reading_of, line_answer, answer_to_line, answered_first, answered_later, after_line, version_after, with_byte}
use Rattle.pif_script_model.specs.Runs.{RunsFrom, WritesPart}
use Rattle.pif_script_model.specs.Running.{Answer, first_answer, answer_or_fault, command_answer, made_by}
use Rattle.pif_script_model.specs.Traces.{Replay, comparison, header_meaning, opening_meaning, second_line_meaning, traced_meaning, traced_in, trace_hearing, trace_end, verdict, ReplaysTo}
use Rattle.pif_script_model.proofs.RunLemmas.{Appends-kept_before}
use Rattle.pif_script_model.proofs.ScriptLemmas.{by_cases, reading_of-nil, reading_of-ok, reading_of-err}

module _ {S : Type 0} (hearing : Hearing S)
    (first : (version : Option Version) (line : List ℕ) (m : List ℕ × S) → hearing.first_meaning version line ≡ Ok (Some m) → m.0 ≡ [])
    (later : (s : S) (line : List ℕ) (m : List ℕ × S) → hearing.meaning s line ≡ Ok m → m.0 ≡ []) where
  first-silent : (x : FirstMeaning S) (m : List ℕ × Option S) → ((y : List ℕ × S) → x ≡ Ok (Some y) → y.0 ≡ [])
      → answered_first x ≡ Ok m → m.0 ≡ []
  first-silent (Ok (Some y)) m u p =
      let q : (y.0, Some y.1) ≡ m = cc in
      sym (ap (λ (z : List ℕ × Option S). z.0) q) ∙ u y refl
  first-silent (Ok None) m u p = let q : ([], None) ≡ m = cc in sym (ap (λ (z : List ℕ × Option S). z.0) q)
  first-silent (Err e) m u p = cc

  later-silent : (x : Meaning S) (m : List ℕ × Option S) → ((y : List ℕ × S) → x ≡ Ok y → y.0 ≡ [])
      → answered_later x ≡ Ok m → m.0 ≡ []
  later-silent (Ok y) m u p =
      let q : (y.0, Some y.1) ≡ m = cc in
      sym (ap (λ (z : List ℕ × Option S). z.0) q) ∙ u y refl
  later-silent (Err e) m u p = cc

  answered-silent : (l : Option S) (version : Option Version) (line : List ℕ) (m : List ℕ × Option S)
      → answer_to_line hearing l version line ≡ Ok m → m.0 ≡ []
  answered-silent None version line m p = first-silent (hearing.first_meaning version line) m (first version line) p
  answered-silent (Some l) version line m p = later-silent (hearing.meaning l line) m (later l line) p

  after_line-silent : (s : Scan S) (x : Answered S) (r : List ℕ × Scan S)
      → ((m : List ℕ × Option S) → x ≡ Ok m → m.0 ≡ []) → after_line s x ≡ Ok r → r.0 ≡ []
  after_line-silent s (Ok m) r u p =
      let q : (m.0, record { listener = m.1; version = version_after s; line = []; number = s.number + 1; taken = s.taken + 1 }) ≡ r = cc in
      sym (ap (λ (z : List ℕ × Scan S). z.0) q) ∙ u m refl
  after_line-silent s (Err e) r u p = cc

  silent-by : (x y z : Bool) (s : Scan S) (b : ℕ) (m : Answered S) (f g : End) (r : List ℕ × Scan S)
      → ((v : List ℕ × Option S) → m ≡ Ok v → v.0 ≡ [])
      → cond x (cond y (after_line s m) (cond z (Ok ([], with_byte s b)) (Err f))) (Err g) ≡ Ok r → r.0 ≡ []
  silent-by true true z s b m f g r u p = after_line-silent s m r u p
  silent-by true false true s b m f g r u p =
      let q : ([], with_byte s b) ≡ r = cc in sym (ap (λ (x : List ℕ × Scan S). x.0) q)
  silent-by true false false s b m f g r u p = cc
  silent-by false y z s b m f g r u p = cc

  byte_taken-silent : (s : Scan S) (b : ℕ) (r : List ℕ × Scan S) → byte_taken hearing s b ≡ Ok r → r.0 ≡ []
  unfolding byte_taken
  byte_taken-silent s b r p =
      silent-by _ _ _ s b (line_answer hearing s) _ _ r (answered-silent s.listener s.version s.line) p

  pub reading_of-silent : (bs : List ℕ) (s : Scan S) → (reading_of hearing s bs).text ≡ []
  reading_of-silent [] s = (reading_of-nil hearing s).0
  reading_of-silent (b ∷ bs) s =
      elim (by_cases (byte_taken hearing s b)) [
        | inl r ↦
            let one = reading_of-ok hearing s b bs r.0 r.1 in
            one.0 ∙ rw (byte_taken-silent s b r.0 r.1) (reading_of-silent bs r.0.1)
        | inr r ↦ (reading_of-err hearing s b bs r.0 r.1).0
      ]

-- ---- traces

comparison-by : (x : Bool) (v : Version) (a : Answer) (m : List ℕ × Replay)
    → ◌≡◌ {A = Meaning Replay} (cond x (Ok ([], record { version = v; core = a.1 })) (Err (Differs a.0))) (Ok m)
    → m.0 ≡ []
comparison-by true v a m p =
    let q : ([], record { version = v; core = a.1 }) ≡ m = cc in sym (ap (λ (z : List ℕ × Replay). z.0) q)
comparison-by false v a m p = cc

comparison-silent : (v : Version) (recorded : List ℕ) (a : Result Answer Cause) (m : List ℕ × Replay)
    → comparison v recorded a ≡ Ok m → m.0 ≡ []
comparison-silent v recorded (Ok a) m p = comparison-by (bytes_eq (text_of a.0) recorded) v a m p
comparison-silent v recorded (Err c) m p = cc

made-silent : (x : Meaning Replay) (m : List ℕ × Replay) → made_by x ≡ Ok (Some m) → x ≡ Ok m
made-silent (Ok y) m p = let q : y ≡ m = cc in ap Ok q
made-silent (Err e) m p = cc

header-silent : (o : Option Version) (m : List ℕ × Replay) → header_meaning o ≡ Ok (Some m) → m.0 ≡ []
header-silent (Some v) m p = cc
header-silent None m p = cc

second-by : (v : Version) (o : Option (Command × List ℕ)) (m : List ℕ × Replay)
    → ◌≡◌ {A = FirstMeaning Replay} (elim o
    [ None ↦ Err (Fault NoCommand) | Some p ↦ made_by (comparison v p.1 (first_answer p.0)) ]) (Ok (Some m)) → m.0 ≡ []
second-by v None m p = cc
second-by v (Some q) m p =
    comparison-silent v q.1 (first_answer q.0) m (made-silent (comparison v q.1 (first_answer q.0)) m p)

opened-silent : (version : Option Version) (line : List ℕ) (m : List ℕ × Replay)
    → opening_meaning version line ≡ Ok (Some m) → m.0 ≡ []
unfolding second_line_meaning
opened-silent None line m p = header-silent (version_in line) m p
opened-silent (Some v) line m p = second-by v (traced_in v line) m p

traced-by : (o : Option (Command × List ℕ)) (r : Replay) (m : List ℕ × Replay)
    → ◌≡◌ {A = Meaning Replay} (elim o [
      | None ↦ Err (Fault NoCommand)
      | Some p ↦ comparison r.version p.1 (answer_or_fault (command_answer p.0 r.core))
    ]) (Ok m) → m.0 ≡ []
traced-by None r m p = cc
traced-by (Some q) r m p = comparison-silent r.version q.1 (answer_or_fault (command_answer q.0 r.core)) m p

traced-silent : (r : Replay) (line : List ℕ) (m : List ℕ × Replay) → traced_meaning r line ≡ Ok m → m.0 ≡ []
unfolding traced_meaning
traced-silent r line m p = traced-by (traced_in r.version line) r m p

-- nothing is told before the end of a trace
trace-silent : (bytes : List ℕ) → (reading_of trace_hearing start bytes).text ≡ []
trace-silent bytes =
    reading_of-silent trace_hearing opened-silent traced-silent bytes start

pub ReplaysTo-from : (a b h k : Option (List ℕ)) (result : Result (Unit {0}) CliFault)
    → RunsFrom trace_hearing start a b h k result → ReplaysTo a b h k result
unfolding verdict trace_end
ReplaysTo-from a b h k (Ok x) r =
    let silent = trace-silent r.0 in (
      r.0,
      r.1,
      (
        r.2.0,
        r.2.1,
        subst (λ text. Appends h k (text ++ verdict r.0)) silent r.2.2,
      ),
    )
ReplaysTo-from a b h k (Err (fault.Differs line)) r =
    let silent = trace-silent r.0 in (
      r.0,
      r.1,
      (
        r.2.0,
        subst (λ text. Appends h k (text ++ verdict r.0)) silent r.2.1,
      ),
    )
ReplaysTo-from a b h k (Err (fault.Script line cause)) r =
    let silent = trace-silent r.0 in (
      r.0,
      r.1,
      (
        r.2.0,
        r.2.1,
        subst (λ text. Appends h k (text ++ verdict r.0)) silent r.2.2,
      ),
    )
ReplaysTo-from a b h k (Err fault.Read) r = (
  r.0,
  r.1,
  (
    r.2.0,
    Appends-kept_before h k k [] (subst (λ text. Appends h k text) (trace-silent r.0) r.2.1)
        (Keeps-refl k),
  ),
)
ReplaysTo-from a b h k (Err fault.Write) r = (
  r.0,
  r.1,
  subst (λ text. WritesPart h k (text ++ verdict r.0)) (trace-silent r.0) r.2,
)
ReplaysTo-from a b h k (Err fault.NoMemory) r = r
