-- The run of a story's script.
use Rattle.std.proofs.Common.{◌≡◌, ℕ, Bool, true, false, List, [], ◌∷◌, ◌++◌, Option, Some, None, Result, Ok, Err, append-nil, inl, inr, refl, sym, ap, ◌∙◌, subst, if◌then◌else◌}
use Rattle.std.specs.Prelude.{is_ok}
use Rattle.std.proofs.lemmas.Bool.{false≢true}
use Rattle.std.specs.Io.KnownBytes.{Appends}
use Rattle.pif_text_model.specs.declared.replies.Cause.{Cause}
use Rattle.pif_script_model.specs.declared.faults.CliFault.{CliFault}
use Rattle.pif_script_model.specs.declared.faults.CliFault.TheVariants.{Differs, NoMemory, Read, Script, Write}
use Rattle.pif_script_model.specs.declared.ending.End.{End}
use Rattle.pif_script_model.specs.Running.{RunsTo, script}
use Rattle.pif_script_model.specs.Runs.{WritesPart, output_of}
use Rattle.pif_script_model.specs.Scripts.{Hearing, Reading, Scan, ended_by, reading_of, start}
use Rattle.pif_script_model.specs.Transcripts.{script_end}
use Rattle.pif_script_model.proofs.ScriptLemmas.{by_cases}
use Rattle.pif_script_model.specs.Migrating.{IsAllRead, ReadsTo}
use Rattle.pif_script_model.specs.Checks.{Telling, TellsOfStory, TellsTo, WritesTelling, check_end, checked_telling, fault_in, fill_telling, filled_or, flaws_beside, flaws_telling, script_fault, story_flaws, text_of_run, title_telling, titled_telling}
use Rattle.pif_script_model.specs.Filling.{titled}
use Rattle.pif_script_model.specs.Verdicts.{Flaw, differing, faulty, refusing}
use Rattle.pif_script_model.proofs.AnswerLines.{stopped}

same_output : {S : Type 0} (hearing : Hearing S) (f g : Reading S) → g.text ≡ f.text → g.stands ≡ f.stands
    → output_of hearing g ≡ output_of hearing f
same_output hearing f g t s = rw (t, s) refl

-- what was read stands for all, if what is left stands behind a line that ends the script, or is nothing
whole : {S : Type 0} (hearing : Hearing S) (s : Scan S) (bytes read left : List ℕ) → bytes ≡ read ++ left
    → (is_ok (reading_of hearing s read).stands ≡ true → left ≡ [])
    → ((reading_of hearing s bytes).text ≡ (reading_of hearing s read).text)
    × ((reading_of hearing s bytes).stands ≡ (reading_of hearing s read).stands)
whole hearing s bytes read left e h =
    elim (by_cases (reading_of hearing s read).stands) [
      | inl r ↦
          let all : bytes ≡ read = e ∙ ap (λ l. read ++ l) (h (ap is_ok r.1)) ∙ append-nil read in
          (ap (λ l. (reading_of hearing s l).text) all, ap (λ l. (reading_of hearing s l).stands) all)
      | inr r ↦
          let more = stopped hearing read left s r.0 r.1 in (
            ap (λ l. (reading_of hearing s l).text) e ∙ more.0,
            ap (λ l. (reading_of hearing s l).stands) e ∙ more.1 ∙ sym r.1,
          )
    ]

-- a script that ended well has no fault
pub ran_well : (bytes left out : List ℕ) (x : Unit {0})
    → RunsTo (Some bytes) (Some left) (Some []) (Some out) (Ok x)
    → (out ≡ text_of_run bytes) × (None ≡ script_fault bytes)
unfolding text_of_run script_fault script_end
ran_well bytes left out x r =
    let same = whole script start bytes r.0 left r.1 (λ _. r.2.1) in (
      r.2.2 ∙ sym (same_output script (reading_of script start r.0) (reading_of script start bytes) same.0 same.1),
      none (ended_by script (reading_of script start bytes).stands)
          (ap (λ f. is_ok (ended_by script f)) same.1 ∙ r.2.0),
    )
  where
    none : (e : Result (List ℕ) End) → is_ok e ≡ true → None ≡ fault_in e
    none (Ok text) ok = refl
    none (Err end) ok = absurd (false≢true ok)

-- the fault of a script that ended so
pub ran_to_fault : (bytes left out : List ℕ) (line : ℕ) (cause : Cause)
    → RunsTo (Some bytes) (Some left) (Some []) (Some out) (Err (Script line cause))
    → (out ≡ text_of_run bytes) × (Some (line, cause) ≡ script_fault bytes)
unfolding text_of_run script_fault script_end
ran_to_fault bytes left out line cause r =
    let same = whole script start bytes r.0 left r.1 r.2.1 in (
      r.2.2 ∙ sym (same_output script (reading_of script start r.0) (reading_of script start bytes) same.0 same.1),
      sym (ap fault_in (ap (ended_by script) same.1 ∙ r.2.0)),
    )

-- ---- what is told

-- how a check may end that could be told
abbrev IsEnd : Result (Unit {0}) CliFault → Type 0
IsEnd (Ok x) = Unit {0}
IsEnd (Err (Script line cause)) = Unit {0}
IsEnd (Err (Differs line)) = Unit {0}
IsEnd (Err Read) = ⊥
IsEnd (Err Write) = ⊥
IsEnd (Err NoMemory) = ⊥

check_end-ends : (flaws : List Flaw) → IsEnd (check_end flaws)
check_end-ends [] = tt
check_end-ends (faulty line command cause ∷ more) = tt
check_end-ends (differing line command written given ∷ more) = tt
check_end-ends (refusing line command given ∷ more) = tt

whole-told : (telling : List ℕ → Telling) (b h k : Option (List ℕ)) (bytes : List ℕ) (end : Result (Unit {0}) CliFault)
    → (telling bytes).1 ≡ end → IsEnd end → IsAllRead bytes b → Appends h k (telling bytes).0
    → TellsOfStory telling bytes b h k end
whole-told telling b h k bytes (Ok x) e i all w = (e, all, w)
whole-told telling b h k bytes (Err (Script line cause)) e i all w = (e, all, w)
whole-told telling b h k bytes (Err (Differs line)) e i all w = (e, all, w)
whole-told telling b h k bytes (Err Read) e i all w = absurd i
whole-told telling b h k bytes (Err Write) e i all w = absurd i
whole-told telling b h k bytes (Err NoMemory) e i all w = absurd i

tells-written : (telling : List ℕ → Telling) (a b h k : Option (List ℕ)) (bytes text : List ℕ)
    (end result : Result (Unit {0}) CliFault) → ReadsTo a b bytes → ◌≡◌ {A = Telling} (text, end) (telling bytes)
    → IsEnd (telling bytes).1 → WritesTelling h k text end result → TellsTo telling a b h k result
tells-written telling a b h k bytes text end result r t i (inl w) =
    let same : result ≡ (telling bytes).1 = w.0 ∙ ap (λ (x : Telling). x.1) t in
    subst (λ x. TellsTo telling a b h k x) (sym same) (
      bytes,
      r.0,
      r.1,
      whole-told telling b h k bytes (telling bytes).1 refl i r.2
          (subst (λ l. Appends h k l) (ap (λ (x : Telling). x.0) t) w.1),
    )
tells-written telling a b h k bytes text end result r t i (inr w) =
    subst (λ x. TellsTo telling a b h k x) (sym w.0)
    (bytes, r.0, r.1, (r.2, subst (λ l. WritesPart h k l) (ap (λ (x : Telling). x.0) t) w.1))

-- what a check tells
pub checked_told : (strict : Bool) (name : List ℕ) (a b h k : Option (List ℕ)) (bytes text : List ℕ)
    (end result : Result (Unit {0}) CliFault) → ReadsTo a b bytes
    → ◌≡◌ {A = Telling} (text, end) (checked_telling strict name bytes) → WritesTelling h k text end result
    → TellsTo (checked_telling strict name) a b h k result
unfolding checked_telling
checked_told strict name a b h k bytes text end result r t w =
    tells-written (checked_telling strict name) a b h k bytes text end result r t
    (check_end-ends (story_flaws strict bytes)) w

filled-ends : (name bytes : List ℕ) → IsEnd (fill_telling name bytes).1
unfolding fill_telling
filled-ends name bytes = by_flaws (flaws_beside false bytes [])
  where
    by_flaws : (flaws : List Flaw) → IsEnd (filled_or name bytes flaws).1
    by_flaws [] = tt
    by_flaws (flaw ∷ more) = check_end-ends (flaw ∷ more)

title-ends : (name : List ℕ) (telling : Telling) → IsEnd telling.1 → IsEnd (title_telling name telling).1
title-ends name telling ends = by_test (is_ok telling.1)
  where
    by_test : (b : Bool) → IsEnd (if b then (titled name telling.0, telling.1) else telling).1
    by_test true = ends
    by_test false = ends

-- what is told of a story that is filled in
pub filled_told : (name : List ℕ) (a b h k : Option (List ℕ)) (bytes text : List ℕ)
    (end result : Result (Unit {0}) CliFault) → ReadsTo a b bytes → ◌≡◌ {A = Telling} (text, end) (fill_telling name bytes)
    → WritesTelling h k text end result → TellsTo (fill_telling name) a b h k result
filled_told name a b h k bytes text end result r t w =
    tells-written (fill_telling name) a b h k bytes text end result r t (filled-ends name bytes) w

-- and of one of several
pub titled_told : (name : List ℕ) (a b h k : Option (List ℕ)) (bytes text : List ℕ)
    (end result : Result (Unit {0}) CliFault) → ReadsTo a b bytes
    → ◌≡◌ {A = Telling} (text, end) (titled_telling name bytes) → WritesTelling h k text end result
    → TellsTo (titled_telling name) a b h k result
unfolding titled_telling
titled_told name a b h k bytes text end result r t w =
    tells-written (titled_telling name) a b h k bytes text end result r t
    (title-ends name (fill_telling name bytes) (filled-ends name bytes)) w
