-- Judging a history with sets of rules, put together.
use Rattle.std.proofs.Common.{◌≡◌, ◌∙◌, ℕ, Bool, false, inl, inr, List, ◌++◌, Option, Result, Ok, Err, ap, append_assoc, subst, sym}
use Rattle.pif_script_model.specs.declared.faults.CliFault.{CliFault}
use Rattle.pif_rules_model.specs.declared.rules.Rules.{Rules}
use Rattle.pif_history_text.specs.Histories.{Heard}
use Rattle.pif_job_judge.specs.declared.faults.Ended.{Ended}
use Rattle.pif_job_judge.specs.declared.faults.JudgeFault.{JudgeFault}
use Rattle.pif_job_judge.specs.Endings.{result_of}
use Rattle.pif_job_judge.specs.declared.forms.Form.{Form}
use Rattle.pif_job_judge.specs.declared.forms.Form.TheVariants.{Text}
use Rattle.pif_job_judge.specs.Judging.{Judges, TellsAll, WritesText, allowing, front_of}
use Rattle.pif_job_judge.specs.Mistakes.{IsJudged}
use Rattle.pif_job_judge.specs.Least.{JudgesLeast}
use Rattle.pif_job_judge.specs.Least.IsTold.{judged, needed}
use Rattle.pif_job_judge.specs.Needed.{AppendsNeeded}
use Rattle.pif_job_judge.specs.Shown.{IsShown}

abbrev Done : Type 0
Done = Result (Unit {0}) JudgeFault

-- what is judged in lines
pub all_in_lines : (given plain : Bool) (form : Form) (was name : Option (List ℕ)) (h : Heard) (held holds : Option (List ℕ)) (result : Done)
    → given ≡ plain → form ≡ Text → was ≡ name → Judges given form (Ok h) held holds (front_of was form) result
    → Judges plain Text (Ok h) held holds (front_of name Text) result
all_in_lines given plain form was name h held holds result p e same j =
    subst (λ (b : Bool). Judges b Text (Ok h) held holds (front_of name Text) result) p
    (subst (λ (n : Option (List ℕ)). Judges given Text (Ok h) held holds (front_of n Text) result) same
    (subst (λ (x : Form). Judges given x (Ok h) held holds (front_of was x) result) e j))

pub fault_in_lines : (given plain : Bool) (form : Form) (was name : Option (List ℕ)) (f : CliFault) (held holds : Option (List ℕ)) (result : Done)
    → given ≡ plain → form ≡ Text → was ≡ name → Judges given form (Err f) held holds (front_of was form) result
    → Judges plain Text (Err f) held holds (front_of name Text) result
fault_in_lines given plain form was name f held holds result p e same j =
    subst (λ (b : Bool). Judges b Text (Err f) held holds (front_of name Text) result) p
    (subst (λ (n : Option (List ℕ)). Judges given Text (Err f) held holds (front_of n Text) result) same
    (subst (λ (x : Form). Judges given x (Err f) held holds (front_of was x) result) e j))

-- WRITING

pub needed_written : (plain : Bool) (a : Rules) (h : Heard) (held holds : Option (List ℕ)) (front old new shown given : List ℕ)
    (end : Ended) (done result : Done) → old ≡ front → AppendsNeeded a h end old new → IsShown Text new shown → given ≡ shown
    → done ≡ result_of end → WritesText held holds given done result → JudgesLeast plain a (Ok h) held holds front result
needed_written plain a h held holds front old new shown given end done result e t s same is w =
    let grown : new ≡ front ++ t.0 = t.2 ∙ ap (λ (l : List ℕ). l ++ t.0) e in
    let names = s.0 ++ s.1 in
    let all : given ≡ front ++ (t.0 ++ names) = same
    ∙ (s.4 ∙ (append_assoc new s.0 s.1 ∙ (ap (λ (l : List ℕ). l ++ names) grown ∙ append_assoc front t.0 names))) in
    inr (
      t.0 ++ names,
      end,
      (t.0, needed t.1, (s.0, s.1, s.2, s.3, sym (append_assoc t.0 s.0 s.1))),
      subst (λ (l : List ℕ). WritesText held holds l (result_of end) result) all
          (subst (λ (x : Done). WritesText held holds given x result) is w),
    )

pub judged_written : (plain : Bool) (a : Rules) (h all : Heard) (held holds : Option (List ℕ)) (front : List ℕ) (result : Done)
    → all ≡ allowing a h → IsJudged all false → Judges plain Text (Ok all) held holds front result
    → JudgesLeast plain a (Ok h) held holds front result
judged_written plain a h all held holds front result of wrong (inl none) = inl none
judged_written plain a h all held holds front result of wrong (inr t) =
    inr (
      t.0,
      t.1,
      (
        t.2.0,
        judged (subst (λ (x : Heard). TellsAll plain Text x t.2.0 t.1) of t.2.1) (subst (λ (x : Heard). IsJudged x false) of wrong),
        t.2.2,
      ),
      t.3,
    )
