-- What is told of a history, put together.
use Rattle.std.proofs.Common.{◌≡◌, ℕ, ◌-◌, ◌⊎◌, Bool, false, true, inl, inr, List, [], ◌++◌, Vec, Global, Option, None, Some, IfSome, take, sym, Result, Ok, Err, IfOk, refl, ap, ◌∙◌, subst, append_assoc}
use Rattle.std.specs.Prelude.{slice_get}
use Rattle.std.proofs.lemmas.Option.{same_Some}
use Rattle.pif_types.specs.Bounds.{Bounds}
use Rattle.pif_history_model.specs.declared.labels.Label.{Label}
use Rattle.pif_history_model.specs.declared.lines.Line.{Line}
use Rattle.pif_history_model.specs.declared.lines.Line.TheVariants.{Answer, Prio}
use Rattle.pif_history_model.specs.declared.refusals.LineRefusal.{LineRefusal}
use Rattle.pif_history_model.specs.Lines.{thread_of}
use Rattle.pif_history_model.specs.Verdicts.{ArePossibleAnswers, ArePossiblePriorities}
use Rattle.pif_history_machine.specs.declared.verdicts.Verdict.{Verdict}
use Rattle.pif_history_machine.specs.declared.verdicts.Verdict.TheVariants.{Illegal, Legal}
use Rattle.pif_history_machine.specs.Verdicts.{IsVerdictOf, IsRefusalThere}
use Rattle.pif_history_text.specs.Histories.{Heard, limits_of}
use Rattle.pif_history_text.specs.Verdicts.{illegal_line}
use Rattle.pif_history_told.specs.Unlisted.{IsFirstUnlisted}
use Rattle.pif_history_told.specs.Pages.{IsPageOf}
use Rattle.pif_history_told.specs.declared.verdicts.Began.{Began}
use Rattle.pif_history_told.specs.declared.verdicts.Known.{Known}
use Rattle.pif_history_told.specs.declared.verdicts.Known.TheVariants.{Numbers}
use Rattle.pif_search.specs.declared.machine.Stop.{Stop}
use Rattle.pif_job_judge.specs.declared.faults.Ended.{Ended}
use Rattle.pif_job_judge.specs.declared.faults.JudgeFault.{JudgeFault}
use Rattle.pif_job_judge.specs.Endings.{is_legal, result_of}
use Rattle.pif_job_judge.specs.declared.forms.Form.{Form}
use Rattle.pif_job_judge.specs.declared.forms.Form.TheVariants.{Text, Witness, Json, Page}
use Rattle.pif_job_judge.specs.Judging.{AppendsAll, AppendsShown, AppendsTold, Judges, TellsAll, WritesText, asks, front_of}
use Rattle.pif_job_judge.specs.Judging.TellsAll.{asked as posix_asked, log as log_alone, verdict as verdict_alone}
use Rattle.pif_job_judge.specs.Asked.{AppendsAsked, AppendsBrief, AppendsWhy}
use Rattle.pif_job_judge.specs.Asked.IsBrief.{illegal as illegal_alone, undecided as undecided_alone}
use Rattle.pif_history_told.specs.declared.clues.Clues.{Clues}
use Rattle.pif_history_told.specs.Clues.{clues_text}
use Rattle.pif_job_judge.specs.Clues.{AreClues}
use Rattle.pif_history_told.specs.WhyTexts.{why_text}
use Rattle.pif_job_judge.specs.Lines.{AppendsLines, HasUnlisted, TellsIllegal, TellsIllegalLine, TellsLegal, TellsRun, TellsUndecided, TellsVerdict, TellsWhy}
use Rattle.pif_job_judge.specs.Lines.IsTold.{legal, illegal, undecided}
use Rattle.pif_job_judge.specs.Mistakes.{AppendsLog}
use Rattle.pif_job_judge.specs.Objects.{AppendsObjects}
use Rattle.pif_job_judge.specs.Shown.{IsShown}
use Rattle.pif_history_told.specs.Why.{ArePossible, IsKnown, has_number, open_of}

-- what follows of the result of a call that ended well
pub if_ok : {T E : Type 0} (r : Result T E) (P Q : T → Type 0) → ((x : T) → P x → Q x) → IfOk r P → IfOk r Q
if_ok (Ok x) P Q f holds = f x holds
if_ok (Err e) P Q f holds = tt

-- what is known of an illegal line, and clues to what is wrong
pub tells_why : (h : Heard) (n : ℕ) (old mid new : List ℕ) (line : Line) (known : Known) (began : Option Began) (clues : Clues)
    → slice_get h.shown (n - 1) ≡ Some line → IsKnown h (n - 1) line known → began ≡ open_of (thread_of line) h (n - 1)
    → AreClues h (n - 1) clues → mid ≡ old ++ why_text line known began → new ≡ mid ++ clues_text clues → AppendsWhy h n old new
tells_why h n old mid new line known began clues there is began_is are first second =
    let whole = why_text line known began ++ clues_text clues in (
      whole,
      (line, there, (known, clues, is, are, ap (λ (o : Option Began). why_text line known o ++ clues_text clues) began_is)),
      second ∙ ap (λ (l : List ℕ). l ++ clues_text clues) first ∙ append_assoc old (why_text line known began) (clues_text clues),
    )

-- the lines of an illegal history
pub tells_illegal : (h : Heard) (n : ℕ) (old mid new : List ℕ) (end : Ended) → TellsIllegalLine h n old mid end
    → AppendsWhy h n mid new → TellsIllegal h n old new end
tells_illegal h n old mid new end t w =
    let same : w.1.0 ≡ t.1 = same_Some w.1.0 t.1 (sym w.1.1 ∙ t.2) in (
      t.0,
      t.1,
      w.0,
      t.2,
      t.3,
      subst (λ (line : Line). TellsWhy h (n - 1) line w.0) same w.1.2,
      w.2 ∙ ap (λ (l : List ℕ). l ++ w.0) t.4 ∙ append_assoc old (illegal_line t.0 t.1) w.0,
      t.5,
    )

-- the verdict alone
pub brief_illegal : (h : Heard) (n : ℕ) (old new : List ℕ) (end : Ended) → IsVerdictOf h.allowed (limits_of h) h.shown (Illegal n)
    → TellsIllegalLine h n old new end → AppendsBrief h end old new
brief_illegal h n old new end is t = (_, illegal_alone n t.0 t.1 is t.2 t.3 refl t.5, t.4)

pub brief_undecided : (h : Heard) (old new : List ℕ) (end : Ended) → TellsUndecided h old new end → AppendsBrief h end old new
brief_undecided h old new end t = (_, undecided_alone t.0 t.1 t.2 refl t.4, t.3)

-- a history of each verdict
pub told_legal : (form : Form) (h : Heard) (v : Verdict) (run : Vec Label Global) (given : List Label) (old new : List ℕ)
    → given ≡ run.items → v ≡ Legal run → IsVerdictOf h.allowed (limits_of h) h.shown v → (end : Ended)
    → TellsLegal form h given old new end → AppendsLines form h end old new
told_legal form h v run given old new same is by end t =
    let told = subst (λ (ls : List Label). TellsRun form h.allowed (limits_of h) ls t.0) same t.3 in
    let first = subst (λ (ls : List Label). IsFirstUnlisted h.allowed (limits_of h) ls t.1) same t.4 in (
      _,
      legal v t.0 t.1 t.2 by (subst (λ (x : Verdict). TellsVerdict form h.allowed (limits_of h) x t.0) (sym is) told)
          (subst (λ (x : Verdict). HasUnlisted h.allowed (limits_of h) x t.1) (sym is) first) t.5 refl t.7,
      t.6,
    )

pub told_illegal : (form : Form) (h : Heard) (n : ℕ) (old new : List ℕ)
    → IsVerdictOf h.allowed (limits_of h) h.shown (Illegal n) → (end : Ended) → TellsIllegal h n old new end
    → AppendsLines form h end old new
told_illegal form h n old new is end t =
    (_, illegal n t.0 t.1 t.2 is t.3 t.4 t.5 refl t.7, t.6)

pub told_undecided : (form : Form) (h : Heard) (old new : List ℕ) (end : Ended) → TellsUndecided h old new end
    → AppendsLines form h end old new
told_undecided form h old new end t = (_, undecided t.0 t.1 t.2 refl t.4, t.3)

-- what is told in each form
pub lines_told : (form : Form) (h : Heard) (r : Result Ended Stop) (old new : List ℕ)
    → (form ≡ Text) ⊎ (form ≡ Witness) → IfOk r (λ end. AppendsLines form h end old new)
    → IfOk r (λ end. AppendsTold form h end old new)
lines_told form h r old new (inl e) told =
    subst (λ (f : Form). IfOk r (λ end. AppendsTold f h end old new)) (sym e)
    (subst (λ (f : Form). IfOk r (λ end. AppendsLines f h end old new)) e told)
lines_told form h r old new (inr e) told =
    subst (λ (f : Form). IfOk r (λ end. AppendsTold f h end old new)) (sym e)
    (subst (λ (f : Form). IfOk r (λ end. AppendsLines f h end old new)) e told)

pub objects_told : (form : Form) (h : Heard) (r : Result Ended Stop) (old new : List ℕ)
    → (form ≡ Json) ⊎ (form ≡ Page) → IfOk r (λ end. AppendsObjects form h end old new)
    → IfOk r (λ end. AppendsTold form h end old new)
objects_told form h r old new (inl e) told =
    subst (λ (f : Form). IfOk r (λ end. AppendsTold f h end old new)) (sym e)
    (subst (λ (f : Form). IfOk r (λ end. AppendsObjects f h end old new)) e told)
objects_told form h r old new (inr e) told =
    subst (λ (f : Form). IfOk r (λ end. AppendsTold f h end old new)) (sym e)
    (subst (λ (f : Form). IfOk r (λ end. AppendsObjects f h end old new)) e told)

-- in a page nothing stands in front
page_front : (name : Option (List ℕ)) → front_of name Page ≡ []
page_front None = refl
page_front (Some n) = refl

-- what is told of a history, with names
with_names : (plain : Bool) (form : Form) (h : Heard) (end : Ended) (front old text told names shown : List ℕ) → old ≡ front
    → TellsAll plain form h text end → told ≡ old ++ text → ((text : List ℕ) → IsShown form text (text ++ names))
    → shown ≡ told ++ names → AppendsShown plain form h end front shown
with_names plain form h end front old text told names shown e all grown are is = (
  text ++ names,
  (text, all, are text),
  is ∙ ap (λ (l : List ℕ). l ++ names) (grown ∙ ap (λ (l : List ℕ). l ++ text) e) ∙ append_assoc front text names,
)

pub shown_told : (plain : Bool) (form : Form) (name : Option (List ℕ)) (h : Heard) (end : Ended) (old told shown : List ℕ)
    → old ≡ front_of name form → AppendsAll plain form h end old told → IsShown form told shown
    → AppendsShown plain form h end (front_of name form) shown
shown_told plain Text name h end old told shown e t s =
    with_names plain Text h end (front_of name Text) old t.0 told (s.0 ++ s.1) shown e t.1 t.2
    (λ l. (s.0, s.1, s.2, s.3, sym (append_assoc l s.0 s.1))) (s.4 ∙ append_assoc told s.0 s.1)
shown_told plain Witness name h end old told shown e t s =
    with_names plain Witness h end (front_of name Witness) old t.0 told (s.0 ++ s.1) shown e t.1 t.2
    (λ l. (s.0, s.1, s.2, s.3, sym (append_assoc l s.0 s.1))) (s.4 ∙ append_assoc told s.0 s.1)
shown_told plain Json name h end old told shown e t s =
    with_names plain Json h end (front_of name Json) old t.0 told (s.0 ++ s.1) shown e t.1 t.2
    (λ l. (s.0, s.1, s.2, s.3, sym (append_assoc l s.0 s.1))) (s.4 ∙ append_assoc told s.0 s.1)
shown_told plain Page name h end old told shown e t s =
    let empty = page_front name in
    let same : told ≡ t.0 = t.2 ∙ ap (λ (l : List ℕ). l ++ t.0) (e ∙ empty) in (
      shown,
      (t.0, t.1, subst (λ (l : List ℕ). IsPageOf l [] shown) same s),
      ap (λ (l : List ℕ). l ++ shown) (sym empty),
    )

-- what is shown of a history was written, after its front
pub judged : (plain : Bool) (form : Form) (h : Heard) (held holds : Option (List ℕ)) (front new : List ℕ)
    (end : Ended) (given result : Result (Unit {0}) JudgeFault) → AppendsShown plain form h end front new
    → given ≡ result_of end → WritesText held holds new given result → Judges plain form (Ok h) held holds front result
judged plain form h held holds front new end given result told is w =
    inr (
      told.0,
      end,
      told.1,
      subst (λ (l : List ℕ). WritesText held holds l (result_of end) result) told.2
          (subst (λ (x : Result (Unit {0}) JudgeFault). WritesText held holds new x result) is w),
    )

-- the verdict alone, or with what POSIX says
pub told_alone : (plain : Bool) (form : Form) (h : Heard) (v : Verdict) (old new : List ℕ) → IsVerdictOf h.allowed (limits_of h) h.shown v
    → asks plain (is_legal v) ≡ false → (end : Ended) → AppendsTold form h end old new → AppendsAll plain form h end old new
told_alone plain form h v old new is unasked end told = (told.0, verdict_alone told.1 (v, is, unasked), told.2)

pub told_asked : (plain : Bool) (form : Form) (h : Heard) (v : Verdict) (old new : List ℕ) → IsVerdictOf h.allowed (limits_of h) h.shown v
    → asks plain (is_legal v) ≡ true → (end : Ended) → AppendsAsked form h end old new → AppendsAll plain form h end old new
told_asked plain form h v old new is wanted end told = (told.0, posix_asked told.1 (v, is, wanted), told.2)

-- a mistake of the log
pub told_log : (plain : Bool) (form : Form) (h : Heard) (old new : List ℕ) → (end : Ended) → AppendsLog form h end old new
    → AppendsAll plain form h end old new
told_log plain form h old new end told = (told.0, log_alone told.1, told.2)

pub asked_wrong : (plain legal : Bool) → asks plain legal ≡ true → legal ≡ false
asked_wrong true b e = absurd (cc)
asked_wrong false true e = absurd (cc)
asked_wrong false false e = refl

-- bytes that grew four times
pub grown_by_four : (old a b c d one two three four : List ℕ) → one ≡ old ++ a → two ≡ one ++ b → three ≡ two ++ c
    → four ≡ three ++ d → four ≡ old ++ (a ++ b ++ c ++ d)
grown_by_four old a b c d one two three four first second third fourth =
    let by_two : two ≡ old ++ (a ++ b) = second ∙ (ap (λ (l : List ℕ). l ++ b) first ∙ append_assoc old a b) in
    let by_three : three ≡ old ++ (a ++ b ++ c) = third ∙ (ap (λ (l : List ℕ). l ++ c) by_two ∙ append_assoc old (a ++ b) c) in
    fourth ∙ (ap (λ (l : List ℕ). l ++ d) by_three ∙ append_assoc old (a ++ b ++ c) d)

-- WHAT IS KNOWN

pub answers_known : (h : Heard) (before : ℕ) (line : Line) (t a : ℕ) (l : Bounds) (lines : List Line) (o : Option (Vec ℕ Global))
    → line ≡ Answer t a → l ≡ limits_of h → lines ≡ take before h.shown
    → IsRefusalThere (limits_of h) (take before h.shown) line None
    → IfSome o (λ v. ArePossibleAnswers h.allowed l lines t v.items) → IsKnown h before line (Numbers o)
answers_known h before line t a l lines None e b s n x = (n, ap (λ (z : Line). has_number z) e)
answers_known h before line t a l lines (Some v) e b s n x =
    let x1 = subst (λ (ls : List Line). ArePossibleAnswers h.allowed l ls t v.items) s x in
    let x2 = subst (λ (k : Bounds). ArePossibleAnswers h.allowed k (take before h.shown) t v.items) b x1 in
    (n, subst (λ (z : Line). ArePossible h before z v.items) (sym e) x2)

pub priorities_known : (h : Heard) (before : ℕ) (line : Line) (t p : ℕ) (l : Bounds) (lines : List Line) (o : Option (Vec ℕ Global))
    → line ≡ Prio t p → l ≡ limits_of h → lines ≡ take before h.shown
    → IsRefusalThere (limits_of h) (take before h.shown) line None
    → IfSome o (λ v. ArePossiblePriorities h.allowed l lines t v.items) → IsKnown h before line (Numbers o)
priorities_known h before line t p l lines None e b s n x = (n, ap (λ (z : Line). has_number z) e)
priorities_known h before line t p l lines (Some v) e b s n x =
    let x1 = subst (λ (ls : List Line). ArePossiblePriorities h.allowed l ls t v.items) s x in
    let x2 = subst (λ (k : Bounds). ArePossiblePriorities h.allowed k (take before h.shown) t v.items) b x1 in
    (n, subst (λ (z : Line). ArePossible h before z v.items) (sym e) x2)

pub refused_there : (k l : Bounds) (ls lines : List Line) (line : Line) (o p : Option LineRefusal) → k ≡ l → ls ≡ lines → o ≡ p
    → IsRefusalThere k ls line o → IsRefusalThere l lines line p
refused_there k l ls lines line o p b s e x =
    let x1 = subst (λ (j : Bounds). IsRefusalThere j ls line o) b x in
    let x2 = subst (λ (zs : List Line). IsRefusalThere l zs line o) s x1 in
    subst (λ (r : Option LineRefusal). IsRefusalThere l lines line r) e x2
