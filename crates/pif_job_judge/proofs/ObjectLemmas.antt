-- What is told of a history in lines of JSON, put together.
use Rattle.std.proofs.Common.{◌≡◌, ◌∙◌, ℕ, ◌-◌, inl, inr, List, [], ◌++◌, Option, None, Some, length, take, Result, Ok, Err, OnOk, refl, sym, ap, subst, append_assoc}
use Rattle.std.specs.Prelude.{slice_get}
use Rattle.std.proofs.lemmas.List.{append-nil}
use Rattle.pif_types.specs.Bounds.{Bounds}
use Rattle.pif_history_model.specs.declared.labels.Label.{Label}
use Rattle.pif_history_model.specs.declared.lines.Line.{Line}
use Rattle.pif_history_model.specs.Lines.{thread_of}
use Rattle.pif_history_model.specs.Verdicts.{IsLegal}
use Rattle.pif_history_machine.specs.declared.verdicts.Verdict.{Verdict}
use Rattle.pif_history_machine.specs.declared.verdicts.Verdict.TheVariants.{Illegal, Undecided}
use Rattle.pif_history_machine.specs.Verdicts.{IsVerdictOf}
use Rattle.pif_history_text.specs.Histories.{Heard, limits_of}
use Rattle.pif_history_told.specs.declared.unlisted.Unlisted.{Unlisted}
use Rattle.pif_history_told.specs.Unlisted.{IsFirstUnlisted}
use Rattle.pif_history_told.specs.declared.verdicts.Began.{Began}
use Rattle.pif_history_told.specs.declared.verdicts.Known.{Known}
use Rattle.pif_history_told.specs.declared.verdicts.Unfound.{Unfound}
use Rattle.pif_history_told.specs.Texts.{calls_in}
use Rattle.pif_history_told.specs.Verdicts.{illegal_object, legal_object, undecided_object}
use Rattle.pif_job_judge.specs.declared.forms.Form.{Form}
use Rattle.pif_job_judge.specs.declared.faults.Ended.{Ended}
use Rattle.pif_job_judge.specs.declared.faults.Ended.TheVariants as ended
use Rattle.pif_job_judge.specs.Endings.{legal_end}
use Rattle.pif_job_judge.specs.Objects.{AppendsBefore, AppendsFront, AppendsObjects, AppendsSteps, HasNoWitness, began_with, left_out_of}
use Rattle.pif_job_judge.specs.Objects.AreObjects.{legal, illegal, undecided}
use Rattle.pif_history_told.specs.declared.clues.Clues.{Clues}
use Rattle.pif_history_told.specs.declared.ends.AtEnd.{AtEnd}
use Rattle.pif_judge_reasons.specs.declared.fronts.Front.{Front}
use Rattle.pif_job_judge.specs.Clues.{AreClues}
use Rattle.pif_judge_reasons.specs.Fronts.{count_of}
use Rattle.pif_job_judge.specs.Fronts.{IsFront, IsUndecided}
use Rattle.pif_job_judge.specs.OpenCalls.{IsAtEnd}
use Rattle.pif_history_told.specs.Why.{IsKnown, IsNumbered, open_of}

-- what follows from what holds after a call that ended well
pub on_ok : {T E : Type 0} (r : Result T E) (P Q : Type 0) → (P → Q) → OnOk r P → OnOk r Q
on_ok (Ok x) P Q f holds = f holds
on_ok (Err e) P Q f holds = tt

-- the lines of a run that shows the first lines of a history
pub before_told : (h : Heard) (before left_out : ℕ) (l : Bounds) (lines : List Line) (labels given : List Label)
    (old new : List ℕ) → l ≡ limits_of h → lines ≡ take before h.shown → given ≡ labels → IsLegal h.allowed l lines labels
    → AppendsSteps h left_out given old new → AppendsBefore h before left_out old new
before_told h before left_out l lines labels given old new limits are same_labels by told =
    let one = subst (λ (k : Bounds). IsLegal h.allowed k lines labels) limits by in
    let two = subst (λ (ls : List Line). IsLegal h.allowed (limits_of h) ls labels) are one in
    let steps = subst (λ (xs : List Label). AppendsSteps h left_out xs old new) same_labels told in
    (steps.0, inl (labels, two, steps.1), steps.2)

-- what has no witness
pub none_illegal : (v : Verdict) (n : ℕ) → v ≡ Illegal n → HasNoWitness v
none_illegal v n e = subst (λ (z : Verdict). HasNoWitness z) (sym e) tt

pub none_undecided : (v : Verdict) (n : ℕ) → v ≡ Undecided n → HasNoWitness v
none_undecided v n e = subst (λ (z : Verdict). HasNoWitness z) (sym e) tt

-- no run that shows them was found
pub before_untold : (h : Heard) (before left_out : ℕ) (l : Bounds) (lines : List Line) (v : Verdict) (old new : List ℕ)
    → l ≡ limits_of h → lines ≡ take before h.shown → IsVerdictOf h.allowed l lines v → HasNoWitness v → new ≡ old
    → AppendsBefore h before left_out old new
before_untold h before left_out l lines v old new limits are is none same =
    let one = subst (λ (k : Bounds). IsVerdictOf h.allowed k lines v) limits is in
    let two = subst (λ (ls : List Line). IsVerdictOf h.allowed (limits_of h) ls v) are one in
    ([], inr (v, two, none, refl), same ∙ sym (append-nil old))

-- two texts, one after the other
pub both : (old mid new one two : List ℕ) → mid ≡ old ++ one → new ≡ mid ++ two → new ≡ old ++ (one ++ two)
both old mid new one two first second =
    second ∙ ap (λ (l : List ℕ). l ++ two) first ∙ append_assoc old one two

-- a history of each verdict
pub legal_told : (form : Form) (h : Heard) (labels : List Label) (calls m left n : ℕ) (l : Bounds) (numbers : List ℕ)
    (found : Option Unlisted) (at_end : AtEnd) (end : Ended) (old mid new : List ℕ) → calls ≡ calls_in h → m ≡ calls
    → left ≡ left_out_of form (length h.shown) → n ≡ left → l ≡ limits_of h → numbers ≡ h.numbers
    → IsLegal h.allowed (limits_of h) h.shown labels → IsFirstUnlisted h.allowed l labels found
    → IsAtEnd h at_end → mid ≡ old ++ legal_object h.count m n numbers found at_end → AppendsSteps h left labels mid new → end ≡ legal_end calls
    → AppendsObjects form h end old new
legal_told form h labels calls m left n l numbers found at_end end old mid new counted told_as out written limits same by has last first told ends =
    let all : ℕ = left_out_of form (length h.shown) in
    let object : List ℕ = legal_object h.count (calls_in h) all h.numbers found at_end in
    let object_is = ap (λ (k : ℕ). legal_object h.count k n numbers found at_end) (told_as ∙ counted)
    ∙ ap (λ (k : ℕ). legal_object h.count (calls_in h) k numbers found at_end) (written ∙ out)
    ∙ ap (λ (ns : List ℕ). legal_object h.count (calls_in h) all ns found at_end) same in
    let has_it = subst (λ (k : Bounds). IsFirstUnlisted h.allowed k labels found) limits has in
    let steps = subst (λ (k : ℕ). AppendsSteps h k labels mid new) out told in (
      object ++ steps.0,
      legal labels steps.0 found at_end by steps.1 has_it last refl (ends ∙ ap (λ (k : ℕ). legal_end k) counted),
      both old mid new object steps.0 (first ∙ ap (λ (l : List ℕ). old ++ l) object_is) steps.2,
    )

pub illegal_told : (form : Form) (h : Heard) (n number : ℕ) (line : Line) (known : Known) (began : Option Began) (clues : Clues) (left m : ℕ)
    (old mid new : List ℕ) → IsVerdictOf h.allowed (limits_of h) h.shown (Illegal n) → slice_get h.shown (n - 1) ≡ Some line
    → IsNumbered h n number → IsKnown h (n - 1) line known
    → began ≡ began_with known (open_of (thread_of line) h (n - 1)) → AreClues h (n - 1) clues → left ≡ left_out_of form (n - 1) → m ≡ left
    → mid ≡ old ++ illegal_object number line known began clues m → AppendsBefore h (n - 1) left mid new
    → AppendsObjects form h (ended.Illegal number) old new
illegal_told form h n number line known began clues left m old mid new is there numbered why call are out written first told =
    let open_there : Option Began = began_with known (open_of (thread_of line) h (n - 1)) in
    let object : List ℕ = illegal_object number line known open_there clues (left_out_of form (n - 1)) in
    let number_is = ap (λ (k : ℕ). illegal_object number line known began clues k) (written ∙ out)
    ∙ ap (λ (o : Option Began). illegal_object number line known o clues (left_out_of form (n - 1))) call in
    let run = subst (λ (k : ℕ). AppendsBefore h (n - 1) k mid new) out told in (
      object ++ run.0,
      illegal n number line known clues run.0 is there numbered why are run.1 refl refl,
      both old mid new object run.0 (first ∙ ap (λ (l : List ℕ). old ++ l) number_is) run.2,
    )

pub undecided_told : (form : Form) (h : Heard) (front : Option Front) (u : Unfound) (count left m : ℕ) (old mid new : List ℕ)
    → IsUndecided h front u → count ≡ count_of front → left ≡ left_out_of form count → m ≡ left
    → mid ≡ old ++ undecided_object u m → AppendsFront h left front mid new
    → AppendsObjects form h (ended.Undecided u.number) old new
undecided_told form h front u count left m old mid new is counted out written first told =
    let so_many : left ≡ left_out_of form (count_of front) = out ∙ ap (λ (k : ℕ). left_out_of form k) counted in
    let object : List ℕ = undecided_object u (left_out_of form (count_of front)) in
    let number_is = ap (λ (k : ℕ). undecided_object u k) (written ∙ so_many) in
    let run = subst (λ (k : ℕ). AppendsFront h k front mid new) so_many told in (
      object ++ run.0,
      undecided front u run.0 is run.1 refl refl,
      both old mid new object run.0 (first ∙ ap (λ (l : List ℕ). old ++ l) number_is) run.2,
    )

-- the run of a front
pub front_told : (h : Heard) (left_out : ℕ) (front : Option Front) (f : Front) (given : List Label) (old new : List ℕ)
    → front ≡ Some f → given ≡ f.labels.items → AppendsSteps h left_out given old new → AppendsFront h left_out front old new
front_told h left_out front f given old new is same told =
    subst (λ (o : Option Front). AppendsFront h left_out o old new) (sym is)
    (subst (λ (ls : List Label). AppendsSteps h left_out ls old new) same told)

pub front_untold : (h : Heard) (left_out : ℕ) (front : Option Front) (old : List ℕ) → front ≡ None → AppendsFront h left_out front old old
front_untold h left_out front old is =
    subst (λ (o : Option Front). AppendsFront h left_out o old old) (sym is) ([], refl, sym (append-nil old))

pub front_before : (h : Heard) (f : Front) (before left_out : ℕ) (given : List Label) (old new : List ℕ) → f.count ≡ before
    → IsFront h f → given ≡ f.labels.items → AppendsSteps h left_out given old new → AppendsBefore h before left_out old new
front_before h f before left_out given old new counted it same told =
    before_told h before left_out (limits_of h) (take before h.shown) f.labels.items given old new refl refl same
    (subst (λ (k : ℕ). IsLegal h.allowed (limits_of h) (take k h.shown) f.labels.items) counted it.2) told
