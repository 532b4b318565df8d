-- A verdict with what POSIX says, put together.
use Rattle.std.proofs.Common.{◌≡◌, ◌∙◌, ◌≤◌, ◌⊎◌, inl, inr, ℕ, Some, None, length, true, false, List, ◌++◌, Vec, Global, refl, sym, ap, subst, if◌then◌else◌}
use Rattle.pif_history_model.specs.declared.labels.Label.{Label}
use Rattle.pif_history_machine.specs.declared.verdicts.Verdict.{Verdict}
use Rattle.pif_history_machine.specs.declared.verdicts.Verdict.TheVariants.{Legal}
use Rattle.pif_history_machine.specs.Verdicts.{IsVerdictOf}
use Rattle.pif_history_model.specs.Verdicts.{IsLegal}
use Rattle.pif_history_text.specs.Histories.{Heard, limits_of}
use Rattle.pif_history_told.specs.Unlisted.{IsFirstUnlisted}
use Rattle.pif_rules_model.specs.declared.rules.Rule.{Rule}
use Rattle.pif_rules_model.specs.declared.rules.Rule.TheVariants.{Steal}
use Rattle.pif_rules_model.specs.declared.rules.Rules.{Rules}
use Rattle.pif_rules_model.specs.Sets.{has, is_of_posix}
use Rattle.pif_job_judge.specs.declared.faults.Ended.{Ended}
use Rattle.pif_job_judge.specs.declared.forms.Form.{Form}
use Rattle.pif_job_judge.specs.declared.forms.Form.TheVariants.{Text, Witness, Json, Page}
use Rattle.pif_job_judge.specs.declared.posix.Says.{Says}
use Rattle.pif_job_judge.specs.declared.posix.Says.TheVariants as says
use Rattle.pif_job_judge.specs.declared.search.Enough.{Enough}
use Rattle.pif_job_judge.specs.declared.undefined.Begun.{Begun}
use Rattle.pif_job_judge.specs.Lines.{AppendsLines, TellsRun}
use Rattle.pif_job_judge.specs.Posix.{IsNumberedBy, IsSaid, against, forbidden_from, forbids_text, posix_end, posix_object, posix_text, under, undecided_text, undefined_text, verdict_said}
use Rattle.pif_job_judge.specs.Asked.{AppendsAllowedBy, AppendsAsked, AppendsAskedLines, AppendsAskedObjects, AppendsBrief, AppendsFirst, AppendsForbidden, AppendsRest, AppendsWhy, AreObjectsBehind, AreRestObjects, IsAsked, TellsAllowed}
use Rattle.pif_job_judge.specs.Endings.{is_legal}
use Rattle.pif_job_judge.proofs.ObjectLemmas.{both}

-- of some rules those against POSIX are those that POSIX doesn't allow
pub against_each : (r : Rules) (x : Rule) → has (against r) x ≡ (if is_of_posix x then false else has r x)
against_each r Steal = refl
against_each r _ = refl

-- two texts, one after the other
pub together : (h : Heard) (First : Says → List ℕ → Ended → Type 0) (Rest : Says → ℕ → List ℕ → Type 0) (said : Says) (number : ℕ)
    (told end : Ended) (old mid new : List ℕ) → IsSaid h.allowed (limits_of h) h.shown said → IsNumberedBy h said number
    → (first : (text : List ℕ) × First said text told × (mid ≡ old ++ text))
    → (rest : (text : List ℕ) × Rest said number text × (new ≡ mid ++ text)) → end ≡ posix_end told said number
    → (text : List ℕ) × IsAsked h First Rest text end × (new ≡ old ++ text)
together h First Rest said number told end old mid new is numbered first rest ends = (
  first.0 ++ rest.0,
  record {
    says = said;
    number = number;
    first = first.0;
    told = told;
    rest = rest.0;
    said = is;
    numbered = numbered;
    is_first = first.1;
    is_rest = rest.1;
    is = refl;
    ends = ends;
  },
  both old mid new first.0 rest.0 first.2 rest.2,
)

-- a line, and what stands after it
pub behind_line : (h : Heard) (form : Form) (said : Says) (number : ℕ) (old mid new : List ℕ)
    → mid ≡ old ++ posix_object h.allowed said number
    → (behind : (text : List ℕ) × AreObjectsBehind form h said text × (new ≡ mid ++ text))
    → (text : List ℕ) × AreRestObjects form h said number text × (new ≡ old ++ text)
behind_line h form said number old mid new first behind =
    let line : List ℕ = posix_object h.allowed said number in
    (line ++ behind.0, (behind.0, behind.1, refl), both old mid new line behind.0 first behind.2)

-- in each form
pub asked_lines : (form : Form) (h : Heard) (old new : List ℕ) → (form ≡ Text) ⊎ (form ≡ Witness) → (end : Ended)
    → AppendsAskedLines form h end old new → AppendsAsked form h end old new
asked_lines form h old new (inl e) end told =
    subst (λ (f : Form). AppendsAsked f h end old new) (sym e) (subst (λ (f : Form). AppendsAskedLines f h end old new) e told)
asked_lines form h old new (inr e) end told =
    subst (λ (f : Form). AppendsAsked f h end old new) (sym e) (subst (λ (f : Form). AppendsAskedLines f h end old new) e told)

pub asked_objects : (form : Form) (h : Heard) (old new : List ℕ) → (form ≡ Json) ⊎ (form ≡ Page) → (end : Ended)
    → AppendsAskedObjects form h end old new → AppendsAsked form h end old new
asked_objects form h old new (inl e) end told =
    subst (λ (f : Form). AppendsAsked f h end old new) (sym e) (subst (λ (f : Form). AppendsAskedObjects f h end old new) e told)
asked_objects form h old new (inr e) end told =
    subst (λ (f : Form). AppendsAsked f h end old new) (sym e) (subst (λ (f : Form). AppendsAskedObjects f h end old new) e told)

-- WHAT POSIX SAYS, AND WHAT STANDS BEHIND IT

-- what is said, as a verdict of the history with the rules with which it is said
pub said_under : (h k : Heard) (said : Says) → IsSaid h.allowed (limits_of h) h.shown said → k ≡ under said h
    → IsVerdictOf k.allowed (limits_of k) k.shown (verdict_said said)
said_under h k said is e =
    subst (λ (z : Heard). IsVerdictOf z.allowed (limits_of z) z.shown (verdict_said said)) (sym e) (by said is)
  where
    by : (x : Says) → IsSaid h.allowed (limits_of h) h.shown x
        → IsVerdictOf (under x h).allowed (limits_of (under x h)) (under x h).shown (verdict_said x)
    by (says.Least e) i = i.0.2
    by (says.Found e) i = i.2
    by (says.Forbids n) i = i
    by (says.Undefined n b) i = (i.0, i.1, i.2)
    by (says.Undecided n) i = i

-- a run that shows its lines, if it allows them
pub legal_said : (h k : Heard) (said : Says) (run : Vec Label Global) → IsSaid h.allowed (limits_of h) h.shown said
    → k ≡ under said h → verdict_said said ≡ Legal run → IsLegal k.allowed (limits_of k) k.shown run.items
legal_said h k said run is same e =
    subst (λ (v : Verdict). IsVerdictOf k.allowed (limits_of k) k.shown v) e (said_under h k said is same)

-- a history is allowed, by a run that shows its lines
abbrev pub AppendsAllowed : Form → Rules → Heard → Says → (number : ℕ) → (old new : List ℕ) → Type 0
AppendsAllowed form base h said number old new =
    (text : List ℕ) × TellsAllowed form base h said number text × (new ≡ old ++ text)

pub allowed_by : (form : Form) (base : Rules) (h : Heard) (said : Says) (number : ℕ) (labels given : List Label) (old new : List ℕ)
    → IsLegal h.allowed (limits_of h) h.shown labels → given ≡ labels → AppendsAllowedBy form base h said number given old new
    → AppendsAllowed form base h said number old new
allowed_by form base h said number labels given old new legal same t =
    let first = subst (λ (ls : List Label). IsFirstUnlisted h.allowed (limits_of h) ls t.0) same t.2 in
    let told = subst (λ (ls : List Label). TellsRun form h.allowed (limits_of h) ls t.1) same t.3 in
    (posix_text base said number h.numbers t.0 ++ t.1, (labels, t.0, t.1, legal, first, told, refl), t.4)

pub rest_least : (form : Form) (h k : Heard) (e : Enough) (said : Says) (number : ℕ) (old new : List ℕ) → said ≡ says.Least e
    → k ≡ under said h → AppendsAllowed form h.allowed k said number old new → AppendsRest form h said number old new
rest_least form h k e said number old new is same t =
    let at : k ≡ under (says.Least e) h = same ∙ ap (λ (x : Says). under x h) is in
    let t1 = subst (λ (x : Says). AppendsAllowed form h.allowed k x number old new) is t in
    subst (λ (x : Says). AppendsRest form h x number old new) (sym is)
    (subst (λ (z : Heard). AppendsAllowed form h.allowed z (says.Least e) number old new) at t1)

pub rest_found : (form : Form) (h k : Heard) (e : Enough) (said : Says) (number : ℕ) (old new : List ℕ) → said ≡ says.Found e
    → k ≡ under said h → AppendsAllowed form h.allowed k said number old new → AppendsRest form h said number old new
rest_found form h k e said number old new is same t =
    let at : k ≡ under (says.Found e) h = same ∙ ap (λ (x : Says). under x h) is in
    let t1 = subst (λ (x : Says). AppendsAllowed form h.allowed k x number old new) is t in
    subst (λ (x : Says). AppendsRest form h x number old new) (sym is)
    (subst (λ (z : Heard). AppendsAllowed form h.allowed z (says.Found e) number old new) at t1)

-- that it forbids it
pub forbidden_with : (base : Rules) (h : Heard) (said : Says) (number n : ℕ) (numbers old mid new : List ℕ) → numbers ≡ h.numbers
    → mid ≡ old ++ posix_text base said number numbers None → AppendsWhy h n mid new → AppendsForbidden base h said number n old new
forbidden_with base h said number n numbers old mid new same first why =
    let line : List ℕ = posix_text base said number h.numbers None in (
      why.0,
      why.1,
      both old mid new line why.0
          (first ∙ ap (λ (ns : List ℕ). old ++ posix_text base said number ns None) same) why.2,
    )

pub rest_forbids : (form : Form) (h k : Heard) (said : Says) (n number : ℕ) (old new : List ℕ) → said ≡ says.Forbids n
    → k ≡ under said h → AppendsForbidden h.allowed k said number n old new → AppendsRest form h said number old new
rest_forbids form h k said n number old new is same t =
    let at : k ≡ under (says.Forbids n) h = same ∙ ap (λ (x : Says). under x h) is in
    let t1 = subst (λ (x : Says). AppendsForbidden h.allowed k x number n old new) is t in
    let t2 = subst (λ (z : Heard). AppendsForbidden h.allowed z (says.Forbids n) number n old new) at t1 in
    subst (λ (x : Says). AppendsRest form h x number old new) (sym is)
    (forbids_text h.allowed number ++ t2.0, (t2.0, t2.1, refl), t2.2)

pub rest_undecided : (form : Form) (h : Heard) (said : Says) (n number : ℕ) (numbers old new : List ℕ) → said ≡ says.Undecided n
    → new ≡ old ++ posix_text h.allowed said number numbers None → AppendsRest form h said number old new
rest_undecided form h said n number numbers old new is e =
    subst (λ (x : Says). AppendsRest form h x number old new) (sym is) (
      undecided_text h.allowed,
      refl,
      subst (λ (x : Says). new ≡ old ++ posix_text h.allowed x number numbers None) is e,
    )

pub rest_undefined : (form : Form) (h : Heard) (said : Says) (n : ℕ) (b : Begun) (number : ℕ) (numbers old new : List ℕ)
    → said ≡ says.Undefined n b → new ≡ old ++ posix_text h.allowed said number numbers None → AppendsRest form h said number old new
rest_undefined form h said n b number numbers old new is e =
    subst (λ (x : Says). AppendsRest form h x number old new) (sym is) (
      undefined_text h.allowed number b,
      refl,
      subst (λ (x : Says). new ≡ old ++ posix_text h.allowed x number numbers None) is e,
    )

-- before it
pub first_forbids : (form : Form) (h : Heard) (said : Says) (n : ℕ) (old new : List ℕ) → forbidden_from said ≡ Some n → (end : Ended)
    → AppendsBrief h end old new → AppendsFirst form h said end old new
first_forbids form h (says.Least r) n old new is end told = absurd (cc)
first_forbids form h (says.Found r) n old new is end told = absurd (cc)
first_forbids form h (says.Forbids m) n old new is end told = told
first_forbids form h (says.Undecided m) n old new is end told = absurd (cc)
first_forbids form h (says.Undefined m b) n old new is end told = absurd (cc)

pub first_others : (form : Form) (h : Heard) (said : Says) (old new : List ℕ) → forbidden_from said ≡ None → (end : Ended)
    → AppendsLines form h end old new → AppendsFirst form h said end old new
first_others form h (says.Least r) old new isnt end told = told
first_others form h (says.Found r) old new isnt end told = told
first_others form h (says.Forbids n) old new isnt end told = absurd (cc)
first_others form h (says.Undecided n) old new isnt end told = told
first_others form h (says.Undefined n b) old new isnt end told = told

-- what is said of which line
pub within_forbidden : (h k : Heard) (said : Says) (n : ℕ) → IsSaid h.allowed (limits_of h) h.shown said → said ≡ says.Forbids n
    → k ≡ under said h → (1 ≤ n) × (n ≤ length k.shown)
within_forbidden h k said n is e same =
    let i = subst (λ (x : Says). IsSaid h.allowed (limits_of h) h.shown x) e is in
    let at : k ≡ under (says.Forbids n) h = same ∙ ap (λ (x : Says). under x h) e in
    subst (λ (z : Heard). (1 ≤ n) × (n ≤ length z.shown)) (sym at) (i.0, i.1)

-- a legal verdict isn't one
clash : true ≡ false → ⊥
clash e = cc

pub not_legal : (v : Verdict) (witness : Vec Label Global) → v ≡ Legal witness → is_legal v ≡ false → ⊥
not_legal v witness e isnt = clash (subst (λ (z : Verdict). is_legal z ≡ false) e isnt)
