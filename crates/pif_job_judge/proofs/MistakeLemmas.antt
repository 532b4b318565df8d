-- Mistakes of a log, put together.
use Rattle.std.proofs.Common.{◌≡◌, ◌∙◌, ◌≤◌, ◌-◌, ◌⊎◌, arith, inl, inr, ℕ, Some, length, List, ◌∷◌, ◌++◌, take, refl, sym, ap, subst, append_assoc}
use Rattle.std.specs.Prelude.{codes, decimal, reverse, slice_get}
use Rattle.std.proofs.lemmas.List.{length-take-le, take-take}
use Rattle.pif_types.specs.Bounds.{Bounds}
use Rattle.pif_history_model.specs.declared.labels.Label.{Label}
use Rattle.pif_history_model.specs.declared.lines.Line.{Line}
use Rattle.pif_history_model.specs.declared.refusals.LineRefusal.{LineRefusal}
use Rattle.pif_history_model.specs.Verdicts.{IsShownBy}
use Rattle.pif_history_machine.specs.Verdicts.{IsVerdictOf}
use Rattle.pif_history_machine.specs.declared.verdicts.Verdict.TheVariants.{Illegal, Undecided}
use Rattle.pif_history_text.specs.Histories.{Heard}
use Rattle.pif_history_text.specs.Texts.{line_text}
use Rattle.pif_history_text.specs.Verdicts.{line_refusal_word}
use Rattle.pif_history_told.specs.Why.{IsNumbered}
use Rattle.pif_rules_model.specs.declared.rules.Rules.{Rules}
use Rattle.pif_text.specs.Json.{quoted}
use Rattle.pif_job_judge.specs.declared.faults.Ended.{Ended}
use Rattle.pif_job_judge.specs.declared.forms.Form.{Form}
use Rattle.pif_job_judge.specs.declared.forms.Form.TheVariants.{Text, Witness, Json, Page}
use Rattle.pif_job_judge.specs.Mistakes.{AppendsLog, AppendsLogLines, AppendsLogObjects, IsMistake, log_end, log_object, log_text}
use Rattle.pif_job_judge.specs.Objects.{AppendsSteps, left_out_of}
use Rattle.pif_job_judge.proofs.ObjectLemmas.{both}

-- how many they are
within_first : (m n : ℕ) (lines : List Line) → m ≤ length lines → n ≤ length (take m lines) → n ≤ m
within_first m n lines all within = subst (λ (k : ℕ). n ≤ k) (length-take-le m lines all) within

-- what is so of the first lines is so of all
pub illegal_of_all : (r : Rules) (l : Bounds) (m n : ℕ) (lines : List Line) → m ≤ length lines
    → IsVerdictOf r l (take m lines) (Illegal n) → IsVerdictOf r l lines (Illegal n)
illegal_of_all r l m n lines all is =
    let less : n ≤ m = within_first m n lines all is.1 in
    let within : n ≤ length lines = omega (arith, less, all) in (
      is.0,
      within,
      record {
        some = is.0;
        within = within;
        illegal = λ shown. is.2.illegal
            (subst (λ (ls : List Line). IsShownBy r l (reverse ls)) (sym (take-take n m lines less)) shown);
        legal = subst (λ (ls : List Line). IsShownBy r l (reverse ls)) (take-take (n - 1) m lines (omega (arith, less))) is.2.legal;
      },
    )

pub undecided_of_all : (r : Rules) (l : Bounds) (m n : ℕ) (lines : List Line) → m ≤ length lines
    → IsVerdictOf r l (take m lines) (Undecided n) → IsVerdictOf r l lines (Undecided n)
undecided_of_all r l m n lines all is =
    let less : n ≤ m = within_first m n lines all is.1 in
    (is.0, omega (arith, less, all))

-- the line of JSON, member by member and as its definition has it
abbrev member : (name value : List ℕ) → List ℕ
member name value = quoted name ++ codes ":" ++ value

nest_log : (old l0 a l1 b l2 c l3 d e : List ℕ)
    → ((old ++ (l0 ++ (a ++ (l1 ++ (b ++ (l2 ++ c)))))) ++ (l3 ++ d)) ++ e
    ≡ old ++ (((((((l0 ++ a) ++ l1) ++ b) ++ (l2 ++ c)) ++ l3) ++ d) ++ e)
nest_log old l0 a l1 b l2 c l3 d e = simp append_assoc

pub log_appended : (number : ℕ) (line : Line) (why : LineRefusal) (left_out : ℕ) (text word old one two new : List ℕ)
    → text ≡ line_text line → word ≡ line_refusal_word why
    → one ≡ old ++ (123 ∷ (member (codes "verdict") (quoted (codes "log")) ++ 44 ∷ (member (codes "line") (decimal number)
    ++ 44 ∷ (member (codes "text") (quoted text) ++ 44 ∷ member (codes "left_out") (decimal left_out)))))
    → two ≡ one ++ 44 ∷ member (codes "refused") (quoted word) → new ≡ two ++ codes "}\n"
    → new ≡ old ++ log_object number line why left_out
unfolding log_object
log_appended number line why left_out text word old one two new texts words first second last =
    last ∙ ap (λ (l : List ℕ). l ++ codes "}\n") (second ∙ ap (λ (l : List ℕ). l ++ 44 ∷ member (codes "refused") (quoted word)) first)
    ∙ nest_log old (codes "{\"verdict\":\"log\",\"line\":") (decimal number) (codes ",\"text\":") (quoted text)
    (codes ",\"left_out\":") (decimal left_out) (codes ",\"refused\":") (quoted word) (codes "}\n")
    ∙ rw (texts, words) refl

-- what is told of a mistake of the log
pub log_line : (h : Heard) (n number : ℕ) (line : Line) (why : LineRefusal) (labels : List Label) (end : Ended) (old new : List ℕ)
    → IsMistake h n why labels → IsNumbered h n number → slice_get h.shown (n - 1) ≡ Some line → end ≡ log_end h n number line why
    → new ≡ old ++ log_text number why → AppendsLogLines h end old new
log_line h n number line why labels end old new is numbered there ends grown =
    (log_text number why, (n, number, line, why, labels, is, numbered, there, refl, ends), grown)

pub log_objects : (form : Form) (h : Heard) (n number : ℕ) (line : Line) (why : LineRefusal) (labels given : List Label) (left m : ℕ)
    (end : Ended) (old mid new : List ℕ) → IsMistake h n why labels → IsNumbered h n number → slice_get h.shown (n - 1) ≡ Some line
    → end ≡ log_end h n number line why → left ≡ left_out_of form (n - 1) → m ≡ left → given ≡ labels
    → mid ≡ old ++ log_object number line why m → AppendsSteps h left given mid new → AppendsLogObjects form h end old new
log_objects form h n number line why labels given left m end old mid new is numbered there ends out written same first told =
    let object : List ℕ = log_object number line why (left_out_of form (n - 1)) in
    let number_is = ap (λ (k : ℕ). log_object number line why k) (written ∙ out) in
    let one = subst (λ (k : ℕ). AppendsSteps h k given mid new) out told in
    let run = subst (λ (xs : List Label). AppendsSteps h (left_out_of form (n - 1)) xs mid new) same one in (
      object ++ run.0,
      (n, number, line, why, labels, run.0, is, numbered, there, run.1, refl, ends),
      both old mid new object run.0 (first ∙ ap (λ (l : List ℕ). old ++ l) number_is) run.2,
    )

-- in each form
pub log_in_lines : (form : Form) (h : Heard) (old new : List ℕ) → (form ≡ Text) ⊎ (form ≡ Witness) → (end : Ended)
    → AppendsLogLines h end old new → AppendsLog form h end old new
log_in_lines form h old new (inl e) end told = subst (λ (f : Form). AppendsLog f h end old new) (sym e) told
log_in_lines form h old new (inr e) end told = subst (λ (f : Form). AppendsLog f h end old new) (sym e) told

pub log_in_objects : (form : Form) (h : Heard) (old new : List ℕ) → (form ≡ Json) ⊎ (form ≡ Page) → (end : Ended)
    → AppendsLogObjects form h end old new → AppendsLog form h end old new
log_in_objects form h old new (inl e) end told =
    subst (λ (f : Form). AppendsLog f h end old new) (sym e) (subst (λ (f : Form). AppendsLogObjects f h end old new) e told)
log_in_objects form h old new (inr e) end told =
    subst (λ (f : Form). AppendsLog f h end old new) (sym e) (subst (λ (f : Form). AppendsLogObjects f h end old new) e told)
