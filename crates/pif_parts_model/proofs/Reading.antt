-- What lines by themselves say of calls, and what an answer leaves behind.
use Rattle.std.proofs.Common.{ℕ, ◌≡◌, ◌<◌, ◌∙◌, ◌==◌, Bool, true, false, List, [], ◌∷◌, length, Option, Some, None, refl, sym, eqb-true, if◌then◌else◌}
use Rattle.std.proofs.lemmas.Bool.{true≢false}
use Rattle.pif_types.specs.declared.requests.Request.{Request}
use Rattle.pif_types.specs.declared.requests.Request.TheVariants.{Signal, Broadcast, SetPrio}
use Rattle.pif_model.specs.Deadlines.{plain, reported_result}
use Rattle.pif_model.specs.Posix.{World, Progress, is_mutex, is_variable, is_use, variable_of, names_known, with_base}
use Rattle.pif_model.specs.World.Progress.{Fresh, Has, Used}
use Rattle.pif_model_lemmas.proofs.Numbers.{within}
use Rattle.pif_model_lemmas.proofs.Waiting.{by_test}
use Rattle.pif_history_model.specs.declared.lines.Line.{Line}
use Rattle.pif_history_model.specs.declared.lines.Line.TheVariants.{Begin, Answer, End}
use Rattle.pif_parts_model.specs.Quiet.{call_by, changed_by, AreOrderly}
use Rattle.pif_parts_model.specs.Resting.{with_use, after_answer}
use Rattle.pif_parts_model.proofs.Ledgers.{Mark, if_done, mark_of}
use Rattle.pif_parts_model.proofs.Ledgers.Mark.{NoMark, HasSet, HasUsed}

-- ONE CALL CHANGES A PRIORITY AT A TIME

-- by these lines
abbrev pub IsAlone : List Line → Type 0
IsAlone lines = (t v u : ℕ) → changed_by (call_by lines t) ≡ Some u → changed_by (call_by lines v) ≡ Some u → t ≡ v

-- a plain request changes what the request changes
pub plain_changes : (q : Request) → changed_by (Some (plain q)) ≡ changed_by (Some q)
plain_changes (SetPrio u p) = refl
plain_changes _ = refl

-- a call that is open behind a line that closes calls was open before
still_open : (b : Bool) (o : Option Request) (u : ℕ) → changed_by (if b then None else o) ≡ Some u → changed_by o ≡ Some u
still_open true o u e = absurd (cc)
still_open false o u e = e

pub alone_by : (lines : List Line) → AreOrderly lines → IsAlone lines
alone_by [] o t v u e f = absurd (cc)
alone_by (Begin s q ∷ xs) o t v u e f =
    by_test (λ b. changed_by (if b then Some (plain q) else call_by xs t) ≡ Some u → t ≡ v) (s == t)
    (λ i. by_test (λ b. changed_by (if b then Some (plain q) else call_by xs v) ≡ Some u → changed_by (Some (plain q)) ≡ Some u → t ≡ v) (s == v)
    (λ j _ _. sym (eqb-true s t i) ∙ eqb-true s v j) (λ j g h. absurd (o.0 v u (sym (plain_changes q) ∙ h) g)) f)
    (λ i h. by_test (λ b. changed_by (if b then Some (plain q) else call_by xs v) ≡ Some u → t ≡ v) (s == v)
    (λ j g. absurd (o.0 t u (sym (plain_changes q) ∙ g) h)) (λ j g. alone_by xs o.1 t v u h g) f) e
alone_by (Answer s a ∷ xs) o t v u e f =
    alone_by xs o.1 t v u (still_open (s == t) (call_by xs t) u e) (still_open (s == v) (call_by xs v) u f)
alone_by (End s ∷ xs) o t v u e f =
    alone_by xs o.1 t v u (still_open (s == t) (call_by xs t) u e) (still_open (s == v) (call_by xs v) u f)
alone_by (_ ∷ xs) o t v u e f = alone_by xs o.1 t v u e f

-- MARKS

-- a mark that is there if the result is 0
if_done_is : (a : ℕ) (x y : Mark) → (NoMark ≡ y → ⊥) → if_done a x ≡ y → x ≡ y
if_done_is a x y n e = by_test (λ b. (if b then x else NoMark) ≡ y → x ≡ y) (a == 0) (λ _ k. k) (λ _ k. absurd (n k)) e

pub no_mark_set : (u p : ℕ) → NoMark ≡ HasSet u p → ⊥
no_mark_set u p e = cc

pub use_is_no_set : (c u p : ℕ) → HasUsed c ≡ HasSet u p → ⊥
use_is_no_set c u p e = cc

-- a call that has set a priority is one that changes it
pub set_changes : (q : Request) (o : Progress) (u p : ℕ) → mark_of q o ≡ HasSet u p → changed_by (Some q) ≡ Some u
set_changes (SetPrio v n) (Has a) u p e =
    let is : HasSet v n ≡ HasSet u p = if_done_is a (HasSet v n) (HasSet u p) (no_mark_set u p) e in cc
set_changes (SetPrio v n) _ u p e = absurd (cc)
set_changes (Signal c) Used u p e = absurd (use_is_no_set c u p e)
set_changes (Signal c) (Has a) u p e =
    absurd (use_is_no_set c u p (if_done_is a (HasUsed c) (HasSet u p) (no_mark_set u p) e))
set_changes (Signal c) _ u p e = absurd (cc)
set_changes (Broadcast c) Used u p e = absurd (use_is_no_set c u p e)
set_changes (Broadcast c) (Has a) u p e =
    absurd (use_is_no_set c u p (if_done_is a (HasUsed c) (HasSet u p) (no_mark_set u p) e))
set_changes (Broadcast c) _ u p e = absurd (cc)
set_changes _ o u p e = absurd (cc)

-- a call on which no effect has happened yet has no mark
pub fresh_mark : (q : Request) → mark_of q Fresh ≡ NoMark
fresh_mark (SetPrio u p) = refl
fresh_mark (Signal c) = refl
fresh_mark (Broadcast c) = refl
fresh_mark _ = refl

-- a call that has used its variable
pub used_mark : (q : Request) → is_use q ≡ true → mark_of q Used ≡ HasUsed (variable_of q)
used_mark (Signal c) e = refl
used_mark (Broadcast c) e = refl
used_mark _ e = absurd (true≢false (sym e))

-- WHAT AN ANSWER LEAVES

-- what a call of this request with this mark leaves of r, once it is answered
pub data Leaves (q : Request) (x : Mark) (r z : World) : Type 0 where
  nothing : x ≡ NoMark → z ≡ r → Leaves q x r z
  a_use : (c : ℕ) → is_use q ≡ true → variable_of q ≡ c → x ≡ HasUsed c → z ≡ with_use c r → Leaves q x r z
  a_priority : (u p : ℕ) → x ≡ HasSet u p → z ≡ with_base u p r → Leaves q x r z

pub leaves : (q : Request) (a : ℕ) (expired : Bool) (r : World)
    → Leaves q (mark_of q (Has a)) r (after_answer (reported_result q expired a) (Some q) r)
leaves (SetPrio u p) a expired r =
    by_test (λ b. Leaves (SetPrio u p) (if b then HasSet u p else NoMark) r (if b then with_base u p r else r)) (a == 0)
    (λ _. a_priority u p refl refl) (λ _. nothing refl refl)
leaves (Signal c) a expired r =
    by_test (λ b. Leaves (Signal c) (if b then HasUsed c else NoMark) r (if b then with_use c r else r)) (a == 0)
    (λ _. a_use c refl refl refl refl) (λ _. nothing refl refl)
leaves (Broadcast c) a expired r =
    by_test (λ b. Leaves (Broadcast c) (if b then HasUsed c else NoMark) r (if b then with_use c r else r)) (a == 0)
    (λ _. a_use c refl refl refl refl) (λ _. nothing refl refl)
leaves q a expired r =
    nothing refl (by_test (λ b. (if b then r else r) ≡ r) (reported_result q expired a == 0) (λ _. refl) (λ _. refl))

-- NAMES

-- a variable that a call names when it begins was added
pub variable_known : (w : World) (q : Request) → names_known (is_mutex w) (is_variable w) q ≡ true → is_use (plain q) ≡ true
    → variable_of (plain q) < length w.variables
variable_known w (Signal c) e is = (within c (length w.variables) e).1
variable_known w (Broadcast c) e is = (within c (length w.variables) e).1
variable_known w _ e is = absurd (true≢false (sym is))
