-- Lists of open calls tell which call a thread has open by the lines.
use Rattle.std.proofs.Common.{ℕ, ◌≡◌, ◌∙◌, ◌==◌, Bool, true, false, not, List, [], ◌∷◌, ◌++◌, Option, Some, None, refl, sym, ap, eqb-true, if◌then◌else◌}
use Rattle.std.proofs.lemmas.Bool.{true≢false, eq-eqb, or_left, or_right, or_parts}
use Rattle.pif_types.specs.declared.requests.Request.{Request}
use Rattle.pif_model.specs.Deadlines.{plain}
use Rattle.pif_model_lemmas.proofs.Waiting.{by_test}
use Rattle.pif_history_model.specs.declared.lines.Line.{Line}
use Rattle.pif_history_model.specs.declared.lines.Line.TheVariants.{Begin, Answer, End}
use Rattle.pif_parts_model.specs.Quiet.{call_by, changed_by, ChangesAlone}
use Rattle.pif_parts.specs.declared.calls.OpenCall.{OpenCall}
use Rattle.pif_parts.specs.Watching.{is_calling}
use Rattle.pif_parts.specs.Calls.{any_changes, call_in, calls_after, changes, changes_alone, closed, is_number, none_changes, opened}

-- ONE CALL IS CLOSED OR OPENED

-- no call, whatever is asked
pub none_of : (b : Bool) → ◌≡◌ {A = Option Request} (if b then None else None) None
none_of true = refl
none_of false = refl

-- without the call of u
pub call_closed : (u t : ℕ) (xs : List OpenCall) → call_in (closed u xs) t ≡ (if u == t then None else call_in xs t)
call_closed u t [] = sym (none_of (u == t))
call_closed u t (x ∷ xs) =
    by_test (λ b. call_in (if not b then x ∷ closed u xs else closed u xs) t ≡ (if u == t then None else call_in (x ∷ xs) t)) (x.thread == u)
    (λ e. call_closed u t xs ∙ skipped (eqb-true x.thread u e)) (λ e. kept (call_closed u t xs) e)
  where
    skipped : x.thread ≡ u → (if u == t then None else call_in xs t) ≡ (if u == t then None else call_in (x ∷ xs) t)
    skipped e =
        by_test (λ b. (if b then None else call_in xs t) ≡ (if b then None else (if x.thread == t then Some x.request else call_in xs t))) (u == t)
        (λ _. refl)
        (λ d. ap (λ b. if b then Some x.request else call_in xs t) (sym (ap (λ n. n == t) e ∙ d)))

    kept : call_in (closed u xs) t ≡ (if u == t then None else call_in xs t) → (x.thread == u) ≡ false
        → call_in (x ∷ closed u xs) t ≡ (if u == t then None else call_in (x ∷ xs) t)
    kept rest d =
        by_test (λ b. (if b then Some x.request else call_in (closed u xs) t) ≡ (if u == t then None else (if b then Some x.request else call_in xs t)))
        (x.thread == t)
        (λ e. by_test (λ b. Some x.request ≡ (if b then None else Some x.request)) (u == t)
        (λ f. absurd (true≢false (sym (eq-eqb x.thread u (eqb-true x.thread t e ∙ sym (eqb-true u t f))) ∙ d))) (λ _. refl))
        (λ _. rest)

-- a call at the end of others is found if its thread has none among them
call_last : (t : ℕ) (xs : List OpenCall) (y : OpenCall) → call_in xs t ≡ None → call_in (xs ++ y ∷ []) t ≡ (if y.thread == t then Some y.request else None)
call_last t [] y e = refl
call_last t (x ∷ xs) y e =
    by_test (λ b. (if b then Some x.request else call_in xs t) ≡ None
    → (if b then Some x.request else call_in (xs ++ y ∷ []) t) ≡ (if y.thread == t then Some y.request else None)) (x.thread == t)
    (λ _ k. absurd (cc)) (λ _ k. call_last t xs y k) e

-- and changes no other thread's
pub call_before : (t : ℕ) (xs : List OpenCall) (y : OpenCall) → (y.thread == t) ≡ false → call_in (xs ++ y ∷ []) t ≡ call_in xs t
call_before t [] y d = ap (λ b. if b then Some y.request else None) d
call_before t (x ∷ xs) y d = ap (λ o. if x.thread == t then Some x.request else o) (call_before t xs y d)

pub call_opened : (u t : ℕ) (q : Request) (xs : List OpenCall) → call_in (opened u q xs) t ≡ (if u == t then Some (plain q) else call_in xs t)
call_opened u t q xs =
    by_test (λ b. (u == t) ≡ b → call_in (opened u q xs) t ≡ (if b then Some (plain q) else call_in xs t)) (u == t)
    (λ _ e. call_last t (closed u xs) y (call_closed u t xs ∙ ap (λ b. if b then None else call_in xs t) e)
    ∙ ap (λ b. if b then Some (plain q) else None) e)
    (λ _ d. call_before t (closed u xs) y d ∙ call_closed u t xs ∙ ap (λ b. if b then None else call_in xs t) d) refl
  where
    y : OpenCall
    y = record { thread = u; request = plain q }

-- A LINE

pub calls_heard : (line : Line) (lines : List Line) (xs : List OpenCall) → ((t : ℕ) → call_in xs t ≡ call_by lines t)
    → (t : ℕ) → call_in (calls_after line xs) t ≡ call_by (line ∷ lines) t
calls_heard (Begin u q) lines xs h t = call_opened u t q xs ∙ ap (λ o. if u == t then Some (plain q) else o) (h t)
calls_heard (Answer u a) lines xs h t = call_closed u t xs ∙ ap (λ o. if u == t then None else o) (h t)
calls_heard (End u) lines xs h t = call_closed u t xs ∙ ap (λ o. if u == t then None else o) (h t)
calls_heard _ lines xs h t = h t

-- ORDER

-- a call that is found is listed
found_changes : (t u : ℕ) (xs : List OpenCall) → changed_by (call_in xs t) ≡ Some u
    → any_changes u xs ≡ true
found_changes t u [] e = absurd (cc)
found_changes t u (x ∷ xs) e =
    by_test (λ b. changed_by (if b then Some x.request else call_in xs t) ≡ Some u
    → any_changes u (x ∷ xs) ≡ true) (x.thread == t)
    (λ _ k. or_left (changes u x.request) (any_changes u xs) (ap (is_number u) k ∙ eq-eqb u u refl))
    (λ _ k. or_right (changes u x.request) (any_changes u xs) (found_changes t u xs k)) e

pub changes_heard : (q : Request) (lines : List Line) (xs : List OpenCall) → ((t : ℕ) → call_in xs t ≡ call_by lines t)
    → changes_alone q xs ≡ true → ChangesAlone lines q
changes_heard q lines xs h alone t u e k =
    let listed = found_changes t u xs (ap changed_by (h t) ∙ k) in
    let none : not (any_changes u xs) ≡ true = sym (ap (λ o. none_changes o xs) e) ∙ alone in
    absurd (true≢false (sym none ∙ ap not listed))

-- IDLE THREADS

pub none_open : (t : ℕ) (xs : List OpenCall) → is_calling t xs ≡ false → call_in xs t ≡ None
none_open t [] e = refl
none_open t (x ∷ xs) e =
    let both = or_parts (x.thread == t) (is_calling t xs) e in
    ap (λ b. if b then Some x.request else call_in xs t) both.0 ∙ none_open t xs both.1
