-- No thread has two calls in a list, and no count in a list is 0. So what is listed is open or held, and lists of a quiet
-- history are empty.
use Rattle.std.proofs.Common.{ℕ, ◌≡◌, ◌∙◌, ◌==◌, ◌||◌, Bool, true, false, not, List, [], ◌∷◌, ◌++◌, filter, Option, Some, None, refl, sym, ap, eqb-true, inl, inr, ◌⊎◌, if◌then◌else◌}
use Rattle.std.proofs.lemmas.Bool.{true≢false, eq-eqb, or_cases}
use Rattle.pif_types.specs.declared.requests.Request.{Request}
use Rattle.pif_types.specs.Shapes.{names_of}
use Rattle.pif_model_lemmas.proofs.Waiting.{by_test}
use Rattle.pif_history_model.specs.declared.lines.Line.{Line}
use Rattle.pif_history_model.specs.declared.lines.Line.TheVariants.{Begin, Answer, End}
use Rattle.pif_parts_model.specs.Quiet.{call_by, changed_by, ChangesAlone}
use Rattle.pif_parts.specs.declared.calls.OpenCall.{OpenCall}
use Rattle.pif_parts.specs.declared.holdings.Holding.{Holding}
use Rattle.pif_parts.specs.Calls.{any_changes, call_in, calls_after, changes, changes_alone, closed, is_number, none_changes, AreApart}
use Rattle.pif_parts.specs.Holdings.{count_after, count_in, held, held_after, held_of_call, held_of_mutex, is_of, with_count, without, AreSome}
use Rattle.pif_parts.specs.Watching.{is_calling, is_holding}
use Rattle.pif_parts.proofs.CallLemmas.{none_of, call_closed, call_before}

-- CALLS

-- nothing is some call
no_call : {q : Request} → ◌≡◌ {A = Option Request} (Some q) None → ⊥
no_call e = cc

flip_false : (a b : ℕ) → (a == b) ≡ false → (b == a) ≡ false
flip_false a b d =
    by_test (λ x. (b == a) ≡ x → x ≡ false) (b == a) (λ _ e. absurd (true≢false (sym (eq-eqb a b (sym (eqb-true b a e))) ∙ d))) (λ _ _. refl) refl

apart_closed : (u : ℕ) (xs : List OpenCall) → AreApart xs → AreApart (closed u xs)
apart_closed u [] a = tt
apart_closed u (x ∷ xs) a =
    by_test (λ b. AreApart (if not b then x ∷ closed u xs else closed u xs)) (x.thread == u)
    (λ _. apart_closed u xs a.1)
    (λ _. (call_closed u x.thread xs ∙ ap (λ o. if u == x.thread then None else o) a.0 ∙ none_of (u == x.thread), apart_closed u xs a.1))

apart_last : (xs : List OpenCall) (y : OpenCall) → AreApart xs → call_in xs y.thread ≡ None → AreApart (xs ++ y ∷ [])
apart_last [] y a e = (refl, tt)
apart_last (x ∷ xs) y a e =
    by_test (λ b. (x.thread == y.thread) ≡ b → (if b then Some x.request else call_in xs y.thread) ≡ None → AreApart (x ∷ (xs ++ y ∷ [])))
    (x.thread == y.thread)
    (λ _ _ k. absurd (no_call k))
    (λ _ d k. (call_before x.thread xs y (flip_false x.thread y.thread d) ∙ a.0, apart_last xs y a.1 k)) refl e

pub apart_heard : (line : Line) (xs : List OpenCall) → AreApart xs → AreApart (calls_after line xs)
apart_heard (Begin u q) xs a =
    apart_last (closed u xs) _ (apart_closed u xs a)
    (call_closed u u xs ∙ ap (λ b. if b then None else call_in xs u) (eq-eqb u u refl))
apart_heard (Answer u n) xs a = apart_closed u xs a
apart_heard (End u) xs a = apart_closed u xs a
apart_heard _ xs a = a

number_is : (u : ℕ) (o : Option ℕ) → is_number u o ≡ true → o ≡ Some u
number_is u None e = absurd (true≢false (sym e))
number_is u (Some v) e = ap (λ n. Some n) (eqb-true v u e)

-- a call that is listed is open
listed_changes : (u : ℕ) (xs : List OpenCall) → AreApart xs → any_changes u xs ≡ true → (t : ℕ) × (changed_by (call_in xs t) ≡ Some u)
listed_changes u [] a e = absurd (true≢false (sym e))
listed_changes u (x ∷ xs) a e = go (or_cases (changes u x.request) (any_changes u xs) e) (listed_changes u xs a.1)
  where
    go : (changes u x.request ≡ true) ⊎ (any_changes u xs ≡ true)
        → (any_changes u xs ≡ true → (t : ℕ) × (changed_by (call_in xs t) ≡ Some u))
        → (t : ℕ) × (changed_by (call_in (x ∷ xs) t) ≡ Some u)
    go (inl k) more = (
      x.thread,
      ap (λ b. changed_by (if b then Some x.request else call_in xs x.thread)) (eq-eqb x.thread x.thread refl)
          ∙ number_is u (changed_by (Some x.request)) k,
    )
    go (inr k) more =
        let r = more k in (
          r.0,
          by_test (λ b. (x.thread == r.0) ≡ b → changed_by (if b then Some x.request else call_in xs r.0) ≡ Some u) (x.thread == r.0)
              (λ _ f. absurd (none_there (ap changed_by (ap (call_in xs) (sym (eqb-true x.thread r.0 f)) ∙ a.0)) r.1)) (λ _ _. r.1) refl,
        )
      where
        none_there : {o : Option ℕ} → o ≡ None → o ≡ Some u → ⊥
        none_there f g = cc

pub changes_told : (q : Request) (lines : List Line) (xs : List OpenCall) → ((t : ℕ) → call_in xs t ≡ call_by lines t)
    → AreApart xs → ChangesAlone lines q → changes_alone q xs ≡ true
changes_told q lines xs h a alone = go (changed_by (Some q)) refl
  where
    go : (o : Option ℕ) → changed_by (Some q) ≡ o → none_changes o xs ≡ true
    go None e = refl
    go (Some u) e =
        by_test (λ b. any_changes u xs ≡ b → not b ≡ true) (any_changes u xs)
        (λ _ f. let r = listed_changes u xs a f in absurd (alone r.0 u e (ap changed_by (sym (h r.0)) ∙ r.1))) (λ _ _. refl) refl

pub not_calling : (t : ℕ) (xs : List OpenCall) → call_in xs t ≡ None → is_calling t xs ≡ false
not_calling t [] e = refl
not_calling t (x ∷ xs) e =
    by_test (λ b. (if b then Some x.request else call_in xs t) ≡ None → (b || is_calling t xs) ≡ false) (x.thread == t)
    (λ _ k. absurd (no_call k)) (λ _ k. not_calling t xs k) e

pub no_calls : (xs : List OpenCall) → ((t : ℕ) → call_in xs t ≡ None) → xs ≡ []
no_calls [] h = refl
no_calls (x ∷ xs) h =
    absurd (no_call (sym (ap (λ b. if b then Some x.request else call_in xs x.thread) (eq-eqb x.thread x.thread refl)) ∙ h x.thread))

-- HOLDINGS

some_filtered : (p : Holding → Bool) (xs : List Holding) → AreSome xs → AreSome (filter p xs)
some_filtered p [] s = tt
some_filtered p (x ∷ xs) s =
    by_test (λ b. AreSome (if b then x ∷ filter p xs else filter p xs)) (p x)
    (λ _. (s.0, some_filtered p xs s.1)) (λ _. some_filtered p xs s.1)

some_both : (xs ys : List Holding) → AreSome xs → AreSome ys → AreSome (xs ++ ys)
some_both [] ys s r = r
some_both (x ∷ xs) ys s r = (s.0, some_both xs ys s.1 r)

some_with : (t m n : ℕ) (xs : List Holding) → AreSome xs → AreSome (with_count t m n xs)
some_with t m n xs s =
    some_both (without t m xs) (held t m n) (some_filtered (λ x. not (is_of t m x)) xs s)
    (by_test (λ b. (n == 0) ≡ b → AreSome (if b then [] else record { thread = t; mutex = m; count = n } ∷ [])) (n == 0)
    (λ _ _. tt) (λ _ d. (λ e. true≢false (sym (eq-eqb n 0 e) ∙ d), tt)) refl)

some_of_mutex : (t a : ℕ) (q : Request) (o : Option ℕ) (xs : List Holding) → AreSome xs → AreSome (held_of_mutex t a q o xs)
some_of_mutex t a q None xs s = s
some_of_mutex t a q (Some m) xs s = some_with t m (count_after q a (count_in xs t m)) xs s

some_of_call : (t a : ℕ) (o : Option Request) (xs : List Holding) → AreSome xs → AreSome (held_of_call t a o xs)
some_of_call t a None xs s = s
some_of_call t a (Some q) xs s = some_of_mutex t a q (names_of q).mutex xs s

pub some_heard : (line : Line) (calls : List OpenCall) (xs : List Holding) → AreSome xs → AreSome (held_after line calls xs)
some_heard (Answer t a) calls xs s = some_of_call t a (call_in calls t) xs s
some_heard (End t) calls xs s = some_filtered (λ (x : Holding). not (x.thread == t)) xs s
some_heard _ calls xs s = s

-- the first holding of a list
first_held : (x : Holding) (xs : List Holding) → count_in (x ∷ xs) x.thread x.mutex ≡ x.count
first_held x xs =
    ap (λ b. if (if b then x.mutex == x.mutex else false) then x.count else count_in xs x.thread x.mutex) (eq-eqb x.thread x.thread refl)
    ∙ ap (λ b. if b then x.count else count_in xs x.thread x.mutex) (eq-eqb x.mutex x.mutex refl)

pub not_holding : (t : ℕ) (xs : List Holding) → AreSome xs → ((m : ℕ) → count_in xs t m ≡ 0) → is_holding t xs ≡ false
not_holding t [] s h = refl
not_holding t (x ∷ xs) s h =
    by_test (λ b. (x.thread == t) ≡ b → (b || is_holding t xs) ≡ false) (x.thread == t)
    (λ _ e. absurd (s.0 (sym (first_held x xs) ∙ ap (λ n. count_in (x ∷ xs) n x.mutex) (eqb-true x.thread t e) ∙ h x.mutex)))
    (λ _ d. not_holding t xs s.1
    (λ m. ap (λ b. if (if b then x.mutex == m else false) then x.count else count_in xs t m) (sym d) ∙ h m)) refl

pub no_holdings : (xs : List Holding) → AreSome xs → ((t m : ℕ) → count_in xs t m ≡ 0) → xs ≡ []
no_holdings [] s h = refl
no_holdings (x ∷ xs) s h = absurd (s.0 (sym (first_held x xs) ∙ h x.thread x.mutex))
