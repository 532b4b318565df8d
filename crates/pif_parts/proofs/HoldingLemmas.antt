-- Lists of holdings tell how often threads hold mutexes by the lines.
use Rattle.std.proofs.Common.{ℕ, ◌≡◌, ◌∙◌, ◌==◌, Bool, true, false, not, List, [], ◌∷◌, ◌++◌, filter, Option, Some, None, refl, sym, ap, eqb-true, if◌then◌else◌}
use Rattle.std.proofs.lemmas.Bool.{true≢false, eq-eqb, or_parts}
use Rattle.pif_types.specs.declared.requests.Request.{Request}
use Rattle.pif_types.specs.declared.requests.Request.TheVariants.{Lock, TryLock, Unlock, Consistent, Wait, Signal, Broadcast, SetPrio, TimedLock, TimedWait}
use Rattle.pif_types.specs.Shapes.{names_of}
use Rattle.pif_model.specs.History.{hold_count_after_answer, hold_count_locked, hold_count_waited}
use Rattle.pif_model_lemmas.proofs.Waiting.{by_test}
use Rattle.pif_history_model.specs.declared.lines.Line.{Line}
use Rattle.pif_history_model.specs.declared.lines.Line.TheVariants.{Answer, End}
use Rattle.pif_parts_model.specs.Quiet.{call_by, holds_by}
use Rattle.pif_parts.specs.declared.calls.OpenCall.{OpenCall}
use Rattle.pif_parts.specs.declared.holdings.Holding.{Holding}
use Rattle.pif_parts.specs.Calls.{call_in}
use Rattle.pif_parts.specs.Watching.{is_holding}
use Rattle.pif_parts.specs.Holdings.{count_after, count_in, held, held_after, held_of_call, held_of_mutex, is_of, with_count, without_thread}

-- ONE COUNT IS CHANGED

-- whether it is the pair of u and n
abbrev is_pair : (t m u n : ℕ) → Bool
is_pair t m u n = if t == u then m == n else false

-- it is one pair
pair_is : (t m u n : ℕ) → is_pair t m u n ≡ true → (t ≡ u) × (m ≡ n)
pair_is t m u n e =
    by_test (λ b. (if b then m == n else false) ≡ true → (t ≡ u) × (m ≡ n)) (t == u)
    (λ f k. (eqb-true t u f, eqb-true m n k)) (λ _ k. absurd (true≢false (sym k))) e

pair_same : (t m : ℕ) → is_pair t m t m ≡ true
pair_same t m = ap (λ b. if b then m == m else false) (eq-eqb t t refl) ∙ eq-eqb m m refl

-- t holds m so often from now on
count_with : (t m k u n : ℕ) (xs : List Holding) → count_in (with_count t m k xs) u n ≡ (if is_pair t m u n then k else count_in xs u n)
count_with t m k u n [] =
    by_test (λ b. (k == 0) ≡ b → count_in (if b then [] else record { thread = t; mutex = m; count = k } ∷ []) u n
    ≡ (if is_pair t m u n then k else 0)) (k == 0)
    (λ _ e. by_test (λ b. 0 ≡ (if b then k else 0)) (is_pair t m u n) (λ _. sym (eqb-true k 0 e)) (λ _. refl)) (λ _ _. refl) refl
count_with t m k u n (x ∷ xs) =
    by_test (λ b. is_of t m x ≡ b → count_in ((if not b then x ∷ rest else rest) ++ held t m k) u n ≡ (if is_pair t m u n then k else count_in (x ∷ xs) u n)) (is_of t m x)
    (λ _ e. count_with t m k u n xs ∙ skipped (pair_is x.thread x.mutex t m e)) (λ _ e. kept (count_with t m k u n xs) e) refl
  where
    rest : List Holding
    rest = filter (λ y. not (is_of t m y)) xs

    skipped : (x.thread ≡ t) × (x.mutex ≡ m) → (if is_pair t m u n then k else count_in xs u n) ≡ (if is_pair t m u n then k else count_in (x ∷ xs) u n)
    skipped s =
        by_test (λ b. is_pair t m u n ≡ b → (if b then k else count_in xs u n) ≡ (if b then k else (if is_of u n x then x.count else count_in xs u n))) (is_pair t m u n)
        (λ _ _. refl)
        (λ _ d. ap (λ b. if b then x.count else count_in xs u n) (sym ((λ i. is_pair (s.0 i) (s.1 i) u n) ∙ d))) refl

    kept : count_in (rest ++ held t m k) u n ≡ (if is_pair t m u n then k else count_in xs u n)
        → is_of t m x ≡ false → (if is_of u n x then x.count else count_in (rest ++ held t m k) u n) ≡ (if is_pair t m u n then k else (if is_of u n x then x.count else count_in xs u n))
    kept others d =
        by_test (λ b. is_of u n x ≡ b → (if b then x.count else count_in (rest ++ held t m k) u n) ≡ (if is_pair t m u n then k else (if b then x.count else count_in xs u n))) (is_of u n x)
        (λ _ e. by_test (λ b. is_pair t m u n ≡ b → x.count ≡ (if b then k else x.count)) (is_pair t m u n)
        (λ _ f. absurd (apart (pair_is x.thread x.mutex u n e) (pair_is t m u n f) d)) (λ _ _. refl) refl)
        (λ _ _. others) refl
      where
        apart : (x.thread ≡ u) × (x.mutex ≡ n) → (t ≡ u) × (m ≡ n) → is_of t m x ≡ false → ⊥
        apart a c f = true≢false (sym (pair_same t m) ∙ (λ i. is_pair ((c.0 ∙ sym a.0) i) ((c.1 ∙ sym a.1) i) t m) ∙ f)

-- the count that t has of k goes through f
renamed : (f : ℕ → ℕ) (u k t m : ℕ) (xs : List Holding) → count_in (with_count u k (f (count_in xs u k)) xs) t m
    ≡ (if u == t then (if k == m then f (count_in xs t m) else count_in xs t m) else count_in xs t m)
renamed f u k t m xs = count_with u k (f (count_in xs u k)) t m xs ∙ by_thread
  where
    by_mutex : u ≡ t → (if k == m then f (count_in xs u k) else count_in xs t m) ≡ (if k == m then f (count_in xs t m) else count_in xs t m)
    by_mutex e =
        by_test (λ b. (k == m) ≡ b → (if b then f (count_in xs u k) else count_in xs t m) ≡ (if b then f (count_in xs t m) else count_in xs t m)) (k == m)
        (λ _ g. let same = eqb-true k m g in (λ i. f (count_in xs (e i) (same i)))) (λ _ _. refl) refl

    by_thread : (if is_pair u k t m then f (count_in xs u k) else count_in xs t m)
        ≡ (if u == t then (if k == m then f (count_in xs t m) else count_in xs t m) else count_in xs t m)
    by_thread =
        by_test (λ b. (u == t) ≡ b → (if (if b then k == m else false) then f (count_in xs u k) else count_in xs t m)
        ≡ (if b then (if k == m then f (count_in xs t m) else count_in xs t m) else count_in xs t m)) (u == t)
        (λ _ e. by_mutex (eqb-true u t e)) (λ _ _. refl) refl

-- a count that stays, whatever is asked
one_of : (b : Bool) (n : ℕ) → (if b then n else n) ≡ n
one_of true n = refl
one_of false n = refl

stays : (u k t m : ℕ) (xs : List Holding) → count_in (with_count u k (count_in xs u k) xs) t m ≡ (if u == t then count_in xs t m else count_in xs t m)
stays u k t m xs =
    renamed (λ n. n) u k t m xs
    ∙ ap (λ n. if u == t then n else count_in xs t m) (one_of (k == m) (count_in xs t m))

-- A LINE

-- a call of this request was answered
of_mutex : (u a t m : ℕ) (q : Request) (xs : List Holding) → count_in (held_of_mutex u a q (names_of q).mutex xs) t m
    ≡ (if u == t then hold_count_after_answer m (Some q) a (count_in xs t m) else count_in xs t m)
of_mutex u a t m (Lock k) xs = renamed (hold_count_locked a) u k t m xs
of_mutex u a t m (TryLock k) xs = renamed (hold_count_locked a) u k t m xs
of_mutex u a t m (Unlock k) xs = renamed (count_after (Unlock k) a) u k t m xs
of_mutex u a t m (Wait c k) xs = renamed (hold_count_waited a) u k t m xs
of_mutex u a t m (Consistent k) xs = stays u k t m xs
of_mutex u a t m (TimedLock k d) xs = stays u k t m xs
of_mutex u a t m (TimedWait c k d) xs = stays u k t m xs
of_mutex u a t m (Signal c) xs = sym (one_of (u == t) (count_in xs t m))
of_mutex u a t m (Broadcast c) xs = sym (one_of (u == t) (count_in xs t m))
of_mutex u a t m (SetPrio v p) xs = sym (one_of (u == t) (count_in xs t m))

-- the call of u, if one was open, was answered
of_call : (u a t m : ℕ) (o : Option Request) (xs : List Holding) → count_in (held_of_call u a o xs) t m
    ≡ (if u == t then hold_count_after_answer m o a (count_in xs t m) else count_in xs t m)
of_call u a t m None xs = sym (one_of (u == t) (count_in xs t m))
of_call u a t m (Some q) xs = of_mutex u a t m q xs

-- without all that u holds
count_thread : (u t m : ℕ) (xs : List Holding) → count_in (without_thread u xs) t m ≡ (if u == t then 0 else count_in xs t m)
count_thread u t m [] = sym (one_of (u == t) 0)
count_thread u t m (x ∷ xs) =
    by_test (λ b. (x.thread == u) ≡ b → count_in (if not b then x ∷ without_thread u xs else without_thread u xs) t m
    ≡ (if u == t then 0 else count_in (x ∷ xs) t m)) (x.thread == u)
    (λ _ e. count_thread u t m xs ∙ skipped (eqb-true x.thread u e)) (λ _ e. kept (count_thread u t m xs) e) refl
  where
    skipped : x.thread ≡ u → (if u == t then 0 else count_in xs t m) ≡ (if u == t then 0 else count_in (x ∷ xs) t m)
    skipped s =
        by_test (λ b. (u == t) ≡ b → (if b then 0 else count_in xs t m) ≡ (if b then 0 else (if (if x.thread == t then x.mutex == m else false) then x.count else count_in xs t m))) (u == t)
        (λ _ _. refl)
        (λ _ d. ap (λ b. if (if b then x.mutex == m else false) then x.count else count_in xs t m) (sym (ap (λ n. n == t) s ∙ d))) refl

    kept : count_in (without_thread u xs) t m ≡ (if u == t then 0 else count_in xs t m) → (x.thread == u) ≡ false
        → (if is_of t m x then x.count else count_in (without_thread u xs) t m) ≡ (if u == t then 0 else (if is_of t m x then x.count else count_in xs t m))
    kept others d =
        by_test (λ b. is_of t m x ≡ b → (if b then x.count else count_in (without_thread u xs) t m) ≡ (if u == t then 0 else (if b then x.count else count_in xs t m))) (is_of t m x)
        (λ _ e. by_test (λ b. (u == t) ≡ b → x.count ≡ (if b then 0 else x.count)) (u == t)
        (λ _ f. absurd (true≢false (sym (eq-eqb x.thread u ((pair_is x.thread x.mutex t m e).0 ∙ sym (eqb-true u t f))) ∙ d))) (λ _ _. refl) refl)
        (λ _ _. others) refl

pub held_heard : (line : Line) (lines : List Line) (calls : List OpenCall) (xs : List Holding) → ((t : ℕ) → call_in calls t ≡ call_by lines t)
    → ((t m : ℕ) → count_in xs t m ≡ holds_by lines t m) → (t m : ℕ) → count_in (held_after line calls xs) t m ≡ holds_by (line ∷ lines) t m
held_heard (Answer u a) lines calls xs c h t m =
    of_call u a t m (call_in calls u) xs ∙ by_thread
  where
    by_thread : (if u == t then hold_count_after_answer m (call_in calls u) a (count_in xs t m) else count_in xs t m)
        ≡ (if u == t then hold_count_after_answer m (call_by lines t) a (holds_by lines t m) else holds_by lines t m)
    by_thread =
        by_test (λ b. (u == t) ≡ b → (if b then hold_count_after_answer m (call_in calls u) a (count_in xs t m) else count_in xs t m)
        ≡ (if b then hold_count_after_answer m (call_by lines t) a (holds_by lines t m) else holds_by lines t m)) (u == t)
        (λ _ e. let same = eqb-true u t e in
        (λ i. hold_count_after_answer m ((ap (call_in calls) same ∙ c t) i) a (h t m i))) (λ _ _. h t m) refl
held_heard (End u) lines calls xs c h t m = count_thread u t m xs ∙ ap (λ n. if u == t then 0 else n) (h t m)
held_heard _ lines calls xs c h t m = h t m

-- IDLE THREADS

pub none_held : (t m : ℕ) (xs : List Holding) → is_holding t xs ≡ false → count_in xs t m ≡ 0
none_held t m [] e = refl
none_held t m (x ∷ xs) e =
    let both = or_parts (x.thread == t) (is_holding t xs) e in
    ap (λ b. if (if b then x.mutex == m else false) then x.count else count_in xs t m) both.0 ∙ none_held t m xs both.1
