-- The thread that is taken next from a variable, as the parked threads are gone through in order.
use Rattle.std.proofs.Common.{◌≡◌, ◌≢◌, ◌⊎◌, ℕ, ◌+◌, ◌<◌, ◌≤◌, get_or, length, take, ◌||◌, ◌&&◌, ◌==◌, Bool, true, false, not, cond, true≢false, nat_lt, if◌then◌else◌, List, [], ◌∷◌, ◌++◌, map, filter, Option, Some, None, refl, sym, ap, ◌∙◌, inl, inr, arith, eq-eqb, ne_eqb}
use Rattle.std.specs.List.{list_any}
use Rattle.std.proofs.Math.Path.{fun_ext}
use Rattle.std.proofs.lemmas.Bool.{cases_eq}
use Rattle.std.proofs.lemmas.Bool.Decides.{nat_tests}
use Rattle.std.proofs.lemmas.List.{map-append, append-nil, take_more, take_all}
use Rattle.std.proofs.lemmas.List.Elements.{filter-append}
use Rattle.pif_model.specs.Graph.{has_waiter, first_greatest, waiters_with, next_waiter}
use Rattle.pif_model_lemmas.proofs.Waiting.{by_test, has_waiter-push, or_true, or_false}
use Rattle.pif_model.specs.PiKernel.{Parking, parked_pairs, has_parked, top_parked, has_other_target}
use Rattle.pif_kernel_model.specs.Boosts.{local_of}
use Rattle.pif_model_lemmas.proofs.kernel.Parks.{parked_pairs-push}
use Rattle.pif_kernel_model.specs.Inside.{Inside, IsSoundInside, kernel_of}
use Rattle.pif_kernel_model.specs.Takings.{first_parked, goes_before, have_target}
use Rattle.pif_kernel_model.proofs.Seats.{parked_seen}

-- one more at the end of some is the first greatest if it is above all before it
pub greatest_push : (ps : List (ℕ × ℕ)) (q : ℕ × ℕ) → (ps ≡ [] → ⊥)
    → first_greatest (ps ++ q ∷ []) ≡ (if nat_lt (first_greatest ps).1 q.1 then q else first_greatest ps)
unfolding first_greatest
greatest_push [] q some = absurd (some refl)
greatest_push (p ∷ []) q some =
    let first : nat_lt p.1 0 ≡ false = grind (arith, nat_tests) in
    let last : nat_lt q.1 0 ≡ false = grind (arith, nat_tests) in rw (first, last) refl
greatest_push (p ∷ x ∷ ps) q some = rw (greatest_push (x ∷ ps) q (λ e. cc)) (go (first_greatest (x ∷ ps)))
  where
    go : (x : ℕ × ℕ)
        → (if nat_lt p.1 (if nat_lt x.1 q.1 then q else x).1 then (if nat_lt x.1 q.1 then q else x) else p)
        ≡ (if nat_lt (if nat_lt p.1 x.1 then x else p).1 q.1 then q else (if nat_lt p.1 x.1 then x else p))
    go x = by_test
        (λ a. (if nat_lt p.1 (if a then q else x).1 then (if a then q else x) else p)
        ≡ (if nat_lt (if nat_lt p.1 x.1 then x else p).1 q.1 then q else (if nat_lt p.1 x.1 then x else p)))
        (nat_lt x.1 q.1)
        (λ e. by_test (λ b. (if nat_lt p.1 q.1 then q else p)
        ≡ (if nat_lt (if b then x else p).1 q.1 then q else (if b then x else p)))
        (nat_lt p.1 x.1)
        (λ f. let g : nat_lt p.1 q.1 ≡ true = grind (arith, nat_tests) in rw (g, e) refl) (λ f. refl))
        (λ e. by_test (λ b. (if b then x else p)
        ≡ (if nat_lt (if b then x else p).1 q.1 then q else (if b then x else p)))
        (nat_lt p.1 x.1)
        (λ f. rw e refl) (λ f. let g : nat_lt p.1 q.1 ≡ false = grind (arith, nat_tests) in rw g refl))

-- and one alone is it
greatest_alone : (q : ℕ × ℕ) → first_greatest (q ∷ []) ≡ q
unfolding first_greatest
greatest_alone q = let last : nat_lt q.1 0 ≡ false = grind (arith, nat_tests) in rw last refl

module _ (f : ℕ → ℕ) where
  -- if nobody waits for c, its waiters are none
  waiters_none : (ws : List (ℕ × ℕ)) (c : ℕ) → has_waiter ws c ≡ false → waiters_with f ws c ≡ []
  waiters_none [] c h = refl
  waiters_none (w ∷ ws) c h = grind (arith, nat_tests, waiters_none ws c)

  -- and if somebody does, they are some
  waiters_some : (ws : List (ℕ × ℕ)) (c : ℕ) → has_waiter ws c ≡ true → waiters_with f ws c ≡ [] → ⊥
  waiters_some [] c h e = true≢false (sym h)
  waiters_some (w ∷ ws) c h e =
      by_test (λ b. (b || has_waiter ws c) ≡ true
      → map {B = ℕ × ℕ} (λ (x : ℕ × ℕ). (x.0, f x.0)) (cond b (w ∷ filter (λ (x : ℕ × ℕ). x.1 == c) ws)
      (filter (λ (x : ℕ × ℕ). x.1 == c) ws)) ≡ [] → ⊥)
      (w.1 == c) (λ y some none. cc) (λ y some none. waiters_some ws c some none) h e

  -- the first greatest stands with its priority
  greatest_own : (ws : List (ℕ × ℕ)) (c : ℕ) → has_waiter ws c ≡ true
      → (first_greatest (waiters_with f ws c)).1 ≡ f (first_greatest (waiters_with f ws c)).0
  unfolding first_greatest
  greatest_own [] c h = grind arith
  greatest_own (w ∷ ws) c h = grind (arith, nat_tests, greatest_own ws c, waiters_none ws c, h)

  -- the next one, by the first greatest
  next_by : (ws : List (ℕ × ℕ)) (c : ℕ) → first_parked f ws c
      ≡ (if has_waiter ws c then Some (first_greatest (waiters_with f ws c)).0 else None)
  unfolding next_waiter
  next_by ws c = refl

  -- one who waits for another
  pub parked_push_other : (ws : List (ℕ × ℕ)) (t d c : ℕ) → d ≢ c
      → first_parked f (ws ++ (t, d) ∷ []) c ≡ first_parked f ws c
  parked_push_other ws t d c ne =
      next_by (ws ++ (t, d) ∷ []) c
      ∙ (λ i. if some i then Some (first_greatest (waiters i)).0 else None)
      ∙ sym (next_by ws c)
    where
      some : has_waiter (ws ++ (t, d) ∷ []) c ≡ has_waiter ws c
      some =
          has_waiter-push ws t d c ∙ ap (λ b. has_waiter ws c || b) (ne_eqb d c ne) ∙ or_false (has_waiter ws c)

      none : (xs : List (ℕ × ℕ)) (b : Bool) → b ≡ false → xs ++ cond b ((t, d) ∷ []) [] ≡ xs
      none xs true e = absurd (true≢false e)
      none xs false e = append-nil xs

      waiters : waiters_with f (ws ++ (t, d) ∷ []) c ≡ waiters_with f ws c
      waiters =
          ap (map (λ (w : ℕ × ℕ). (w.0, f w.0))) (filter-append (λ (w : ℕ × ℕ). w.1 == c) ws ((t, d) ∷ [])
          ∙ none (filter (λ (w : ℕ × ℕ). w.1 == c) ws) (d == c) (ne_eqb d c ne))

  -- one who waits for c
  pub parked_push_same : (ws : List (ℕ × ℕ)) (t d c : ℕ) → d ≡ c
      → first_parked f (ws ++ (t, d) ∷ []) c
      ≡ (if goes_before f t (first_parked f ws c) then Some t else first_parked f ws c)
  parked_push_same ws t d c e =
      next_by (ws ++ (t, d) ∷ []) c
      ∙ (λ i. if some i then Some (first_greatest (waiters i)).0 else None)
      ∙ go (has_waiter ws c) refl
      ∙ sym (ap (λ (o : Option ℕ). if goes_before f t o then Some t else o) (next_by ws c))
    where
      some : has_waiter (ws ++ (t, d) ∷ []) c ≡ true
      some =
          has_waiter-push ws t d c ∙ ap (λ b. has_waiter ws c || b) (eq-eqb d c e) ∙ or_true (has_waiter ws c)

      one : (xs : List (ℕ × ℕ)) (b : Bool) → b ≡ true → xs ++ cond b ((t, d) ∷ []) [] ≡ xs ++ (t, d) ∷ []
      one xs true e = refl
      one xs false e = absurd (true≢false (sym e))

      waiters : waiters_with f (ws ++ (t, d) ∷ []) c ≡ waiters_with f ws c ++ (t, f t) ∷ []
      waiters =
          ap (map (λ (w : ℕ × ℕ). (w.0, f w.0))) (filter-append (λ (w : ℕ × ℕ). w.1 == c) ws ((t, d) ∷ [])
          ∙ one (filter (λ (w : ℕ × ℕ). w.1 == c) ws) (d == c) (eq-eqb d c e))
          ∙ map-append (λ (w : ℕ × ℕ). (w.0, f w.0)) (filter (λ (w : ℕ × ℕ). w.1 == c) ws) ((t, d) ∷ [])

      chosen : (x : ℕ × ℕ) (b : Bool)
          → Some (if b then (t, f t) else x).0 ≡ (if b then Some t else Some x.0)
      chosen x true = refl
      chosen x false = refl

      go : (b : Bool) → has_waiter ws c ≡ b
          → Some (first_greatest (waiters_with f ws c ++ (t, f t) ∷ [])).0
          ≡ (if goes_before f t (if b then Some (first_greatest (waiters_with f ws c)).0 else None) then Some t else
          (if b then Some (first_greatest (waiters_with f ws c)).0 else None))
      go true h =
          ap (λ (x : ℕ × ℕ). Some x.0) (greatest_push (waiters_with f ws c) (t, f t) (waiters_some ws c h))
          ∙ ap (λ (n : ℕ). Some (if nat_lt n (f t) then (t, f t) else first_greatest (waiters_with f ws c)).0)
          (greatest_own ws c h)
          ∙ chosen (first_greatest (waiters_with f ws c)) (nat_lt (f (first_greatest (waiters_with f ws c)).0) (f t))
      go false h =
          ap (λ (l : List (ℕ × ℕ)). Some (first_greatest (l ++ (t, f t) ∷ [])).0) (waiters_none ws c h)
          ∙ ap (λ (x : ℕ × ℕ). Some x.0) (greatest_alone (t, f t))

-- the pairs of some parked threads
abbrev pub pairs_in : List Parking → List (ℕ × ℕ)
pairs_in ps = parked_pairs ps

-- who is next, of one that was gone through later and the one that was next before
abbrev next_with : (ℕ → ℕ) → ℕ → Parking → Option ℕ → Option ℕ
next_with f c x next = if x.cond == c then (if goes_before f x.thread next then Some x.thread else next) else next

-- one parked thread more was gone through
pub parked_more : (f : ℕ → ℕ) (ps : List Parking) (i c : ℕ) (x : Parking) → i < length ps → get_or ps i x ≡ x
    → first_parked f (pairs_in (take (i + 1) ps)) c ≡ next_with f c x (first_parked f (pairs_in (take i ps)) c)
parked_more f ps i c x l is =
    ap (λ (ws : List (ℕ × ℕ)). first_parked f ws c) (more
    ∙ parked_pairs-push (take i ps) x)
    ∙ go (cases_eq x.cond c)
  where
    more : pairs_in (take (i + 1) ps) ≡ parked_pairs (take i ps ++ x ∷ [])
    more = ap pairs_in (take_more ps i x l ∙ ap (λ (y : Parking). take i ps ++ y ∷ []) is)

    go : (x.cond ≡ c) ⊎ (x.cond ≡ c → ⊥)
        → first_parked f (pairs_in (take i ps) ++ (x.thread, x.cond) ∷ []) c
        ≡ next_with f c x (first_parked f (pairs_in (take i ps)) c)
    go (inl e) =
        let yes : (x.cond == c) ≡ true = eq-eqb x.cond c e in
        parked_push_same f (pairs_in (take i ps)) x.thread x.cond c e ∙ sym (rw yes refl)
    go (inr ne) =
        let no : (x.cond == c) ≡ false = ne_eqb x.cond c ne in
        parked_push_other f (pairs_in (take i ps)) x.thread x.cond c ne ∙ sym (rw no refl)

-- all were gone through
pub parked_all : (f : ℕ → ℕ) (ps : List Parking) (i c : ℕ) → length ps ≤ i
    → first_parked f (pairs_in (take i ps)) c ≡ first_parked f (pairs_in ps) c
parked_all f ps i c l = ap (λ (xs : List Parking). first_parked f (pairs_in xs) c) (take_all i ps l)

-- the thread that is taken next from a variable, by those that are kept
pub next_seen : (p : Inside) → IsSoundInside p → (c : ℕ) → first_parked (local_of p.owners) (parked_pairs p.parked) c
    ≡ (if has_parked (kernel_of p) c then Some (top_parked (kernel_of p) c) else None)
next_seen p h c = λ i. first_parked (fun_ext h.local i) (parked_pairs (sym (parked_seen p) i)) c

-- some thread has another target if not each has this one
another_target : (ps : List Parking) (c m : ℕ) → not (have_target ps c m)
    ≡ list_any (λ (x : Parking). if x.cond == c then (if x.target == m then false else true) else false) ps
another_target [] c m = refl
another_target (x ∷ ps) c m = by_target (x.cond == c) (x.target == m) (another_target ps c m)
  where
    by_target : (a b : Bool) → not (have_target ps c m)
        ≡ list_any (λ (x : Parking). if x.cond == c then (if x.target == m then false else true) else false) ps
        → not ((if a then b else true) && have_target ps c m)
        ≡ ((if a then (if b then false else true) else false)
        || list_any (λ (x : Parking). if x.cond == c then (if x.target == m then false else true) else false) ps)
    by_target true true ih = ih
    by_target true false ih = refl
    by_target false b ih = ih

-- the same in the kernel by itself
pub target_seen : (p : Inside) (c m : ℕ) → not (have_target p.parked c m) ≡ has_other_target (kernel_of p) c m
target_seen p c m =
    ap (λ (ps : List Parking). not (have_target ps c m)) (sym (parked_seen p))
    ∙ another_target (kernel_of p).parked c m
