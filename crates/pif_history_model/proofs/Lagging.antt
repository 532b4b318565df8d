-- Threads that lag behind others: some blocked waits are not noted yet that are noted there. What is left of what moves
-- read, and that the changes of which steps are made up keep it.
use Rattle.std.proofs.Common.{ℕ, zero, suc, ◌≡◌, ◌<◌, ◌+◌, ◌==◌, ◌∙◌, Bool, true, false, List, [], ◌∷◌, ◌++◌, length, get_or, set, map, Option, Some, None, refl, sym, subst, ap, arith, if◌then◌else◌}
use Rattle.std.proofs.lemmas.Bool.{true≢false}
use Rattle.std.proofs.lemmas.List.{length-set, length-map, length-append}
use Rattle.pif_types.specs.declared.requests.Request.TheVariants.{Wait}
use Rattle.pif_model.specs.Deadlines.{ran_out}
use Rattle.pif_model.specs.Posix.{Thread, Call, nobody, new_thread, after_use, is_newly_blocked, after_unblocking}
use Rattle.pif_model.specs.World.Progress.{Blocked}
use Rattle.pif_model_lemmas.proofs.Places.{mapped_at}

-- the call of a wait that is blocked
abbrev pub blocked_call : (c m : ℕ) → (noted : Bool) → Option Call
blocked_call c m noted = Some (record { request = Wait c m; progress = Blocked noted })

-- the thread t is y in place of x: it is the same, or lags
pub data IsBehind (t : ℕ) (x y : Thread) : Type 0 where
  same : x ≡ y → IsBehind t x y
  lags : (c m : ℕ) → (t == 0) ≡ false → x.living ≡ true → x.call ≡ blocked_call c m true
      → y ≡ record x { call = blocked_call c m false } → IsBehind t x y

-- the threads are ys in place of xs, of which some may lag
pub record AreBehind (xs ys : List Thread) : Type 0 where
  pub size : length xs ≡ length ys
  pub each : (t : ℕ) → IsBehind t (get_or xs t nobody) (get_or ys t nobody)

-- LISTS

-- what holds of each place holds once one is written
pub set_each : (R : ℕ → Thread → Thread → Type 0) (xs ys : List Thread) (t : ℕ) (x y : Thread) → length xs ≡ length ys → R t x y
    → ((u : ℕ) → R u (get_or xs u nobody) (get_or ys u nobody)) → (u : ℕ) → R u (get_or (set xs t x) u nobody) (get_or (set ys t y) u nobody)
set_each R [] [] t x y n r e u = e u
set_each R [] (b ∷ ys) t x y n r e u = absurd (cc)
set_each R (a ∷ xs) [] t x y n r e u = absurd (cc)
set_each R (a ∷ xs) (b ∷ ys) zero x y n r e zero = r
set_each R (a ∷ xs) (b ∷ ys) zero x y n r e (suc u) = e (suc u)
set_each R (a ∷ xs) (b ∷ ys) (suc t) x y n r e zero = e zero
set_each R (a ∷ xs) (b ∷ ys) (suc t) x y n r e (suc u) =
    set_each (λ v. R (suc v)) xs ys t x y (omega (arith, n)) r (λ v. e (suc v)) u

pub set_one : (R : ℕ → Thread → Type 0) (ys : List Thread) (t : ℕ) (y : Thread) → R t y
    → ((u : ℕ) → R u (get_or ys u nobody)) → (u : ℕ) → R u (get_or (set ys t y) u nobody)
set_one R [] t y r e u = e u
set_one R (b ∷ ys) zero y r e zero = r
set_one R (b ∷ ys) zero y r e (suc u) = e (suc u)
set_one R (b ∷ ys) (suc t) y r e zero = e zero
set_one R (b ∷ ys) (suc t) y r e (suc u) = set_one (λ v. R (suc v)) ys t y r (λ v. e (suc v)) u

-- or once one more stands at the end
added_each : (R : ℕ → Thread → Thread → Type 0) (xs ys : List Thread) (z : Thread) → length xs ≡ length ys → ((u : ℕ) → R u z z)
    → ((u : ℕ) → R u (get_or xs u nobody) (get_or ys u nobody)) → (u : ℕ) → R u (get_or (xs ++ z ∷ []) u nobody) (get_or (ys ++ z ∷ []) u nobody)
added_each R [] [] z n r e zero = r zero
added_each R [] [] z n r e (suc u) = e (suc u)
added_each R [] (b ∷ ys) z n r e u = absurd (cc)
added_each R (a ∷ xs) [] z n r e u = absurd (cc)
added_each R (a ∷ xs) (b ∷ ys) z n r e zero = e zero
added_each R (a ∷ xs) (b ∷ ys) z n r e (suc u) =
    added_each (λ v. R (suc v)) xs ys z (omega (arith, n)) (λ v. r (suc v)) (λ v. e (suc v)) u

-- a thread of which holds what doesn't hold of nobody was added
pub place_by : (f : Thread → Bool) → f nobody ≡ false → (xs : List Thread) (t : ℕ) → f (get_or xs t nobody) ≡ true → t < length xs
place_by f n [] t e = absurd (true≢false (sym e ∙ n))
place_by f n (x ∷ xs) zero e = omega arith
place_by f n (x ∷ xs) (suc t) e = let lt = place_by f n xs t e in omega (arith, lt)

pub place_of_living : (xs : List Thread) (t : ℕ) → (get_or xs t nobody).living ≡ true → t < length xs
place_of_living xs t e = place_by (λ z. z.living) refl xs t e

-- READING

-- what is the same of a blocked wait, noted or not, is the same of a thread that lags
pub seen_behind : {X : Type 0} (f : Thread → X) (t : ℕ) (x y : Thread)
    → ((z : Thread) (c m : ℕ) → f (record z { call = blocked_call c m false }) ≡ f (record z { call = blocked_call c m true }))
    → IsBehind t x y → f y ≡ f x
seen_behind f t x y h (same e) = ap f (sym e)
seen_behind f t x y h (lags c m n l e k) =
    ap f k ∙ h x c m ∙ (λ i. f (record x { call = sym e i }))

pub behind_itself : (xs : List Thread) → AreBehind xs xs
behind_itself xs = record { size = refl; each = λ t. same refl }

-- CHANGES

-- a change that does the same to a blocked wait, noted or not
pub changed_alike : (f : Thread → Thread) (t : ℕ) (x y : Thread)
    → ((z : Thread) (c m : ℕ) → f (record z { call = blocked_call c m false }) ≡ f (record z { call = blocked_call c m true }))
    → IsBehind t x y → IsBehind t (f x) (f y)
changed_alike f t x y h b = same (sym (seen_behind f t x y h b))

pub behind_set : (xs ys : List Thread) (t : ℕ) (x y : Thread) → AreBehind xs ys → IsBehind t x y → AreBehind (set xs t x) (set ys t y)
behind_set xs ys t x y a b = record {
  size = length-set xs t x ∙ a.size ∙ sym (length-set ys t y);
  each = set_each IsBehind xs ys t x y a.size b a.each;
}

-- a call of t is changed, in the same way if it is a blocked wait, noted or not
pub behind_by_call : (xs ys : List Thread) (t : ℕ) (f : Option Call → Option Call) → AreBehind xs ys
    → ((c m : ℕ) → f (blocked_call c m false) ≡ f (blocked_call c m true))
    → AreBehind (set xs t (record (get_or xs t nobody) { call = f (get_or xs t nobody).call })) (set ys t (record (get_or ys t nobody) { call = f (get_or ys t nobody).call }))
behind_by_call xs ys t f a h =
    behind_set xs ys t _ _ a
    (changed_alike (λ z. record z { call = f z.call }) t (get_or xs t nobody) (get_or ys t nobody) (λ z c m i. record z { call = h c m i }) (a.each t))

-- its base priority
pub behind_by_base : (xs ys : List Thread) (t p : ℕ) → AreBehind xs ys
    → AreBehind (set xs t (record (get_or xs t nobody) { base = p })) (set ys t (record (get_or ys t nobody) { base = p }))
behind_by_base xs ys t p a = behind_set xs ys t _ _ a (by (get_or xs t nobody) (get_or ys t nobody) (a.each t))
  where
    by : (x y : Thread) → IsBehind t x y → IsBehind t (record x { base = p }) (record y { base = p })
    by x y (same e) = same (λ i. record (e i) { base = p })
    by x y (lags c m n l e k) = lags c m n l e (λ i. record (k i) { base = p })

-- the timer of its call, which has run out
pub behind_by_timeout : (xs ys : List Thread) (t : ℕ) → AreBehind xs ys
    → AreBehind (set xs t (record (get_or xs t nobody) { timer = ran_out (get_or xs t nobody).timer })) (set ys t (record (get_or ys t nobody) { timer = ran_out (get_or ys t nobody).timer }))
behind_by_timeout xs ys t a = behind_set xs ys t _ _ a (by (get_or xs t nobody) (get_or ys t nobody) (a.each t))
  where
    by : (x y : Thread) → IsBehind t x y → IsBehind t (record x { timer = ran_out x.timer }) (record y { timer = ran_out y.timer })
    by x y (same e) = same (λ i. record (e i) { timer = ran_out (e i).timer })
    by x y (lags c m n l e k) = lags c m n l e (λ i. record (k i) { timer = ran_out (k i).timer })

-- it has ended
pub behind_by_end : (xs ys : List Thread) (t : ℕ) → AreBehind xs ys
    → AreBehind (set xs t (record (get_or xs t nobody) { living = false; call = None })) (set ys t (record (get_or ys t nobody) { living = false; call = None }))
behind_by_end xs ys t a =
    behind_set xs ys t _ _ a
    (changed_alike (λ z. record z { living = false; call = None }) t (get_or xs t nobody) (get_or ys t nobody) (λ z c m. refl) (a.each t))

-- a thread is added
pub behind_added : (xs ys : List Thread) (p : ℕ) → AreBehind xs ys → AreBehind (xs ++ new_thread p ∷ []) (ys ++ new_thread p ∷ [])
behind_added xs ys p a = record {
  size = length-append xs (new_thread p ∷ []) ∙ (λ i. a.size i + 1) ∙ sym (length-append ys (new_thread p ∷ []));
  each = added_each IsBehind xs ys (new_thread p) a.size (λ u. same refl) a.each;
}

-- A USE

-- a use of c does the same to both: no wait on c lags
abbrev pub IsCaught : ℕ → Thread → Thread → Type 0
IsCaught c x y = is_newly_blocked c y.call ≡ is_newly_blocked c x.call

used_behind : (c t : ℕ) (x y : Thread) → IsBehind t x y → IsCaught c x y → IsBehind t (after_use c x) (after_use c y)
used_behind c t x y (same e) k = same (ap (after_use c) e)
used_behind c t x y (lags d m n l e f) k =
    let mine : is_newly_blocked c x.call ≡ false = ap (is_newly_blocked c) e in
    let stays : (z : Thread) → is_newly_blocked c z.call ≡ false → after_use c z ≡ z =
    λ z h. ap (λ (b : Bool). if b then record z { call = after_unblocking z.call } else z) h in
    subst (λ (z : Thread). IsBehind t z (after_use c y)) (sym (stays x mine))
    (subst (λ (z : Thread). IsBehind t x z) (sym (stays y (k ∙ mine))) (lags d m n l e f))

pub behind_by_use : (c : ℕ) (xs ys : List Thread) → AreBehind xs ys
    → ((u : ℕ) → IsCaught c (get_or xs u nobody) (get_or ys u nobody)) → AreBehind (map (after_use c) xs) (map (after_use c) ys)
behind_by_use c xs ys a k = record {
  size = length-map xs (after_use c) ∙ a.size ∙ sym (length-map ys (after_use c));
  each = λ t.
      subst (λ (z : Thread). IsBehind t z (get_or (map (after_use c) ys) t nobody)) (sym (mapped_at (after_use c) xs t nobody))
      (subst (λ (z : Thread). IsBehind t (after_use c (get_or xs t nobody)) z) (sym (mapped_at (after_use c) ys t nobody))
      (used_behind c t (get_or xs t nobody) (get_or ys t nobody) (a.each t) (k t)));
}
