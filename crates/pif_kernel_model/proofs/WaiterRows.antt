-- Rows in which each stands before all that come later, and the waiters of a mutex in such a row.
use Rattle.std.proofs.Common.{◌≡◌, ◌≢◌, ◌⊎◌, ℕ, zero, suc, ◌<◌, ◌≤◌, ◌==◌, ◌||◌, Bool, true, false, if◌then◌else◌, List, [], ◌∷◌, length, Some, None, refl, sym, ap, subst, ◌∙◌, inl, inr, arith}
use Rattle.std.specs.Prelude.{⊤}
use Rattle.std.specs.List.{slice_get}
use Rattle.std.proofs.lemmas.Bool.{cases_eq, cases_lt, true≢false, false≢true}
use Rattle.std.proofs.lemmas.Bool.Decides.{nat_tests}
use Rattle.std.proofs.lemmas.Option.{same_Some}
use Rattle.pif_nodes_model.specs.declared.keys.Key.{Key}
use Rattle.pif_nodes_model.specs.Order.{comes_before}
use Rattle.pif_nodes_model.proofs.OrderLemmas.{comes_before-from}
use Rattle.pif_model.specs.Graph.{has_waiter, without, next_waiter, waiting_order, IsNextWaiter}
use Rattle.pif_model.specs.PiKernel.{is_among}
use Rattle.pif_model_lemmas.proofs.Among.{is_among_cons, is_among-without}
use Rattle.pif_model_lemmas.proofs.Among.{is_among as is_waiter}
use Rattle.pif_model_lemmas.proofs.Next.{next_is_next}
use Rattle.pif_model_lemmas.proofs.kernel.Orders.{order-none, order-next, ordered-is_waiter}
use Rattle.pif_model_lemmas.proofs.Waiting.{names, named-from_pair, has_waiter-from_pair}
use Rattle.pif_kernel_model.specs.Arrivals.{Rise}
use Rattle.pif_kernel_model.proofs.ArrivalLaws.{rise_once, rise_behind, waiter_split, waiter_middle}
use Rattle.pif_kernel_model.proofs.WaitersWithout.{rise_without, waiter_kept}

-- LISTS IN WHICH EACH STANDS BEFORE ALL THAT COME LATER

abbrev pub InRow : (ℕ → ℕ → Bool) → List ℕ → Type 0
InRow b [] = ⊤
InRow b (x ∷ xs) = ((y : ℕ) → is_among xs y ≡ true → b x y ≡ true) × InRow b xs

among_here : (x : ℕ) (xs : List ℕ) → is_among (x ∷ xs) x ≡ true
among_here x xs = let same : (x == x) ≡ true = grind (arith, nat_tests) in rw same refl

among_there : (x y : ℕ) (xs : List ℕ) → is_among xs y ≡ true → is_among (x ∷ xs) y ≡ true
among_there x y xs e = by_test (x == y)
  where
    by_test : (b : Bool) → (b || is_among xs y) ≡ true
    by_test true = refl
    by_test false = e

among_cases : (x y : ℕ) (xs : List ℕ) → is_among (x ∷ xs) y ≡ true → (x ≡ y) ⊎ (is_among xs y ≡ true)
among_cases x y xs e = by_test (cases_eq x y)
  where
    by_test : ((x ≡ y) ⊎ (x ≡ y → ⊥)) → (x ≡ y) ⊎ (is_among xs y ≡ true)
    by_test (inl same) = inl same
    by_test (inr ne) = let no : (x == y) ≡ false = grind (arith, nat_tests) in inr (rw no at e)

pub among_at : (xs : List ℕ) (n x : ℕ) → slice_get xs n ≡ Some x → is_among xs x ≡ true
among_at [] n x e = absurd cc
among_at (y ∷ ys) zero x e = subst (λ (z : ℕ). is_among (y ∷ ys) z ≡ true) (same_Some y x e) (among_here y ys)
among_at (y ∷ ys) (suc n) x e = among_there y x ys (among_at ys n x e)

-- nothing stands behind where nothing stands
pub none_later : (xs : List ℕ) (n k : ℕ) → slice_get xs n ≡ None → n ≤ k → slice_get xs k ≡ None
none_later [] n k e le = refl
none_later (x ∷ xs) zero k e le = let wrong : Some x ≡ None = e in absurd cc
none_later (x ∷ xs) (suc n) zero e le = absurd (omega (arith, le))
none_later (x ∷ xs) (suc n) (suc k) e le = none_later xs n k e (omega (arith, le))

module _ (b : ℕ → ℕ → Bool) where
  -- who comes behind nobody stands first
  pub row_first : (xs : List ℕ) (t : ℕ) → InRow b xs → is_among xs t ≡ true
      → ((x : ℕ) → is_among xs x ≡ true → b x t ≡ false) → slice_get xs 0 ≡ Some t
  row_first [] t r e none = absurd (false≢true e)
  row_first (y ∷ ys) t r e none = by_place (among_cases y t ys e)
    where
      by_place : (y ≡ t) ⊎ (is_among ys t ≡ true) → Some y ≡ Some t
      by_place (inl same) = ap Some same
      by_place (inr rest) = absurd (true≢false (sym (r.0 t rest) ∙ none y (among_here y ys)))

  -- behind who comes before nobody, nothing stands
  pub row_last : (xs : List ℕ) (n t : ℕ) → InRow b xs → slice_get xs n ≡ Some t
      → ((x : ℕ) → is_among xs x ≡ true → b t x ≡ false) → slice_get xs (suc n) ≡ None
  row_last [] n t r e none = absurd cc
  row_last (y ∷ []) zero t r e none = refl
  row_last (y ∷ z ∷ zs) zero t r e none =
      absurd (true≢false (sym (r.0 z (among_here z zs))
      ∙ ap (λ (x : ℕ). b x z) (same_Some y t e) ∙ none z (among_there y z (z ∷ zs) (among_here z zs))))
  row_last (y ∷ ys) (suc n) t r e none = row_last ys n t r.1 e (λ x h. none x (among_there y x ys h))

  -- and behind each stands the one that comes right behind it
  pub row_next : (xs : List ℕ) (n t u : ℕ) → InRow b xs → slice_get xs n ≡ Some t → is_among xs u ≡ true → u ≢ t
      → b u t ≡ false → ((x : ℕ) → is_among xs x ≡ true → b t x ≡ true → b x u ≡ false)
      → slice_get xs (suc n) ≡ Some u
  row_next [] n t u r e h ne off next = absurd cc
  row_next (y ∷ []) zero t u r e h ne off next = by_place (among_cases y u [] h)
    where
      by_place : (y ≡ u) ⊎ (is_among [] u ≡ true) → slice_get (y ∷ []) 1 ≡ Some u
      by_place (inl same) = absurd (ne (sym same ∙ same_Some y t e))
      by_place (inr rest) = absurd (false≢true rest)
  row_next (y ∷ z ∷ zs) zero t u r e h ne off next = by_place (among_cases y u (z ∷ zs) h)
    where
      by_rest : (z ≡ u) ⊎ (is_among zs u ≡ true) → Some z ≡ Some u
      by_rest (inl same) = ap Some same
      by_rest (inr rest) =
          absurd (true≢false (sym (r.1.0 u rest) ∙ next z (among_there y z (z ∷ zs) (among_here z zs))
          (ap (λ (x : ℕ). b x z) (sym (same_Some y t e)) ∙ r.0 z (among_here z zs))))

      by_place : (y ≡ u) ⊎ (is_among (z ∷ zs) u ≡ true) → Some z ≡ Some u
      by_place (inl same) = absurd (ne (sym same ∙ same_Some y t e))
      by_place (inr rest) = by_rest (among_cases z u zs rest)
  row_next (y ∷ ys) (suc n) t u r e h ne off next =
      by_place (among_cases y u ys h) (λ k. row_next ys n t u r.1 e k ne off
      (λ x a. next x (among_there y x ys a)))
    where
      by_place : (y ≡ u) ⊎ (is_among ys u ≡ true) → (is_among ys u ≡ true → slice_get ys (suc n) ≡ Some u)
          → slice_get ys (suc n) ≡ Some u
      by_place (inl same) ih =
          absurd (true≢false (sym (r.0 t (among_at ys n t e)) ∙ ap (λ (x : ℕ). b x t) same ∙ off))
      by_place (inr rest) ih = ih rest

-- THE ORDER OF WAITERS

few_without : (ws : List (ℕ × ℕ)) (u : ℕ) → length (without ws u) ≤ length ws
few_without [] u = omega arith
few_without (w ∷ ws) u = by_test (w.0 == u) (few_without ws u)
  where
    by_test : (b : Bool) → length (without ws u) ≤ length ws
        → length (if (if b then false else true) then w ∷ without ws u else without ws u) ≤ length (w ∷ ws)
    by_test true ih = omega (arith, ih)
    by_test false ih = omega (arith, ih)

fewer_without : (ws : List (ℕ × ℕ)) (u : ℕ) → names u ws ≡ true → length (without ws u) < length ws
fewer_without [] u e = absurd (false≢true e)
fewer_without (w ∷ ws) u e = by_test (w.0 == u) e (few_without ws u) (fewer_without ws u)
  where
    by_test : (b : Bool) → (b || names u ws) ≡ true → length (without ws u) ≤ length ws
        → (names u ws ≡ true → length (without ws u) < length ws)
        → length (if (if b then false else true) then w ∷ without ws u else without ws u) < length (w ∷ ws)
    by_test true e few ih = omega (arith, few)
    by_test false e few ih = omega (arith, ih e)

-- a thread's key, by its priority and its ticket
abbrev pub key_by : (ℕ → ℕ) → (ℕ → ℕ) → ℕ → Key
key_by f g u = record { prio = f u; ticket = g u }

module _ (f g : ℕ → ℕ) (few : (u : ℕ) → f u ≤ 99) (m : ℕ) where
  abbrev before : ℕ → ℕ → Bool
  before u v = comes_before (key_by f g u) (key_by f g v)

  next_before : (ws : List (ℕ × ℕ)) (least next u v : ℕ) → Rise g least ws next → IsNextWaiter f ws m u
      → is_waiter ws v m ≡ true → v ≢ u → before u v ≡ true
  next_before ws least next u v r n e ne =
      by_place (waiter_split n.earlier ((u, m) ∷ n.later) v m
      (subst (λ (l : List (ℕ × ℕ)). is_waiter l v m ≡ true) n.place e))
    where
      by_level : ((f v < f u) ⊎ (f u ≤ f v)) → f v ≤ f u → g u < g v → before u v ≡ true
      by_level (inl l) le late = comes_before-from (key_by f g u) (key_by f g v) (inl l)
      by_level (inr l) le late =
          comes_before-from (key_by f g u) (key_by f g v) (inr (omega (arith, l, le), late))

      by_place : (is_waiter n.earlier v m ≡ true) ⊎ (is_waiter ((u, m) ∷ n.later) v m ≡ true) → before u v ≡ true
      by_place (inl a) = comes_before-from (key_by f g u) (key_by f g v) (inl (n.above_earlier v a))
      by_place (inr a) = by_head (is_among_cons (u, m) n.later v m a)
        where
          by_head : ((u ≡ v) × (m ≡ m)) ⊎ (is_waiter n.later v m ≡ true) → before u v ≡ true
          by_head (inl s) = absurd (ne (sym s.0))
          by_head (inr l) =
              by_level (cases_lt (f v) (f u)) (n.above_later v l)
              (rise_behind g least n.earlier n.later u m next v
              (subst (λ (x : List (ℕ × ℕ)). Rise g least x next) n.place r) (named-from_pair n.later v m l))

  next_named : (ws : List (ℕ × ℕ)) (u : ℕ) → IsNextWaiter f ws m u → is_waiter ws u m ≡ true
  next_named ws u n =
      subst (λ (l : List (ℕ × ℕ)). is_waiter l u m ≡ true) (sym n.place) (waiter_middle n.earlier n.later u m)

  -- the next waiter has left
  one_fewer : (ws : List (ℕ × ℕ)) (n u : ℕ) → length ws ≤ suc n → IsNextWaiter f ws m u → length (without ws u) ≤ n
  one_fewer ws n u le x = omega (arith, le, fewer_without ws u (named-from_pair ws u m (next_named ws u x)))

  pub in_row : (n : ℕ) (ws : List (ℕ × ℕ)) (least next : ℕ) → length ws ≤ n → Rise g least ws next
      → InRow before (waiting_order f ws m)
  in_row zero [] least next le r = subst (InRow before) (sym (order-none f [] m refl)) tt
  in_row zero (w ∷ ws) least next le r = absurd (omega (arith, le))
  in_row (suc n) ws least next le r =
      by_test (has_waiter ws m) refl (λ l. in_row n (without ws (next_waiter f ws m)) least next l
      (rise_without g g least ws (next_waiter f ws m) next r (λ x ne. refl)))
    where
      by_test : (b : Bool) → has_waiter ws m ≡ b
          → (length (without ws (next_waiter f ws m)) ≤ n
          → InRow before (waiting_order f (without ws (next_waiter f ws m)) m))
          → InRow before (waiting_order f ws m)
      by_test false e ih = subst (InRow before) (sym (order-none f ws m e)) tt
      by_test true e ih =
          let x : IsNextWaiter f ws m (next_waiter f ws m) = next_is_next f ws m e in
          subst (InRow before) (sym (order-next f ws m (rise_once g least ws next r) few e)) (
            (λ y k. let a = is_among-without ws (next_waiter f ws m) y m
                (ordered-is_waiter f (without ws (next_waiter f ws m)) y m k) in
                next_before ws least next (next_waiter f ws m) y r x a.0 a.1),
            ih (one_fewer ws n (next_waiter f ws m) le x),
          )

  pub all_ordered : (n : ℕ) (ws : List (ℕ × ℕ)) (least next v : ℕ) → length ws ≤ n → Rise g least ws next
      → is_waiter ws v m ≡ true → is_among (waiting_order f ws m) v ≡ true
  all_ordered zero [] least next v le r e = absurd (false≢true e)
  all_ordered zero (w ∷ ws) least next v le r e = absurd (omega (arith, le))
  all_ordered (suc n) ws least next v le r e =
      let some : has_waiter ws m ≡ true = has_waiter-from_pair ws v m e in
      let x : IsNextWaiter f ws m (next_waiter f ws m) = next_is_next f ws m some in
      subst (λ (l : List ℕ). is_among l v ≡ true)
      (sym (order-next f ws m (rise_once g least ws next r) few some))
      (by_place (cases_eq v (next_waiter f ws m)) (λ k. all_ordered n (without ws (next_waiter f ws m)) least next v
      (one_fewer ws n (next_waiter f ws m) le x)
      (rise_without g g least ws (next_waiter f ws m) next r (λ y ne. refl)) k))
    where
      by_place : ((v ≡ next_waiter f ws m) ⊎ (v ≡ next_waiter f ws m → ⊥))
          → (is_waiter (without ws (next_waiter f ws m)) v m ≡ true
          → is_among (waiting_order f (without ws (next_waiter f ws m)) m) v ≡ true)
          → is_among (next_waiter f ws m ∷ waiting_order f (without ws (next_waiter f ws m)) m) v ≡ true
      by_place (inl same) ih =
          subst (λ (z : ℕ). is_among (next_waiter f ws m ∷ waiting_order f (without ws (next_waiter f ws m)) m) z ≡ true)
          (sym same) (among_here (next_waiter f ws m) (waiting_order f (without ws (next_waiter f ws m)) m))
      by_place (inr ne) ih =
          among_there (next_waiter f ws m) v (waiting_order f (without ws (next_waiter f ws m)) m)
          (ih (waiter_kept ws (next_waiter f ws m) v m ne e))
