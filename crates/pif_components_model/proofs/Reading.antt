-- States that agree on a side are read alike there: who waits for whom, effective priorities, who gets a mutex next, who
-- is blocked, and which calls are due.
use Rattle.std.proofs.Common.{ℕ, zero, suc, ◌≡◌, ◌≢◌, ◌∙◌, ◌==◌, ◌||◌, max, Bool, true, false, cond, List, [], ◌∷◌, length, map, nat_lt, is_some, refl, sym, ap, inl, inr, true≢false, eqb-true, eq-eqb, if◌then◌else◌, filter}
use Rattle.std.specs.List.{list_any}
use Rattle.std.proofs.lemmas.Bool.{cases_eq, false_from_ne_true}
use Rattle.pif_model.specs.Refusals.{go_refused}
use Rattle.pif_model.specs.Deadlines.{is_reached}
use Rattle.pif_model.specs.Graph.{waited_by, reaches_within, greatest_where, effective_among, next_waiter, first_greatest}
use Rattle.pif_model.specs.Posix.{World, Thread, thread_at, mutex_at, waits_for, effective_of, leads_to, next_of, is_orphaned, is_living, is_blocked_on, is_call_blocked, is_still_blocked, is_due, is_counting, refusal_of}
use Rattle.pif_model.specs.declared.events.Event.TheVariants.{Go}
use Rattle.pif_model_lemmas.proofs.Waiting.{pairs, paired-from_waited, or_true}
use Rattle.pif_components_model.specs.Components.{Side}
use Rattle.pif_components_model.specs.Components.Name.{OfThread, OfMutex}
use Rattle.pif_components_model.specs.Sides.{Agrees, IsSplit}

-- LISTS

-- a filter by thread keeps what a thread that passes waits for
waited_filtered : (f : ℕ → Bool) (ws : List (ℕ × ℕ)) (u : ℕ) → f u ≡ true → waited_by (filter (λ p. f p.0) ws) u ≡ waited_by ws u
unfolding waited_by
waited_filtered f [] u h = refl
waited_filtered f (p ∷ ws) u h = step (f p.0) (p.0 == u) refl refl (waited_filtered f ws u h)
  where
    step : (b c : Bool) → f p.0 ≡ b → (p.0 == u) ≡ c → waited_by (filter (λ p. f p.0) ws) u ≡ waited_by ws u
        → waited_by (cond b (p ∷ filter (λ p. f p.0) ws) (filter (λ p. f p.0) ws)) u ≡ (if c then p.1 else waited_by ws u)
    step true c e k ih = ap (λ (b : Bool). if b then p.1 else waited_by (filter (λ p. f p.0) ws) u) k ∙ ap (λ n. if c then p.1 else n) ih
    step false false e k ih = ih
    step false true e k ih = absurd (true≢false (sym h ∙ ap f (sym (eqb-true p.0 u k)) ∙ e))

-- the greatest value depends on those that pass alone
greatest_of_passing : (p q : ℕ → Bool) (f g : ℕ → ℕ) (n : ℕ) → ((u : ℕ) → p u ≡ q u) → ((u : ℕ) → q u ≡ true → f u ≡ g u)
    → greatest_where p f n ≡ greatest_where q g n
unfolding greatest_where
greatest_of_passing p q f g zero a b = refl
greatest_of_passing p q f g (suc n) a b = step (q n) refl (greatest_of_passing p q f g n a b)
  where
    step : (c : Bool) → q n ≡ c → greatest_where p f n ≡ greatest_where q g n
        → (if p n then max (f n) (greatest_where p f n) else greatest_where p f n)
        ≡ (if c then max (g n) (greatest_where q g n) else greatest_where q g n)
    step true e ih = ap (λ (z : Bool). if z then max (f n) (greatest_where p f n) else greatest_where p f n) (a n ∙ e) ∙ (λ i. max (b n e i) (ih i))
    step false e ih = ap (λ (z : Bool). if z then max (f n) (greatest_where p f n) else greatest_where p f n) (a n ∙ e) ∙ ih

-- a waiter with its priority
abbrev given : (ℕ → ℕ) → ℕ × ℕ → ℕ × ℕ
given g p = (p.0, g p.0)

module _ (f : ℕ → Bool) (m : ℕ) where
  -- a filter by thread keeps the waiters of m, if they pass
  waiters_filtered : (ws : List (ℕ × ℕ)) → ((u : ℕ) → pairs u m ws ≡ true → f u ≡ true)
      → filter (λ p. p.1 == m) (filter (λ p. f p.0) ws) ≡ filter (λ p. p.1 == m) ws
  waiters_filtered [] h = refl
  waiters_filtered (p ∷ ws) h =
      step (f p.0) (p.1 == m) refl refl (h p.0) (waiters_filtered ws (λ u k. h u (rw k (or_true (if p.0 == u then p.1 == m else false)))))
    where
      step : (b c : Bool) → f p.0 ≡ b → (p.1 == m) ≡ c → (pairs p.0 m (p ∷ ws) ≡ true → f p.0 ≡ true)
          → filter (λ p. p.1 == m) (filter (λ p. f p.0) ws) ≡ filter (λ p. p.1 == m) ws
          → filter (λ p. p.1 == m) (cond b (p ∷ filter (λ p. f p.0) ws) (filter (λ p. f p.0) ws))
          ≡ cond c (p ∷ filter (λ p. p.1 == m) ws) (filter (λ p. p.1 == m) ws)
      step true c e k h ih =
          ap (λ (z : Bool). cond z (p ∷ filter (λ p. p.1 == m) (filter (λ p. f p.0) ws)) (filter (λ p. p.1 == m) (filter (λ p. f p.0) ws))) k
          ∙ ap (λ (ys : List (ℕ × ℕ)). cond c (p ∷ ys) ys) ih
      step false false e k h ih = ih
      step false true e k h ih =
          absurd (true≢false (sym (h (ap (λ (z : Bool). (if z then p.1 == m else false) || pairs p.0 m ws) (eq-eqb p.0 p.0 refl)
          ∙ ap (λ (z : Bool). z || pairs p.0 m ws) k)) ∙ e))

  -- effective priorities of those that pass are all that counts
  priorities_filtered : (g h : ℕ → ℕ) (ws : List (ℕ × ℕ)) → ((u : ℕ) → f u ≡ true → g u ≡ h u)
      → map (given g) (filter (λ p. p.1 == m) (filter (λ p. f p.0) ws)) ≡ map (given h) (filter (λ p. p.1 == m) (filter (λ p. f p.0) ws))
  priorities_filtered g h [] same = refl
  priorities_filtered g h (p ∷ ws) same = step (f p.0) refl (p.1 == m) refl (priorities_filtered g h ws same)
    where
      step : (b : Bool) → f p.0 ≡ b → (c : Bool) → (p.1 == m) ≡ c
          → map (given g) (filter (λ p. p.1 == m) (filter (λ p. f p.0) ws)) ≡ map (given h) (filter (λ p. p.1 == m) (filter (λ p. f p.0) ws))
          → map (given g) (filter (λ p. p.1 == m) (cond b (p ∷ filter (λ p. f p.0) ws) (filter (λ p. f p.0) ws)))
          ≡ map (given h) (filter (λ p. p.1 == m) (cond b (p ∷ filter (λ p. f p.0) ws) (filter (λ p. f p.0) ws)))
      step false e c k ih = ih
      step true e c k ih =
          ap (λ (z : Bool). map (given g) (cond z (p ∷ filter (λ p. p.1 == m) (filter (λ p. f p.0) ws)) (filter (λ p. p.1 == m) (filter (λ p. f p.0) ws)))) k
          ∙ first c
          ∙ ap (λ (z : Bool). map (given h) (cond z (p ∷ filter (λ p. p.1 == m) (filter (λ p. f p.0) ws)) (filter (λ p. p.1 == m) (filter (λ p. f p.0) ws)))) (sym k)
        where
          first : (c : Bool)
              → map (given g) (cond c (p ∷ filter (λ p. p.1 == m) (filter (λ p. f p.0) ws)) (filter (λ p. p.1 == m) (filter (λ p. f p.0) ws)))
              ≡ map (given h) (cond c (p ∷ filter (λ p. p.1 == m) (filter (λ p. f p.0) ws)) (filter (λ p. p.1 == m) (filter (λ p. f p.0) ws)))
          first true = λ i. (p.0, same p.0 e i) ∷ ih i
          first false = ih

-- WAITING IN ONE STATE

module _ (x : Side) (w : World) (s : IsSplit x w) where
  -- place 0 of the mutexes is free
  free_at_0 : (mutex_at w 0).owner ≡ 0
  free_at_0 = elim (cases_eq (mutex_at w 0).owner 0) [ inl e ↦ e | inr ne ↦ absurd ((s.owners 0 ne).1 refl) ]

  -- the mutex for which a thread waits is on its side
  waited_side : (u : ℕ) → waited_by w.waiters u ≢ 0 → x (OfThread u) ≡ x (OfMutex (waited_by w.waiters u))
  waited_side u some = (s.waiters u _ (paired-from_waited w.waiters u _ some refl)).0

  -- whom a thread waits for is on its side
  waits_side : (u : ℕ) → waits_for w u ≢ 0 → x (OfThread (waits_for w u)) ≡ x (OfThread u)
  waits_side u some =
      let o = s.owners (waited_by w.waiters u) some in
      o.0 ∙ sym (waited_side u o.1)

  -- whom a thread reaches is on its side
  reaches_side : (k u t : ℕ) → reaches_within k (waits_for w) u t ≡ true → x (OfThread u) ≡ x (OfThread t)
  unfolding reaches_within
  reaches_side zero u t h = ap (λ n. x (OfThread n)) (eqb-true u t h)
  reaches_side (suc k) u t h = step (u == t) refl (waits_for w u == 0) refl h (reaches_side k (waits_for w u) t)
    where
      step : (b : Bool) → (u == t) ≡ b → (c : Bool) → (waits_for w u == 0) ≡ c
          → (if b then true else (if c then false else reaches_within k (waits_for w) (waits_for w u) t)) ≡ true
          → (reaches_within k (waits_for w) (waits_for w u) t ≡ true → x (OfThread (waits_for w u)) ≡ x (OfThread t))
          → x (OfThread u) ≡ x (OfThread t)
      step true e c k h ih = ap (λ n. x (OfThread n)) (eqb-true u t e)
      step false e true k h ih = absurd (cc)
      step false e false k h ih = sym (waits_side u (λ z. true≢false (sym (eq-eqb _ 0 z) ∙ k))) ∙ ih h

-- IN TWO STATES

module _ (x : Side) (w v : World) (s : IsSplit x w) (r : IsSplit x v) (a : Agrees x w v) where
  waited_same : (u : ℕ) → x (OfThread u) ≡ true → waited_by v.waiters u ≡ waited_by w.waiters u
  waited_same u on =
      sym (waited_filtered (λ n. x (OfThread n)) v.waiters u on)
      ∙ ap (λ (ws : List (ℕ × ℕ)). waited_by ws u) a.waiters
      ∙ waited_filtered (λ n. x (OfThread n)) w.waiters u on

  waits_same : (u : ℕ) → x (OfThread u) ≡ true → waits_for v u ≡ waits_for w u
  waits_same u on =
      ap (λ m. (mutex_at v m).owner) (waited_same u on) ∙ elim (cases_eq (waited_by w.waiters u) 0) [
        | inl e ↦ ap (λ m. (mutex_at v m).owner) e ∙ free_at_0 x v r ∙ sym (free_at_0 x w s) ∙ ap (λ m. (mutex_at w m).owner) (sym e)
        | inr ne ↦ ap (λ z. z.owner) (a.mutex (waited_by w.waiters u) ne (sym (waited_side x w s u ne) ∙ on))
      ]

  reaches_alike : (k u t : ℕ) → x (OfThread u) ≡ true → reaches_within k (waits_for v) u t ≡ reaches_within k (waits_for w) u t
  unfolding reaches_within
  reaches_alike zero u t on = refl
  reaches_alike (suc k) u t on =
      (λ i. if u == t then true else (if waits_same u on i == 0 then false else reaches_within k (waits_for v) (waits_same u on i) t))
      ∙ step (waits_for w u == 0) refl (reaches_alike k (waits_for w u) t)
    where
      step : (c : Bool) → (waits_for w u == 0) ≡ c
          → (x (OfThread (waits_for w u)) ≡ true → reaches_within k (waits_for v) (waits_for w u) t ≡ reaches_within k (waits_for w) (waits_for w u) t)
          → (if u == t then true else (if c then false else reaches_within k (waits_for v) (waits_for w u) t))
          ≡ (if u == t then true else (if c then false else reaches_within k (waits_for w) (waits_for w u) t))
      step true e ih = refl
      step false e ih =
          ap (λ (b : Bool). if u == t then true else b) (ih (waits_side x w s u (λ z. true≢false (sym (eq-eqb _ 0 z) ∙ e)) ∙ on))

  -- who reaches a thread of the side, on it or not
  reaching_same : (k u t : ℕ) → x (OfThread t) ≡ true → reaches_within k (waits_for v) u t ≡ reaches_within k (waits_for w) u t
  reaching_same k u t on = step (x (OfThread u)) refl
    where
      step : (b : Bool) → x (OfThread u) ≡ b → reaches_within k (waits_for v) u t ≡ reaches_within k (waits_for w) u t
      step true e = reaches_alike k u t e
      step false e =
          false_from_ne_true _ (λ h. true≢false (sym on ∙ sym (reaches_side x v r k u t h) ∙ e))
          ∙ sym (false_from_ne_true _ (λ h. true≢false (sym on ∙ sym (reaches_side x w s k u t h) ∙ e)))

  pub effective_same : (t : ℕ) → x (OfThread t) ≡ true → effective_of v t ≡ effective_of w t
  unfolding effective_among
  effective_same t on =
      ap (λ n. greatest_where (λ u. reaches_within n (waits_for v) u t) (λ u. (thread_at v u).base) n) a.threads
      ∙ greatest_of_passing _ _ _ _ (length w.threads) (λ u. reaching_same (length w.threads) u t on)
      (λ u h. ap (λ (z : Thread). z.base) (a.thread u (reaches_side x w s (length w.threads) u t h ∙ on)))

  pub leads_same : (u t : ℕ) → x (OfThread u) ≡ true → leads_to v u t ≡ leads_to w u t
  leads_same u t on = ap (λ n. reaches_within n (waits_for v) u t) a.threads ∙ reaches_alike (length w.threads) u t on

  pub next_same : (m : ℕ) → x (OfMutex m) ≡ true → next_of v m ≡ next_of w m
  unfolding next_waiter
  next_same m on =
      ap (λ (ws : List (ℕ × ℕ)). (first_greatest (map (given (effective_of v)) ws)).0)
      (sym (waiters_filtered (λ n. x (OfThread n)) m v.waiters (λ u k. (r.waiters u m k).0 ∙ on)))
      ∙ ap (λ (ws : List (ℕ × ℕ)). (first_greatest (map (given (effective_of v)) (filter (λ p. p.1 == m) ws))).0) a.waiters
      ∙ ap (λ (ws : List (ℕ × ℕ)). (first_greatest ws).0)
      (priorities_filtered (λ n. x (OfThread n)) m (effective_of v) (effective_of w) w.waiters (λ u h. effective_same u h))
      ∙ ap (λ (ws : List (ℕ × ℕ)). (first_greatest (map (given (effective_of w)) ws)).0)
      (waiters_filtered (λ n. x (OfThread n)) m w.waiters (λ u k. (s.waiters u m k).0 ∙ on))

  pub living_same : (t : ℕ) → x (OfThread t) ≡ true → is_living v t ≡ is_living w t
  living_same t on = ap (λ (z : Thread). z.living) (a.thread t on)

  pub blocked_same : (c u : ℕ) → x (OfThread u) ≡ true → is_blocked_on v c u ≡ is_blocked_on w c u
  blocked_same c u on = ap (λ (z : Thread). is_call_blocked c z.call) (a.thread u on)

  pub still_same : (t c u : ℕ) → x (OfThread t) ≡ true → x (OfThread u) ≡ true → is_still_blocked v t c u ≡ is_still_blocked w t c u
  still_same t c u on on_too =
      λ i. if is_call_blocked c (a.thread u on_too i).call
      then list_any (λ p. if p.0 == u then p.1 == (a.thread u on_too i).memory.waits else false) (a.thread t on i).memory.found
      else false

  pub due_same : (t : ℕ) → x (OfThread t) ≡ true → is_due v t ≡ is_due w t
  due_same t on = λ i. if is_reached (a.thread t on i).timer.deadline (a.time i) then is_counting (a.thread t on i).call else false

  pub go_same : (t : ℕ) → x (OfThread t) ≡ true → refusal_of v (Go t) ≡ refusal_of w (Go t)
  go_same t on = λ i. go_refused (if t == 0 then false else nat_lt t (a.threads i)) (a.thread t on i).living (is_some (a.thread t on i).call)

  pub orphaned_same : (m : ℕ) → m ≢ 0 → x (OfMutex m) ≡ true → (mutex_at w m).owner ≢ 0 → is_orphaned v m ≡ is_orphaned w m
  orphaned_same m some on owned =
      (λ i. if (a.mutex m some on i).robust then false
      else (if (a.mutex m some on i).owner == 0 then false else (if is_living v (a.mutex m some on i).owner then false else true)))
      ∙ ap (λ (b : Bool). if (mutex_at w m).robust then false else (if (mutex_at w m).owner == 0 then false else (if b then false else true)))
      (living_same (mutex_at w m).owner ((s.owners m owned).0 ∙ on))
