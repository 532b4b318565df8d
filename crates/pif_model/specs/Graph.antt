-- Priority inheritance over a graph of threads. Both machines hand in the same three things: which thread a thread
-- waits for (0: none), base priorities, and the waiters in order of arrival. (RT-mutex design.)
-- Threads are numbered from 1; the number 0 is nobody.
use Rattle.std.specs.Prelude.{ℕ, zero, suc, ◌≡◌, ◌≢◌, ◌<◌, ◌≤◌, Bool, true, false, ◌==◌, nat_lt, max, List, [], ◌∷◌, map, if◌then◌else◌}
use Rattle.std.specs.List.{filter, list_any}
use Rattle.std.specs.Prelude.{◌++◌}

-- whether p is a priority: 1 to 99 (sched(7), SCHED_FIFO)
abbrev pub is_priority : ℕ → Bool
is_priority p = if p == 0 then false else nat_lt p 100

-- whether t is u, or is reached from u by following whom each thread waits for, over at most `hops` hops
unfoldable pub reaches_within : ℕ → (ℕ → ℕ) → ℕ → ℕ → Bool
reaches_within zero waits_for u t = u == t
reaches_within (suc hops) waits_for u t =
    if u == t then true else (if waits_for u == 0 then false else reaches_within hops waits_for (waits_for u) t)

-- the greatest value of f at the numbers below n that pass the test; 0 if none passes
unfoldable pub greatest_where : (ℕ → Bool) → (ℕ → ℕ) → ℕ → ℕ
greatest_where test f zero = 0
greatest_where test f (suc n) =
    if test n then max (f n) (greatest_where test f n) else greatest_where test f n

-- the effective priority of t among threads below n: the greatest base priority of t and of all that reach t by waiting
unfoldable pub effective_among : ℕ → (ℕ → ℕ) → (ℕ → ℕ) → ℕ → ℕ
effective_among n waits_for base t = greatest_where (λ u. reaches_within n waits_for u t) base n

-- of pairs of a thread and a priority, the first of greatest priority; (0, 0) if there is none
unfoldable pub first_greatest : List (ℕ × ℕ) → ℕ × ℕ
first_greatest [] = (0, 0)
first_greatest (p ∷ ps) =
    if nat_lt p.1 (first_greatest ps).1 then first_greatest ps else p

-- the mutex for which u waits, from pairs of a waiter and its mutex; 0 if u waits for none
unfoldable pub waited_by : List (ℕ × ℕ) → ℕ → ℕ
waited_by [] u = 0
waited_by (w ∷ ws) u = if w.0 == u then w.1 else waited_by ws u

-- whether a thread waits for m
abbrev pub has_waiter : List (ℕ × ℕ) → ℕ → Bool
has_waiter ws m = list_any (λ w. w.1 == m) ws

-- the pairs of all threads but u
abbrev pub without : List (ℕ × ℕ) → ℕ → List (ℕ × ℕ)
without ws u = filter (λ w. if w.0 == u then false else true) ws

-- the waiters of m in order of arrival, each with its effective priority
abbrev pub waiters_with : (ℕ → ℕ) → List (ℕ × ℕ) → ℕ → List (ℕ × ℕ)
waiters_with effective ws m = map (λ w. (w.0, effective w.0)) (filter (λ w. w.1 == m) ws)

-- the next waiter of m: among its waiters of greatest effective priority the first in arrival; 0 if m has none
unfoldable pub next_waiter : (ℕ → ℕ) → List (ℕ × ℕ) → ℕ → ℕ
next_waiter effective ws m = (first_greatest (waiters_with effective ws m)).0

-- these threads, those of greatest f first, of which all are below n; of equals in their order
unfoldable pub by_greatest : (ℕ → ℕ) → ℕ → List ℕ → List ℕ
by_greatest f zero us = []
by_greatest f (suc n) us = filter (λ u. f u == n) us ++ by_greatest f n us

-- the waiters of m in the order in which they get it, as long as no priority changes and nobody comes or goes: those of
-- greatest effective priority, which is 99 at most, first, and of equals the first in arrival
abbrev pub waiting_order : (ℕ → ℕ) → List (ℕ × ℕ) → ℕ → List ℕ
waiting_order effective ws m = by_greatest effective 100 (map (λ w. w.0) (filter (λ w. w.1 == m) ws))

-- The same in the subject's words, over a relation `Waits u t`, 'u waits for t'.

-- t is u, or is reached from u by following whom each thread waits for
pub data Reaches (Waits : ℕ → ℕ → Type 0) : ℕ → ℕ → Type 0 where
  here : {u t : ℕ} → u ≡ t → Reaches Waits u t
  hop : {u v t : ℕ} → Waits u v → Reaches Waits v t → Reaches Waits u t

-- p is the greatest base priority of t and of all threads that reach t by waiting, through any chain
pub record IsEffective (IsThread : ℕ → Type 0) (Waits : ℕ → ℕ → Type 0) (base : ℕ → ℕ) (t p : ℕ) : Type 0 where
  -- somebody who reaches t has that base priority
  pub attained : (u : ℕ) × IsThread u × Reaches Waits u t × (base u ≡ p)
  -- nobody who reaches t has a greater one
  pub greatest : (u : ℕ) → IsThread u → Reaches Waits u t → base u ≤ p

-- u is the next waiter of m: it is a waiter of m, no later waiter of m has a greater effective priority, and each
-- earlier one has a lower
pub record IsNextWaiter (effective : ℕ → ℕ) (ws : List (ℕ × ℕ)) (m u : ℕ) : Type 0 where
  pub earlier : List (ℕ × ℕ)
  pub later : List (ℕ × ℕ)
  pub place : ws ≡ earlier ++ (u, m) ∷ later
  pub above_earlier : (v : ℕ) → list_any (λ w. if w.0 == v then w.1 == m else false) earlier ≡ true → effective v < effective u
  pub above_later : (v : ℕ) → list_any (λ w. if w.0 == v then w.1 == m else false) later ≡ true → effective v ≤ effective u

-- these are the threads from t on along whom each waits for, in order: t, the one for which it waits, and so on, up to
-- the one that waits for nobody; none if t is nobody. There is one such list at most, and no thread stands in it
-- twice
abbrev pub IsPath : (ℕ → ℕ) → ℕ → List ℕ → Type 0
IsPath waits_for t [] = t ≡ 0
IsPath waits_for t (u ∷ us) = (u ≡ t) × (u ≢ 0) × IsPath waits_for (waits_for u) us
