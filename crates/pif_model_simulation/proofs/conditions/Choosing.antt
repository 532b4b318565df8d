-- Whom a signal or a broadcast wakes: who was found blocked, and still is, is parked; and the next one that is taken
-- has the greatest effective priority of those that are parked.
use Rattle.std.proofs.Common.{◌≡◌, ◌≢◌, ◌⊎◌, inl, inr, ℕ, ◌<◌, ◌≤◌, true, false, ◌==◌, ◌||◌, List, [], ◌∷◌, ◌++◌, length, refl, sym, ap, ◌∙◌, subst, arith, if◌then◌else◌, eqb-true, eq-eqb}
use Rattle.std.specs.List.{list_any}
use Rattle.std.proofs.lemmas.Bool.{cases_lt, true≢false}
use Rattle.std.proofs.lemmas.List.{get_or_past}
use Rattle.pif_model.specs.declared.lines.Status.{Status}
use Rattle.pif_model.specs.declared.lines.Status.TheVariants.{Ready, Queued, Parked, Stopped, Ended}
use Rattle.pif_model.specs.Graph.{IsNextWaiter}
use Rattle.pif_model.specs.Posix.{Thread, thread_at, no_memory, nobody, is_blocked_on, is_found, is_still_blocked, is_call_blocked, effective_of}
use Rattle.pif_model.specs.PiKernel.{effective_in, is_parked, has_ended, has_parked, top_parked, parked_pairs}
use Rattle.pif_model.specs.Table.{Table, uses_of, status_at, line_at}
use Rattle.pif_model.specs.Projection.{HistoryVariables, Agrees, memory_at, chooses_on, call_at, call_shown, health_at, world_of}
use Rattle.pif_model.specs.Soundness.{IsSound}
use Rattle.pif_model_lemmas.proofs.Next.{next_is_next}
use Rattle.pif_model_lemmas.proofs.Waiting.{by_test, pairs, has_waiter-from_pair}
use Rattle.pif_model_lemmas.proofs.kernel.Facts.{living-from_added}
use Rattle.pif_model_lemmas.proofs.kernel.Woken.{added-from_parked}
use Rattle.pif_model_simulation.proofs.WeakenedInvariant.{each_thread}
use Rattle.pif_model_simulation.proofs.Shown.{threads_shown, thread_seen, call_seen_of}
use Rattle.pif_model_simulation.proofs.Effective.{effective_seen}
use Rattle.pif_model_simulation.proofs.Named.{first, second}

-- on which variable a thread of this status is parked
parked_where : (x : Status) → is_parked x ≡ true → (c : ℕ) × (x ≡ Parked c)
parked_where (Ready w) e = absurd (true≢false (sym e))
parked_where (Queued m) e = absurd (true≢false (sym e))
parked_where (Parked c) e = (c, refl)
parked_where Stopped e = absurd (true≢false (sym e))
parked_where Ended e = absurd (true≢false (sym e))

-- one of two lists one after the other has it
in_append : (xs ys : List (ℕ × ℕ)) (b c : ℕ) → pairs b c (xs ++ ys) ≡ true
    → (pairs b c xs ≡ true) ⊎ (pairs b c ys ≡ true)
in_append [] ys b c e = inr e
in_append (x ∷ xs) ys b c e = by_test (λ y. (y || pairs b c (xs ++ ys)) ≡ true
    → ((y || pairs b c xs) ≡ true) ⊎ (pairs b c ys ≡ true)) (if x.0 == b then x.1 == c else false)
    (λ _ _. inl refl) (λ _ f. in_append xs ys b c f) e

-- nobody has more than the next waiter
greatest : (f : ℕ → ℕ) (ws : List (ℕ × ℕ)) (c b u : ℕ) → IsNextWaiter f ws c u → pairs b c ws ≡ true → f b ≤ f u
greatest f ws c b u n e = go (in_append n.earlier ((u, c) ∷ n.later) b c
    (sym (ap (pairs b c) n.place) ∙ e))
  where
    go : (pairs b c n.earlier ≡ true) ⊎ (pairs b c ((u, c) ∷ n.later) ≡ true) → f b ≤ f u
    go (inl x) = let l = n.above_earlier b x in omega (arith, l)
    go (inr x) = by_test (λ y. (u == b) ≡ y → ((if y then c == c else false) || pairs b c n.later) ≡ true → f b ≤ f u)
        (u == b)
        (λ q _ _. subst (λ j. f j ≤ f u) (eqb-true u b q) (omega arith))
        (λ q _ y. n.above_later b y) refl x

module _ {s : Table} (h : IsSound s) where
  -- what the POSIX machine remembers is what is remembered
  memory_seen : (y : HistoryVariables) → Agrees s y → (t : ℕ) → (thread_at (world_of s y) t).memory ≡ memory_at y t
  memory_seen y a t = go (cases_lt t (length s.lines))
    where
      go : (t < length s.lines) ⊎ (length s.lines ≤ t) → (thread_at (world_of s y) t).memory ≡ memory_at y t
      go (inl l) = ap (λ (x : Thread). x.memory) (thread_seen h.all.shape y t l)
      go (inr k) = ap (λ (x : Thread). x.memory)
          (get_or_past (world_of s y).threads t nobody (omega (arith, k, threads_shown h.all.shape y)))
          ∙ sym (get_or_past y.memories t no_memory (omega (arith, k, a.all)))

  -- who is parked and blocked on c is parked on it
  parked_on_it : (b c : ℕ) → is_parked (status_at s b) ≡ true → is_call_blocked c (call_shown s b) ≡ true
      → status_at s b ≡ Parked c
  parked_on_it b c p e = was ∙ ap Parked same
    where
      was : status_at s b ≡ Parked (parked_where (status_at s b) p).0
      was = (parked_where (status_at s b) p).1

      same : (parked_where (status_at s b) p).0 ≡ c
      same =
          let w = (parked_where (status_at s b) p).1 in
          let alive = living-from_added s.kernel b (added-from_parked s.kernel h.kernel b
          (parked_where (status_at s b) p).0 w) (ap has_ended w) in
          let l = (each_thread h b alive).parked (parked_where (status_at s b) p).0 w in
          eqb-true (parked_where (status_at s b) p).0 c
          (sym (ap (is_call_blocked c) (λ j. call_at (health_at s) (uses_of s) (l.line j) (w j))) ∙ e)

  -- who was found blocked, and still is by the same wait, is parked on the variable
  pub found_parked : (y : HistoryVariables) (a : Agrees s y) (t b c : ℕ) → chooses_on (line_at s t) ≡ c → c ≢ 0
      → is_still_blocked (world_of s y) t c b ≡ true → status_at s b ≡ Parked c
  found_parked y a t b c chosen z e =
      let blocked = sym (ap (is_call_blocked c) (call_seen_of h.all.shape y b))
      ∙ first (is_blocked_on (world_of s y) c b) (is_found (world_of s y) t b) e in
      parked_on_it b c (a.parked t b c chosen z
      (sym (λ i. list_any (λ (p : ℕ × ℕ). if p.0 == b then p.1 == (memory_seen y a b i).waits else false)
      (memory_seen y a t i).found)
      ∙ second (is_blocked_on (world_of s y) c b) (is_found (world_of s y) t b) e) blocked) blocked

  -- who is parked on c is blocked on it
  pub parked_blocked : (y : HistoryVariables) (b c : ℕ) → status_at s b ≡ Parked c → is_blocked_on (world_of s y) c b ≡ true
  parked_blocked y b c w =
      let alive = living-from_added s.kernel b (added-from_parked s.kernel h.kernel b c w) (ap has_ended w) in
      let l = (each_thread h b alive).parked c w in
      ap (is_call_blocked c) (call_seen_of h.all.shape y b
      ∙ (λ j. call_at (health_at s) (uses_of s) (l.line j) (w j))) ∙ eq-eqb c c refl

  -- somebody is parked on c then
  pub some_parked : (b c : ℕ) → status_at s b ≡ Parked c → has_parked s.kernel c ≡ true
  some_parked b c w = has_waiter-from_pair (parked_pairs s.kernel.parked) b c (h.kernel.parking.parked b c w)

  -- nobody who is parked on c has a greater effective priority than the one that is taken next
  pub top_greatest : (y : HistoryVariables) (b c : ℕ) → status_at s b ≡ Parked c
      → effective_of (world_of s y) b ≤ effective_of (world_of s y) (top_parked s.kernel c)
  top_greatest y b c w = subst (λ f. f b ≤ f (top_parked s.kernel c)) (effective_seen h y)
      (greatest (effective_in s.kernel) (parked_pairs s.kernel.parked) c b (top_parked s.kernel c)
      (next_is_next (effective_in s.kernel) (parked_pairs s.kernel.parked) c (some_parked b c w))
      (h.kernel.parking.parked b c w))
