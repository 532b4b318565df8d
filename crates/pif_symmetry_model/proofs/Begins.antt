-- The begin of a call, by another name: whom a signal or a broadcast finds blocked is the same but for names.
use Rattle.std.proofs.Common.{ℕ, zero, suc, ◌≡◌, ◌≢◌, ◌∙◌, ◌+◌, ◌==◌, ◌||◌, Bool, true, false, ◌∷◌, length, nat_lt, Some, is_some, refl, sym, ap, subst, arith, inl, inr, if◌then◌else◌, eq-eqb, ne_eqb}
use Rattle.std.proofs.lemmas.Bool.{cases_eq}
use Rattle.std.proofs.lemmas.Bool.Decides.{nat_tests}
use Rattle.std.proofs.lemmas.List.{length-map}
use Rattle.pif_types.specs.declared.requests.Request.{Request}
use Rattle.pif_types.specs.declared.requests.Request.TheVariants.{SetPrio, Wait, TimedWait, Signal, Broadcast}
use Rattle.pif_model.specs.declared.events.Event.TheVariants.{Begin}
use Rattle.pif_model.specs.Refusals.{begin_refused}
use Rattle.pif_model.specs.Deadlines.{plain, timer_of}
use Rattle.pif_model.specs.Posix.{World, Thread, Memory, thread_at, with_thread, begun_thread, begun_memory, blocked_below, is_blocked_on, is_mutex, is_variable, names_known, refusal_of}
use Rattle.pif_model.specs.World.Progress.{Fresh}
use Rattle.pif_model_lemmas.proofs.Waiting.{by_test, or_false}
use Rattle.pif_symmetry_model.specs.Renaming.{IsRenamed, Mirrors, renamed_request, renamed_mutex, is_wait_among}
use Rattle.pif_symmetry_model.proofs.Reading.{below_same, known_there, thread_there, living_there, call_there, open_same, blocked_there}
use Rattle.pif_symmetry_model.proofs.Changes.{same_thread}

-- WHO IS FOUND

-- whether a number below n passes a test
abbrev pub passes_below : (ℕ → Bool) → ℕ → ℕ → Bool
passes_below g n u = if nat_lt u n then g u else false

-- whether u is blocked on c, by its wait of this number
abbrev waits_by : World → (c wait : ℕ) → ℕ → Bool
waits_by w c wait u = if is_blocked_on w c u then (thread_at w u).memory.waits == wait else false

module _ (g : ℕ → Bool) where
  pub below_none : (u : ℕ) → passes_below g 0 u ≡ false
  below_none u = let no : nat_lt u 0 ≡ false = grind (arith, nat_tests) in ap (λ b. if b then g u else false) no

  pub below_itself : (n : ℕ) → passes_below g n n ≡ false
  below_itself n = let no : nat_lt n n ≡ false = grind (arith, nat_tests) in ap (λ b. if b then g n else false) no

  pub below_next : (n : ℕ) → passes_below g (suc n) n ≡ g n
  below_next n = let yes : nat_lt n (suc n) ≡ true = grind (arith, nat_tests) in ap (λ b. if b then g n else false) yes

  pub below_other : (n u : ℕ) → u ≢ n → passes_below g (suc n) u ≡ passes_below g n u
  below_other n u ne =
      ap (λ b. if b then g u else false) (below_same u (suc n) u n (λ l. omega (arith, l, ne)) (λ l. omega (arith, l)))

module _ (w : World) (c wait : ℕ) where
  -- whose waits are among those that are found
  found_below : (n u : ℕ) → is_wait_among (blocked_below w c n) u wait ≡ passes_below (waits_by w c wait) n u
  unfolding blocked_below
  found_below zero u = sym (below_none (waits_by w c wait) u)
  found_below (suc n) u =
      by_test (λ b. is_wait_among (if b then (n, (thread_at w n).memory.waits) ∷ blocked_below w c n else blocked_below w c n) u wait
      ≡ passes_below (waits_by w c wait) (suc n) u) (is_blocked_on w c n)
      (λ e. ap (λ b. (if n == u then (thread_at w n).memory.waits == wait else false) || b) (found_below n u) ∙ more e)
      (λ e. found_below n u ∙ fewer e)
    where
      here : is_blocked_on w c n ≡ true → (thread_at w n).memory.waits == wait ≡ waits_by w c wait n
      here e = sym (ap (λ b. if b then (thread_at w n).memory.waits == wait else false) e)

      not_here : is_blocked_on w c n ≡ false → waits_by w c wait n ≡ false
      not_here e = ap (λ b. if b then (thread_at w n).memory.waits == wait else false) e

      more : is_blocked_on w c n ≡ true
          → ((if n == u then (thread_at w n).memory.waits == wait else false) || passes_below (waits_by w c wait) n u)
          ≡ passes_below (waits_by w c wait) (suc n) u
      more e =
          elim (cases_eq u n) [
            | inl is ↦ subst (λ k. ((if n == k then (thread_at w n).memory.waits == wait else false) || passes_below (waits_by w c wait) n k)
                ≡ passes_below (waits_by w c wait) (suc n) k) (sym is)
                ((λ i. (if eq-eqb n n refl i then (thread_at w n).memory.waits == wait else false) || below_itself (waits_by w c wait) n i)
                ∙ or_false ((thread_at w n).memory.waits == wait) ∙ here e ∙ sym (below_next (waits_by w c wait) n))
            | inr ne ↦ (λ i. (if ne_eqb n u (λ h. ne (sym h)) i then (thread_at w n).memory.waits == wait else false) || passes_below (waits_by w c wait) n u)
                ∙ sym (below_other (waits_by w c wait) n u ne)
          ]

      fewer : is_blocked_on w c n ≡ false → passes_below (waits_by w c wait) n u ≡ passes_below (waits_by w c wait) (suc n) u
      fewer e =
          elim (cases_eq u n) [
            | inl is ↦ subst (λ k. passes_below (waits_by w c wait) n k ≡ passes_below (waits_by w c wait) (suc n) k) (sym is)
                (below_itself (waits_by w c wait) n ∙ sym (below_next (waits_by w c wait) n ∙ not_here e))
            | inr ne ↦ sym (below_other (waits_by w c wait) n u ne)
          ]

-- WHAT A REQUEST SAYS

plain_same : (f : ℕ → ℕ) (q : Request) → plain (renamed_request f q) ≡ renamed_request f (plain q)
plain_same f (SetPrio t p) = refl
plain_same f q = refl

timer_same : (f : ℕ → ℕ) (q : Request) → timer_of (renamed_request f q) ≡ timer_of q
timer_same f (SetPrio t p) = refl
timer_same f q = refl

names_same : (f : ℕ → ℕ) (k l : ℕ → Bool) (q : Request) → names_known k l (renamed_request f q) ≡ names_known k l q
names_same f k l (SetPrio t p) = refl
names_same f k l q = refl

module _ (f : ℕ → ℕ) (w v : World) (a : Mirrors f w v) where
  -- whose waits a signal or a broadcast finds
  found_alike : (c u wait : ℕ)
      → is_wait_among (blocked_below v c (length v.threads)) (f u) wait ≡ is_wait_among (blocked_below w c (length w.threads)) u wait
  found_alike c u wait =
      found_below v c wait (length v.threads) (f u)
      ∙ (λ i. if (ap (nat_lt (f u)) a.threads ∙ known_there f w v a u) i
      then (if blocked_there f w v a c u i then (a.thread u).waits i == wait else false) else false)
      ∙ sym (found_below w c wait (length w.threads) u)

  -- memories are the same but for names
  abbrev AreRenamed : Memory → Memory → Type 0
  AreRenamed m n = (n.waits ≡ m.waits) × ((u wait : ℕ) → is_wait_among n.found (f u) wait ≡ is_wait_among m.found u wait)

  memory_begun : (q : Request) (m n : Memory) → AreRenamed m n → AreRenamed (begun_memory w (plain q) m) (begun_memory v (plain (renamed_request f q)) n)
  memory_begun (SetPrio t p) m n e = e
  memory_begun (Wait c k) m n e = (ap (λ z. z + 1) e.0, e.1)
  memory_begun (TimedWait c k d) m n e = (ap (λ z. z + 1) e.0, e.1)
  memory_begun (Signal c) m n e = (e.0, found_alike c)
  memory_begun (Broadcast c) m n e = (e.0, found_alike c)
  memory_begun q m n e = e

  thread_begun : (q : Request) (x y : Thread) → IsRenamed f x y → IsRenamed f (begun_thread w q x) (begun_thread v (renamed_request f q) y)
  thread_begun q x y e =
      let m = memory_begun q x.memory y.memory (e.waits, e.found) in
      record {
        base = e.base;
        living = e.living;
        call = λ i. Some (record { request = plain_same f q i; progress = Fresh });
        timer = timer_same f q;
        waits = m.0;
        found = m.1;
      }

  module _ (t : ℕ) (q : Request) where
    pub same_begin : Mirrors f (with_thread t (begun_thread w q (thread_at w t)) w)
        (with_thread (f t) (begun_thread v (renamed_request f q) (thread_at v (f t))) v)
    same_begin = same_thread f w v a t _ _ (thread_begun q (thread_at w t) (thread_at v (f t)) (a.thread t))

    pub begin_there : refusal_of v (Begin (f t) (renamed_request f q)) ≡ refusal_of w (Begin t q)
    begin_there =
        let busy : is_some (thread_at v (f t)).call ≡ is_some (thread_at w t).call =
        ap is_some (call_there f w v a t) ∙ open_same f (thread_at w t).call in
        let size : length v.mutexes ≡ length w.mutexes = ap length a.mutexes ∙ length-map w.mutexes (renamed_mutex f) in
        let known : names_known (is_mutex v) (is_variable v) (renamed_request f q) ≡ names_known (is_mutex w) (is_variable w) q =
        names_same f (is_mutex v) (is_variable v) q
        ∙ (λ i. names_known (λ m. if m == 0 then false else nat_lt m (size i)) (λ c. if c == 0 then false else nat_lt c (length (a.variables i))) q) in
        λ i. begin_refused (thread_there f w v a t i) (living_there f w v a t i) (busy i) (known i)
