-- What wait_requeue_pi and cmp_requeue_pi answer, test by test.
use Rattle.std.proofs.Common.{◌≡◌, ◌≢◌, ℕ, ◌+◌, ◌==◌, ◌||◌, Bool, true, false, cond, min, filter, if◌then◌else◌, List, [], ◌∷◌, length, Result, Ok, Err, refl, sym, arith, ne_eqb}
use Rattle.std.proofs.lemmas.Bool.{true≢false}
use Rattle.std.proofs.lemmas.Bool.Decides.{nat_tests}
use Rattle.pif_types.specs.declared.errors.Errno.{Errno}
use Rattle.pif_types.specs.declared.errors.Errno.TheVariants.{Again, Fault, Invalid}
use Rattle.pif_model.specs.Graph.{has_waiter}
use Rattle.pif_model.specs.Word.{Words, word_at, has_word, cond_word_at, has_cond_word}
use Rattle.pif_model.specs.PiKernel.{Kernel, System, Parking, state_at, has_parked, has_other_target, parked_count, parked_pairs, fits_state, is_living, wait_requeue_answer, requeue_answer}
use Rattle.pif_model_lemmas.proofs.Waiting.{by_test}
use Rattle.pif_model_lemmas.proofs.kernel.Taken.{fits-from_test}
use Rattle.pif_kernel_model.specs.Takings.{FitsWord}

-- THE ANSWERS

module _ (c m expected : ℕ) (ws : Words) where
  -- both words are there
  abbrev pub have : Bool
  have = if has_cond_word ws c then has_word ws m else false

  -- wait_requeue_pi: a word isn't there
  pub parking_fault : have ≡ false → Err Fault ≡ wait_requeue_answer c expected m ws
  unfolding wait_requeue_answer
  parking_fault e = rw e refl

  -- the condition word is another
  pub parking_changed : have ≡ true → cond_word_at ws c ≢ expected → Err Again ≡ wait_requeue_answer c expected m ws
  unfolding wait_requeue_answer
  parking_changed e n = let no : (cond_word_at ws c == expected) ≡ false = grind (arith, nat_tests) in rw (e, no) refl

  -- nothing refuses it
  pub parking_goes : have ≡ true → cond_word_at ws c ≡ expected → Ok (record {}) ≡ wait_requeue_answer c expected m ws
  unfolding wait_requeue_answer
  parking_goes e n = let yes : (cond_word_at ws c == expected) ≡ true = grind (arith, nat_tests) in rw (e, yes) refl

  module _ (val more : ℕ) (k : Kernel) where
    -- the answer
    abbrev answer : Result ℕ Errno
    answer = requeue_answer c m val more expected ws k

    -- cmp_requeue_pi: a word isn't there
    pub requeue_fault : have ≡ false → answer ≡ Err Fault
    unfolding requeue_answer
    requeue_fault e = rw e refl

    -- the count isn't 1
    pub requeue_many : have ≡ true → val ≢ 1 → answer ≡ Err Invalid
    unfolding requeue_answer
    requeue_many e n = let no : (val == 1) ≡ false = grind (arith, nat_tests) in rw (e, no) refl

    module _ (e : have ≡ true) (one : val ≡ 1) where
      is_one : (val == 1) ≡ true
      is_one = grind (arith, nat_tests)

      -- the condition word is another
      pub requeue_changed : cond_word_at ws c ≢ expected → answer ≡ Err Again
      unfolding requeue_answer
      requeue_changed n =
          let no : (cond_word_at ws c == expected) ≡ false = grind (arith, nat_tests) in rw (e, is_one, no) refl

      module _ (same : cond_word_at ws c ≡ expected) where
        is_same : (cond_word_at ws c == expected) ≡ true
        is_same = grind (arith, nat_tests)

        -- a parked thread has another target
        pub requeue_other : has_other_target k c m ≡ true → answer ≡ Err Invalid
        unfolding requeue_answer
        requeue_other o = rw (e, is_one, is_same, o) refl

        module _ (o : has_other_target k c m ≡ false) where
          -- nobody is parked
          pub requeue_nobody : has_parked k c ≡ false → answer ≡ Ok 0
          unfolding requeue_answer
          requeue_nobody p = rw (e, is_one, is_same, o, p) refl

          -- word and owner state don't fit together
          pub requeue_unfit : has_parked k c ≡ true → fits_state (word_at ws m).number (state_at k m) k ≡ false
              → answer ≡ Err Invalid
          unfolding requeue_answer
          requeue_unfit p f = rw (e, is_one, is_same, o, p, f) refl

          -- nothing refuses it
          pub requeue_goes : has_parked k c ≡ true → fits_state (word_at ws m).number (state_at k m) k ≡ true
              → answer ≡ Ok (min (parked_count k c) (more + 1))
          unfolding requeue_answer
          requeue_goes p f = rw (e, is_one, is_same, o, p, f) refl

-- if nobody is parked on the variable, none are
pub count_none : (ps : List Parking) (c : ℕ) → has_waiter (parked_pairs ps) c ≡ false
    → length (filter (λ (x : Parking). x.cond == c) ps) ≡ 0
count_none [] c e = refl
count_none (x ∷ ps) c e =
    by_test (λ b. (b || has_waiter (parked_pairs ps) c) ≡ false
    → length (cond b (x ∷ filter (λ (y : Parking). y.cond == c) ps) (filter (λ (y : Parking). y.cond == c) ps)) ≡ 0)
    (x.cond == c) (λ y z. absurd (true≢false z)) (λ y z. count_none ps c z) e

-- of nothing at most some are nothing
min_none : (n k : ℕ) → n ≡ 0 → 0 ≡ min n k
min_none n k e = grind (arith, nat_tests)

-- if nobody is parked, that many are taken
pub none_counted : (k : Kernel) (c more : ℕ) → has_parked k c ≡ false → 0 ≡ min (parked_count k c) (more + 1)
none_counted k c more e = min_none (parked_count k c) (more + 1) (count_none k.parked c e)

-- WORD AND OWNER STATE

module _ (n s : ℕ) (k : Kernel) where
  -- with no owner state any word fits
  pub fits_stateless : s ≡ 0 → true ≡ fits_state n s k
  fits_stateless e = let none : (s == 0) ≡ true = grind (arith, nat_tests) in rw none refl

  -- with one a word without a number doesn't
  pub fits_numberless : s ≢ 0 → n ≡ 0 → false ≡ fits_state n s k
  fits_numberless d e =
      let some : (s == 0) ≡ false = grind (arith, nat_tests) in
      let none : (n == 0) ≡ true = grind (arith, nat_tests) in rw (some, none) refl

  -- and one with the number of a living thread if the state has that number
  pub fits_owner : s ≢ 0 → n ≢ 0 → is_living k n ≡ true → (s == n) ≡ fits_state n s k
  fits_owner d e l =
      λ i. if sym (ne_eqb s 0 d) i then true else
      (if sym (ne_eqb n 0 e) i then false else (if sym l i then s == n else true))

-- what the test says of word and owner state
pub fits_word : (m : ℕ) (x : System) → fits_state (word_at x.words m).number (state_at x.kernel m) x.kernel ≡ true
    → FitsWord m x
fits_word m x e = let f = fits-from_test m x e in record { some = f.some; owner = f.owner }
