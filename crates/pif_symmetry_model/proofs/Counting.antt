-- As many threads pass a test by other names.
use Rattle.std.proofs.Common.{ℕ, zero, suc, ◌≡◌, ◌≤◌, ◌<◌, ◌∙◌, ◌==◌, ◌⊎◌, Bool, true, false, not, length, refl, sym, ap, subst, inl, inr, arith, if◌then◌else◌, eq-eqb, ne_eqb}
use Rattle.pif_model.specs.Posix.{World, is_blocked_on}
use Rattle.pif_model_lemmas.proofs.Waiting.{by_test}
use Rattle.pif_posix_steps.specs.Doing.{passing, all_blocked}
use Rattle.pif_posix_steps.proofs.DoingLists.{passing-none, passing-one_less}
use Rattle.pif_explore_model.specs.Situations.{unblocks}
use Rattle.pif_symmetry_model.specs.Renaming.{IsRenaming, Mirrors}
use Rattle.pif_symmetry_model.proofs.Names.{same_test}
use Rattle.pif_symmetry_model.proofs.Reading.{blocked_there}

-- some number below n passes, or none does
some_below : (test : ℕ → Bool) (n : ℕ) → ((m : ℕ) × (m < n) × (test m ≡ true)) ⊎ ((u : ℕ) → u < n → test u ≡ false)
some_below test zero = inr (λ u l. absurd (omega (arith, l)))
some_below test (suc n) =
    by_test (λ _. ((m : ℕ) × (m < suc n) × (test m ≡ true)) ⊎ ((u : ℕ) → u < suc n → test u ≡ false)) (test n)
    (λ e. inl (n, omega arith, e)) (λ e. further e (some_below test n))
  where
    fails : test n ≡ false → ((u : ℕ) → u < n → test u ≡ false) → (u : ℕ) → u < suc n → test u ≡ false
    fails e h u l =
        by_test (λ _. test u ≡ false) (u == n)
        (λ is. subst (λ z. test z ≡ false) (sym (same u n is)) e) (λ ne. h u (less u l ne))
      where
        same : (a b : ℕ) → (a == b) ≡ true → a ≡ b
        same a b i = grind (arith, i)

        less : (a : ℕ) → a < suc n → (a == n) ≡ false → a < n
        less a k i = grind (arith, k, i)

    further : test n ≡ false → ((m : ℕ) × (m < n) × (test m ≡ true)) ⊎ ((u : ℕ) → u < n → test u ≡ false)
        → ((m : ℕ) × (m < suc n) × (test m ≡ true)) ⊎ ((u : ℕ) → u < suc n → test u ≡ false)
    further e (inl x) = inl (x.0, (let l = x.1 in omega (arith, l)), x.2)
    further e (inr h) = inr (fails e h)

-- the test that m doesn't pass any longer
abbrev but : ℕ → (ℕ → Bool) → ℕ → Bool
but m test u = if u == m then false else test u

one_fewer : (test : ℕ → Bool) (n m : ℕ) → m < n → test m ≡ true → length (passing test n) ≡ suc (length (passing (but m test) n))
one_fewer test n m l e =
    passing-one_less test (but m test) n m l e (ap (λ b. if b then false else test m) (eq-eqb m m refl))
    (λ i ne. sym (ap (λ b. if b then false else test i) (ne_eqb i m ne)))

module _ (f : ℕ → ℕ) (n : ℕ) (r : IsRenaming f n) where
  none_there : (p q : ℕ → Bool) → ((u : ℕ) → q (f u) ≡ p u) → ((u : ℕ) → u < n → p u ≡ false) → length (passing q n) ≡ length (passing p n)
  none_there p q h none =
      ap length (passing-none q n (λ u l. ap q (sym (r.again u)) ∙ h (r.back u) ∙ none (r.back u) (r.back_below u l)))
      ∙ sym (ap length (passing-none p n none))

  but_there : (p q : ℕ → Bool) (m : ℕ) → ((u : ℕ) → q (f u) ≡ p u) → (u : ℕ) → but (f m) q (f u) ≡ but m p u
  but_there p q m h u = λ i. if same_test f n r u m i then false else h u i

  -- as many pass
  count_within : (k : ℕ) (p q : ℕ → Bool) → ((u : ℕ) → q (f u) ≡ p u) → length (passing p n) ≤ k → length (passing q n) ≡ length (passing p n)
  count_within zero p q h l =
      elim (some_below p n) [
        | inl x ↦ absurd (let e = one_fewer p n x.0 x.1 x.2 in omega (arith, e, l))
        | inr none ↦ none_there p q h none
      ]
  count_within (suc k) p q h l =
      elim (some_below p n) [
        | inl x ↦
            one_fewer q n (f x.0) (r.below x.0 x.1) (h x.0 ∙ x.2)
            ∙ ap suc (count_within k (but x.0 p) (but (f x.0) q) (but_there p q x.0 h) (let e = one_fewer p n x.0 x.1 x.2 in omega (arith, e, l)))
            ∙ sym (one_fewer p n x.0 x.1 x.2)
        | inr none ↦ none_there p q h none
      ]

  pub count_same : (p q : ℕ → Bool) → ((u : ℕ) → q (f u) ≡ p u) → length (passing q n) ≡ length (passing p n)
  count_same p q h = count_within (length (passing p n)) p q h (omega arith)

-- as many are blocked on a variable
pub blocked_count : (f : ℕ → ℕ) (w v : World) → Mirrors f w v → (c : ℕ) → length (all_blocked v c) ≡ length (all_blocked w c)
blocked_count f w v a c =
    ap (λ n. length (passing (is_blocked_on v c) n)) a.threads
    ∙ count_same f (length w.threads) a.renaming (is_blocked_on w c) (is_blocked_on v c) (blocked_there f w v a c)

-- whether a move unblocks somebody
pub unblocks_there : (f : ℕ → ℕ) (w v x y : World) → Mirrors f w v → Mirrors f x y → (c : ℕ) → unblocks v y c ≡ unblocks w x c
unblocks_there f w v x y a b c = λ i. not (blocked_count f x y b c i == blocked_count f w v a c i)
