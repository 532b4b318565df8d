-- Two threads that exchange their names: that is a renaming, and gives a state that is the same but for names.
use Rattle.std.proofs.Common.{ℕ, ◌≡◌, ◌≢◌, ◌<◌, ◌∙◌, ◌==◌, ◌||◌, false, List, [], ◌∷◌, length, get_or, set, map, refl, sym, ap, subst, inl, inr, eq-eqb, ne_eqb, if◌then◌else◌}
use Rattle.std.proofs.lemmas.Bool.{cases_eq}
use Rattle.std.proofs.lemmas.List.{get_or-set_same, get_or-set_other, length-set, length-map}
use Rattle.pif_model.specs.Posix.{World, Thread, nobody, thread_at}
use Rattle.pif_model_lemmas.proofs.Places.{mapped_at}
use Rattle.pif_symmetry_model.specs.Renaming.{IsRenaming, IsRenamed, Mirrors, renamed_waiter, is_wait_among}
use Rattle.pif_symmetry_model.specs.Swaps.{swapped_name, exchanged, renamed_thread, swapped}
use Rattle.pif_symmetry_model.proofs.Names.{same_test}

module _ (a b : ℕ) where
  swapped_first : swapped_name a b a ≡ b
  swapped_first = ap (λ x. if x then b else (if a == b then a else a)) (eq-eqb a a refl)

  swapped_other : (t : ℕ) → t ≢ a → t ≢ b → swapped_name a b t ≡ t
  swapped_other t h k = λ i. if ne_eqb t a h i then b else (if ne_eqb t b k i then a else t)

  swapped_second : swapped_name a b b ≡ a
  swapped_second =
      elim (cases_eq b a) [
        | inl is ↦ ap (swapped_name a b) is ∙ swapped_first ∙ is
        | inr ne ↦ λ i. if ne_eqb b a ne i then b else (if eq-eqb b b refl i then a else b)
      ]

  swapped_twice : (t : ℕ) → swapped_name a b (swapped_name a b t) ≡ t
  swapped_twice t =
      elim (cases_eq t a) [
        | inl is ↦ subst (λ z. swapped_name a b (swapped_name a b z) ≡ z) (sym is) (ap (swapped_name a b) swapped_first ∙ swapped_second)
        | inr h ↦ elim (cases_eq t b) [
          | inl is ↦ subst (λ z. swapped_name a b (swapped_name a b z) ≡ z) (sym is) (ap (swapped_name a b) swapped_second ∙ swapped_first)
          | inr k ↦ ap (swapped_name a b) (swapped_other t h k) ∙ swapped_other t h k
        ]
      ]

  swapped_below : (n t : ℕ) → a < n → b < n → t < n → swapped_name a b t < n
  swapped_below n t l m k =
      elim (cases_eq t a) [
        | inl is ↦ subst (λ z. swapped_name a b z < n) (sym is) (subst (λ z. z < n) (sym swapped_first) m)
        | inr h ↦ elim (cases_eq t b) [
          | inl is ↦ subst (λ z. swapped_name a b z < n) (sym is) (subst (λ z. z < n) (sym swapped_second) l)
          | inr g ↦ subst (λ z. z < n) (sym (swapped_other t h g)) k
        ]
      ]

  -- of two threads
  pub swap_renames : (n : ℕ) → a ≢ 0 → b ≢ 0 → a < n → b < n → IsRenaming (swapped_name a b) n
  swap_renames n h k l m = record {
    back = swapped_name a b;
    there = swapped_twice;
    again = swapped_twice;
    nobody = swapped_other 0 (λ e. h (sym e)) (λ e. k (sym e));
    below = λ t. swapped_below n t l m;
    back_below = λ t. swapped_below n t l m;
  }

  -- WHAT STANDS WHERE

  module _ {A : Type 0} (d : A) (xs : List A) (l : a < length xs) (m : b < length xs) where
    exchanged_second : get_or (exchanged d a b xs) b d ≡ get_or xs a d
    exchanged_second = get_or-set_same (set xs a (get_or xs b d)) b (get_or xs a d) d (subst (λ n. b < n) (sym (length-set xs a (get_or xs b d))) m)

    exchanged_first : get_or (exchanged d a b xs) a d ≡ get_or xs b d
    exchanged_first =
        elim (cases_eq a b) [
          | inl is ↦ subst (λ z. get_or (exchanged d a b xs) z d ≡ get_or xs a d) (sym is) exchanged_second ∙ ap (λ z. get_or xs z d) is
          | inr ne ↦ get_or-set_other (set xs a (get_or xs b d)) b a (get_or xs a d) d ne ∙ get_or-set_same xs a (get_or xs b d) d l
        ]

    exchanged_other : (t : ℕ) → t ≢ a → t ≢ b → get_or (exchanged d a b xs) t d ≡ get_or xs t d
    exchanged_other t h k = get_or-set_other (set xs a (get_or xs b d)) b t (get_or xs a d) d k ∙ get_or-set_other xs a t (get_or xs b d) d h

    exchanged_at : (t : ℕ) → get_or (exchanged d a b xs) (swapped_name a b t) d ≡ get_or xs t d
    exchanged_at t =
        elim (cases_eq t a) [
          | inl is ↦ subst (λ z. get_or (exchanged d a b xs) (swapped_name a b z) d ≡ get_or xs z d) (sym is)
              (ap (λ z. get_or (exchanged d a b xs) z d) swapped_first ∙ exchanged_second)
          | inr h ↦ elim (cases_eq t b) [
            | inl is ↦ subst (λ z. get_or (exchanged d a b xs) (swapped_name a b z) d ≡ get_or xs z d) (sym is)
                (ap (λ z. get_or (exchanged d a b xs) z d) swapped_second ∙ exchanged_first)
            | inr k ↦ ap (λ z. get_or (exchanged d a b xs) z d) (swapped_other t h k) ∙ exchanged_other t h k
          ]
        ]

-- waits that are found, by other names
among_renamed : (f : ℕ → ℕ) (n : ℕ) → IsRenaming f n → (found : List (ℕ × ℕ)) (u wait : ℕ)
    → is_wait_among (map (renamed_waiter f) found) (f u) wait ≡ is_wait_among found u wait
among_renamed f n r [] u wait = refl
among_renamed f n r (x ∷ xs) u wait = λ i. (if same_test f n r x.0 u i then x.1 == wait else false) || among_renamed f n r xs u wait i

module _ (a b : ℕ) (w : World) (h : a ≢ 0) (k : b ≢ 0) (l : a < length w.threads) (m : b < length w.threads) where
  abbrev f : ℕ → ℕ
  f = swapped_name a b

  swap : IsRenaming f (length w.threads)
  swap = swap_renames a b (length w.threads) h k l m

  thread_swapped : (t : ℕ) → IsRenamed f (thread_at w t) (renamed_thread f (thread_at w t))
  thread_swapped t = record {
    base = refl;
    living = refl;
    call = refl;
    timer = refl;
    waits = refl;
    found = among_renamed f (length w.threads) swap (thread_at w t).memory.found;
  }

  -- a and b exchange their names
  pub swapped_mirrors : Mirrors f w (swapped a b w)
  swapped_mirrors = record {
    renaming = swap;
    thread = λ t. subst (λ (z : Thread). IsRenamed f (thread_at w t) z)
        (sym (mapped_at (renamed_thread f) (exchanged nobody a b w.threads) (f t) nobody ∙ ap (renamed_thread f) (exchanged_at a b nobody w.threads l m t)))
        (thread_swapped t);
    threads = length-map (exchanged nobody a b w.threads) (renamed_thread f)
        ∙ length-set (set w.threads a (thread_at w b)) b (thread_at w a) ∙ length-set w.threads a (thread_at w b);
    mutexes = refl;
    waiters = refl;
    variables = refl;
    signals = refl;
    time = refl;
  }
