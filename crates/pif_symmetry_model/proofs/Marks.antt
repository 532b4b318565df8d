-- What is remembered of signals and broadcasts, by other names.
use Rattle.std.proofs.Common.{ℕ, zero, suc, ◌≡◌, ◌≤◌, ◌<◌, ◌∙◌, ◌==◌, ◌⊎◌, Bool, true, false, List, length, get_or, set, nat_lt, Option, Some, None, refl, sym, ap, subst, inl, inr, arith, if◌then◌else◌}
use Rattle.std.proofs.lemmas.Bool.{cases_eq, cases_lt}
use Rattle.std.proofs.lemmas.Bool.Decides.{nat_tests}
use Rattle.std.proofs.lemmas.List.{get_or-set_same, get_or-set_other, length-set}
use Rattle.pif_types.specs.declared.requests.Request.{Request}
use Rattle.pif_types.specs.declared.requests.Request.TheVariants.{SetPrio}
use Rattle.pif_model.specs.Posix.{World, Call, Progress, thread_at, is_blocked_on}
use Rattle.pif_model_lemmas.proofs.Waiting.{by_test}
use Rattle.pif_explore_model.specs.declared.signalling.Signalling.{Signalling}
use Rattle.pif_explore_model.specs.declared.signalling.Signalling.TheVariants.{Uses, Chooses, Blocks, Resumes, Nothing}
use Rattle.pif_explore_model.specs.Situations.{Marks, signalling_by, signalling_of, unblocks, marked_below, marks_after_use, marks_after_loss, marks_after_choice, marks_after_blocking, marks_after_wait, marks_by, marks_after}
use Rattle.pif_symmetry_model.specs.Renaming.{Mirrors, renamed_request, renamed_call}
use Rattle.pif_symmetry_model.specs.Symmetry.{IsMoved, MirrorsMarks}
use Rattle.pif_symmetry_model.proofs.Names.{one_name}
use Rattle.pif_symmetry_model.proofs.Reading.{below_same, known_there, call_there, blocked_there}
use Rattle.pif_symmetry_model.proofs.Changes.{set_beyond}
use Rattle.pif_symmetry_model.proofs.Begins.{passes_below, below_itself, below_next, below_other, below_none}
use Rattle.pif_symmetry_model.proofs.Counting.{blocked_count, unblocks_there}
use Rattle.pif_symmetry_model.proofs.Places.{moved_set}

-- WHO IS MARKED

module _ (test : ℕ → Bool) (xs : List Bool) where
  marked_length : (n : ℕ) → length (marked_below test n xs) ≡ length xs
  marked_length zero = refl
  marked_length (suc n) =
      by_test (λ b. length (if b then set (marked_below test n xs) n true else marked_below test n xs) ≡ length xs) (test n)
      (λ _. length-set (marked_below test n xs) n true ∙ marked_length n) (λ _. marked_length n)

  -- the mark of one whom the test is about, which is true, and within the list; else it is the one before
  abbrev mark_if : Bool → ℕ → Bool
  mark_if b u = if b then (if nat_lt u (length xs) then true else get_or xs u false) else get_or xs u false

  marked_at : (n u : ℕ) → get_or (marked_below test n xs) u false ≡ mark_if (passes_below test n u) u
  marked_at zero u = sym (ap (λ b. mark_if b u) (below_none test u))
  marked_at (suc n) u =
      by_test (λ b. get_or (if b then set (marked_below test n xs) n true else marked_below test n xs) u false ≡ mark_if (passes_below test (suc n) u) u) (test n)
      (λ e. elim (cases_eq u n) [
        | inl is ↦ subst (λ z. get_or (set (marked_below test n xs) n true) z false ≡ mark_if (passes_below test (suc n) z) z) (sym is)
            (written (marked_at n n) (cases_lt n (length xs)) ∙ sym (ap (λ b. mark_if b n) (below_next test n ∙ e)))
        | inr ne ↦ get_or-set_other (marked_below test n xs) n u true false ne ∙ marked_at n u ∙ sym (ap (λ b. mark_if b u) (below_other test n u ne))
      ])
      (λ e. marked_at n u ∙ ap (λ b. mark_if b u) (elim (cases_eq u n) [
        | inl is ↦ subst (λ z. passes_below test n z ≡ passes_below test (suc n) z) (sym is) (below_itself test n ∙ sym (below_next test n ∙ e))
        | inr ne ↦ sym (below_other test n u ne)
      ]))
    where
      written : get_or (marked_below test n xs) n false ≡ mark_if (passes_below test n n) n → (n < length xs) ⊎ (length xs ≤ n) → get_or (set (marked_below test n xs) n true) n false ≡ mark_if true n
      written before (inl l) =
          let yes : nat_lt n (length xs) ≡ true = grind (arith, nat_tests, l) in
          get_or-set_same (marked_below test n xs) n true false (subst (λ z. n < z) (sym (marked_length n)) l)
          ∙ sym (ap (λ b. if b then true else get_or xs n false) yes)
      written before (inr l) =
          let no : nat_lt n (length xs) ≡ false = grind (arith, nat_tests, l) in
          set_beyond (marked_below test n xs) n true false (subst (λ z. z ≤ n) (sym (marked_length n)) l)
          ∙ before ∙ ap (λ b. mark_if b n) (below_itself test n)
          ∙ sym (ap (λ b. if b then true else get_or xs n false) no)

-- the same are marked by other names
marked_there : (f : ℕ → ℕ) (test also : ℕ → Bool) (n : ℕ) (xs ys : List Bool) → ((u : ℕ) → passes_below also n (f u) ≡ passes_below test n u)
    → IsMoved f false (λ x. x) xs ys → IsMoved f false (λ x. x) (marked_below test n xs) (marked_below also n ys)
marked_there f test also n xs ys h m = record {
  size = marked_length also ys n ∙ m.size ∙ sym (marked_length test xs n);
  within = λ u l. subst (λ z. f u < z) (sym (marked_length test xs n)) (m.within u (subst (λ z. u < z) (marked_length test xs n) l));
  back_within = λ u l. subst (λ z. u < z) (sym (marked_length test xs n)) (m.back_within u (subst (λ z. f u < z) (marked_length test xs n) l));
  place = λ u.
      marked_at also ys n (f u)
      ∙ (λ i. if h u i then (if (ap (nat_lt (f u)) m.size ∙ below_same (f u) (length xs) u (length xs) (m.back_within u) (m.within u)) i then true else m.place u i) else m.place u i)
      ∙ sym (marked_at test xs n u);
}

-- WHAT A MOVE DOES

signalling_same : (f : ℕ → ℕ) (q : Request) (p : Progress) → signalling_by (renamed_request f q) p ≡ signalling_by q p
signalling_same f (SetPrio t n) p = refl
signalling_same f q p = refl

signalling_there : (f : ℕ → ℕ) (c : Option Call) → signalling_of (renamed_call f c) ≡ signalling_of c
signalling_there f None = refl
signalling_there f (Some x) = signalling_same f x.request x.progress

module _ (f : ℕ → ℕ) (w v x y : World) (a : Mirrors f w v) (b : Mirrors f x y) (m k : Marks) (e : MirrorsMarks f m k) (t : ℕ) where
  one : (i j : ℕ) → f i ≡ f j → i ≡ j
  one = one_name f _ a.renaming

  too_use : (c d : Bool) → d ≡ c → MirrorsMarks f (marks_after_use t c m) (marks_after_use (f t) d k)
  too_use c d same = record {
    lost = e.lost;
    unblocked = moved_set f one false (λ z. z) m.unblocked k.unblocked e.unblocked t c d same;
    late = e.late;
  }

  too_wait : MirrorsMarks f (marks_after_wait t m) (marks_after_wait (f t) k)
  too_wait = record { lost = e.lost; unblocked = e.unblocked; late = moved_set f one false (λ z. z) m.late k.late e.late t false false refl }

  too_blocking : (c : ℕ) → MirrorsMarks f (marks_after_blocking t c m) (marks_after_blocking (f t) c k)
  too_blocking c = record {
    lost = ap (λ (l : List Bool). set l c false) e.lost;
    unblocked = e.unblocked;
    late = moved_set f one false (λ z. z) m.late k.late e.late t (get_or m.lost c false) (get_or k.lost c false) (ap (λ (l : List Bool). get_or l c false) e.lost);
  }

  too_loss : (c : ℕ) → MirrorsMarks f (marks_after_loss c x m) (marks_after_loss c y k)
  too_loss c = record {
    lost = λ i. if blocked_count f x y b c i == 0 then set (e.lost i) c true else e.lost i;
    unblocked = e.unblocked;
    late = subst (λ n. IsMoved f false (λ z. z) (marked_below (is_blocked_on x c) (length x.threads) m.late) (marked_below (is_blocked_on y c) n k.late)) (sym b.threads)
        (marked_there f (is_blocked_on x c) (is_blocked_on y c) (length x.threads) m.late k.late
        (λ u i. if known_there f x y b u i then blocked_there f x y b c u i else false) e.late);
  }

  too_choice : (c : Bool) (loss also_loss : Marks) → MirrorsMarks f loss also_loss
      → MirrorsMarks f (marks_after_choice t c loss m) (marks_after_choice (f t) c also_loss k)
  too_choice true loss also_loss h = record {
    lost = e.lost;
    unblocked = moved_set f one false (λ z. z) m.unblocked k.unblocked e.unblocked t false false refl;
    late = e.late;
  }
  too_choice false loss also_loss h =
      subst (λ d. MirrorsMarks f (marks_after_choice t false loss m) (record (if d then k else also_loss) { unblocked = set k.unblocked (f t) false }))
      (sym (e.unblocked.place t))
      (by_test (λ d. MirrorsMarks f (record (if d then m else loss) { unblocked = set m.unblocked t false }) (record (if d then k else also_loss) { unblocked = set k.unblocked (f t) false }))
      (get_or m.unblocked t false)
      (λ _. record {
        lost = e.lost;
        unblocked = moved_set f one false (λ z. z) m.unblocked k.unblocked e.unblocked t false false refl;
        late = e.late;
      })
      (λ _. record {
        lost = h.lost;
        unblocked = moved_set f one false (λ z. z) m.unblocked k.unblocked e.unblocked t false false refl;
        late = h.late;
      }))

  too_by : (g : Signalling) → MirrorsMarks f (marks_by g t w x m) (marks_by g (f t) v y k)
  too_by (Uses c) = too_use (unblocks w x c) (unblocks v y c) (unblocks_there f w v x y a b c)
  too_by (Chooses c) =
      subst (λ d. MirrorsMarks f (marks_by (Chooses c) t w x m) (marks_after_choice (f t) d (marks_after_loss c y k) k)) (sym (unblocks_there f w v x y a b c))
      (too_choice (unblocks w x c) (marks_after_loss c x m) (marks_after_loss c y k) (too_loss c))
  too_by (Blocks c) =
      subst (λ d. MirrorsMarks f (marks_by (Blocks c) t w x m) (if d then marks_after_blocking (f t) c k else k)) (sym (blocked_there f x y b c t))
      (by_test (λ d. MirrorsMarks f (if d then marks_after_blocking t c m else m) (if d then marks_after_blocking (f t) c k else k))
      (is_blocked_on x c t) (λ _. too_blocking c) (λ _. e))
  too_by Resumes = too_wait
  too_by Nothing = e

  -- the marks after a move of t
  pub too_marks : MirrorsMarks f (marks_after t w x m) (marks_after (f t) v y k)
  too_marks =
      subst (λ g. MirrorsMarks f (marks_after t w x m) (marks_by g (f t) v y k))
      (sym (ap signalling_of (call_there f w v a t) ∙ signalling_there f (thread_at w t).call))
      (too_by (signalling_of (thread_at w t).call))
