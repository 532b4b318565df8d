-- A thread is taken from its variable: what it is queued with, and what words and kernel are then.
use Rattle.std.proofs.Common.{◌≡◌, ◌≢◌, ◌⊎◌, ℕ, ◌+◌, ◌<◌, ◌≤◌, ◌==◌, ◌||◌, Bool, true, false, cond, min, nat_lt, filter, if◌then◌else◌, List, [], ◌∷◌, length, Ok, add-one, Option, Some, None, refl, sym, ap, subst, ◌∙◌, inl, inr, arith, eq-eqb, ne_eqb}
use Rattle.std.proofs.lemmas.Bool.{cases_eq, true≢false}
use Rattle.std.proofs.lemmas.Bool.Decides.{nat_tests}
use Rattle.pif_model.specs.declared.lines.Status.TheVariants.{Parked}
use Rattle.pif_model.specs.declared.lines.Woken.TheVariants.{Again as WokenAgain}
use Rattle.pif_model.specs.Graph.{reaches_within}
use Rattle.pif_model.specs.Word.{Words, word_at}
use Rattle.pif_model.specs.PiKernel.{Kernel, Seat as KernelSeat, System, Parking, IsKernel, seat_at as kernel_seat_at, has_seat, is_living, is_ready, state_at as kernel_state_at, waits_for, may_queue, queued_on, parkings_without, parked_pairs, parked_count, has_parked, top_parked, without_parking, kernel_after_queueing, kernel_after_waking, after_taking, after_takings, after_requeue}
use Rattle.pif_word.specs.declared.cells.Cell.TheVariants.{Mutex}
use Rattle.pif_word.specs.WordMap.{WordMap, HasCell}
use Rattle.pif_model_lemmas.proofs.Among.{is_among_cons}
use Rattle.pif_model_lemmas.proofs.Greatest.{reaches_same}
use Rattle.pif_model_lemmas.proofs.Waiting.{by_test, names, pairs, Once, once_head, once_tail, named-from_pair}
use Rattle.pif_model_lemmas.proofs.kernel.Woken.{added-from_parked, woken_length, woken_has, woken_state, woken_waits, woken_seat_same, requeued_as_woken, top-parked}
use Rattle.pif_model_lemmas.proofs.kernel.Taken.{FitsState, owned, requeued, woken_again, woken_living, taking_fits}
use Rattle.pif_model_lemmas.proofs.kernel.Requeued.{taking-parked, taking-has_word}
use Rattle.pif_model_lemmas.proofs.kernel.AllTaken.{parked-few}
use Rattle.pif_kernel_model.specs.Inside.{Inside, IsSoundInside, kernel_of, state_at}
use Rattle.pif_kernel.specs.Systems.{system_of}
use Rattle.pif_kernel_model.specs.Takings.{FitsWord}
use Rattle.pif_kernel_model.proofs.Seats.{states_seen, seats_length}
use Rattle.pif_kernel_model.proofs.Standing.{fits}
use Rattle.pif_kernel.proofs.Answering.{some_word, cell_of_word}

-- THE THREE CASES

module _ (u m : ℕ) (x : System) where
  -- the number in the word
  abbrev number : ℕ
  number = (word_at x.words m).number

  -- it owns the mutex
  pub taking_owns : number ≡ 0 → after_taking u m x ≡ owned u m x
  unfolding after_taking
  taking_owns e =
      ap (λ b. if b then owned u m x else (if may_queue u number x.kernel then requeued u m x else woken_again u m x))
      (eq-eqb number 0 e)

  -- it is queued on it
  pub taking_queues : number ≢ 0 → may_queue u number x.kernel ≡ true → after_taking u m x ≡ requeued u m x
  unfolding after_taking
  taking_queues d q =
      λ i. if ne_eqb number 0 d i then owned u m x else (if q i then requeued u m x else woken_again u m x)

  -- it is woken to lock it
  pub taking_again : number ≢ 0 → may_queue u number x.kernel ≡ false → after_taking u m x ≡ woken_again u m x
  unfolding after_taking
  taking_again d q =
      λ i. if ne_eqb number 0 d i then owned u m x else (if q i then requeued u m x else woken_again u m x)

-- THE THREAD IS READY BEFORE IT IS QUEUED

module _ (s : WordMap) (p : Inside) (h : IsSoundInside p) (u c m : ℕ)
    (was : (kernel_seat_at (kernel_of p) u).status ≡ Parked c) where
  -- the kernel by itself before
  abbrev k : Kernel
  k = kernel_of p

  added : has_seat k u ≡ true
  added = added-from_parked (kernel_of p) h.kernel u c was

  module _ (w : Inside) (e : kernel_of w ≡ kernel_after_waking u WokenAgain (kernel_of p)) where
    -- it was added
    pub again_added : has_seat (kernel_of w) u ≡ true
    again_added = ap (λ (y : Kernel). has_seat y u) e ∙ woken_has u WokenAgain k u ∙ added

    -- it may run
    pub again_ready : is_ready (kernel_seat_at (kernel_of w) u).status ≡ true
    again_ready =
        ap (λ (y : Kernel). is_ready (kernel_seat_at y u).status) e
        ∙ ap (λ (y : KernelSeat). is_ready y.status) (woken_seat_same u WokenAgain k added)

    -- who lives does so then
    pub again_lives : (n : ℕ) → is_living k n ≡ true → is_living (kernel_of w) n ≡ true
    again_lives n l =
        ap (λ (y : Kernel). is_living y n) e ∙ woken_living u m c (system_of s p) h.kernel was WokenAgain n ∙ l

    -- the owner state is as it was
    pub again_state : (n : ℕ) → (kernel_state_at k m ≢ 0 → kernel_state_at k m ≡ n) → state_at w m ≢ 0
        → state_at w m ≡ n
    again_state n agrees d = same ∙ agrees (λ z. d (same ∙ z))
      where
        same : state_at w m ≡ kernel_state_at k m
        same =
            sym (states_seen w m) ∙ ap (λ (y : Kernel). kernel_state_at y m) e ∙ woken_state u WokenAgain k m

    -- nobody reaches it who didn't
    pub again_unreached : (n : ℕ) → reaches_within (length k.seats) (waits_for k) n u ≡ false
        → reaches_within (length (kernel_of w).seats) (waits_for (kernel_of w)) n u ≡ false
    again_unreached n r =
        ap (λ (y : Kernel). reaches_within (length y.seats) (waits_for y) n u) e
        ∙ reaches_same _ _ _ _ _ _ u (woken_length u WokenAgain k) (woken_waits u WokenAgain k (ap queued_on was)) refl
        ∙ r

    -- it is queued then as one that was only taken off its variable
    pub again_queued : (n : ℕ) → kernel_after_queueing u m n (kernel_of w)
        ≡ kernel_after_queueing u m n (without_parking u k)
    again_queued n = ap (kernel_after_queueing u m n) e ∙ sym (requeued_as_woken u m n k WokenAgain added)

  -- WHAT IS KNOWN WHILE THREADS ARE TAKEN

  -- the mutex still has a word
  pub taken_cell : (s' : WordMap) (p' : Inside) → HasCell s (Mutex m)
      → system_of s' p' ≡ after_taking u m (system_of s p) → HasCell s' (Mutex m)
  taken_cell s' p' l e =
      cell_of_word s' m
      (ap (λ (y : System). is_there y) e ∙ taking-has_word u m (system_of s p) m ∙ some_word s m l)
    where
      is_there : System → Bool
      is_there y = if m == 0 then false else nat_lt m (length y.words.mutexes)

  -- and it still fits to the owner state
  pub taken_fits : (s' : WordMap) (p' : Inside) → m ≢ 0 → m < 1025 → FitsWord m (system_of s p)
      → system_of s' p' ≡ after_taking u m (system_of s p) → FitsWord m (system_of s' p')
  taken_fits s' p' some few f e =
      let g : FitsState m (after_taking u m (system_of s p))
      = taking_fits u m c (system_of s p) h.kernel was some few (record { some = f.some; owner = f.owner }) in
      subst (FitsWord m) (sym e) (record { some = g.some; owner = g.owner })

-- HOW MANY

-- a thread that is not parked
unparked_unnamed : (ps : List Parking) (u : ℕ) → names u (parked_pairs ps) ≡ false → parkings_without ps u ≡ ps
unparked_unnamed [] u e = refl
unparked_unnamed (x ∷ ps) u e =
    by_test (λ b. (b || names u (parked_pairs ps)) ≡ false
    → cond (cond b false true) (x ∷ parkings_without ps u) (parkings_without ps u) ≡ x ∷ ps)
    (x.thread == u) (λ y z. absurd (true≢false z))
    (λ y z. ap (λ (l : List Parking). x ∷ l) (unparked_unnamed ps u z)) e

-- how many of these are parked on c
abbrev count_in : List Parking → ℕ → ℕ
count_in ps c = length (filter (λ (x : Parking). x.cond == c) ps)

-- one that was parked on c is one fewer
count_without : (ps : List Parking) (u c : ℕ) → Once (parked_pairs ps) → pairs u c (parked_pairs ps) ≡ true
    → count_in (parkings_without ps u) c + 1 ≡ count_in ps c
count_without [] u c once e = absurd (true≢false (sym e))
count_without (x ∷ ps) u c once e =
    go (cases_eq x.thread u) (is_among_cons (x.thread, x.cond) (parked_pairs ps) u c e)
    (count_without ps u c (once_tail (x.thread, x.cond) (parked_pairs ps) once))
  where
    head : names x.thread (parked_pairs ps) ≡ false
    head = once_head (x.thread, x.cond) (parked_pairs ps) once

    kept : count_in (parkings_without ps u) c + 1 ≡ count_in ps c
        → count_in (x ∷ parkings_without ps u) c + 1 ≡ count_in (x ∷ ps) c
    kept ih =
        by_test (λ b. length (cond b (x ∷ filter (λ (y : Parking). y.cond == c) (parkings_without ps u))
        (filter (λ (y : Parking). y.cond == c) (parkings_without ps u))) + 1
        ≡ length (cond b (x ∷ filter (λ (y : Parking). y.cond == c) ps) (filter (λ (y : Parking). y.cond == c) ps)))
        (x.cond == c) (λ y. omega (arith, ih)) (λ y. ih)

    go : (x.thread ≡ u) ⊎ (x.thread ≡ u → ⊥)
        → ((x.thread ≡ u) × (x.cond ≡ c)) ⊎ (pairs u c (parked_pairs ps) ≡ true)
        → (pairs u c (parked_pairs ps) ≡ true → count_in (parkings_without ps u) c + 1 ≡ count_in ps c)
        → count_in (parkings_without (x ∷ ps) u) c + 1 ≡ count_in (x ∷ ps) c
    go (inl same) (inl a) ih =
        ap (λ b. count_in (cond (cond b false true) (x ∷ parkings_without ps u) (parkings_without ps u)) c + 1)
        (eq-eqb x.thread u same)
        ∙ ap (λ (l : List Parking). count_in l c + 1)
        (unparked_unnamed ps u (subst (λ n. names n (parked_pairs ps) ≡ false) same head))
        ∙ sym (ap (λ b. length (cond b (x ∷ filter (λ (y : Parking). y.cond == c) ps)
        (filter (λ (y : Parking). y.cond == c) ps))) (eq-eqb x.cond c a.1) ∙ one)
      where
        one : length (x ∷ filter (λ (y : Parking). y.cond == c) ps) ≡ count_in ps c + 1
        one = omega arith
    go (inl same) (inr r) ih =
        absurd (true≢false (sym (named-from_pair (parked_pairs ps) u c r)
        ∙ subst (λ n. names n (parked_pairs ps) ≡ false) same head))
    go (inr other) (inl a) ih = absurd (other a.0)
    go (inr other) (inr r) ih =
        ap (λ b. count_in (cond (cond b false true) (x ∷ parkings_without ps u) (parkings_without ps u)) c + 1)
        (ne_eqb x.thread u other)
        ∙ kept (ih r)

-- one is taken
pub taken_count : (x : System) (c m : ℕ) → IsKernel x.kernel → has_parked x.kernel c ≡ true
    → parked_count (after_taking (top_parked x.kernel c) m x).kernel c + 1 ≡ parked_count x.kernel c
taken_count x c m h e =
    let u = top_parked x.kernel c in
    ap (λ (ps : List Parking). count_in ps c + 1) (taking-parked u m x)
    ∙ count_without x.kernel.parked u c h.parking.once (h.parking.parked u c (top-parked x.kernel h c e))

-- not more than all are parked on one variable
count_most : (ps : List Parking) (c : ℕ) → count_in ps c ≤ length ps
count_most [] c = omega arith
count_most (x ∷ ps) c =
    by_test (λ b. length (cond b (x ∷ filter (λ (y : Parking). y.cond == c) ps)
    (filter (λ (y : Parking). y.cond == c) ps)) ≤ length (x ∷ ps)) (x.cond == c)
    (λ y. omega (arith, count_most ps c)) (λ y. omega (arith, count_most ps c))

-- there are not more than there can be threads
pub count_few : (p : Inside) → IsSoundInside p → (c : ℕ) → parked_count (kernel_of p) c ≤ 1025
count_few p h c =
    omega (
      arith,
      count_most (kernel_of p).parked c,
      parked-few (kernel_of p) h.kernel,
      seats_length p (fits p h),
      h.placed.few,
      h.placed.within.threads,
    )

-- ALL OF THEM

-- the lesser of two is the first if that is at most the second
pub min_first : (a b : ℕ) → a ≤ b → a ≡ min a b
min_first a b l = grind (arith, nat_tests, l)

-- none are taken if none may be
pub takings_zero : (c m : ℕ) (x : System) → after_takings 0 c m x ≡ x
unfolding after_takings
takings_zero c m x = refl

-- who is next, if there is one
pub next_some : (b : Bool) (u v : ℕ) (r : Option ℕ) → r ≡ Some v → r ≡ (if b then Some u else None)
    → (b ≡ true) × (v ≡ u)
next_some true u v r e f = (refl, let both : Some v ≡ Some u = sym e ∙ f in cc)
next_some false u v r e f = let both : Some v ≡ None = sym e ∙ f in cc

-- and whether somebody is parked, if there is none
pub next_none : (b : Bool) (u : ℕ) (r : Option ℕ) → r ≡ None → r ≡ (if b then Some u else None) → b ≡ false
next_none true u r e f = let both : None ≡ Some u = sym e ∙ f in cc
next_none false u r e f = refl

-- what the call leaves if nothing refuses it
pub requeued_is : (c m more n : ℕ) (ws : Words) (k : Kernel)
    → after_takings (more + 1) c m (record { words = ws; kernel = k }) ≡ after_requeue c m more (Ok n) ws k
unfolding after_requeue
requeued_is c m more n ws k =
    ap (λ (i : ℕ). after_takings i c m (record { words = ws; kernel = k })) (add-one more)
