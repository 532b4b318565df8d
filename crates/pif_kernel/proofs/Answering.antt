-- What the calls answer, case by case.
use Rattle.std.proofs.Common.{◌≡◌, ◌≢◌, ◌↔◌, ℕ, zero, suc, ◌≤◌, ◌==◌, Bool, true, false, IsTrue, if◌then◌else◌, List, [], ◌∷◌, length, map, set, Result, Ok, Err, Option, Some, None, IsSome, IfSome, refl, sym, ap, subst, ◌∙◌, arith}
use Rattle.std.proofs.Math.Path.{fun_ext}
use Rattle.std.proofs.lemmas.Bool.{true≢false, false≢true}
use Rattle.std.proofs.lemmas.Bool.Decides.{nat_tests, same_from_decides}
use Rattle.std.proofs.lemmas.List.{length-map}
use Rattle.pif_types.specs.declared.errors.Errno.{Errno}
use Rattle.pif_types.specs.declared.errors.Errno.TheVariants.{NotPermitted, NoSuchThread, Again, Fault, Invalid, Deadlock}
use Rattle.pif_model.specs.declared.lines.Took.TheVariants.{Owns as TookOwns, Queued as TookQueued}
use Rattle.pif_model.specs.Graph.{is_priority, reaches_within, Reaches}
use Rattle.pif_model.specs.Word.{Word, Words, word_of, word_at, has_word, set_word}
use Rattle.pif_model.specs.PiKernel.{Kernel, state_at, is_living, waits_for, wait_answer, lock_answer, try_lock_answer, unlock_answer, set_prio_answer}
use Rattle.pif_word.specs.declared.cells.Cell.TheVariants.{Mutex}
use Rattle.pif_word.specs.WordMap.{WordMap, HasCell, bits_at, with_bits, words_of}
use Rattle.pif_kernel_model.specs.Owners.{WaitsFor}
use Rattle.pif_model_lemmas.proofs.kernel.Facts.{living-added}
use Rattle.pif_model_lemmas.proofs.kernel.Settled.{priority-from_range}
use Rattle.pif_model_lemmas.proofs.Places.{mapped_at}
use Rattle.pif_model_lemmas.proofs.Numbers.{from_within, within}
use Rattle.pif_model_lemmas.proofs.Following.{Follows, reaches-from_within, within-from_reaches}
use Rattle.pif_kernel_model.specs.Inside.{Inside, IsSoundInside, kernel_of}
use Rattle.pif_kernel_model.proofs.Seats.{added_seen, seats_length, owners_waits, waits_below}
use Rattle.pif_kernel_model.proofs.Standing.{fits}

-- WORDS

pub word_seen : (s : WordMap) (m bits : ℕ) → bits ≡ bits_at s (Mutex m) → word_at (words_of s) m ≡ word_of bits
unfolding word_of
word_seen s m bits e = mapped_at word_of s.mutexes m 0 ∙ ap word_of (sym e)

pub some_word : (s : WordMap) (m : ℕ) → HasCell s (Mutex m) → has_word (words_of s) m ≡ true
some_word s m l =
    from_within m (length (words_of s).mutexes) (λ z. absurd (omega (arith, l.0)))
    (omega (arith, l.1, length-map s.mutexes word_of))

pub cell_of_word : (s : WordMap) (m : ℕ) → has_word (words_of s) m ≡ true → HasCell s (Mutex m)
cell_of_word s m e =
    let w = within m (length (words_of s).mutexes) e in
    (omega (arith, w.0), omega (arith, w.1, length-map s.mutexes word_of))

pub no_word : (s : WordMap) (m : ℕ) (r : Bool) → (IsTrue r ↔ HasCell s (Mutex m)) → r ≡ false
    → has_word (words_of s) m ≡ false
no_word s m r h e = by_test (has_word (words_of s) m) refl
  where
    by_test : (b : Bool) → has_word (words_of s) m ≡ b → has_word (words_of s) m ≡ false
    by_test false x = x
    by_test true x = absurd (true≢false (sym (h.1 (cell_of_word s m x)) ∙ e))

pub number_seen : (s : WordMap) (m bits n : ℕ) → bits ≡ bits_at s (Mutex m) → n ≡ (word_of bits).number
    → (word_at (words_of s) m).number ≡ n
number_seen s m bits n e is = ap (λ (w : Word). w.number) (word_seen s m bits e) ∙ sym is

-- what `new` of a number from 1 answers
pub none_zero : (r : Option ℕ) (n : ℕ) → r ≡ None → (IsSome r ↔ (1 ≤ n)) → n ≡ 0
none_zero None zero e valid = refl
none_zero None (suc n) e valid = absurd (false≢true (valid.1 (omega arith)))
none_zero (Some x) n e valid = cc

pub some_value : (r : Option ℕ) (n x : ℕ) → r ≡ Some x → (IsSome r ↔ (1 ≤ n)) → IfSome r (λ t. t ≡ n)
    → (x ≡ n) × (1 ≤ n)
some_value None n x e valid value = cc
some_value (Some y) n x e valid value = let same : y ≡ x = cc in (sym same ∙ value, valid.0 refl)

pub none_out : {A : Type 0} (r : Option ℕ) → r ≡ None → (IsSome r ↔ A) → A → ⊥
none_out None e valid a = false≢true (valid.1 a)
none_out (Some x) e valid a = cc

pub some_in : {A : Type 0} (r : Option ℕ) (x : ℕ) → r ≡ Some x → (IsSome r ↔ A) → A
some_in None x e valid = cc
some_in (Some y) x e valid = valid.0 refl

map_set : (ws : List ℕ) (m bits : ℕ) → map word_of (set ws m bits) ≡ set (map word_of ws) m (word_of bits)
map_set [] m bits = refl
map_set (w ∷ ws) zero bits = refl
map_set (w ∷ ws) (suc m) bits = ap (λ (l : List Word). word_of w ∷ l) (map_set ws m bits)

-- another word
pub words_stored : (s s' : WordMap) (m bits : ℕ) → s' ≡ with_bits (Mutex m) bits s
    → words_of s' ≡ set_word (words_of s) m (word_of bits)
words_stored s s' m bits e =
    ap words_of e
    ∙ ap (λ (l : List Word). record { mutexes = l; healths = s.healths; conds = s.conds }) (map_set s.mutexes m bits)

-- CYCLES

-- whether a wait would close a cycle, by the owner states
pub closes_seen : (p : Inside) → IsSoundInside p → (t owner : ℕ) (r : Bool) → is_living (kernel_of p) owner ≡ true
    → (IsTrue r ↔ Reaches (WaitsFor p.owners) owner t)
    → reaches_within (length (kernel_of p).seats) (waits_for (kernel_of p)) owner t ≡ r
closes_seen p h t owner r l closes =
    same_from_decides {P = Reaches (Follows (waits_for (kernel_of p))) owner t}
    (reaches_within (length (kernel_of p).seats) (waits_for (kernel_of p)) owner t) r (
      (λ e. reaches-from_within (length (kernel_of p).seats) (waits_for (kernel_of p)) owner t e),
      (λ c. within-from_reaches (length (kernel_of p).seats) (waits_for (kernel_of p)) owner t
          (omega (
            arith,
            (added_seen p (fits p h) owner (living-added (kernel_of p) owner l)).1,
            seats_length p (fits p h),
          ))
          (λ x some. waits_below p (fits p h) x) c),
    )
    (subst (λ (w : ℕ → ℕ). IsTrue r ↔ Reaches (Follows w) owner t) (fun_ext (owners_waits p (fits p h))) closes)

-- LOCK_PI, TRYLOCK_PI AND UNLOCK_PI

module _ (t m : ℕ) (ws : Words) (k : Kernel) where
  pub lock_fault : has_word ws m ≡ false → Err Fault ≡ lock_answer t m ws k
  unfolding lock_answer
  lock_fault e = rw e refl

  pub lock_own : has_word ws m ≡ true → (word_at ws m).number ≡ t → Err Deadlock ≡ lock_answer t m ws k
  unfolding lock_answer
  lock_own e own = let same : ((word_at ws m).number == t) ≡ true = grind (arith, nat_tests) in rw (e, same) refl

  pub lock_free : has_word ws m ≡ true → (word_at ws m).number ≢ t → (word_at ws m).number ≡ 0 → state_at k m ≡ 0
      → Ok TookOwns ≡ lock_answer t m ws k
  unfolding lock_answer
  lock_free e other free none =
      let a : ((word_at ws m).number == t) ≡ false = grind (arith, nat_tests) in
      let b : ((word_at ws m).number == 0) ≡ true = grind (arith, nat_tests) in
      let d : (state_at k m == 0) ≡ true = grind (arith, nat_tests) in rw (e, a, b, d) refl

  pub lock_disagrees : has_word ws m ≡ true → (word_at ws m).number ≢ t → (word_at ws m).number ≡ 0 → state_at k m ≢ 0
      → Err Invalid ≡ lock_answer t m ws k
  unfolding lock_answer
  lock_disagrees e other free some =
      let a : ((word_at ws m).number == t) ≡ false = grind (arith, nat_tests) in
      let b : ((word_at ws m).number == 0) ≡ true = grind (arith, nat_tests) in
      let d : (state_at k m == 0) ≡ false = grind (arith, nat_tests) in rw (e, a, b, d) refl

  pub lock_waits : has_word ws m ≡ true → (word_at ws m).number ≢ t → (word_at ws m).number ≢ 0
      → wait_answer t (word_at ws m).number (state_at k m) k ≡ lock_answer t m ws k
  unfolding lock_answer
  lock_waits e other some =
      let a : ((word_at ws m).number == t) ≡ false = grind (arith, nat_tests) in
      let b : ((word_at ws m).number == 0) ≡ false = grind (arith, nat_tests) in rw (e, a, b) refl

  pub try_fault : has_word ws m ≡ false → Err Fault ≡ try_lock_answer t m ws k
  unfolding try_lock_answer
  try_fault e = rw e refl

  pub try_own : has_word ws m ≡ true → (word_at ws m).number ≡ t → Err Deadlock ≡ try_lock_answer t m ws k
  unfolding try_lock_answer
  try_own e own = let a : ((word_at ws m).number == t) ≡ true = grind (arith, nat_tests) in rw (e, a) refl

  pub try_held : has_word ws m ≡ true → (word_at ws m).number ≢ t → (word_at ws m).number ≢ 0
      → Err Again ≡ try_lock_answer t m ws k
  unfolding try_lock_answer
  try_held e other some =
      let a : ((word_at ws m).number == t) ≡ false = grind (arith, nat_tests) in
      let b : ((word_at ws m).number == 0) ≡ false = grind (arith, nat_tests) in rw (e, a, b) refl

  pub try_free : has_word ws m ≡ true → (word_at ws m).number ≢ t → (word_at ws m).number ≡ 0 → state_at k m ≡ 0
      → Ok (record {}) ≡ try_lock_answer t m ws k
  unfolding try_lock_answer
  try_free e other free none =
      let a : ((word_at ws m).number == t) ≡ false = grind (arith, nat_tests) in
      let b : ((word_at ws m).number == 0) ≡ true = grind (arith, nat_tests) in
      let d : (state_at k m == 0) ≡ true = grind (arith, nat_tests) in rw (e, a, b, d) refl

  pub try_disagrees : has_word ws m ≡ true → (word_at ws m).number ≢ t → (word_at ws m).number ≡ 0 → state_at k m ≢ 0
      → Err Invalid ≡ try_lock_answer t m ws k
  unfolding try_lock_answer
  try_disagrees e other free some =
      let a : ((word_at ws m).number == t) ≡ false = grind (arith, nat_tests) in
      let b : ((word_at ws m).number == 0) ≡ true = grind (arith, nat_tests) in
      let d : (state_at k m == 0) ≡ false = grind (arith, nat_tests) in rw (e, a, b, d) refl

  pub unlock_fault : has_word ws m ≡ false → Err Fault ≡ unlock_answer t m ws k
  unfolding unlock_answer
  unlock_fault e = rw e refl

  pub unlock_other : has_word ws m ≡ true → (word_at ws m).number ≢ t → Err NotPermitted ≡ unlock_answer t m ws k
  unfolding unlock_answer
  unlock_other e other = let a : ((word_at ws m).number == t) ≡ false = grind (arith, nat_tests) in rw (e, a) refl

  pub unlock_done : has_word ws m ≡ true → (word_at ws m).number ≡ t
      → (if state_at k m == 0 then true else state_at k m == t) ≡ true → Ok (record {}) ≡ unlock_answer t m ws k
  unfolding unlock_answer
  unlock_done e own fits =
      let a : ((word_at ws m).number == t) ≡ true = grind (arith, nat_tests) in rw (e, a, fits) refl

  pub unlock_disagrees : has_word ws m ≡ true → (word_at ws m).number ≡ t
      → (if state_at k m == 0 then true else state_at k m == t) ≡ false → Err Invalid ≡ unlock_answer t m ws k
  unfolding unlock_answer
  unlock_disagrees e own fits =
      let a : ((word_at ws m).number == t) ≡ true = grind (arith, nat_tests) in rw (e, a, fits) refl

module _ (t n s : ℕ) (k : Kernel) where
  pub wait_closes : is_living k n ≡ true → (if s == 0 then true else s == n) ≡ true
      → reaches_within (length k.seats) (waits_for k) n t ≡ true → Err Deadlock ≡ wait_answer t n s k
  wait_closes e fits r = rw (e, fits, r) refl

  pub wait_queues : is_living k n ≡ true → (if s == 0 then true else s == n) ≡ true
      → reaches_within (length k.seats) (waits_for k) n t ≡ false → Ok TookQueued ≡ wait_answer t n s k
  wait_queues e fits r = rw (e, fits, r) refl

-- SET_PRIO

abbrev Done : Result (record {}) Errno
Done = Ok (record {})

module _ (t p : ℕ) (k : Kernel) where
  pub set_prio_invalid : (1 ≤ p × p ≤ 99 → ⊥) → Err Invalid ≡ set_prio_answer t p k
  unfolding set_prio_answer
  set_prio_invalid out = by_test (is_priority p) refl
    where
      by_test : (b : Bool) → is_priority p ≡ b
          → Err Invalid ≡ (if is_priority p then (if is_living k t then Done else Err NoSuchThread) else Err Invalid)
      by_test false e = rw e refl
      by_test true e = let w = within p 100 e in absurd (out (omega (arith, w.0), omega (arith, w.1)))

  pub set_prio_dead : 1 ≤ p → p ≤ 99 → is_living k t ≡ false → Err NoSuchThread ≡ set_prio_answer t p k
  unfolding set_prio_answer
  set_prio_dead some few e = rw (priority-from_range p some few, e) refl

  pub set_prio_done : 1 ≤ p → p ≤ 99 → is_living k t ≡ true → Ok (record {}) ≡ set_prio_answer t p k
  unfolding set_prio_answer
  set_prio_done some few e = rw (priority-from_range p some few, e) refl

  chosen : (a b : Bool) → Done ≡ (if a then (if b then Done else Err NoSuchThread) else Err Invalid) → b ≡ true
  chosen true true e = refl
  chosen true false e = cc
  chosen false b e = cc

  -- whose priority may be set lives
  pub set_prio_lives : Done ≡ set_prio_answer t p k → is_living k t ≡ true
  unfolding set_prio_answer
  set_prio_lives e = chosen (is_priority p) (is_living k t) e
