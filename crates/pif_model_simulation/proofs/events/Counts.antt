-- Who comes to own a mutex holds it once: what is written of words and counts, and what the kernel's calls write.
use Rattle.std.proofs.Common.{◌≡◌, ◌≢◌, ◌⊎◌, inl, inr, ℕ, suc, Bool, true, false, List, get_or, Result, Ok, Err, refl, sym, ap, ◌∙◌, if◌then◌else◌, eqb-true, ◌==◌}
use Rattle.pif_types.specs.declared.errors.Errno.{Errno}
use Rattle.pif_types.specs.declared.errors.Errno.TheVariants.{NoSuchThread, Again, Fault, Invalid, Deadlock}
use Rattle.pif_types.specs.declared.requests.Kind.TheVariants.{Normal}
use Rattle.pif_model.specs.declared.lines.Took.{Took}
use Rattle.pif_model.specs.declared.lines.Took.TheVariants.{Owns as TookOwns, Queued as TookQueued}
use Rattle.pif_model.specs.Graph.{reaches_within}
use Rattle.pif_model.specs.Word.{Word, Words, free_word, taken_word, mark_word, word_at, has_word, set_word}
use Rattle.pif_model.specs.PiKernel.{Kernel, System, is_living, state_at, waits_for, top_parked, wait_answer, lock_answer, words_after_lock, try_lock_answer, words_after_try_lock, words_after_unlock, after_taking, after_requeue}
use Rattle.pif_model.specs.Table.{Table, LibraryMutex, new_mutex, library_at}
use Rattle.pif_model_lemmas.proofs.kernel.Taken.{taking-cases, takings-keep}
use Rattle.pif_model_simulation.proofs.events.ListChanges.{changed_at}

-- with these words each mutex has the owner that it has in s, or is held once there
abbrev pub WordsGoOnce : Table → Words → Type 0
WordsGoOnce s ws = (m : ℕ) → ((word_at ws m).number ≡ (word_at s.words m).number) ⊎ ((library_at s m).count ≡ 1)

-- from s to v each mutex keeps its owner, or is held once
abbrev pub GoesOnce : Table → Table → Type 0
GoesOnce s v = (m : ℕ) → ((word_at v.words m).number ≡ (word_at s.words m).number) ⊎ ((library_at v m).count ≡ 1)

-- TABLES

-- a table with such words, and with the mutexes of s
pub words_go : (s v : Table) (ws : Words) → WordsGoOnce s ws → v.words ≡ ws → v.mutexes ≡ s.mutexes → GoesOnce s v
words_go s v ws h e f m = by_owner (h m)
  where
    by_owner : ((word_at ws m).number ≡ (word_at s.words m).number) ⊎ ((library_at s m).count ≡ 1)
        → ((word_at v.words m).number ≡ (word_at s.words m).number) ⊎ ((library_at v m).count ≡ 1)
    by_owner (inl same) = inl (ap (λ (x : Words). (word_at x m).number) e ∙ same)
    by_owner (inr once) = inr (ap (λ (x : List LibraryMutex). (get_or x m (new_mutex Normal false)).count) f ∙ once)

-- WORDS

-- one more word changes
word_goes_on : (m : ℕ) (s : Table) (ws : Words) (x : Word)
    → (x.number ≡ (word_at s.words m).number) ⊎ ((library_at s m).count ≡ 1) → WordsGoOnce s ws
    → WordsGoOnce s (set_word ws m x)
word_goes_on m s ws x = changed_at free_word
    (λ k y. (y.number ≡ (word_at s.words k).number) ⊎ ((library_at s k).count ≡ 1)) ws.mutexes m x

-- one word changes
pub word_goes : (m : ℕ) (s : Table) (x : Word)
    → (x.number ≡ (word_at s.words m).number) ⊎ ((library_at s m).count ≡ 1) → WordsGoOnce s (set_word s.words m x)
word_goes m s x here = word_goes_on m s s.words x here (λ k. inl refl)

-- WHAT KERNEL CALLS ANSWER

-- an answer to who may have to wait isn't that the mutex is free
wait_queues : (living fits closes : Bool)
    → (if living then (if fits then (if closes then Err Deadlock else Ok TookQueued) else Err Invalid) else Err
    NoSuchThread) ≢ Ok TookOwns
wait_queues true true true e = cc
wait_queues true true false e = cc
wait_queues true false closes e = cc
wait_queues false fits closes e = cc

-- lock_pi makes an owner only of a mutex that has none
owns_free : (named own none empty : Bool) (x : Result Took Errno) → x ≢ Ok TookOwns
    → (if named then (if own then Err Deadlock else (if none then (if empty then Ok TookOwns else Err Invalid) else x))
    else Err Fault) ≡ Ok TookOwns
    → none ≡ true
owns_free named own true empty x n e = refl
owns_free false own false empty x n e = cc
owns_free true true false empty x n e = cc
owns_free true false false empty x n e = absurd (n e)

-- the same of its words
pub lock_owns_free : (t m : ℕ) (ws : Words) (k : Kernel) → lock_answer t m ws k ≡ Ok TookOwns
    → (word_at ws m).number ≡ 0
unfolding lock_answer
lock_owns_free t m ws k e =
    let n : ℕ = (word_at ws m).number in
    eqb-true n 0
    (owns_free (has_word ws m) (n == t) (n == 0) (state_at k m == 0) (wait_answer t n (state_at k m) k)
    (wait_queues (is_living k n) (if state_at k m == 0 then true else state_at k m == n)
    (reaches_within _ (waits_for k) n t)) e)

-- trylock_pi takes only a mutex that has no owner
takes_free : (named own none empty : Bool) (x : record {})
    → (if named then (if own then Err Deadlock else
    (if none then (if empty then Ok (record {}) else Err Invalid) else Err Again)) else Err Fault) ≡ Ok x
    → none ≡ true
takes_free named own true empty x e = refl
takes_free false own false empty x e = cc
takes_free true true false empty x e = cc
takes_free true false false empty x e = cc

-- the same of its words
pub try_takes_free : (t m : ℕ) (ws : Words) (k : Kernel) (x : record {}) → try_lock_answer t m ws k ≡ Ok x
    → (word_at ws m).number ≡ 0
unfolding try_lock_answer
try_takes_free t m ws k x e =
    let n : ℕ = (word_at ws m).number in
    eqb-true n 0 (takes_free (has_word ws m) (n == t) (n == 0) (state_at k m == 0) x e)

-- KERNEL CALLS

-- lock_pi of a mutex that is held once if nobody owns it
pub lock_goes : (t m : ℕ) (r : Result Took Errno) (s : Table) → (r ≡ Ok TookOwns → (library_at s m).count ≡ 1)
    → WordsGoOnce s (words_after_lock t m r s.words)
unfolding words_after_lock
lock_goes t m (Ok TookOwns) s h = word_goes m s _ (inr (h refl))
lock_goes t m (Ok TookQueued) s h = word_goes m s _ (inl refl)
lock_goes t m (Err e) s h = λ k. inl refl

-- trylock_pi of such a mutex
pub try_goes : (t m : ℕ) (r : Result (record {}) Errno) (s : Table)
    → ((x : record {}) → r ≡ Ok x → (library_at s m).count ≡ 1) → WordsGoOnce s (words_after_try_lock t m r s.words)
unfolding words_after_try_lock
try_goes t m (Ok x) s h = word_goes m s _ (inr (h x refl))
try_goes t m (Err e) s h = λ k. inl refl

-- unlock_pi of a mutex that is held once
pub unlock_goes : (m : ℕ) (r : Result (record {}) Errno) (s : Table) → (library_at s m).count ≡ 1
    → WordsGoOnce s (words_after_unlock m r s.kernel s.words)
unfolding words_after_unlock
unlock_goes m (Ok x) s h = word_goes m s _ (inr h)
unlock_goes m (Err e) s h = λ k. inl refl

-- CONDITION VARIABLES

-- who is taken from a variable gets a mutex that is held once if nobody owns it, and no other
module _ (s : Table) (m : ℕ) (free : (word_at s.words m).number ≡ 0 → (library_at s m).count ≡ 1) where
  -- one thread
  taking_goes : (u : ℕ) (x : System) → WordsGoOnce s x.words → WordsGoOnce s (after_taking u m x).words
  taking_goes u x h = taking-cases u m x (λ y. WordsGoOnce s y.words)
      (λ none. word_goes_on m s x.words (taken_word u (word_at x.words m)) (inr (owned none (h m))) h)
      (λ some queues. word_goes_on m s x.words (mark_word (word_at x.words m)) (h m) h) (λ some again. h)
    where
      owned : (word_at x.words m).number ≡ 0
          → ((word_at x.words m).number ≡ (word_at s.words m).number) ⊎ ((library_at s m).count ≡ 1)
          → (library_at s m).count ≡ 1
      owned none (inl same) = free (sym same ∙ none)
      owned none (inr once) = once

  -- and all whom cmp_requeue_pi takes
  pub requeue_goes : (c more : ℕ) (r : Result ℕ Errno) → WordsGoOnce s (after_requeue c m more r s.words s.kernel).words
  unfolding after_requeue
  requeue_goes c more (Ok n) = takings-keep (λ x. WordsGoOnce s x.words) c m
      (λ x some. taking_goes (top_parked x.kernel c) x) (suc more) (record { words = s.words; kernel = s.kernel })
      (λ k. inl refl)
  requeue_goes c more (Err e) = λ k. inl refl
