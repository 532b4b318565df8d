-- Parts that fit together fit together after each access and each kernel call.
use Rattle.std.proofs.Common.{◌≡◌, ℕ, zero, suc, ◌+◌, ◌<◌, ◌≤◌, ◌==◌, [], ◌∷◌, arith, Bool, true, false, Result, Ok, Err, List, length, map, replicate, if◌then◌else◌, refl, sym, ap, ◌∙◌, subst, length-set}
use Rattle.pif_types.specs.Bounds.{Bounds}
use Rattle.pif_types.specs.declared.errors.Errno.{Errno}
use Rattle.pif_model.specs.declared.lines.Took.{Took}
use Rattle.pif_model.specs.declared.lines.Took.TheVariants.{Owns as TookOwns, Queued as TookQueued}
use Rattle.pif_model.specs.Word.{Word, Words, free_word, orphan_word, inherit_word, word_of, word_at, has_word, set_word, set_cond_word}
use Rattle.pif_model.specs.Word.{free_words as words_free}
use Rattle.pif_model.specs.PiKernel.{Kernel, System, IsKernel, has_seat, seat_at, has_ended, is_living, state_at, next_in, words_after_lock, kernel_after_lock, words_after_try_lock, words_after_unlock, kernel_after_hand_over, kernel_after_unlock, kernel_after_set_prio, kernel_after_stop, kernel_after_expire, kernel_after_wait_requeue, after_requeue, kernel_after_leaving, after_death, after_deaths, after_exit}
use Rattle.pif_model.specs.RobustList.{Robust, RobustRow, no_robust_row, with_robust, without_robust}
use Rattle.pif_model.specs.Table.{Table, has_thread, has_mutex, with_kernel, with_lists}
use Rattle.pif_model_lemmas.proofs.Numbers.{below}
use Rattle.pif_model_lemmas.proofs.kernel.Requeued.{takings-words, takings-healths, takings-conds}
use Rattle.pif_word.specs.WordMap.{words_of, free_words}
use Rattle.pif_model_lemmas.proofs.WordBits.{word_of-number}
use Rattle.pif_mutex.specs.Assembled.{IsAssembled}
use Rattle.pif_model_simulation.proofs.events.KernelLeaves.{IsAlike, alike, alike_twice, alike_keeps_threads, lock_alike, hand_over_alike, unlock_alike, set_prio_alike, stop_alike, expire_alike, wait_requeue_alike, requeue_alike, leaving_alike}

-- THE WORDS

-- as many words, health words and condition words as others
record IsAsLong (ws vs : Words) : Type 0 where
  pub mutexes : length vs.mutexes ≡ length ws.mutexes
  pub healths : length vs.healths ≡ length ws.healths
  pub conds : length vs.conds ≡ length ws.conds

-- as many as there are
as_long : (ws : Words) → IsAsLong ws ws
as_long ws = record { mutexes = refl; healths = refl; conds = refl }

-- as many as there are of others that are as many
as_long_twice : (ws vs us : Words) → IsAsLong ws vs → IsAsLong vs us → IsAsLong ws us
as_long_twice ws vs us h k =
    record { mutexes = k.mutexes ∙ h.mutexes; healths = k.healths ∙ h.healths; conds = k.conds ∙ h.conds }

-- a write of one word leaves as many
set_long : (ws : Words) (m : ℕ) (x : Word) → IsAsLong ws (set_word ws m x)
set_long ws m x = record { mutexes = length-set ws.mutexes m x; healths = refl; conds = refl }

-- and one of a condition word
set_cond_long : (ws : Words) (c n : ℕ) → IsAsLong ws (set_cond_word ws c n)
set_cond_long ws c n = record { mutexes = refl; healths = refl; conds = length-set ws.conds c n }

-- lock_pi leaves as many words
lock_long : (t m : ℕ) (r : Result Took Errno) (ws : Words) → IsAsLong ws (words_after_lock t m r ws)
unfolding words_after_lock
lock_long t m (Ok TookOwns) ws = set_long ws m _
lock_long t m (Ok TookQueued) ws = set_long ws m _
lock_long t m (Err e) ws = as_long ws

-- also trylock_pi
try_long : (t m : ℕ) (r : Result (record {}) Errno) (ws : Words) → IsAsLong ws (words_after_try_lock t m r ws)
unfolding words_after_try_lock
try_long t m (Ok x) ws = set_long ws m _
try_long t m (Err e) ws = as_long ws

-- unlock_pi
unlock_long : (m : ℕ) (r : Result (record {}) Errno) (k : Kernel) (ws : Words)
    → IsAsLong ws (words_after_unlock m r k ws)
unfolding words_after_unlock
unlock_long m (Ok x) k ws = set_long ws m _
unlock_long m (Err e) k ws = as_long ws

-- and cmp_requeue_pi
requeue_long : (c m more : ℕ) (r : Result ℕ Errno) (ws : Words) (k : Kernel)
    → IsAsLong ws (after_requeue c m more r ws k).words
unfolding after_requeue
requeue_long c m more (Ok n) ws k = record {
  mutexes = takings-words (suc more) c m (record { words = ws; kernel = k });
  healths = ap (λ (hs : List ℕ). length hs) (takings-healths (suc more) c m (record { words = ws; kernel = k }));
  conds = ap (λ (ns : List ℕ). length ns) (takings-conds (suc more) c m (record { words = ws; kernel = k }));
}
requeue_long c m more (Err e) ws k = as_long ws

-- the words that are all 0 are free
pub words_free_at_first : (l : Bounds) → words_of (free_words l) ≡ words_free l
words_free_at_first l =
    ap (λ (xs : List Word). record {
      mutexes = xs;
      healths = replicate (l.mutexes + 1) 0;
      conds = replicate (l.conds + 1) 0;
    })
    (each (l.mutexes + 1))
  where
    each : (n : ℕ) → map word_of (replicate n 0) ≡ replicate n free_word
    each zero = refl
    each (suc n) = λ i. word_of-number 0 (omega arith) i ∷ each n i

-- THE END OF A THREAD

-- a system with as many words and threads as another, under the same limits
record IsLike (x y : System) : Type 0 where
  pub words : IsAsLong x.words y.words
  pub kernel : IsAlike x.kernel y.kernel

-- a mutex that passes on leaves as many words and threads
death_like : (t m : ℕ) (x : System) → IsLike x (after_death t m x)
unfolding after_death
death_like t m x =
    by_word (if has_word x.words m then (word_at x.words m).number == t else false) (state_at x.kernel m == 0)
    (state_at x.kernel m == t)
  where
    by_word : (a b c : Bool)
        → IsLike x (if a then
        (if b then record x { words = set_word x.words m (orphan_word (word_at x.words m)) } else
        (if c then record x {
          words = set_word x.words m (inherit_word (next_in x.kernel m));
          kernel = kernel_after_hand_over (next_in x.kernel m) m x.kernel;
        } else x))
        else x)
    by_word true true c = record { words = set_long x.words m _; kernel = alike x.kernel }
    by_word true false true =
        record { words = set_long x.words m _; kernel = hand_over_alike (next_in x.kernel m) m x.kernel }
    by_word true false false = record { words = as_long x.words; kernel = alike x.kernel }
    by_word false b c = record { words = as_long x.words; kernel = alike x.kernel }

-- and so do any
deaths_like : (t : ℕ) (ms : List ℕ) (x : System) → IsLike x (after_deaths t ms x)
unfolding after_deaths
deaths_like t [] x = record { words = as_long x.words; kernel = alike x.kernel }
deaths_like t (m ∷ ms) x =
    let here = death_like t m x in
    let rest = deaths_like t ms (after_death t m x) in
    record {
      words = as_long_twice x.words (after_death t m x).words _ here.words rest.words;
      kernel = alike_twice x.kernel (after_death t m x).kernel _ here.kernel rest.kernel;
    }

-- the end of a thread leaves as many words and threads
exit_like : (t : ℕ) (ms : List ℕ) (ws : Words) (k : Kernel)
    → IsLike (record { words = ws; kernel = k }) (after_exit t ms ws k)
exit_like t ms ws k =
    let first : System = record { words = ws; kernel = kernel_after_leaving t k } in
    let rest = deaths_like t ms first in
    record {
      words = rest.words;
      kernel = alike_twice k (kernel_after_leaving t k) _ (leaving_alike t k) rest.kernel;
    }

-- and so who lived is known still
pub exit_keeps_thread : (t : ℕ) (ms : List ℕ) (ws : Words) (k : Kernel) → is_living k t ≡ true
    → has_seat (after_exit t ms ws k).kernel t ≡ true
exit_keeps_thread t ms ws k h =
    alike_keeps_threads k (after_exit t ms ws k).kernel t (exit_like t ms ws k).kernel (known (has_seat k t) h)
  where
    known : (b : Bool) → (if b then (if has_ended (seat_at k t).status then false else true) else false) ≡ true
        → b ≡ true
    known true e = refl
    known false e = e

-- PARTS THAT FIT TOGETHER

module _ {s : Table} (h : IsAssembled s) where
  -- a mutex that was added has a word
  pub added_has_word : (m : ℕ) → has_mutex s m ≡ true → m < length s.words.mutexes
  added_has_word m known =
      let low = below m (length s.mutexes) known in omega (arith, low, h.few_mutexes, h.words)

  -- the number of a thread that was added is at most 1,024
  pub added_is_few : (t : ℕ) → has_thread s t ≡ true → t ≤ 1024
  added_is_few t known =
      let low = below t (length s.kernel.seats) known in
      omega (arith, low, h.kernel.shape.few, ap (λ (l : Bounds). l.threads) h.limits, h.within.threads)

  -- with other words, as many
  with_words_assembled : (ws : Words) → IsAsLong s.words ws → IsAssembled (record s { words = ws })
  with_words_assembled ws long = record {
    within = h.within;
    limits = h.limits;
    kernel = h.kernel;
    lines = h.lines;
    timers = h.timers;
    some_mutex = h.some_mutex;
    few_mutexes = h.few_mutexes;
    words = long.mutexes ∙ h.words;
    healths = long.healths ∙ h.healths;
    some_cond = h.some_cond;
    few_conds = h.few_conds;
    cond_words = long.conds ∙ h.cond_words;
    lists = h.lists;
    listed = h.listed;
  }

  -- with other words, and another kernel, alike
  with_kernel_assembled : (ws : Words) (k : Kernel) → IsAsLong s.words ws → IsAlike s.kernel k → IsKernel k
      → IsAssembled (with_kernel ws k s)
  with_kernel_assembled ws k long same kept = record {
    within = h.within;
    limits = same.limits ∙ h.limits;
    kernel = kept;
    lines = h.lines ∙ sym same.seats;
    timers = h.timers;
    some_mutex = h.some_mutex;
    few_mutexes = h.few_mutexes;
    words = long.mutexes ∙ h.words;
    healths = long.healths ∙ h.healths;
    some_cond = h.some_cond;
    few_conds = h.few_conds;
    cond_words = long.conds ∙ h.cond_words;
    lists = h.lists;
    listed = h.listed;
  }

  -- with the robust list of a thread as another
  pub with_robust_assembled : (t : ℕ) (x : RobustRow) (v : Robust) → v ≡ with_robust t x s.lists
      → IsAssembled (with_lists v s)
  with_robust_assembled t x v is = record {
    within = h.within;
    limits = h.limits;
    kernel = h.kernel;
    lines = h.lines;
    timers = h.timers;
    some_mutex = h.some_mutex;
    few_mutexes = h.few_mutexes;
    words = h.words;
    healths = h.healths;
    some_cond = h.some_cond;
    few_conds = h.few_conds;
    cond_words = h.cond_words;
    lists = ap (λ (u : Robust). length u.threads) is ∙ length-set s.lists.threads t x ∙ h.lists;
    listed = ap (λ (u : Robust). u.mutexes) is ∙ h.listed;
  }

  -- with other words, as many, or the same
  either_assembled : (b : Bool) (us ws : Words) → IsAsLong s.words us → ws ≡ (if b then us else s.words)
      → IsAssembled (record s { words = ws })
  either_assembled true us ws long e = with_words_assembled ws (subst (IsAsLong s.words) (sym e) long)
  either_assembled false us ws long e =
      with_words_assembled ws (subst (IsAsLong s.words) (sym e) (as_long s.words))

  -- after an exchange of a word
  pub exchanged_assembled : (b : Bool) (m : ℕ) (x : Word) (ws : Words)
      → ws ≡ (if b then set_word s.words m x else s.words) → IsAssembled (record s { words = ws })
  exchanged_assembled b m x ws = either_assembled b (set_word s.words m x) ws (set_long s.words m x)

  -- after an exchange of a condition word
  pub uses_assembled : (b : Bool) (c n : ℕ) (ws : Words)
      → ws ≡ (if b then set_cond_word s.words c n else s.words) → IsAssembled (record s { words = ws })
  uses_assembled b c n ws = either_assembled b (set_cond_word s.words c n) ws (set_cond_long s.words c n)

  -- after lock_pi
  pub lock_assembled : (t m : ℕ) (r : Result Took Errno) (ws : Words) (k : Kernel) → ws ≡ words_after_lock t m r s.words
      → k ≡ kernel_after_lock t m r s.words s.kernel
      → IsKernel k → IsAssembled (with_kernel ws k s)
  lock_assembled t m r ws k words after =
      with_kernel_assembled ws k (subst (IsAsLong s.words) (sym words) (lock_long t m r s.words))
      (subst (IsAlike s.kernel) (sym after) (lock_alike t m r s.words s.kernel))

  -- after trylock_pi
  pub try_lock_assembled : (t m : ℕ) (r : Result (record {}) Errno) (ws : Words)
      → ws ≡ words_after_try_lock t m r s.words → IsAssembled (record s { words = ws })
  try_lock_assembled t m r ws words =
      with_words_assembled ws (subst (IsAsLong s.words) (sym words) (try_long t m r s.words))

  -- after unlock_pi
  pub unlock_assembled : (m : ℕ) (r : Result (record {}) Errno) (ws : Words) (k : Kernel)
      → ws ≡ words_after_unlock m r s.kernel s.words → k ≡ kernel_after_unlock m r s.kernel
      → IsKernel k → IsAssembled (with_kernel ws k s)
  unlock_assembled m r ws k words after =
      with_kernel_assembled ws k (subst (IsAsLong s.words) (sym words) (unlock_long m r s.kernel s.words))
      (subst (IsAlike s.kernel) (sym after) (unlock_alike m r s.kernel))

  -- after set_prio
  pub set_prio_assembled : (t p : ℕ) (r : Result (record {}) Errno) (k : Kernel)
      → k ≡ kernel_after_set_prio t p r s.kernel → IsKernel k → IsAssembled (record s { kernel = k })
  set_prio_assembled t p r k after =
      with_kernel_assembled s.words k (as_long s.words)
      (subst (IsAlike s.kernel) (sym after) (set_prio_alike t p r s.kernel))

  -- after stop
  pub stop_assembled : (t : ℕ) (k : Kernel) → k ≡ kernel_after_stop t s.kernel → IsKernel k
      → IsAssembled (record s { kernel = k })
  stop_assembled t k after =
      with_kernel_assembled s.words k (as_long s.words)
      (subst (IsAlike s.kernel) (sym after) (stop_alike t s.kernel))

  -- after expire
  pub expire_assembled : (t : ℕ) (k : Kernel) → k ≡ kernel_after_expire t s.kernel → IsKernel k
      → IsAssembled (record s { kernel = k })
  expire_assembled t k after =
      with_kernel_assembled s.words k (as_long s.words)
      (subst (IsAlike s.kernel) (sym after) (expire_alike t s.kernel))

  -- after wait_requeue_pi
  pub wait_requeue_assembled : (t c m : ℕ) (r : Result (record {}) Errno) (k : Kernel)
      → k ≡ kernel_after_wait_requeue t c m r s.kernel → IsKernel k → IsAssembled (record s { kernel = k })
  wait_requeue_assembled t c m r k after =
      with_kernel_assembled s.words k (as_long s.words)
      (subst (IsAlike s.kernel) (sym after) (wait_requeue_alike t c m r s.kernel))

  -- after cmp_requeue_pi
  pub requeue_assembled : (c m more : ℕ) (r : Result ℕ Errno) (ws : Words) (k : Kernel)
      → ws ≡ (after_requeue c m more r s.words s.kernel).words
      → k ≡ (after_requeue c m more r s.words s.kernel).kernel
      → IsKernel k → IsAssembled (with_kernel ws k s)
  requeue_assembled c m more r ws k words after =
      with_kernel_assembled ws k (subst (IsAsLong s.words) (sym words) (requeue_long c m more r s.words s.kernel))
      (subst (IsAlike s.kernel) (sym after) (requeue_alike c m more r s.words s.kernel))

-- and after the end of a thread
pub exit_assembled : {s : Table} → IsAssembled s → (t : ℕ) (ms : List ℕ) (ws : Words) (k : Kernel) (v : Robust)
    → ws ≡ (after_exit t ms s.words s.kernel).words → k ≡ (after_exit t ms s.words s.kernel).kernel
    → v ≡ without_robust t s.lists
    → IsKernel k → IsAssembled (with_lists v (with_kernel ws k s))
exit_assembled {s} h t ms ws k v words after forgotten kept =
    let like = exit_like t ms s.words s.kernel in
    let long = subst (IsAsLong s.words) (sym words) like.words in
    let same = subst (IsAlike s.kernel) (sym after) like.kernel in
    with_robust_assembled (with_kernel_assembled h ws k long same kept) t no_robust_row v forgotten
