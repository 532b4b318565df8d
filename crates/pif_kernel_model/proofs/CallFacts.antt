-- What the calls leave of words and of the kernel, case by case.
use Rattle.std.proofs.Common.{◌≡◌, ◌≢◌, ◌⊎◌, ℕ, ◌<◌, ◌==◌, true, false, if◌then◌else◌, List, Option, Some, None, is_some, unwrap_or, Result, Ok, refl, sym, ap, ◌∙◌, arith}
use Rattle.std.proofs.lemmas.Bool.{true≢false, false≢true}
use Rattle.std.proofs.lemmas.Bool.Decides.{nat_tests}
use Rattle.pif_types.specs.declared.errors.Errno.{Errno}
use Rattle.pif_model.specs.declared.lines.Took.TheVariants.{Owns as TookOwns, Queued as TookQueued}
use Rattle.pif_model.specs.Graph.{next_waiter}
use Rattle.pif_model.specs.Word.{Words, word_of, word_at, set_word, free_word, taken_word, mark_word, hand_word}
use Rattle.pif_model.specs.PiKernel.{Kernel, has_seat, state_at as kernel_state_at, effective_in, next_in, words_after_lock, kernel_after_lock, kernel_after_queueing, words_after_try_lock, words_after_unlock, kernel_after_unlock, kernel_after_hand_over}
use Rattle.pif_kernel_model.specs.Owners.{owner_at}
use Rattle.pif_model_lemmas.proofs.Waiting.{names, named-from_pair, next-is_waiter}
use Rattle.pif_kernel_model.specs.Inside.{Inside, IsSoundInside, kernel_of, state_key_at, owner_under}
use Rattle.pif_kernel_model.proofs.Seats.{added_seen, states_seen, waiters_seen}
use Rattle.pif_kernel_model.proofs.Standing.{fits}
use Rattle.pif_kernel_model.proofs.Waiters.{has_waiter-key, named_known}

abbrev Done : Result (record {}) Errno
Done = Ok (record {})

-- THE MUTEX IS TAKEN, OR THE THREAD IS QUEUED ON IT

pub words_owns : (t m : ℕ) (ws : Words)
    → words_after_lock t m (Ok TookOwns) ws ≡ set_word ws m (taken_word t (word_at ws m))
unfolding words_after_lock
words_owns t m ws = refl

pub words_queued : (t m : ℕ) (ws : Words)
    → words_after_lock t m (Ok TookQueued) ws ≡ set_word ws m (mark_word (word_at ws m))
unfolding words_after_lock
words_queued t m ws = refl

pub kernel_queued : (t m : ℕ) (ws : Words) (k : Kernel)
    → kernel_after_lock t m (Ok TookQueued) ws k ≡ kernel_after_queueing t m (word_at ws m).number k
unfolding kernel_after_lock
kernel_queued t m ws k = refl

pub words_tried : (t m : ℕ) (ws : Words)
    → words_after_try_lock t m Done ws ≡ set_word ws m (taken_word t (word_at ws m))
unfolding words_after_try_lock
words_tried t m ws = refl

-- a thread that was added has a number that a word can say
pub number_below : (p : Inside) → IsSoundInside p → (t : ℕ) → has_seat (kernel_of p) t ≡ true → t < 1073741824
number_below p h t known = omega (arith, (added_seen p (fits p h) t known).1, h.placed.few, h.placed.within.threads)

-- THE MUTEX IS FREED OR HANDED OVER

-- the owner state of a mutex, by its key
pub some_state : (p : Inside) → IsSoundInside p → (m key : ℕ) → state_key_at p m ≡ Some key → kernel_state_at (kernel_of p) m ≢ 0
some_state p h m key at z = h.placed.owned m key at (sym (states_seen p m) ∙ z)

pub no_state : (p : Inside) (m : ℕ) → state_key_at p m ≡ None → kernel_state_at (kernel_of p) m ≡ 0
no_state p m at = states_seen p m ∙ ap (owner_under p.owners) at

-- the next waiter has a number that a word can say
pub next_below : (p : Inside) → IsSoundInside p → (m key : ℕ) → state_key_at p m ≡ Some key → next_in (kernel_of p) m < 1073741824
next_below p h m key at =
    let who : ℕ = next_waiter (effective_in (kernel_of p)) p.arrivals m in
    let is : next_in (kernel_of p) m ≡ who
    = ap (λ (l : List (ℕ × ℕ)). next_waiter (effective_in (kernel_of p)) l m) (waiters_seen p) in
    let named : names who p.arrivals ≡ true
    = named-from_pair p.arrivals who m
    (next-is_waiter (effective_in (kernel_of p)) p.arrivals m (has_waiter-key p h m (h.placed.owned m key at))) in
    omega (arith, is, (named_known p h who named).1, h.placed.few, h.placed.within.threads)

-- the word 0 is free
pub zero_word : word_of 0 ≡ free_word
unfolding word_of
zero_word = refl

pub words_freed : (m : ℕ) (ws : Words) (k : Kernel) → kernel_state_at k m ≡ 0
    → words_after_unlock m Done k ws ≡ set_word ws m free_word
unfolding words_after_unlock
words_freed m ws k z = let none : (kernel_state_at k m == 0) ≡ true = grind (arith, nat_tests) in rw none refl

pub words_handed : (m : ℕ) (ws : Words) (k : Kernel) → kernel_state_at k m ≢ 0
    → words_after_unlock m Done k ws ≡ set_word ws m (hand_word (next_in k m))
unfolding words_after_unlock
words_handed m ws k s = let some : (kernel_state_at k m == 0) ≡ false = grind (arith, nat_tests) in rw some refl

pub kernel_freed : (m : ℕ) (k : Kernel) → kernel_state_at k m ≡ 0 → kernel_after_unlock m Done k ≡ k
unfolding kernel_after_unlock
kernel_freed m k z = let none : (kernel_state_at k m == 0) ≡ true = grind (arith, nat_tests) in rw none refl

pub kernel_handed : (m : ℕ) (k : Kernel) → kernel_state_at k m ≢ 0
    → kernel_after_unlock m Done k ≡ kernel_after_hand_over (next_in k m) m k
unfolding kernel_after_unlock
kernel_handed m k s = let some : (kernel_state_at k m == 0) ≡ false = grind (arith, nat_tests) in rw some refl

-- if a mutex has a key, it has an owner state, and else it has none
pub state_keyed : (p : Inside) → IsSoundInside p → (m : ℕ) (key : Option ℕ) → key ≡ state_key_at p m → is_some key ≡ true
    → kernel_state_at (kernel_of p) m ≢ 0
state_keyed p h m None at some = absurd (false≢true some)
state_keyed p h m (Some key) at some = some_state p h m key (sym at)

pub state_keyless : (p : Inside) (m : ℕ) (key : Option ℕ) → key ≡ state_key_at p m → is_some key ≡ false
    → kernel_state_at (kernel_of p) m ≡ 0
state_keyless p m None at none = no_state p m (sym at)
state_keyless p m (Some key) at none = absurd (true≢false none)

-- the owner in the owner state of a mutex, by its key
pub state_named : (p : Inside) (m key r : ℕ) → state_key_at p m ≡ Some key → owner_at p.owners key ≡ Some r
    → kernel_state_at (kernel_of p) m ≡ r
state_named p m key r at named =
    states_seen p m ∙ ap (owner_under p.owners) at ∙ ap (λ (o : Option ℕ). unwrap_or o 0) named

-- an owner state that names t, or none
pub named_or_none : (s t : ℕ) → (s ≡ 0) ⊎ (s ≡ t) → (if s == 0 then true else s == t) ≡ true
named_or_none s t fits = grind (arith, nat_tests)

-- an owner state that names another
pub named_other : (s t : ℕ) → s ≢ 0 → s ≢ t → (if s == 0 then true else s == t) ≡ false
named_other s t some other = grind (arith, nat_tests)
