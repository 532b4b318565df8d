-- Changes of calls in the POSIX machine: they go past one another, and past the locks of other threads; and the locks
-- that are owed after a choice.
use Rattle.std.proofs.Common.{◌≡◌, ◌≢◌, ℕ, Bool, true, false, ◌==◌, List, [], ◌∷◌, ◌++◌, set, Option, Some, ◌+◌, refl, sym, ap, ◌∙◌, subst, if◌then◌else◌, ◌||◌, eq-eqb}
use Rattle.std.specs.List.{list_any}
use Rattle.std.proofs.lemmas.Bool.{true≢false}
use Rattle.std.proofs.lemmas.List.{length-set, get_or-set_other, set_comm}
use Rattle.pif_types.specs.declared.requests.Request.TheVariants.{Wait}
use Rattle.pif_model.specs.Graph.{reaches_within}
use Rattle.pif_model.specs.Posix.{Progress, Call, Thread, World, Locks, Effects, nobody, thread_at, mutex_at, is_living, is_orphaned, leads_to, waits_for, is_blocked_on, with_call_by, after_unblocking, all_unblocked, at_progress, with_progress, with_mutex, with_hold_count, on_taking}
use Rattle.pif_model.specs.World.Progress.{Reacquiring, Stuck, Has, Waiting}
use Rattle.pif_model.specs.Posix.Locks.{own_normal, own_errorcheck, own_recursive, free, orphaned, cycle, joins}
use Rattle.pif_model.specs.Posix.LocksAgain.{rises, at_limit}
use Rattle.pif_model.specs.Posix.Effects.{owed}
use Rattle.pif_model_lemmas.proofs.Places.{kept_at}
use Rattle.pif_model_lemmas.proofs.Waiting.{by_test}

-- CALLS

-- a change of one's call leaves another's
pub call-recalled_other : (w : World) (t b : ℕ) (f : Option Call → Option Call) → b ≢ t
    → thread_at (with_call_by t f w) b ≡ thread_at w b
call-recalled_other w t b f d =
    get_or-set_other w.threads t b (record (thread_at w t) { call = f (thread_at w t).call }) nobody d

-- two changes of calls of two threads, in either order
pub recalled-swap : (w : World) (t b : ℕ) (f h : Option Call → Option Call) → t ≢ b
    → with_call_by t f (with_call_by b h w) ≡ with_call_by b h (with_call_by t f w)
recalled-swap w t b f h d = λ i. record w { threads = threads i }
  where
    x : Thread
    x = record (thread_at w t) { call = f (thread_at w t).call }

    z : Thread
    z = record (thread_at w b) { call = h (thread_at w b).call }

    threads : (with_call_by t f (with_call_by b h w)).threads ≡ (with_call_by b h (with_call_by t f w)).threads
    threads = ap (λ (y : Thread). set (set w.threads b z) t (record y { call = f y.call }))
        (get_or-set_other w.threads b t z nobody d)
        ∙ set_comm w.threads b t z x (λ e. d (sym e))
        ∙ ap (λ (y : Thread). set (set w.threads t x) b (record y { call = h y.call }))
        (sym (get_or-set_other w.threads t b x nobody (λ e. d (sym e))))

-- PAST A LOCK

module _ (w : World) (t : ℕ) (f : Option Call → Option Call) where
  abbrev after : World
  after = with_call_by t f w

  -- who lives lives
  living_same : (n : ℕ) → is_living after n ≡ is_living w n
  living_same n = kept_at (λ (x : Thread). x.living) w.threads t
      (record (thread_at w t) { call = f (thread_at w t).call }) nobody refl n

  -- what is orphaned stays so
  pub orphaned_same : (m : ℕ) → is_orphaned after m ≡ is_orphaned w m
  orphaned_same m = ap (λ b. if (mutex_at w m).robust then false else (if (mutex_at w m).owner == 0 then false
      else (if b then false else true))) (living_same (mutex_at w m).owner)

  -- chains are the same
  pub chain_same : (a b : ℕ) → leads_to after a b ≡ leads_to w a b
  chain_same a b = ap (λ n. reaches_within n (waits_for w) a b)
      (length-set w.threads t (record (thread_at w t) { call = f (thread_at w t).call }))

  -- how far another's call has come
  past : (z : World) (b : ℕ) (p : Progress) → b ≢ t
      → with_call_by t f (with_progress b p z) ≡ with_progress b p (with_call_by t f z)
  past z b p d = recalled-swap z t b f (at_progress p) (λ x. d (sym x))

  -- a lock of another thread is one still
  pub locks_past : (b m : ℕ) {v : World} → b ≢ t → Locks b m w v → Locks b m after (with_call_by t f v)
  locks_past b m d (own_normal o k e) = own_normal o k (ap (with_call_by t f) e ∙ past w b Stuck d)
  locks_past b m d (own_errorcheck o k e) = own_errorcheck o k (ap (with_call_by t f) e ∙ past w b (Has 35) d)
  locks_past b m d (own_recursive o k (rises l e)) = own_recursive o k (rises l (ap (with_call_by t f) e
      ∙ past (with_hold_count m ((mutex_at w m).count + 1) w) b (Has 0) d))
  locks_past b m d (own_recursive o k (at_limit l e)) =
      own_recursive o k (at_limit l (ap (with_call_by t f) e ∙ past w b (Has 11) d))
  locks_past b m d (free o z e) = free o z (ap (with_call_by t f) e
      ∙ past (with_mutex m (record (mutex_at w m) { owner = b; count = 1 }) w) b (on_taking (mutex_at w m).health) d)
  locks_past b m d (orphaned l e) = orphaned (l.0, l.1, orphaned_same m ∙ l.2) (ap (with_call_by t f) e ∙ past w b Stuck d)
  locks_past b m d (cycle l k e) = cycle (l.0, l.1, orphaned_same m ∙ l.2) (chain_same (mutex_at w m).owner b ∙ k)
      (ap (with_call_by t f) e ∙ past w b (Has 35) d)
  locks_past b m d (joins l k e) = joins (l.0, l.1, orphaned_same m ∙ l.2) (chain_same (mutex_at w m).owner b ∙ k)
      (ap (with_call_by t f) e ∙ (λ i. record (past w b Waiting d i) { waiters = w.waiters ++ (b, m) ∷ [] }))

-- MANY

-- whether a thread is one of these
abbrev pub one_of : List ℕ → ℕ → Bool
one_of us b = list_any (λ x. x == b) us

-- who is none of the rest
rest_not : (u : ℕ) (us : List ℕ) (b : ℕ) → one_of (u ∷ us) b ≡ false → (b ≢ u) × (one_of us b ≡ false)
rest_not u us b e = by_test (λ x. (u == b) ≡ x → (x || one_of us b) ≡ false → (b ≢ u) × (one_of us b ≡ false)) (u == b)
    (λ _ _ f. absurd (true≢false f))
    (λ x _ f. ((λ q. true≢false (sym (eq-eqb u b (sym q)) ∙ x)), f)) refl e

-- who is none of these keeps its thread while they are unblocked
pub thread-all_unblocked : (us : List ℕ) (w : World) (b : ℕ) → one_of us b ≡ false
    → thread_at (all_unblocked us w) b ≡ thread_at w b
unfolding all_unblocked
thread-all_unblocked [] w b e = refl
thread-all_unblocked (u ∷ us) w b e =
    let r = rest_not u us b e in
    thread-all_unblocked us (with_call_by u after_unblocking w) b r.1 ∙ call-recalled_other w u b after_unblocking r.0

-- a change of its call goes past that
pub recalled-all_unblocked : (us : List ℕ) (w : World) (t : ℕ) (f : Option Call → Option Call) → one_of us t ≡ false
    → with_call_by t f (all_unblocked us w) ≡ all_unblocked us (with_call_by t f w)
unfolding all_unblocked
recalled-all_unblocked [] w t f e = refl
recalled-all_unblocked (u ∷ us) w t f e =
    let r = rest_not u us t e in
    recalled-all_unblocked us (with_call_by u after_unblocking w) t f r.1
    ∙ ap (all_unblocked us) (recalled-swap w t u f after_unblocking r.0)

-- and so does its lock
pub locks_past_all : (us : List ℕ) {w v : World} (b m : ℕ) → one_of us b ≡ false → Locks b m w v
    → Locks b m (all_unblocked us w) (all_unblocked us v)
unfolding all_unblocked
locks_past_all [] b m e l = l
locks_past_all (u ∷ us) {w} b m e l =
    let r = rest_not u us b e in
    locks_past_all us b m r.1 (locks_past w u after_unblocking b m r.0 l)

-- OWED LOCKS

-- some locks that are owed, one after another, by threads that were blocked in the first state
pub data Owed (begin : World) : World → World → Type 0 where
  done : {w v : World} → v ≡ w → Owed begin w v
  lock : {w u v : World} (b c m : ℕ) → is_blocked_on begin c b ≡ true
      → (thread_at w b).call ≡ Some (record { request = Wait c m; progress = Reacquiring }) → Locks b m w u → Owed begin u v
      → Owed begin w v

-- they are effects
pub owed_effects : {begin w v z : World} (t : ℕ) → Owed begin w v → Effects t begin v z → Effects t begin w z
owed_effects {begin} {w} {v} {z} t (done e) f = subst (λ a. Effects t begin a z) e f
owed_effects t (lock b c m k call l rest) f = owed b c m k call l (owed_effects t rest f)

-- a change of the call of a thread that was not blocked goes past them
pub owed_past : {begin w v : World} (t : ℕ) (f : Option Call → Option Call) → ((c : ℕ) → is_blocked_on begin c t ≡ false)
    → Owed begin w v → Owed begin (with_call_by t f w) (with_call_by t f v)
owed_past t f n (done e) = done (ap (with_call_by t f) e)
owed_past {begin} {w} t f n (lock b c m k call l rest) =
    lock b c m k (ap (λ (x : Thread). x.call) (call-recalled_other w t b f other) ∙ call) (locks_past w t f b m other l)
    (owed_past t f n rest)
  where
    other : b ≢ t
    other e = true≢false (sym k ∙ ap (is_blocked_on begin c) e ∙ n c)
