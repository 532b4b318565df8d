-- The law that no mutex ever has two holders by the answers, over runs of the POSIX machine: each call, each entry and
-- each run keeps the invariant of `Holding`, and by it a holder is the owner.
use Rattle.std.proofs.Common.{if◌then◌else◌, ◌-◌, ◌==◌, ◌≡◌, ◌≢◌, ◌⊎◌, ◌<◌, ℕ, ◌+◌, nat_lt, Bool, true, false, List, [], ◌∷◌, ◌++◌, length, get_or, Option, Some, None, refl, sym, ap, ◌∙◌, subst, zero, suc, inl, inr, arith}
use Rattle.std.proofs.lemmas.Bool.{cases_eq, eq-eqb, ne_eqb, true≢false}
use Rattle.std.proofs.lemmas.Bool.Decides.{nat_tests}
use Rattle.std.proofs.lemmas.List.{get_or-set_same, get_or-set_other, get_or_past, length_push, length-set, length-map}
use Rattle.std.proofs.Math.ListN.{get_or-map}
use Rattle.pif_types.specs.Bounds.{Bounds}
use Rattle.pif_types.specs.declared.errors.Refusal.{Refusal}
use Rattle.pif_types.specs.declared.requests.Kind.{Kind}
use Rattle.pif_types.specs.declared.requests.Request.{Request}
use Rattle.pif_types.specs.declared.requests.Request.TheVariants.{Lock, TryLock, Unlock, Consistent, Wait, Signal, Broadcast, SetPrio}
use Rattle.pif_model.specs.declared.events.Event.{Event}
use Rattle.pif_model.specs.declared.events.Event.TheVariants.{Begin, Go, End, Tick}
use Rattle.pif_model.specs.declared.events.Seen.TheVariants.{Begun, Answered, Ended, Refused}
use Rattle.pif_model.specs.declared.events.Entry.{Entry}
use Rattle.pif_model.specs.declared.events.Entry.TheVariants.{Step as Happened}
use Rattle.pif_model.specs.History.{open_call, hold_count, hold_count_after_answer, waiting_with, unlocking, holds, HasOneHolder, AlwaysOneHolder}
use Rattle.pif_model.specs.Posix.{Progress, Call, Thread, Mutex, World, empty_world, nobody, no_mutex, thread_at, mutex_at, is_thread, is_living, is_mutex, with_thread, with_progress, with_base, variable_of, named_by, names_known, Memory, Variable, is_variable, begun_memory, begun_thread, with_call_by, after_waits, after_unblocking, on_unblocking, is_newly_blocked, after_use, used, all_unblocked, on_release, ChecksWait, GivesUp, Chooses, new_thread, LocksAgain, Locks, TriesToLock, Unlocks, MakesConsistent, Passes, SetsPriority, after_end, Ends, Effect, Effects, refusal_of, Step, IsRun, counts_now, is_counting, is_due, Expires, Moves}
use Rattle.pif_model.specs.Graph.{without}
use Rattle.pif_model.specs.World.Health.{Fine, Unusable}
use Rattle.pif_model.specs.World.Progress.{Fresh, Waiting, Stuck, Leaving, Has, Checked, Enlisted, Blocked, Reacquiring, Used}
use Rattle.pif_model.specs.Posix.ChecksWait.{other_mutex, not_owner as wait_not_owner, held_more, checked}
use Rattle.pif_model.specs.Posix.GivesUp.{becomes_unusable as wait_unusable, released as wait_released}
use Rattle.pif_model.specs.Posix.Uses.{at_limit as use_at_limit, counts as use_counts}
use Rattle.pif_model.specs.Posix.Chooses.{one, no_one, all}
use Rattle.pif_model.specs.Posix.LocksAgain.{rises, at_limit}
use Rattle.pif_model.specs.Posix.Locks.{own_normal, own_errorcheck, own_recursive as lock_own_recursive, free as lock_free, orphaned as lock_orphaned, cycle, joins}
use Rattle.pif_model.specs.Posix.TriesToLock.{own_recursive as try_own_recursive, busy as try_busy, free as try_free}
use Rattle.pif_model.specs.Posix.Unlocks.{not_owner, falls, becomes_unusable, released}
use Rattle.pif_model.specs.Posix.MakesConsistent.{not_robust, not_owner as consistent_not_owner, not_inconsistent, made_fine}
use Rattle.pif_model.specs.Posix.SetsPriority.{no_priority, not_living, changed}
use Rattle.pif_model.specs.Posix.Effect.{lock, try_lock, unlock, consistent, set_prio, check_wait, enlist, give_up, lock_again, use_variable, choose, leave}
use Rattle.pif_model.specs.Posix.Effects.{none as no_effect, then as effect_then, owed as effect_owed}
use Rattle.pif_model.specs.Posix.Expires.{lock as lock_expires, wait as wait_expires}
use Rattle.pif_model.specs.Posix.Moves.{expires, acts}
use Rattle.pif_model.specs.declared.lines.Timer.{Timer}
use Rattle.pif_model.specs.Deadlines.{plain, timer_of, ran_out, is_reached, reported_result}
use Rattle.pif_model.specs.Posix.Step.{ticked, thread_added, mutex_added, cond_added, refused, begun, went, waits, answered, ended}
use Rattle.pif_model.specs.Posix.IsRun.{start, next}
use Rattle.pif_model.specs.Soundness.{waited_in}
use Rattle.pif_model_lemmas.proofs.Among.{is_among-without, is_among}
use Rattle.pif_model_lemmas.proofs.Numbers.{within, from_within}
use Rattle.pif_model_lemmas.proofs.Places.{kept_at}
use Rattle.pif_model_lemmas.proofs.Waiting.{by_test}
use Rattle.pif_model_simulation.proofs.Named.{names_kept, names_plain}
use Rattle.pif_model_simulation.proofs.runs.Worlds.{call_of, owner_of, written_at, push_other, push_same, call-with_thread_other, living-with_thread, begin_allowed, end_allowed}
use Rattle.pif_model_simulation.proofs.runs.Holding.{Counted, held_before, same_progress, Eases, Holding-eases, Holding, Stays, request_of, held-from_holds, Holding-begins, Holding-answers, Holding-ends}
use Rattle.pif_model_simulation.proofs.runs.AllHolding.{IsHeld, IsActing, view_of, times_held, times-other, acting, MayTake, may_take, wait_may_take, IsOrderly-with_thread, IsHeld-but, IsHeld-stays, IsHeld-time, IsHeld-progresses, IsHeld-joins, IsHeld-takes, IsHeld-counts, IsHeld-owns, IsHeld-releases, IsHeld-with_health, IsHeld-Releases, IsOrderly-mutexes, IsOrderly-waiters, holder_is_owner}

-- CALLS

-- a result that changes no hold count, of whatever call: not 0, EOWNERDEAD, ENOTRECOVERABLE or EDEADLK
abbrev is_error : ℕ → Bool
is_error a = if a == 0 then false else (if a == 130 then false else (if a == 131 then false
    else (if a == 35 then false else true)))

-- an error changes no hold count
error_changes_nothing : (q : Request) (a : ℕ) → is_error a ≡ true → (n : ℕ)
    → hold_count_after_answer (named_by q) (Some q) a n ≡ n
error_changes_nothing (Lock m) a e n = grind (arith, nat_tests)
error_changes_nothing (TryLock m) a e n = grind (arith, nat_tests)
error_changes_nothing (Unlock m) a e n = grind (arith, nat_tests)
error_changes_nothing (Wait c m) a e n = grind (arith, nat_tests)
error_changes_nothing _ a e n = refl

-- who leaves its mutex doesn't hold it by the answers then
left_by : (q : Request) (n : ℕ) → n ≡ held_before q → hold_count_after_answer (named_by q) (Some q) 131 n ≡ 0
left_by (Lock m) n e = grind (arith, nat_tests)
left_by (TryLock m) n e = grind (arith, nat_tests)
left_by (Unlock m) n e = grind (arith, nat_tests)
left_by (Wait c m) n e = rw (eq-eqb m m refl) refl
left_by _ n e = e

-- a call that leaves its mutex holds it once by the machine, and has given it up if it has its result
leaving_ends : (q : Request) (n k : ℕ) → Counted q Leaving n k → (k ≡ 1) × Counted q (Has 131) n 0
leaving_ends q n k c = (c.1, left_by q n c.0)

-- what a call of q that has come to a rests on if it locks its mutex: how what it says of its hold count goes on to
-- what it says at each point to which a lock may bring it
record MayLock (q : Request) (a : Progress) : Type 0 where
  takes : MayTake q a
  again : (n i : ℕ) → Counted q a n i → Counted q (Has 0) n (i + 1)
  full : (n : ℕ) → Counted q a n 255 → Counted q (Has 11) n 255
  sticks : (n i : ℕ) → Counted q a n i → Counted q Stuck n i
  cycle : (n i : ℕ) → Counted q a n i → Counted q (Has 35) n i
  joins : (n i : ℕ) → Counted q a n i → Counted q Waiting n i

-- a lock and a trylock may
may_lock : (m : ℕ) → MayLock (Lock m) Fresh × MayLock (TryLock m) Fresh
may_lock m = (
  record {
    takes = (may_take m).0;
    again = λ n i e. again_lock n i e;
    full = λ n e. error_changes_nothing (Lock m) 11 refl n ∙ e;
    sticks = λ n i e. e;
    cycle = λ n i e. rw (eq-eqb m m refl) e;
    joins = λ n i e. e;
  },
  record {
    takes = (may_take m).2;
    again = λ n i e. again_try n i e;
    full = λ n e. error_changes_nothing (TryLock m) 11 refl n ∙ e;
    sticks = λ n i e. e;
    cycle = λ n i e. rw (eq-eqb m m refl) e;
    joins = λ n i e. e;
  },
)
  where
    again_lock : (n i : ℕ) → n ≡ i → hold_count_after_answer m (Some (Lock m)) 0 n ≡ i + 1
    again_lock n i e = grind (arith, nat_tests)

    again_try : (n i : ℕ) → n ≡ i → hold_count_after_answer m (Some (TryLock m)) 0 n ≡ i + 1
    again_try n i e = grind (arith, nat_tests)

-- and a wait that must reacquire its mutex
wait_may_lock : (c m : ℕ) → MayLock (Wait c m) Reacquiring
wait_may_lock c m = record {
  takes = (wait_may_take c m).0;
  again = λ n i e. rw (eq-eqb m m refl) (more n i e.0 e.1);
  full = λ n e. (let z = e.1 in absurd (omega arith));
  sticks = λ n i e. e;
  cycle = λ n i e. rw (eq-eqb m m refl) (sym e.1);
  joins = λ n i e. e;
}
  where
    more : (n i : ℕ) → n ≡ 1 → i ≡ 0 → n ≡ i + 1
    more n i a b = omega arith

-- a call that may lock its mutex
module _ {f : ℕ → Option Request} {counts : ℕ → ℕ → ℕ} {w : World} (h : IsHeld f counts w) {t : ℕ} {q : Request}
    {a : Progress} (k : IsActing w t q a) (known : is_mutex w (named_by q) ≡ true) (may : MayLock q a) where
  -- the owner of a recursive mutex locks it again
  IsHeld-LocksAgain : {v : World} → owner_of w (named_by q) ≡ t → LocksAgain t (named_by q) w v → IsHeld f counts v
  IsHeld-LocksAgain own (rises few e) =
      rw e (IsHeld-counts h k known (Has 0) ((mutex_at w (named_by q)).count + 1) own
      (λ n. may.again n (mutex_at w (named_by q)).count))
  IsHeld-LocksAgain own (at_limit full e) =
      rw e (IsHeld-owns h k known (Has 11) own
      (λ n. subst (λ i. Counted q a n i → Counted q (Has 11) n i) (sym full) (may.full n)))

  -- it locks its mutex, for which it waits if another owns it
  IsHeld-Locks : {v : World} → waited_in q ≡ named_by q → Locks t (named_by q) w v → IsHeld f counts v
  IsHeld-Locks named (own_normal own kind e) = rw e (IsHeld-progresses h k Stuck may.sticks)
  IsHeld-Locks named (own_errorcheck own kind e) = rw e (IsHeld-progresses h k (Has 35) may.cycle)
  IsHeld-Locks named (lock_own_recursive own kind e) = IsHeld-LocksAgain own e
  IsHeld-Locks named (lock_free other free e) = rw e (IsHeld-takes h k known may.takes free)
  IsHeld-Locks named (lock_orphaned orphaned e) = rw e (IsHeld-progresses h k Stuck may.sticks)
  IsHeld-Locks named (cycle owned leads e) = rw e (IsHeld-progresses h k (Has 35) may.cycle)
  IsHeld-Locks named (joins owned leads e) = rw e (IsHeld-joins h k (named_by q) named may.joins)

module _ {f : ℕ → Option Request} {counts : ℕ → ℕ → ℕ} {w : World} (h : IsHeld f counts w) {t : ℕ} where
  -- a call on which no effect has happened yet has an error as its result
  IsHeld-fails : {q : Request} → IsActing w t q Fresh → (a : ℕ) → is_error a ≡ true
      → IsHeld f counts (with_progress t (Has a) w)
  IsHeld-fails {q} k a wrong = IsHeld-progresses h k (Has a) (λ n i e. error_changes_nothing q a wrong n ∙ e)

  -- a trylock
  IsHeld-TriesToLock : {m : ℕ} {v : World} → is_mutex w m ≡ true → IsActing w t (TryLock m) Fresh → TriesToLock t m w v
      → IsHeld f counts v
  IsHeld-TriesToLock {m} known k (try_own_recursive own kind e) = IsHeld-LocksAgain h k known (may_lock m).1 own e
  IsHeld-TriesToLock known k (try_busy owned kind e) = rw e (IsHeld-fails k 16 refl)
  IsHeld-TriesToLock {m} known k (try_free free e) = rw e (IsHeld-takes h k known (may_take m).2 free)

  -- an unlock
  IsHeld-Unlocks : {m : ℕ} {v : World} → is_mutex w m ≡ true → IsActing w t (Unlock m) Fresh → Unlocks t m w v
      → IsHeld f counts v
  IsHeld-Unlocks {m} {v} known k effect = by_case effect
    where
      less : (n i : ℕ) → n ≡ i → hold_count_after_answer m (Some (Unlock m)) 0 n ≡ i - 1
      less n i e = grind (arith, nat_tests)

      by_case : Unlocks t m w v → IsHeld f counts v
      by_case (not_owner other e) = rw e (IsHeld-fails k 1 refl)
      by_case (falls own more e) =
          rw e (IsHeld-counts h k known (Has 0) ((mutex_at w m).count - 1) own (λ n. less n (mutex_at w m).count))
      by_case (becomes_unusable own once health e) = rw e (IsHeld-with_health h m Unusable)
      by_case (released own once health passes) = IsHeld-releases h k known (Has 0) own once (λ n. less n 1) passes

  -- a mutex is made consistent
  IsHeld-MakesConsistent : {m : ℕ} {v : World} → is_mutex w m ≡ true → IsActing w t (Consistent m) Fresh
      → MakesConsistent t m w v → IsHeld f counts v
  IsHeld-MakesConsistent known k (not_robust kind e) = rw e (IsHeld-fails k 22 refl)
  IsHeld-MakesConsistent known k (consistent_not_owner other e) = rw e (IsHeld-fails k 1 refl)
  IsHeld-MakesConsistent known k (not_inconsistent own health e) = rw e (IsHeld-fails k 22 refl)
  IsHeld-MakesConsistent {m} known k (made_fine own health e) =
      rw e (IsHeld-progresses (IsHeld-with_health h m Fine) (record { call = k.call; alone = k.alone }) (Has 0)
      (λ n i j. j))

  -- a call gives the Unusable mutex up that it took
  IsHeld-leaves : {q : Request} {v : World} → IsActing w t q Leaving
      → Passes (named_by q) (with_progress t (Has 131) w) v → IsHeld f counts v
  IsHeld-leaves {q} k passes =
      IsHeld-releases h k own.2 (Has 131) own.0 own.1 (λ n c. (leaving_ends q n 1 c).1) passes
    where
      own : (owner_of w (named_by q) ≡ t) × ((mutex_at w (named_by q)).count ≡ 1) × (is_mutex w (named_by q) ≡ true)
      own =
          holder_is_owner h.orderly t (named_by q)
          (leaving_ends q _ _ ((h.each t).own (record { request = q; progress = Leaving }) k.call)).0

  -- a wait is checked
  IsHeld-ChecksWait : {c m : ℕ} {v : World} → is_mutex w m ≡ true → IsActing w t (Wait c m) Fresh → ChecksWait t c m w v
      → IsHeld f counts v
  IsHeld-ChecksWait known k (other_mutex bound e) = rw e (IsHeld-fails k 22 refl)
  IsHeld-ChecksWait known k (wait_not_owner bound other e) = rw e (IsHeld-fails k 1 refl)
  IsHeld-ChecksWait known k (held_more bound own more e) = rw e (IsHeld-fails k 22 refl)
  IsHeld-ChecksWait known k (checked bound own once e) =
      rw e (IsHeld-owns h k known Checked own (λ n i. (i ∙ once, once)))

  -- a wait gives its mutex up
  IsHeld-GivesUp : {c m : ℕ} {v : World} (still : Bool) → IsActing w t (Wait c m) (Enlisted still)
      → GivesUp t m still w v → IsHeld f counts v
  IsHeld-GivesUp {c} {m} still k (wait_unusable own health e) = rw e (IsHeld-with_health h m Unusable)
  IsHeld-GivesUp {c} {m} still k (wait_released own health passes) =
      IsHeld-releases h k holds_it.2 (on_release still) holds_it.0 holds_it.1 (gives still) passes
    where
      holds_it : (owner_of w m ≡ t) × ((mutex_at w m).count ≡ 1) × (is_mutex w m ≡ true)
      holds_it = holder_is_owner h.orderly t m
          ((h.each t).own (record { request = Wait c m; progress = Enlisted still }) k.call).1

      gives : (b : Bool) (n : ℕ) → Counted (Wait c m) (Enlisted still) n 1 → Counted (Wait c m) (on_release b) n 0
      gives true n e = (e.0, refl)
      gives false n e = (e.0, refl)

-- CALLS BESIDE

-- each thread's call comes further, if at all, and it lives, waits and holds as before
IsHeld-eased : {f : ℕ → Option Request} {counts : ℕ → ℕ → ℕ} {w : World} → IsHeld f counts w → (ts : List Thread)
    (vs : List Variable) → let v : World = record w { threads = ts; variables = vs } in
    length ts ≡ length w.threads → ((x : ℕ) → is_living v x ≡ is_living w x)
    → ((x : ℕ) → Eases (call_of w x) (call_of v x)) → IsHeld f counts v
IsHeld-eased {f} {counts} {w} h ts vs long lives eases = record {
  orderly = record {
    room = omega (arith, long, h.orderly.room);
    nobody = lives 0 ∙ h.orderly.nobody;
    no_mutex = h.orderly.no_mutex;
    owners = λ m n. ap (λ k. if owner_of w m == 0 then false else nat_lt (owner_of w m) k) long ∙ h.orderly.owners m n;
  };
  each = λ x. subst (Holding (f x) (counts x) (is_mutex w)) (as_seen x)
      (Holding-eases (call_of (record w { threads = ts; variables = vs }) x) (h.each x) (eases x));
}
  where
    as_seen : (x : ℕ) → record (view_of w x) { call = call_of (record w { threads = ts; variables = vs }) x }
        ≡ view_of (record w { threads = ts; variables = vs }) x
    as_seen x = λ i. record {
      call = call_of (record w { threads = ts; variables = vs }) x;
      living = sym (lives x) i;
      held = λ m. times_held (sym (lives x) i) x (mutex_at w m);
      among = (view_of w x).among;
    }

-- a call that stays
eases_same : (o : Option Call) → Eases o o
eases_same o = record { none = λ e. e; some = λ q a e. (a, e, (λ n k c. c), λ z. z) }

-- a call that is unblocked
eases_unblocked : (o : Option Call) → Eases o (after_unblocking o)
eases_unblocked o = record {
  none = λ e. ap after_unblocking e;
  some = λ q a e. (on_unblocking a, ap after_unblocking e, (λ n k c. counted q a n k c), waiting a);
}
  where
    counted : (q : Request) (a : Progress) (n k : ℕ) → Counted q a n k → Counted q (on_unblocking a) n k
    counted q (Enlisted still) n k c = c
    counted q (Blocked b) n k c = c
    counted q _ n k c = c

    waiting : (a : Progress) → a ≡ Waiting → on_unblocking a ≡ Waiting
    waiting a e = ap on_unblocking e

-- a call that is noted
eases_noted : (o : Option Call) → Eases o (after_waits o)
eases_noted None = eases_same None
eases_noted (Some x) = by_progress x.request x.progress
  where
    by_progress : (q : Request) (a : Progress)
        → Eases (Some (record { request = q; progress = a })) (after_waits (Some (record { request = q; progress = a })))
    by_progress q (Blocked b) = record {
      none = λ e. absurd (cc);
      some = λ r p e. (
        Blocked true,
        ap after_waits e ∙ ap (λ x. after_waits (Some (record { request = r; progress = x }))) (same_progress e refl),
        (λ n k c. subst (λ x. Counted r x n k) (same_progress e refl) c),
        λ z. absurd (let x : Blocked b ≡ Waiting = sym (same_progress e refl) ∙ z in cc),
      );
    }
    by_progress q a = eases_same (Some (record { request = q; progress = a }))

module _ {f : ℕ → Option Request} {counts : ℕ → ℕ → ℕ} {w : World} (h : IsHeld f counts w) where
  -- the call of one thread is changed so
  IsHeld-recalled : (u : ℕ) (g : Option Call → Option Call) → g None ≡ None → ((o : Option Call) → Eases o (g o))
      → IsHeld f counts (with_call_by u g w)
  IsHeld-recalled u g none eases = IsHeld-eased h (with_call_by u g w).threads w.variables
      (length-set w.threads u x) (living-with_thread w u x refl) (λ y. by_thread y (cases_eq y u))
    where
      x : Thread
      x = record (thread_at w u) { call = g (thread_at w u).call }

      by_thread : (y : ℕ) → (y ≡ u) ⊎ (y ≡ u → ⊥) → Eases (call_of w y) (call_of (with_call_by u g w) y)
      by_thread y (inl e) = subst (λ z. Eases (call_of w z) (call_of (with_call_by u g w) z)) (sym e)
          (subst (Eases (call_of w u)) (sym (written_at (λ (z : Thread). z.call) w.threads u x nobody
          (λ l. ap (λ (z : Thread). g z.call) (get_or_past w.threads u nobody l) ∙ none))) (eases (call_of w u)))
      by_thread y (inr d) = subst (Eases (call_of w y)) (sym (call-with_thread_other w u x y d)) (eases_same (call_of w y))

  -- a variable is used
  IsHeld-used : (c : ℕ) → IsHeld f counts (used c w)
  IsHeld-used c = IsHeld-eased h (used c w).threads (used c w).variables (length-map w.threads (after_use c))
      (λ x. ap (λ (y : Thread). y.living) (get_or-map (after_use c) w.threads x nobody) ∙ lives (thread_at w x))
      (λ x. subst (Eases (call_of w x)) (sym (ap (λ (y : Thread). y.call) (get_or-map (after_use c) w.threads x nobody)))
      (eases (thread_at w x)))
    where
      lives : (x : Thread) → (after_use c x).living ≡ x.living
      lives x = by_test (λ b. (if b then record x { call = after_unblocking x.call } else x).living ≡ x.living)
          (is_newly_blocked c x.call) (λ _. refl) (λ _. refl)

      eases : (x : Thread) → Eases x.call (after_use c x).call
      eases x = by_test (λ b. Eases x.call (if b then record x { call = after_unblocking x.call } else x).call)
          (is_newly_blocked c x.call) (λ _. eases_unblocked x.call) (λ _. eases_same x.call)

-- these are unblocked
IsHeld-all_unblocked : {f : ℕ → Option Request} {counts : ℕ → ℕ → ℕ} (us : List ℕ) {w : World} → IsHeld f counts w
    → IsHeld f counts (all_unblocked us w)
unfolding all_unblocked
IsHeld-all_unblocked [] h = h
IsHeld-all_unblocked (u ∷ us) h = IsHeld-all_unblocked us (IsHeld-recalled h u after_unblocking refl eases_unblocked)

-- a choice
IsHeld-Chooses : {f : ℕ → Option Request} {counts : ℕ → ℕ → ℕ} {w v : World} {t : ℕ} {q : Request}
    → IsHeld f counts w → IsActing w t q Used → Chooses t q w v → IsHeld f counts v
IsHeld-Chooses {f} {counts} {w} {v} {t} {q} h k e = by_case e
  where
    has_result : (r : Request) → q ≡ r → ((n i : ℕ) → n ≡ i → hold_count_after_answer (named_by r) (Some r) 0 n ≡ i)
        → IsHeld f counts (with_progress t (Has 0) w)
    has_result r s same = IsHeld-progresses h k (Has 0)
        (subst (λ x. (n i : ℕ) → n ≡ i → hold_count_after_answer (named_by x) (Some x) 0 n ≡ i) (sym s) same)

    by_case : Chooses t q w v → IsHeld f counts v
    by_case (one c u s blocked greatest e) =
        rw e (IsHeld-recalled (has_result (Signal c) s (λ n i x. x)) u after_unblocking refl eases_unblocked)
    by_case (no_one c s none e) = rw e (has_result (Signal c) s (λ n i x. x))
    by_case (all c us s blocked among e) = rw e (IsHeld-all_unblocked us (has_result (Broadcast c) s (λ n i x. x)))

-- a thread that keeps its life and its call changes nothing, whatever its base priority and its timer are then
IsHeld-with_thread : {f : ℕ → Option Request} {counts : ℕ → ℕ → ℕ} {w : World} → IsHeld f counts w → (u : ℕ)
    (x : Thread) → x.living ≡ is_living w u → x.call ≡ call_of w u → IsHeld f counts (with_thread u x w)
IsHeld-with_thread {w = w} h u x life call =
    IsHeld-stays h (IsOrderly-with_thread w u x h.orderly (lives 0)) (λ m y. y)
    (λ t. record {
      call = kept_at (λ (y : Thread). y.call) w.threads u x nobody call t;
      living = λ e. sym (lives t) ∙ e;
      held = λ m. ap (λ l. times_held l t (mutex_at w m)) (lives t);
      fewer = λ m y. y;
    })
  where
    lives : (t : ℕ) → is_living (with_thread u x w) t ≡ is_living w t
    lives = living-with_thread w u x life

-- nor do other waiters, of which none is new
IsHeld-waiters : {f : ℕ → Option Request} {counts : ℕ → ℕ → ℕ} {w : World} → IsHeld f counts w → (ws : List (ℕ × ℕ))
    → ((t m : ℕ) → is_among ws t m ≡ true → is_among w.waiters t m ≡ true) → IsHeld f counts (record w { waiters = ws })
IsHeld-waiters {w = w} h ws fewer = IsHeld-stays h (IsOrderly-waiters w ws h.orderly) (λ m y. y)
    (λ t. record { call = refl; living = λ e. e; held = λ m. refl; fewer = λ m y. fewer t m y })

-- a change of a base priority
IsHeld-SetsPriority : {f : ℕ → Option Request} {counts : ℕ → ℕ → ℕ} {w v : World} → IsHeld f counts w → {t u p : ℕ}
    → IsActing w t (SetPrio u p) Fresh → SetsPriority t u p w v → IsHeld f counts v
IsHeld-SetsPriority h k (no_priority bad e) = rw e (IsHeld-fails h k 22 refl)
IsHeld-SetsPriority h k (not_living good gone e) = rw e (IsHeld-fails h k 3 refl)
IsHeld-SetsPriority {w = w} h {t} {u} {p} k (changed good lives e) =
    rw e (IsHeld-progresses (IsHeld-with_thread h u (record (thread_at w u) { base = p }) refl refl) still (Has 0)
    (λ n i j. j))
  where
    still : IsActing (with_base u p w) t (SetPrio u p) Fresh
    still = record {
      call = kept_at (λ (y : Thread). y.call) w.threads u (record (thread_at w u) { base = p }) nobody refl t ∙ k.call;
      alone = k.alone;
    }

-- a call on which no effect has happened yet stays so if a variable is used
after_use_fresh : (c : ℕ) (x : Thread) (q : Request) → x.call ≡ Some (record { request = q; progress = Fresh })
    → (after_use c x).call ≡ Some (record { request = q; progress = Fresh })
after_use_fresh c x q e =
    ap (λ b. (if b then record x { call = after_unblocking x.call } else x).call) (ap (is_newly_blocked c) e) ∙ e

-- an effect
IsHeld-Effect : {f : ℕ → Option Request} {counts : ℕ → ℕ → ℕ} {t : ℕ} {w v : World} → IsHeld f counts w → Effect t w v
    → IsHeld f counts v
IsHeld-Effect {f} {counts} {t} {w} {v} h effect = by_call effect
  where
    afresh : (q : Request) → call_of w t ≡ Some (record { request = q; progress = Fresh }) → IsActing w t q Fresh
    afresh q before = acting h t q Fresh before (λ e. absurd (cc))

    by_call : Effect t w v → IsHeld f counts v
    by_call (lock m before e) =
        IsHeld-Locks h (afresh (Lock m) before) ((h.each t).named _ before) (may_lock m).0 refl e
    by_call (try_lock m before e) = IsHeld-TriesToLock h ((h.each t).named _ before) (afresh (TryLock m) before) e
    by_call (unlock m before e) = IsHeld-Unlocks h ((h.each t).named _ before) (afresh (Unlock m) before) e
    by_call (consistent m before e) =
        IsHeld-MakesConsistent h ((h.each t).named _ before) (afresh (Consistent m) before) e
    by_call (leave q before e) = IsHeld-leaves h (acting h t q Leaving before (λ k. absurd (cc))) e
    by_call (check_wait c m before e) =
        IsHeld-ChecksWait h ((h.each t).named _ before) (afresh (Wait c m) before) e
    by_call (enlist c m before e) =
        rw e (IsHeld-progresses h (acting h t (Wait c m) Checked before (λ k. absurd (cc))) (Enlisted true) (λ n i x. x))
    by_call (give_up c m still before e) =
        IsHeld-GivesUp h still (acting h t (Wait c m) (Enlisted still) before (λ k. absurd (cc))) e
    by_call (lock_again c m before e) =
        IsHeld-Locks h (acting h t (Wait c m) Reacquiring before (λ k. absurd (cc))) ((h.each t).named _ before)
        (wait_may_lock c m) refl e
    by_call (use_variable q before is_used (use_at_limit full e)) = rw e (IsHeld-fails h (afresh q before) 75 refl)
    by_call (use_variable q before is_used (use_counts some e)) =
        rw e (IsHeld-progresses (IsHeld-used h (variable_of q)) (record {
          call = ap (λ (x : Thread). x.call) (get_or-map (after_use (variable_of q)) w.threads t nobody)
              ∙ after_use_fresh (variable_of q) (thread_at w t) q before;
          alone = (afresh q before).alone;
        }) Used (λ n i x. x))
    by_call (choose q before e) = IsHeld-Chooses h (acting h t q Used before (λ k. absurd (cc))) e
    by_call (set_prio u p before e) = IsHeld-SetsPriority h (afresh (SetPrio u p) before) e

-- the effects of one Go
IsHeld-Effects : {f : ℕ → Option Request} {counts : ℕ → ℕ → ℕ} {t : ℕ} {begin w v : World} → IsHeld f counts w
    → Effects t begin w v
    → IsHeld f counts v
IsHeld-Effects h (no_effect e) = rw e h
IsHeld-Effects h (effect_then e more) = IsHeld-Effects (IsHeld-Effect h e) more
IsHeld-Effects h (effect_owed b c m blocked before e more) =
    IsHeld-Effects (IsHeld-Locks h (acting h b (Wait c m) Reacquiring before (λ k. absurd (cc))) ((h.each b).named _ before)
    (wait_may_lock c m) refl e) more

-- DEADLINES

-- a lock whose deadline counts holds its mutex as often by the answers as by the machine
due_counted : (m : ℕ) (p : Progress) → counts_now (Lock m) p ≡ true → (n i : ℕ) → Counted (Lock m) p n i → n ≡ i
due_counted m Waiting e n i c = c
due_counted m Stuck e n i c = c
due_counted m _ e n i c = absurd (true≢false (sym e))

-- a wait whose deadline counts is blocked
due_blocked : (c m : ℕ) (p : Progress) → counts_now (Wait c m) p ≡ true → p ≡ Blocked true
due_blocked c m (Blocked b) e = ap Blocked e
due_blocked c m _ e = absurd (true≢false (sym e))

-- the deadline of a call that is due counts
pub due_counts : (w : World) (t : ℕ) (q : Request) (p : Progress)
    → (thread_at w t).call ≡ Some (record { request = q; progress = p }) → is_due w t ≡ true → counts_now q p ≡ true
due_counts w t q p before due = go (is_reached (thread_at w t).timer.deadline w.time) due
  where
    go : (a : Bool) → (if a then is_counting (thread_at w t).call else false) ≡ true → counts_now q p ≡ true
    go true e = sym (ap is_counting before) ∙ e
    go false e = absurd (true≢false (sym e))

-- an expiry
IsHeld-Expires : {f : ℕ → Option Request} {counts : ℕ → ℕ → ℕ} {t : ℕ} {w v : World} → IsHeld f counts w
    → is_due w t ≡ true → Expires t w v → IsHeld f counts v
IsHeld-Expires {t = t} {w = w} h due (lock_expires m p before e) =
    rw e (IsHeld-progresses (IsHeld-waiters h (without w.waiters t) (λ u i k. (is_among-without w.waiters t u i k).0))
    (record { call = before; alone = λ i k. (is_among-without w.waiters t t i k).1 refl }) (Has 110)
    (λ n i c. error_changes_nothing (Lock m) 110 refl n ∙ due_counted m p (due_counts w t (Lock m) p before due) n i c))
IsHeld-Expires {f = f} {counts = counts} {t = t} {w = w} h due (wait_expires c m p before e) =
    rw e (IsHeld-progresses late (acting late t (Wait c m) (Blocked true) (kept ∙ before ∙ shown) (λ k. absurd (cc)))
    Reacquiring (λ n i j. j))
  where
    x : Thread
    x = record (thread_at w t) { timer = ran_out (thread_at w t).timer }

    late : IsHeld f counts (with_thread t x w)
    late = IsHeld-with_thread h t x refl refl

    kept : call_of (with_thread t x w) t ≡ call_of w t
    kept = kept_at (λ (y : Thread). y.call) w.threads t x nobody refl t

    blocked : p ≡ Blocked true
    blocked = due_blocked c m p (due_counts w t (Wait c m) p before due)

    shown : ◌≡◌ {A = Option Call} (Some (record { request = Wait c m; progress = p }))
        (Some (record { request = Wait c m; progress = Blocked true }))
    shown = ap (λ y. Some (record { request = Wait c m; progress = y })) blocked

-- what an open call does at a Go
IsHeld-Moves : {f : ℕ → Option Request} {counts : ℕ → ℕ → ℕ} {t : ℕ} {w v : World} → IsHeld f counts w → Moves t w v
    → IsHeld f counts v
IsHeld-Moves h (expires due e) = IsHeld-Expires h due e
IsHeld-Moves h (acts due e) = IsHeld-Effects h e

-- ENTRIES

-- the invariant over a history
abbrev pub IsHeldBy : List Entry → World → Type 0
IsHeldBy h w = IsHeld (λ t. open_call t h) (λ t m. hold_count t m h) w

-- t's call is c from now on, which the history opens or closes: the others stay, and t lives and holds as it did
IsHeld-calls : {f later_f : ℕ → Option Request} {counts later_counts : ℕ → ℕ → ℕ} {w : World} → IsHeld f counts w
    → (t : ℕ) (c : Option Call) (i : Timer) (y : Memory)
    → let v : World = with_thread t (record (thread_at w t) { call = c; timer = i; memory = y }) w in
    ((x : ℕ) → x ≢ t → (later_f x ≡ f x) × ((m : ℕ) → later_counts x m ≡ counts x m))
    → (is_living v t ≡ is_living w t → ((m : ℕ) → (view_of v t).held m ≡ (view_of w t).held m)
    → Holding (later_f t) (later_counts t) (is_mutex w) (view_of v t))
    → IsHeld later_f later_counts v
IsHeld-calls {w = w} h t c i y others mine =
    IsHeld-but t h (IsOrderly-with_thread w t x h.orderly (lives 0)) (λ m y. y)
    (λ u d. (
      (others u d).0,
      (others u d).1,
      record {
        call = call-with_thread_other w t x u d;
        living = λ e. sym (lives u) ∙ e;
        held = held u;
        fewer = λ m y. y;
      },
    ))
    (mine (lives t) (held t))
  where
    x : Thread
    x = record (thread_at w t) { call = c; timer = i; memory = y }

    lives : (u : ℕ) → is_living (with_thread t x w) u ≡ is_living w u
    lives = living-with_thread w t x refl

    held : (u m : ℕ) → (view_of (with_thread t x w) u).held m ≡ (view_of w u).held m
    held u m = ap (λ l. times_held l u (mutex_at w m)) (lives u)

-- a call begins
IsHeld-begins : (h : List Entry) (w : World) (t : ℕ) (q : Request) → IsHeldBy h w → refusal_of w (Begin t q) ≡ None
    → IsHeldBy (Happened (Begin t q) Begun ∷ h) (with_thread t (begun_thread w q (thread_at w t)) w)
IsHeld-begins h w t q held allowed =
    IsHeld-calls held t (Some c) (timer_of q) (begun_memory w (plain q) (thread_at w t).memory)
    (λ x d. (rw (ne_eqb t x (λ e. d (sym e))) refl, λ m. refl))
    (λ lives same. Holding-begins (held.each t) (rw (eq-eqb t t refl) refl) (record {
      before = let_in.2;
      after = written_at (λ (y : Thread). y.call) w.threads t (begun_thread w q (thread_at w t)) nobody
          (λ l. absurd (omega (arith, (within t (length w.threads) let_in.0).1)));
      lives = lives ∙ let_in.1;
      held = same;
      fewer = λ m y. y;
      named = names_plain (is_mutex w) (λ c. true) q
          ∙ names_kept (is_mutex w) (is_variable w) (is_mutex w) (λ c. true) (λ m e. e) (λ c e. refl) q let_in.3;
      fresh = λ n i e. e;
    }))
  where
    c : Call
    c = record { request = plain q; progress = Fresh }

    let_in : (is_thread w t ≡ true) × (is_living w t ≡ true) × (call_of w t ≡ None)
        × (names_known (is_mutex w) (is_variable w) q ≡ true)
    let_in = begin_allowed w t q allowed

-- a call is answered, as it is told
IsHeld-answers : (h : List Entry) (w : World) (t a : ℕ) (x : Bool) (q : Request) → IsHeldBy h w
    → call_of w t ≡ Some (record { request = q; progress = Has a })
    → IsHeldBy (Happened (Go t) (Answered (reported_result q x a)) ∷ h) (with_thread t (record (thread_at w t) { call = None }) w)
IsHeld-answers h w t a x q held before =
    IsHeld-calls held t None (thread_at w t).timer (thread_at w t).memory
    (λ x d. (rw (ne_eqb t x (λ e. d (sym e))) refl, λ m. rw (ne_eqb t x (λ e. d (sym e))) refl))
    (λ lives same. Holding-answers {q = q} {a = a} x (held.each t) (rw (eq-eqb t t refl) refl)
    (λ m. rw (eq-eqb t t refl) refl)
    (record {
      before = before;
      after = written_at (λ (y : Thread). y.call) w.threads t (record (thread_at w t) { call = None }) nobody
          (λ l. refl);
      held = same;
      fewer = λ m y. y;
    }))

-- one more thread, with no call open: it owns nothing yet
IsHeld-thread_added : {f : ℕ → Option Request} {counts : ℕ → ℕ → ℕ} {w : World} → IsHeld f counts w → (p : ℕ)
    → IsHeld f counts (record w { threads = w.threads ++ new_thread p ∷ [] })
IsHeld-thread_added {w = w} h p =
    IsHeld-stays h
    (record {
      room = omega (arith, length_push w.threads x);
      nobody = ap (λ (y : Thread). y.living) (earlier 0 (λ e. omega (arith, e, h.orderly.room))) ∙ h.orderly.nobody;
      no_mutex = h.orderly.no_mutex;
      owners = λ m n. more (owner_of w m) (within (owner_of w m) (length w.threads) (h.orderly.owners m n));
    })
    (λ m y. y) (λ t. stays t (cases_eq t (length w.threads)))
  where
    x : Thread
    x = new_thread p

    v : World
    v = record w { threads = w.threads ++ x ∷ [] }

    earlier : (t : ℕ) → t ≢ length w.threads → thread_at v t ≡ thread_at w t
    earlier = push_other w.threads x nobody

    more : (t : ℕ) → (t ≢ 0) × (t < length w.threads) → is_thread v t ≡ true
    more t r = from_within t (length v.threads) r.0 (omega (arith, length_push w.threads x, r.1))

    -- nobody's number yet is no owner's
    unowned : (t m : ℕ) → t ≡ length w.threads → owner_of w m ≢ t
    unowned t m e o =
        let some : owner_of w m ≢ 0 = λ z. omega (arith, o, e, z, h.orderly.room) in
        omega (arith, o, e, (within (owner_of w m) (length w.threads) (h.orderly.owners m some)).1)

    stays : (t : ℕ) → (t ≡ length w.threads) ⊎ (t ≡ length w.threads → ⊥) → Stays (view_of w t) (view_of v t)
    stays t (inl e) = record {
      call = push_same (λ (y : Thread). y.call) w.threads x nobody t refl;
      living = λ k. ap (λ (y : Thread). y.living) (get_or_past w.threads t nobody (omega arith));
      held = λ m.
          times-other (is_living v t) t (mutex_at w m) (unowned t m e)
          ∙ sym (times-other (is_living w t) t (mutex_at w m) (unowned t m e));
      fewer = λ m y. y;
    }
    stays t (inr d) = record {
      call = ap (λ (y : Thread). y.call) (earlier t d);
      living = λ k. sym (ap (λ (y : Thread). y.living) (earlier t d)) ∙ k;
      held = λ m. ap (λ (y : Thread). times_held y.living t (mutex_at w m)) (earlier t d);
      fewer = λ m y. y;
    }

-- one more mutex, which nobody owns
IsHeld-mutex_added : {f : ℕ → Option Request} {counts : ℕ → ℕ → ℕ} {w : World} → IsHeld f counts w → (k : Kind)
    (r : Bool) → let z : Mutex = record { kind = k; robust = r; owner = 0; count = 1; health = Fine } in
    IsHeld f counts (record w { mutexes = w.mutexes ++ z ∷ [] })
IsHeld-mutex_added {w = w} h k r =
    IsHeld-stays h
    (IsOrderly-mutexes h.orderly (λ m. push_same (λ (y : Mutex). y.owner) w.mutexes z no_mutex m refl))
    (λ m y.
    let p = within m (length w.mutexes) y in
    from_within m (length v.mutexes) p.0 (omega (arith, length_push w.mutexes z, p.1)))
    (λ t. record {
      call = refl;
      living = λ e. e;
      held = λ m. push_same (λ (y : Mutex). times_held (is_living w t) t y) w.mutexes z no_mutex m refl;
      fewer = λ m y. y;
    })
  where
    z : Mutex
    z = record { kind = k; robust = r; owner = 0; count = 1; health = Fine }

    v : World
    v = record w { mutexes = w.mutexes ++ z ∷ [] }

-- one more variable
IsHeld-variables : {f : ℕ → Option Request} {counts : ℕ → ℕ → ℕ} {w : World} → IsHeld f counts w → (vs : List Variable)
    → IsHeld f counts (record w { variables = vs })
IsHeld-variables h vs = IsHeld-stays h
    (record {
      room = h.orderly.room;
      nobody = h.orderly.nobody;
      no_mutex = h.orderly.no_mutex;
      owners = h.orderly.owners;
    })
    (λ m y. y) (λ t. record { call = refl; living = λ e. e; held = λ m. refl; fewer = λ m y. y })

-- a thread ends
IsHeld-ends : (h : List Entry) (w v : World) (t : ℕ) → IsHeldBy h w → Ends t w v
    → IsHeldBy (Happened (End t) Ended ∷ h) v
IsHeld-ends h w v t held ends = IsHeld-Releases left dead place.0 ends.releases
  where
    let_in : (is_thread w t ≡ true) × (is_living w t ≡ true)
    let_in = end_allowed w t ends.allowed

    place : (t ≢ 0) × (t < length w.threads)
    place = within t (length w.threads) let_in.0

    x : Thread
    x = record (thread_at w t) { living = false; call = None }

    u : World
    u = after_end t w

    dead : is_living u t ≡ false
    dead = ap (λ (y : Thread). y.living) (get_or-set_same w.threads t x nobody place.1)

    others : (y : ℕ) → y ≢ t → thread_at u y ≡ thread_at w y
    others y d = get_or-set_other w.threads t y x nobody d

    left : IsHeldBy (Happened (End t) Ended ∷ h) u
    left =
        IsHeld-but t held
        (IsOrderly-waiters (with_thread t x w) (without w.waiters t)
        (IsOrderly-with_thread w t x held.orderly (ap (λ (y : Thread). y.living) (others 0 (λ e. place.0 (sym e))))))
        (λ m y. y)
        (λ y d. (
          rw (ne_eqb t y (λ e. d (sym e))) refl,
          (λ m. rw (ne_eqb t y (λ e. d (sym e))) refl),
          record {
            call = ap (λ (z : Thread). z.call) (others y d);
            living = λ e. sym (ap (λ (z : Thread). z.living) (others y d)) ∙ e;
            held = λ m. ap (λ (z : Thread). times_held z.living y (mutex_at w m)) (others y d);
            fewer = λ m k. (is_among-without w.waiters t y m k).0;
          },
        ))
        (Holding-ends (rw (eq-eqb t t refl) refl) (λ m. rw (eq-eqb t t refl) refl) (record {
          call = ap (λ (y : Thread). y.call) (get_or-set_same w.threads t x nobody place.1);
          held = λ m. ap (λ l. times_held l t (mutex_at w m)) dead;
          among = λ m k. (is_among-without w.waiters t t m k).1 refl;
        }))

-- a refused event changes nothing
IsHeld-refused : (h : List Entry) (w : World) (x : Event) (r : Refusal) → IsHeldBy h w
    → IsHeldBy (Happened x (Refused r) ∷ h) w
IsHeld-refused h w (Begin t q) r held = held
IsHeld-refused h w (Go t) r held = held
IsHeld-refused h w (End t) r held = held
IsHeld-refused h w (Tick n) r held = held

-- one entry keeps the invariant
IsHeld-Step : (l : Bounds) (h : List Entry) (w : World) (e : Entry) (v : World) → IsHeldBy h w → Step l w e v
    → IsHeldBy (e ∷ h) v
IsHeld-Step l h w e v held (thread_added t p same is_next room low high after) =
    rw (same, after) (IsHeld-thread_added held p)
IsHeld-Step l h w e v held (mutex_added m k r same is_next room after) = rw (same, after) (IsHeld-mutex_added held k r)
IsHeld-Step l h w e v held (cond_added c m same known is_next room after) =
    rw (same, after) (IsHeld-variables held _)
IsHeld-Step l h w e v held (refused x r same why after) = rw (same, after) (IsHeld-refused h w x r held)
IsHeld-Step l h w e v held (begun t q same allowed after) = rw (same, after) (IsHeld-begins h w t q held allowed)
IsHeld-Step l h w e v held (went t same goes runs) = rw same (IsHeld-Moves held goes.moves)
IsHeld-Step l h w e v held (waits t u same goes after resting) =
    rw (same, after) (IsHeld-recalled (IsHeld-Moves held goes.moves) t after_waits refl eases_noted)
IsHeld-Step l h w e v held (answered t a q u same goes before after runs) =
    rw (same, after) (IsHeld-answers h u t a (thread_at w t).timer.expired q (IsHeld-Moves held goes.moves) before)
IsHeld-Step l h w e v held (ended t same ends) = rw same (IsHeld-ends h w v t held ends)
IsHeld-Step l h w e v held (ticked n same allowed after) = rw (same, after) (IsHeld-time held n)

-- RUNS

-- the empty state
IsHeld-empty : (n : ℕ) → IsHeldBy [] (empty_world n)
IsHeld-empty n =
    record {
      orderly = record {
        room = omega arith;
        nobody = refl;
        no_mutex = refl;
        owners = λ m z. absurd (z (ap (λ (y : Mutex). y.owner) (lone no_mutex m)));
      };
      each = λ t. record {
        idle = λ e. no_call t;
        request = sym (ap request_of (no_call t));
        named = λ c e. let none : call_of (empty_world n) t ≡ None = no_call t in absurd (cc);
        waiting = λ m e. absurd (true≢false (sym e));
        own = λ c e. let none : call_of (empty_world n) t ≡ None = no_call t in absurd (cc);
        elsewhere = λ m apart.
            sym (ap (λ (y : Thread). times_held y.living t (mutex_at (empty_world n) m)) (lone nobody t));
      };
    }
  where
    lone : {A : Type 0} (d : A) (n : ℕ) → get_or (d ∷ []) n d ≡ d
    lone d zero = refl
    lone d (suc n) = refl

    no_call : (t : ℕ) → call_of (empty_world n) t ≡ None
    no_call t = ap (λ (x : Thread). x.call) (lone nobody t)

-- the invariant holds after each run
pub IsHeld-IsRun : (l : Bounds) {h : List Entry} {r : List World} {w : World} → IsRun l h r w → IsHeldBy h w
IsHeld-IsRun l (start e) = subst (λ (x : World). IsHeldBy [] x) (sym e) (IsHeld-empty l.signals)
IsHeld-IsRun l (next {h = h} {e = e} {w = w} {v = v} run step) = IsHeld-Step l h w e v (IsHeld-IsRun l run) step

-- who holds a mutex by the answers owns it
pub holder_owns : (l : Bounds) (h : List Entry) (r : List World) (w : World) → IsRun l h r w → (t m : ℕ)
    → holds t m h ≡ true → owner_of w m ≡ t
holder_owns l h r w run t m held = by_owner (cases_eq (owner_of w m) t)
  where
    -- no wait on it is open
    outside : (waiting_with m (open_call t h) ≡ false)
        × (nat_lt (unlocking m (open_call t h)) (hold_count t m h) ≡ true)
    outside = go (waiting_with m (open_call t h)) (nat_lt (unlocking m (open_call t h)) (hold_count t m h)) held
      where
        go : (a b : Bool) → (if a then false else b) ≡ true → (a ≡ false) × (b ≡ true)
        go false b e = (refl, e)
        go true b e = absurd (true≢false (sym e))

    by_owner : (owner_of w m ≡ t) ⊎ (owner_of w m ≡ t → ⊥) → owner_of w m ≡ t
    by_owner (inl e) = e
    by_owner (inr d) =
        absurd (held-from_holds ((IsHeld-IsRun l run).each t) m outside.0 outside.1
        (times-other (is_living w t) t (mutex_at w m) d))

-- after a run no mutex has two holders
one_now : (l : Bounds) (h : List Entry) (r : List World) (w : World) → IsRun l h r w → HasOneHolder h
one_now l h r w run = λ t u m a b. sym (holder_owns l h r w run t m a) ∙ holder_owns l h r w run u m b

-- nor before
one_always : (l : Bounds) {h : List Entry} {r : List World} {w : World} → IsRun l h r w → AlwaysOneHolder h
one_always l (start {w = w} e) = one_now l [] [] w (start e)
one_always l (next {h = h} {r = r} {e = e} {w = w} {v = v} run step) =
    (one_now l (e ∷ h) (w ∷ r) v (next run step), one_always l run)

-- at no point of a run has a mutex two holders by the answers
pub one_holder : (l : Bounds) (h : List Entry) (r : List World) (w : World) → IsRun l h r w → AlwaysOneHolder h
one_holder l h r w run = one_always l run
