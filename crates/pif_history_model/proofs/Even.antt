-- In a run that shows no line of waiters no lock has a deadline, and all threads have one base priority and keep it, or
-- nobody signals.
use Rattle.std.proofs.Common.{ℕ, ◌≡◌, ◌∙◌, ◌<◌, ◌≤◌, Bool, true, false, length, zero, suc, Option, Some, None, is_some, not, refl, sym, ap, subst, arith, eqb-true, if◌then◌else◌}
use Rattle.std.proofs.lemmas.Bool.{true≢false}
use Rattle.pif_types.specs.Bounds.{Bounds}
use Rattle.pif_types.specs.declared.requests.Request.{Request}
use Rattle.pif_types.specs.declared.requests.Request.TheVariants.{Lock, Signal, TimedLock, TimedWait}
use Rattle.pif_model.specs.declared.events.Event.TheVariants as event
use Rattle.pif_model.specs.declared.events.Seen.TheVariants as seen
use Rattle.pif_model.specs.declared.events.Entry.{Entry}
use Rattle.pif_model.specs.declared.events.Entry.TheVariants as entry
use Rattle.pif_model.specs.Deadlines.{plain, timer_of, is_reached}
use Rattle.pif_model.specs.Posix.{World, Thread, Call, Progress, Step, nobody, thread_at, waits_for, effective_of, with_base, at_progress, after_unblocking, empty_world, is_due, is_counting, HasCome}
use Rattle.pif_model.specs.Posix.Step.{thread_added, mutex_added, cond_added, refused, begun, went, waits, answered, ended, ticked}
use Rattle.pif_model_lemmas.proofs.Following.{reaches_here}
use Rattle.pif_model_lemmas.proofs.Greatest.{effective_most, effective_above}
use Rattle.pif_model_simulation.proofs.runs.Worlds.{call_of}
use Rattle.pif_posix_steps.specs.Once as once
use Rattle.pif_posix_steps.specs.Once.{Enters, MovesOnce}
use Rattle.pif_posix_steps.specs.Once.Enters.{answered as enters_answered, other}
use Rattle.pif_history_model.specs.declared.lines.Line.{Line}
use Rattle.pif_history_model.specs.Lines.{line_of}
use Rattle.pif_history_model.specs.Queues.{asks_plainly, may_be_base, tells_of_no_waiters}
use Rattle.pif_history_model.proofs.Each.{OfEach, each_thread, each_used, each_added}
use Rattle.pif_history_model.proofs.Moving.{IsKept, kept_move}

-- whether an open call asks plainly; whether it is a lock
abbrev call_asks_plainly : Option ℕ → Option Call → Bool
call_asks_plainly o None = true
call_asks_plainly o (Some c) = asks_plainly o c.request

abbrev is_lock : Request → Bool
is_lock (Lock m) = true
is_lock q = false

abbrev call_is_lock : Option Call → Bool
call_is_lock None = false
call_is_lock (Some c) = is_lock c.request

-- what holds of a thread: its base priority is the same one if it lives, and at most that; its call asks plainly; a lock
-- has no deadline
pub record IsEven (o : Option ℕ) (x : Thread) : Type 0 where
  pub low : (p : ℕ) → o ≡ Some p → x.living ≡ true → p ≤ x.base
  pub high : (p : ℕ) → o ≡ Some p → x.base ≤ p
  pub plainly : call_asks_plainly o x.call ≡ true
  pub untimed : call_is_lock x.call ≡ true → x.timer.deadline ≡ None

abbrev pub AreEven : Option ℕ → World → Type 0
AreEven o w = OfEach (IsEven o) w

abbrev StaysEven : Option ℕ → World → World → Type 0
StaysEven o w v = AreEven o w → AreEven o v

-- MOVES

progressed_plainly : (same : Option ℕ) (b : Progress) (o : Option Call) → call_asks_plainly same (at_progress b o) ≡ call_asks_plainly same o
progressed_plainly same b None = refl
progressed_plainly same b (Some c) = refl

progressed_lock : (b : Progress) (o : Option Call) → call_is_lock (at_progress b o) ≡ call_is_lock o
progressed_lock b None = refl
progressed_lock b (Some c) = refl

unblocked_plainly : (same : Option ℕ) (o : Option Call) → call_asks_plainly same (after_unblocking o) ≡ call_asks_plainly same o
unblocked_plainly same None = refl
unblocked_plainly same (Some c) = refl

unblocked_lock : (o : Option Call) → call_is_lock (after_unblocking o) ≡ call_is_lock o
unblocked_lock None = refl
unblocked_lock (Some c) = refl

even_unblocked : (p : Option ℕ) (y : Thread) → IsEven p y → IsEven p (record y { call = after_unblocking y.call })
even_unblocked p y f = record {
  low = f.low;
  high = f.high;
  plainly = unblocked_plainly p y.call ∙ f.plainly;
  untimed = λ e. f.untimed (sym (unblocked_lock y.call) ∙ e);
}

StaysEven-kept : (p : Option ℕ) → IsKept (StaysEven p)
StaysEven-kept p = record {
  same = λ w x. x;
  chain = λ w u v a b x. b (a x);
  mutex = λ w m z x. x;
  waiters = λ w ws x. x;
  base = λ w t u b e c x. even_base w u b (sym (ap (call_asks_plainly p) c) ∙ (x t).plainly) x;
  timeout = λ w t. each_thread (IsEven p) w t _ (λ f. record {
    low = f.low;
    high = f.high;
    plainly = f.plainly;
    untimed = f.untimed;
  });
  uses = λ w c. each_used (IsEven p) w c (even_unblocked p);
  progress = λ w t b e. each_thread (IsEven p) w t _ (λ f. record {
    low = f.low;
    high = f.high;
    plainly = progressed_plainly p b (call_of w t) ∙ f.plainly;
    untimed = λ k. f.untimed (sym (progressed_lock b (call_of w t)) ∙ k);
  });
  unblocked = λ w u. each_thread (IsEven p) w u _ (even_unblocked p (thread_at w u));
}
  where
    -- a priority is set, and threads may differ in it
    even_base : (w : World) (u b : ℕ) → not (is_some p) ≡ true → AreEven p w → AreEven p (with_base u b w)
    even_base w u b differ =
        each_thread (IsEven p) w u _ (λ f. record {
          low = λ n is. absurd (true≢false (sym differ ∙ ap (λ (o : Option ℕ). not (is_some o)) is));
          high = λ n is. absurd (true≢false (sym differ ∙ ap (λ (o : Option ℕ). not (is_some o)) is));
          plainly = f.plainly;
          untimed = f.untimed;
        })

pub even_move : (p : Option ℕ) (t : ℕ) (w v : World) → MovesOnce t w v → AreEven p w → AreEven p v
even_move p t w v m x = kept_move (StaysEven p) (StaysEven-kept p) m x

-- ENTRIES

-- a request that asks plainly is begun as it is, but for the deadline of a wait
begun_plainly : (p : Option ℕ) (q : Request) → asks_plainly p q ≡ true → asks_plainly p (plain q) ≡ true
begun_plainly p (TimedWait c m d) e = refl
begun_plainly p (TimedLock m d) e = absurd (true≢false (sym e))
begun_plainly p _ e = e

begun_untimed : (p : Option ℕ) (q : Request) → asks_plainly p q ≡ true → is_lock (plain q) ≡ true → (timer_of q).deadline ≡ None
begun_untimed p (TimedWait c m d) e k = absurd (true≢false (sym k))
begun_untimed p (TimedLock m d) e k = absurd (true≢false (sym e))
begun_untimed p _ e k = refl

pub even_start : (p : Option ℕ) (n : ℕ) → AreEven p (empty_world n)
even_start p n zero = even_nobody
  where
    even_nobody : IsEven p nobody
    even_nobody = record {
      low = λ k is e. absurd (true≢false (sym e));
      high = λ k is. omega arith;
      plainly = refl;
      untimed = λ e. refl;
    }
even_start p n (suc u) = record {
  low = λ k is e. absurd (true≢false (sym e));
  high = λ k is. omega arith;
  plainly = refl;
  untimed = λ e. refl;
}

-- an entry that a line shows which tells of no waiters
pub even_entry : (l : Bounds) (p : Option ℕ) (w : World) (e : Entry) (v : World) (line : Line) → line_of e ≡ Some line
    → tells_of_no_waiters p line ≡ true → Enters l w e v → AreEven p w → AreEven p v
even_entry l p w e v line of none (enters_answered t a same answer) x =
    subst (λ (z : World). AreEven p z) (sym answer.closes)
    (each_thread (IsEven p) w t _
    (λ f. record { low = f.low; high = f.high; plainly = refl; untimed = λ k. absurd (true≢false (sym k)) }) x)
even_entry l p w e v line of none (other no_go no_refusal step) x = by_step step
  where
    told : (f : Entry) (k : Line) → e ≡ f → line_of f ≡ Some k → tells_of_no_waiters p k ≡ true
    told f k same is =
        let here : Some line ≡ Some k = sym of ∙ ap line_of same ∙ is in
        let line_is : line ≡ k = cc in
        subst (λ (z : Line). tells_of_no_waiters p z ≡ true) line_is none

    by_step : Step l w e v → AreEven p v
    by_step (thread_added t b same is_next room low high after) =
        let base : (k : ℕ) → p ≡ Some k → b ≡ k = λ k is.
        eqb-true b k (sym (ap (λ (o : Option ℕ). may_be_base o b) is) ∙ told (entry.Thread t b) _ same refl) in
        subst (λ (z : World). AreEven p z) (sym after)
        (each_added (IsEven p) w b (record {
          low = λ k is _. omega (arith, base k is);
          high = λ k is. omega (arith, base k is);
          plainly = refl;
          untimed = λ k. absurd (true≢false (sym k));
        }) x)
    by_step (mutex_added m k r same is_next room after) = subst (λ (z : World). AreEven p z) (sym after) x
    by_step (cond_added c m same there is_next room after) = subst (λ (z : World). AreEven p z) (sym after) x
    by_step (refused z r same why after) = subst (λ (z : World). AreEven p z) (sym after) x
    by_step (begun t q same allowed after) =
        let plainly : asks_plainly p q ≡ true = told (entry.Step (event.Begin t q) seen.Begun) _ same refl in
        subst (λ (z : World). AreEven p z) (sym after)
        (each_thread (IsEven p) w t _ (λ f. record {
          low = f.low;
          high = f.high;
          plainly = begun_plainly p q plainly;
          untimed = begun_untimed p q plainly;
        }) x)
    by_step (went t same goes runs) = absurd (true≢false (sym (ap once.is_go same) ∙ no_go))
    by_step (waits t u same goes after resting) = absurd (true≢false (sym (ap once.is_go same) ∙ no_go))
    by_step (answered t a q u same goes before after runs) = absurd (true≢false (sym (ap once.is_go same) ∙ no_go))
    by_step (ended t same ends) = absurd (true≢false (sym (told (entry.Step (event.End t) seen.Ended) _ same refl)))
    by_step (ticked n same allowed after) = subst (λ (z : World). AreEven p z) (sym after) x

-- WHAT FOLLOWS

-- whose lock is open is not due
pub untimed_not_due : (p : Option ℕ) (w : World) → AreEven p w → (t m : ℕ) (b : Progress) → HasCome w t (Lock m) b → is_due w t ≡ true → ⊥
untimed_not_due p w x t m b c due =
    let none : (thread_at w t).timer.deadline ≡ None = (x t).untimed (ap call_is_lock c) in
    true≢false (sym due ∙ ap (λ (d : Option ℕ). if is_reached d w.time then is_counting (call_of w t) else false) none)

-- if somebody signals, all threads have the same base priority
pub same_where_signalled : (o : Option ℕ) (w : World) → AreEven o w → (t : ℕ) (q : Request) (b : Progress) → HasCome w t q b → (c : ℕ)
    → q ≡ Signal c → (p : ℕ) × (o ≡ Some p)
same_where_signalled o w x t q b e c is = one_of o refl
  where
    asked : is_some o ≡ true
    asked = sym (ap (call_asks_plainly o) e ∙ ap (asks_plainly o) is) ∙ (x t).plainly

    one_of : (k : Option ℕ) → o ≡ k → (p : ℕ) × (o ≡ Some p)
    one_of None same = absurd (true≢false (sym asked ∙ ap is_some same))
    one_of (Some p) same = (p, same)

-- no effective priority is above that of a thread that lives
pub none_above : (p : ℕ) (v : World) → ((u : ℕ) → (thread_at v u).base ≤ p) → (b u : ℕ) → u < length v.threads
    → p ≤ (thread_at v u).base → effective_of v b ≤ effective_of v u
none_above p v high b u lt low =
    let below : effective_of v b ≤ p =
    effective_most (length v.threads) (waits_for v) (λ (x : ℕ). (thread_at v x).base) b p (λ x l e. high x) in
    let above : (thread_at v u).base ≤ effective_of v u =
    effective_above (length v.threads) (waits_for v) (λ (x : ℕ). (thread_at v x).base) u u lt
    (reaches_here (length v.threads) (waits_for v) u u refl) in
    omega (arith, below, above, low)
