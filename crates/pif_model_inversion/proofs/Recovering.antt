-- A lock of a mutex that nobody owns, made by one thread alone, and what follows until the mutex is free again: over
-- the POSIX machine, and wherever a core stands.
use Rattle.std.proofs.Common.{◌≡◌, ◌≢◌, ◌⊎◌, ◌<◌, ◌≤◌, ℕ, zero, suc, Bool, true, false, List, ◌∷◌, length, None, is_some, refl, sym, ap, ◌∙◌, subst, inl, inr, true≢false}
use Rattle.std.proofs.lemmas.Bool.{cases_Bool, cases_eq, cases_lt}
use Rattle.pif_types.specs.Bounds.{Bounds}
use Rattle.pif_types.specs.declared.errors.Refusal.{Refusal}
use Rattle.pif_types.specs.declared.requests.Request.{Request}
use Rattle.pif_types.specs.declared.requests.Request.TheVariants.{Lock, Unlock, Consistent}
use Rattle.pif_model.specs.declared.events.Event.TheVariants.{Begin, Go}
use Rattle.pif_model.specs.declared.events.Seen.TheVariants.{Begun, Went, Answered, Refused}
use Rattle.pif_model.specs.declared.events.Entry.{Entry}
use Rattle.pif_model.specs.declared.events.Entry.TheVariants.{Step as Happened}
use Rattle.pif_model.specs.Deadlines.{plain}
use Rattle.pif_model.specs.Graph.{has_waiter}
use Rattle.pif_model.specs.Lines.{Outcome, ClosesOrWaits, event_outcome, accepted_outcome, by_refusal, goes_on, is_open, table_refusal}
use Rattle.pif_model.specs.PiKernel.{is_living}
use Rattle.pif_model.specs.Table.{Table, has_mutex, has_cond, has_thread, line_at, library_at, cell_at}
use Rattle.pif_model.specs.Posix.{Mutex, World, IsRun, Step, HasCome, IsFree, IsAllowed, thread_at, mutex_at, is_thread, is_mutex, is_variable, names_known, with_thread, begun_thread}
use Rattle.pif_model.specs.Posix.{is_living as lives}
use Rattle.pif_model.specs.World.Health.{Fine, Inconsistent}
use Rattle.pif_model.specs.World.Progress.{Fresh}
use Rattle.pif_model.specs.Posix.Step.{thread_added, mutex_added, cond_added, refused, begun, went, waits, answered, ended, ticked}
use Rattle.pif_model.specs.Projection.{mutex_shown, health_of}
use Rattle.pif_model.specs.Soundness.{IsShaped, CellIsSound}
use Rattle.pif_model.specs.Word.{Word, free_word, word_at, health_word_at}
use Rattle.pif_model.specs.Refusals.{begin_refused}
use Rattle.pif_model.specs.Standing.{Stands}
use Rattle.pif_model_lemmas.proofs.Numbers.{within, from_within}
use Rattle.pif_model_lemmas.proofs.Waiting.{names, pair-from_named}
use Rattle.pif_model_lemmas.proofs.kernel.Facts.{living-added}
use Rattle.pif_model_simulation.specs.Calls.{call_outcome}
use Rattle.pif_model_simulation.proofs.Bound.{open_ends_within_24}
use Rattle.pif_model_simulation.proofs.CallLemmas.{call_other, goes_on-other, goes_on-went, goes_on-zero, is_went}
use Rattle.pif_model_simulation.proofs.Shown.{busy_seen, is_mutex_seen, lives_seen, mutex_seen, thread_changed}
use Rattle.pif_model_simulation.proofs.StandingLaws.{event_stands}
use Rattle.pif_model_simulation.proofs.runs.Fated.{last_step}
use Rattle.pif_model_simulation.proofs.runs.Holders.{IsHeld-IsRun}
use Rattle.pif_model_simulation.proofs.runs.Worlds.{call_of, begin_allowed}
use Rattle.pif_model_inversion.specs.Recovery.{GoesOnAlone, CallsAlone, RepairedBy, answer_of_free}
use Rattle.pif_model_inversion.specs.Recovery.GoesOnAlone.{starts, steps}
use Rattle.pif_model_inversion.proofs.Alone.{Guides, alone_step}
use Rattle.pif_model_inversion.proofs.RobustOwners.{robust_owners_live}
use Rattle.pif_model_inversion.proofs.OwnCalls.{Stays, LockAt, LockDone, RepairAt, UnlockAt, lock_guided, repair_guided, unlock_guided}

-- OVER THE POSIX MACHINE

-- a begin that was not refused, and the state after it
begin_state : (l : Bounds) (t : ℕ) (q : Request) (w v : World) → Step l w (Happened (Begin t q) Begun) v
    → IsAllowed w (Begin t q) × (v ≡ with_thread t (begun_thread w q (thread_at w t)) w)
begin_state l t q w v (thread_added u p same is_next room low high after) = absurd (cc)
begin_state l t q w v (mutex_added m k b same is_next room after) = absurd (cc)
begin_state l t q w v (cond_added c m same known is_next room after) = absurd (cc)
begin_state l t q w v (refused y r same why after) = absurd (cc)
begin_state l t q w v (begun u p same allowed after) =
    let e : u ≡ t = cc in
    let f : p ≡ q = cc in (
      subst (λ r. IsAllowed w (Begin t r)) f (subst (λ i. IsAllowed w (Begin i p)) e allowed),
      subst (λ r. v ≡ with_thread t (begun_thread w r (thread_at w t)) w) f
          (subst (λ i. v ≡ with_thread i (begun_thread w p (thread_at w i)) w) e after),
    )
begin_state l t q w v (went u same goes runs) = absurd (cc)
begin_state l t q w v (waits u y same goes after resting) = absurd (cc)
begin_state l t q w v (answered u a p y same goes before after runs) = absurd (cc)
begin_state l t q w v (ended u same ends) = absurd (cc)
begin_state l t q w v (ticked n same allowed after) = absurd (cc)

-- who has no call open is not among the waiters
idle_unnamed : (l : Bounds) (h : List Entry) (r : List World) (w : World) → IsRun l h r w → (t : ℕ) → call_of w t ≡ None
    → names t w.waiters ≡ false
idle_unnamed l h r w run t none = go (cases_Bool (names t w.waiters))
  where
    go : (names t w.waiters ≡ true) ⊎ (names t w.waiters ≡ false) → names t w.waiters ≡ false
    go (inl y) =
        let k = pair-from_named w.waiters t y in
        let e = (((IsHeld-IsRun l run).each t).waiting k.0 k.1).call in absurd (let z = sym e ∙ none in cc)
    go (inr n) = n

-- a plain call that t begins, on a mutex that was added
pub record BeginsOn (t m : ℕ) (q : Request) (w v : World) : Type 0 where
  pub some : t ≢ 0
  pub unnamed : names t w.waiters ≡ false
  pub come : HasCome v t (plain q) Fresh
  pub stays : Stays t m w.waiters (mutex_at w m) v

begins_on : (l : Bounds) (h : List Entry) (r : List World) (w : World) → IsRun l h r w → (t m : ℕ) (q : Request) (v : World)
    → ((mutex variable : ℕ → Bool) → names_known mutex variable q ≡ mutex m)
    → Step l w (Happened (Begin t q) Begun) v → BeginsOn t m q w v
begins_on l h r w run t m q v names_m step = record { some = thread.0; unnamed = unnamed; come = come; stays = stays }
  where
    k : IsAllowed w (Begin t q) × (v ≡ with_thread t (begun_thread w q (thread_at w t)) w)
    k = begin_state l t q w v step

    allowed : (is_thread w t ≡ true) × (lives w t ≡ true) × (call_of w t ≡ None) × (names_known (is_mutex w) (is_variable w) q ≡ true)
    allowed = begin_allowed w t q k.0

    thread : (t ≢ 0) × (t < length w.threads)
    thread = within t (length w.threads) allowed.0

    mutex : (m ≢ 0) × (m < length w.mutexes)
    mutex = within m (length w.mutexes) (sym (names_m (is_mutex w) (is_variable w)) ∙ allowed.3)

    unnamed : names t w.waiters ≡ false
    unnamed = idle_unnamed l h r w run t allowed.2

    now : thread_at v t ≡ begun_thread w q (thread_at w t)
    now =
        ap (λ (y : World). thread_at y t) k.1 ∙ thread_changed w t (begun_thread w q (thread_at w t)) thread.1

    come : HasCome v t (plain q) Fresh
    come = λ i. (now i).call

    stays : Stays t m w.waiters (mutex_at w m) v
    stays = record {
      mutex = ap (λ (y : World). mutex_at y m) k.1;
      waiters = ap (λ (y : World). y.waiters) k.1;
      room = subst (λ (y : World). m < length y.mutexes) (sym k.1) mutex.1;
      living = (λ i. (now i).living) ∙ allowed.1;
    }

module _ {t : ℕ} {q : Request} {a : ℕ} {At Done : World → Type 0} (g : Guides t q a At Done) (l : Bounds) where
  at_each : {w v : World} → At w → GoesOnAlone l t w v → At v
  at_each h (starts e) = rw e h
  at_each {w} h (steps {u = u} {v = v} more step) = by_step (alone_step g l u Went v (at_each h more) step)
    where
      by_step : ((r : Refusal) × (Went ≡ Refused r)) ⊎ ((Went ≡ Went) × At v) ⊎ ((Went ≡ Answered a) × Done v × (call_of v t ≡ None))
          → At v
      by_step (inl k) = let z = k.1 in absurd (cc)
      by_step (inr (inl k)) = k.1
      by_step (inr (inr k)) = let z = k.0 in absurd (cc)

  -- if it is answered, it is that
  answered_alone : {first last : World} (x : ℕ) (v : World) → At first → GoesOnAlone l t first last
      → Step l last (Happened (Go t) (Answered x)) v → (x ≡ a) × Done v
  answered_alone {first} {last} x v h goes step = by_step (alone_step g l last (Answered x) v (at_each h goes) step)
    where
      by_step : ((r : Refusal) × (Answered x ≡ Refused r)) ⊎ ((Answered x ≡ Went) × At v)
          ⊎ ((Answered x ≡ Answered a) × Done v × (call_of v t ≡ None)) → (x ≡ a) × Done v
      by_step (inl k) = let z = k.1 in absurd (cc)
      by_step (inr (inl k)) = let z = k.0 in absurd (cc)
      by_step (inr (inr k)) = let z = k.0 in (cc, k.1)

module _ (l : Bounds) (h : List Entry) (r : List World) (w : World) (run : IsRun l h r w) where
  pub lock_answered : (t m : ℕ) → (mutex_at w m).robust ≡ true → lives w (mutex_at w m).owner ≡ false → (a : ℕ) (v : World)
      → CallsAlone l t (Lock m) w (Answered a) v → a ≡ answer_of_free (mutex_at w m).health
  lock_answered t m robust dead a v c = by_owner (cases_eq (mutex_at w m).owner 0)
    where
      by_owner : (IsFree w m) ⊎ (IsFree w m → ⊥) → a ≡ answer_of_free (mutex_at w m).health
      by_owner (inl free) =
          let b = begins_on l h r w run t m (Lock m) c.first (λ f g. refl) c.begins in
          (answered_alone (lock_guided t m (mutex_at w m) w.waiters b.unnamed free b.some) l a v
          (LockAt.fresh b.come b.stays) c.goes c.ends).0
      by_owner (inr some) = absurd (true≢false (sym (robust_owners_live l h r w run m robust some) ∙ dead))

  pub repair_answered : (t m : ℕ) → (mutex_at w m).owner ≡ t → (mutex_at w m).robust ≡ true → (mutex_at w m).health ≡ Inconsistent
      → (a : ℕ) (v : World) → CallsAlone l t (Consistent m) w (Answered a) v
      → (a ≡ 0) × (mutex_at v m ≡ record (mutex_at w m) { health = Fine })
  repair_answered t m own robust bad a v c =
      let b = begins_on l h r w run t m (Consistent m) c.first (λ f g. refl) c.begins in
      let k = answered_alone (repair_guided t m (mutex_at w m) w.waiters b.unnamed own robust bad) l a v
      (RepairAt.fresh b.come b.stays) c.goes c.ends in
      (k.0, k.1.mutex)

  pub unlock_answered : (t m : ℕ) → (mutex_at w m).owner ≡ t → (mutex_at w m).count ≡ 1 → (mutex_at w m).health ≡ Fine
      → has_waiter w.waiters m ≡ false → (a : ℕ) (v : World) → CallsAlone l t (Unlock m) w (Answered a) v
      → (a ≡ 0) × (mutex_at v m ≡ record (mutex_at w m) { owner = 0; count = 1 })
  unlock_answered t m own once fine unwanted a v c =
      let b = begins_on l h r w run t m (Unlock m) c.first (λ f g. refl) c.begins in
      let k = answered_alone (unlock_guided t m (mutex_at w m) w.waiters b.unnamed own once fine unwanted) l a v
      (UnlockAt.fresh b.come b.stays) c.goes c.ends in
      (k.0, k.1.mutex)

-- WHEREVER A CORE STANDS

-- a core stands in a state in which this holds, and t has no call open
pub record StandsWith (Done : World → Type 0) (t : ℕ) (s : Table) : Type 0 where
  pub history : List Entry
  pub states : List World
  pub last : World
  pub stands : Stands s history states last
  pub done : Done last
  pub idle : call_of last t ≡ None

module _ {t : ℕ} {q : Request} {a : ℕ} {At Done : World → Type 0} (g : Guides t q a At Done) where
  -- one step
  core_step : (s : Table) (h : List Entry) (r : List World) (w : World) (stands : Stands s h r w) → At w
      → ((e : Refusal) × ((event_outcome (Go t) s).seen ≡ Refused e))
      ⊎ (((event_outcome (Go t) s).seen ≡ Went) × At (event_stands s (Go t) h r w stands).0)
      ⊎ (((event_outcome (Go t) s).seen ≡ Answered a) × StandsWith Done t (event_outcome (Go t) s).after)
  core_step s h r w stands at = by_step (alone_step g (event_outcome (Go t) s).after.limits w (event_outcome (Go t) s).seen k.0 at
      (last_step (event_outcome (Go t) s).after.limits h r (Happened (Go t) (event_outcome (Go t) s).seen) w k.0 k.1.run).1)
    where
      k : (v : World) × Stands (event_outcome (Go t) s).after (Happened (Go t) (event_outcome (Go t) s).seen ∷ h) (w ∷ r) v
      k = event_stands s (Go t) h r w stands

      by_step : ((e : Refusal) × ((event_outcome (Go t) s).seen ≡ Refused e))
          ⊎ (((event_outcome (Go t) s).seen ≡ Went) × At k.0)
          ⊎ (((event_outcome (Go t) s).seen ≡ Answered a) × Done k.0 × (call_of k.0 t ≡ None))
          → ((e : Refusal) × ((event_outcome (Go t) s).seen ≡ Refused e))
          ⊎ (((event_outcome (Go t) s).seen ≡ Went) × At k.0)
          ⊎ (((event_outcome (Go t) s).seen ≡ Answered a) × StandsWith Done t (event_outcome (Go t) s).after)
      by_step (inl y) = inl y
      by_step (inr (inl y)) = inr (inl y)
      by_step (inr (inr y)) =
          inr (inr (y.0, record { history = _; states = _; last = k.0; stands = k.1; done = y.1; idle = y.2 }))

  -- a step after which the call is answered, or waits, is answered with that result
  core_last : (s : Table) (h : List Entry) (r : List World) (w : World) → Stands s h r w → At w
      → ClosesOrWaits (event_outcome (Go t) s).seen
      → ((event_outcome (Go t) s).seen ≡ Answered a) × StandsWith Done t (event_outcome (Go t) s).after
  core_last s h r w stands at closes = by_step (core_step s h r w stands at) closes
    where
      by_step : ((e : Refusal) × ((event_outcome (Go t) s).seen ≡ Refused e))
          ⊎ (((event_outcome (Go t) s).seen ≡ Went) × At (event_stands s (Go t) h r w stands).0)
          ⊎ (((event_outcome (Go t) s).seen ≡ Answered a) × StandsWith Done t (event_outcome (Go t) s).after)
          → ClosesOrWaits (event_outcome (Go t) s).seen
          → ((event_outcome (Go t) s).seen ≡ Answered a) × StandsWith Done t (event_outcome (Go t) s).after
      by_step (inl y) (inl e) = absurd (let z = sym y.1 ∙ e in cc)
      by_step (inl y) (inr e) = absurd (let z = sym y.1 ∙ e.1 in cc)
      by_step (inr (inl y)) (inl e) = absurd (let z = sym y.0 ∙ e in cc)
      by_step (inr (inl y)) (inr e) = absurd (let z = sym y.0 ∙ e.1 in cc)
      by_step (inr (inr y)) e = y

  -- an outcome under another name
  known_as : (o p : Outcome) → o ≡ p → ClosesOrWaits o.seen
      → (ClosesOrWaits p.seen → (p.seen ≡ Answered a) × StandsWith Done t p.after) → (o.seen ≡ Answered a) × StandsWith Done t o.after
  known_as o p e closes f =
      subst (λ (y : Outcome). (y.seen ≡ Answered a) × StandsWith Done t y.after) (sym e)
      (f (subst (λ (y : Outcome). ClosesOrWaits y.seen) e closes))

  -- going on, if that ends the call or waits
  core_goes : (n : ℕ) (s : Table) (h : List Entry) (r : List World) (w : World) → Stands s h r w → At w
      → ClosesOrWaits (goes_on n t s).seen → ((goes_on n t s).seen ≡ Answered a) × StandsWith Done t (goes_on n t s).after
  core_goes zero s h r w stands at closes =
      known_as (goes_on 0 t s) (event_outcome (Go t) s) (goes_on-zero t s) closes (core_last s h r w stands at)
  core_goes (suc n) s h r w stands at closes = by_first
      (λ k states v on there. core_goes n (event_outcome (Go t) s).after k states v on there) (is_went (event_outcome (Go t) s).seen)
    where
      by_first : ((k : List Entry) (states : List World) (v : World) → Stands (event_outcome (Go t) s).after k states v → At v
          → ClosesOrWaits (goes_on n t (event_outcome (Go t) s).after).seen
          → ((goes_on n t (event_outcome (Go t) s).after).seen ≡ Answered a) × StandsWith Done t (goes_on n t (event_outcome (Go t) s).after).after)
          → ((event_outcome (Go t) s).seen ≡ Went) ⊎ ((event_outcome (Go t) s).seen ≡ Went → ⊥)
          → ((goes_on (suc n) t s).seen ≡ Answered a) × StandsWith Done t (goes_on (suc n) t s).after
      by_first rest (inl e) = by_step (core_step s h r w stands at)
        where
          k : (v : World) × Stands (event_outcome (Go t) s).after (Happened (Go t) (event_outcome (Go t) s).seen ∷ h) (w ∷ r) v
          k = event_stands s (Go t) h r w stands

          by_step : ((y : Refusal) × ((event_outcome (Go t) s).seen ≡ Refused y))
              ⊎ (((event_outcome (Go t) s).seen ≡ Went) × At k.0)
              ⊎ (((event_outcome (Go t) s).seen ≡ Answered a) × StandsWith Done t (event_outcome (Go t) s).after)
              → ((goes_on (suc n) t s).seen ≡ Answered a) × StandsWith Done t (goes_on (suc n) t s).after
          by_step (inl y) = absurd (let z = sym y.1 ∙ e in cc)
          by_step (inr (inl y)) =
              known_as (goes_on (suc n) t s) (goes_on n t (event_outcome (Go t) s).after) (goes_on-went n t s e) closes
              (rest _ _ k.0 k.1 y.1)
          by_step (inr (inr y)) = absurd (let z = sym y.0 ∙ e in cc)
      by_first rest (inr d) =
          known_as (goes_on (suc n) t s) (event_outcome (Go t) s) (goes_on-other (suc n) t s d) closes (core_last s h r w stands at)

-- a plain call on m that t begins, and that is not refused: it goes on from a state in which the core stands
record BeginsAt (t m : ℕ) (q : Request) (s : Table) (w : World) : Type 0 where
  history : List Entry
  states : List World
  first : World
  stands : Stands (event_outcome (Begin t q) s).after history states first
  begins : BeginsOn t m q w first
  same : call_outcome t q s ≡ goes_on 23 t (event_outcome (Begin t q) s).after
  closes : ClosesOrWaits (goes_on 23 t (event_outcome (Begin t q) s).after).seen

core_begins : (s : Table) (h : List Entry) (r : List World) (w : World) → Stands s h r w → (t m : ℕ) (q : Request)
    → ((mutex variable : ℕ → Bool) → names_known mutex variable q ≡ mutex m) → is_living s.kernel t ≡ true
    → is_open (line_at s t) ≡ false → has_mutex s m ≡ true → BeginsAt t m q s w
unfolding event_outcome accepted_outcome
core_begins s h r w stands t m q names_m living idle known = record {
  history = _;
  states = _;
  first = k.0;
  stands = k.1;
  begins = begins;
  same = call_other t q s (λ e y. let z = sym y ∙ seen in absurd (cc));
  closes = open_ends_within_24 t after lives_after open_after;
}
  where
    after : Table
    after = (event_outcome (Begin t q) s).after

    k : (v : World) × Stands after (Happened (Begin t q) (event_outcome (Begin t q) s).seen ∷ h) (w ∷ r) v
    k = event_stands s (Begin t q) h r w stands

    none : table_refusal s (Begin t q) ≡ None
    none = λ i. begin_refused (living-added s.kernel t living i) (living i) (idle i)
        ((names_m (has_mutex s) (has_cond s) ∙ known) i)

    seen : (event_outcome (Begin t q) s).seen ≡ Begun
    seen = ap (λ o. (by_refusal o (Begin t q) s).seen) none

    last : IsRun after.limits h r w × Step after.limits w (Happened (Begin t q) (event_outcome (Begin t q) s).seen) k.0
    last = last_step after.limits h r (Happened (Begin t q) (event_outcome (Begin t q) s).seen) w k.0 k.1.run

    begins : BeginsOn t m q w k.0
    begins =
        begins_on after.limits h r w last.0 t m q k.0 names_m
        (subst (λ x. Step after.limits w (Happened (Begin t q) x) k.0) seen last.1)

    lives_after : is_living after.kernel t ≡ true
    lives_after =
        sym (lives_seen k.1.sound.all.shape k.1.history_variables t) ∙ ap (λ (y : World). lives y t) (sym k.1.shows) ∙ begins.stays.living

    open_after : is_open (line_at after t) ≡ true
    open_after =
        sym (busy_seen k.1.sound.all.shape k.1.history_variables t)
        ∙ ap (λ (y : World). is_some (call_of y t)) (sym k.1.shows) ∙ ap is_some begins.come

-- a lock of a mutex that nobody owns
pub core_free_lock : (s : Table) (h : List Entry) (r : List World) (w : World) → Stands s h r w → (t m : ℕ)
    → is_living s.kernel t ≡ true → is_open (line_at s t) ≡ false → has_mutex s m ≡ true → IsFree w m
    → ((call_outcome t (Lock m) s).seen ≡ Answered (answer_of_free (mutex_at w m).health))
    × StandsWith (LockDone t m (mutex_at w m) w.waiters) t (call_outcome t (Lock m) s).after
core_free_lock s h r w stands t m living idle known free =
    let b = core_begins s h r w stands t m (Lock m) (λ f g. refl) living idle known in
    let g = lock_guided t m (mutex_at w m) w.waiters b.begins.unnamed free b.begins.some in
    subst (λ (o : Outcome). (o.seen ≡ Answered (answer_of_free (mutex_at w m).health)) × StandsWith (LockDone t m (mutex_at w m) w.waiters) t o.after)
    (sym b.same)
    (core_goes g 23 (event_outcome (Begin t (Lock m)) s).after b.history b.states b.first b.stands
    (LockAt.fresh b.begins.come b.begins.stays) b.closes)

-- a consistent by the owner of an inconsistent one
core_repair : (s : Table) (h : List Entry) (r : List World) (w : World) → Stands s h r w → (t m : ℕ)
    → is_living s.kernel t ≡ true → is_open (line_at s t) ≡ false → has_mutex s m ≡ true
    → (mutex_at w m).owner ≡ t → (mutex_at w m).robust ≡ true → (mutex_at w m).health ≡ Inconsistent
    → ((call_outcome t (Consistent m) s).seen ≡ Answered 0)
    × StandsWith (Stays t m w.waiters (record (mutex_at w m) { health = Fine })) t (call_outcome t (Consistent m) s).after
core_repair s h r w stands t m living idle known own robust bad =
    let b = core_begins s h r w stands t m (Consistent m) (λ f g. refl) living idle known in
    let g = repair_guided t m (mutex_at w m) w.waiters b.begins.unnamed own robust bad in
    subst (λ (o : Outcome). (o.seen ≡ Answered 0) × StandsWith (Stays t m w.waiters (record (mutex_at w m) { health = Fine })) t o.after)
    (sym b.same)
    (core_goes g 23 (event_outcome (Begin t (Consistent m)) s).after b.history b.states b.first b.stands
    (RepairAt.fresh b.begins.come b.begins.stays) b.closes)

-- an unlock by the owner of a fine one, for which nobody waits
core_unlock : (s : Table) (h : List Entry) (r : List World) (w : World) → Stands s h r w → (t m : ℕ)
    → is_living s.kernel t ≡ true → is_open (line_at s t) ≡ false → has_mutex s m ≡ true
    → (mutex_at w m).owner ≡ t → (mutex_at w m).count ≡ 1 → (mutex_at w m).health ≡ Fine → has_waiter w.waiters m ≡ false
    → ((call_outcome t (Unlock m) s).seen ≡ Answered 0)
    × StandsWith (Stays t m w.waiters (record (mutex_at w m) { owner = 0; count = 1 })) t (call_outcome t (Unlock m) s).after
core_unlock s h r w stands t m living idle known own once fine unwanted =
    let b = core_begins s h r w stands t m (Unlock m) (λ f g. refl) living idle known in
    let g = unlock_guided t m (mutex_at w m) w.waiters b.begins.unnamed own once fine unwanted in
    subst (λ (o : Outcome). (o.seen ≡ Answered 0) × StandsWith (Stays t m w.waiters (record (mutex_at w m) { owner = 0; count = 1 })) t o.after)
    (sym b.same)
    (core_goes g 23 (event_outcome (Begin t (Unlock m)) s).after b.history b.states b.first b.stands
    (UnlockAt.fresh b.begins.come b.begins.stays) b.closes)

-- t, which lives in the state in which a core stands, and has no call open there, does so in its table
module _ {t m : ℕ} {ws : List (ℕ × ℕ)} {x : Mutex} {s : Table} (on : StandsWith (Stays t m ws x) t s) (some : m ≢ 0) where
  shape : IsShaped s
  shape = on.stands.sound.all.shape

  living_on : is_living s.kernel t ≡ true
  living_on =
      sym (lives_seen shape on.stands.history_variables t) ∙ ap (λ (y : World). lives y t) (sym on.stands.shows) ∙ on.done.living

  idle_on : is_open (line_at s t) ≡ false
  idle_on =
      sym (busy_seen shape on.stands.history_variables t)
      ∙ ap (λ (y : World). is_some (call_of y t)) (sym on.stands.shows) ∙ ap is_some on.idle

  known_on : has_mutex s m ≡ true
  known_on =
      sym (is_mutex_seen shape on.stands.history_variables m) ∙ ap (λ (y : World). is_mutex y m) (sym on.stands.shows)
      ∙ from_within m (length on.last.mutexes) some on.done.room

-- what a table shows of a mutex that isn't fine: it was added, and is robust
module _ (s : Table) (h : List Entry) (r : List World) (w : World) (stands : Stands s h r w) (m : ℕ) where
  shown : mutex_at w m ≡ mutex_shown s m
  shown = ap (λ (y : World). mutex_at y m) stands.shows ∙ mutex_seen stands.sound.all.shape stands.history_variables m

  fine_shown : word_at s.words m ≡ free_word → health_word_at s.words m ≡ 0 → (mutex_at w m).health ≡ Fine
  fine_shown e f = ap (λ (y : Mutex). y.health) shown ∙ ap (λ n. health_of n (word_at s.words m).died) f
      ∙ ap (λ (y : Word). health_of 0 y.died) e

  pub bad_is_added : (mutex_at w m).health ≢ Fine → has_mutex s m ≡ true
  bad_is_added bad = go (cases_eq m 0) (cases_lt m (length s.mutexes))
    where
      k : IsShaped s
      k = stands.sound.all.shape

      go : (m ≡ 0) ⊎ (m ≡ 0 → ⊥) → (m < length s.mutexes) ⊎ (length s.mutexes ≤ m) → has_mutex s m ≡ true
      go (inl e) l = absurd (bad (fine_shown (ap (word_at s.words) e ∙ k.no_word) (ap (health_word_at s.words) e ∙ k.no_health)))
      go (inr some) (inl l) = from_within m (length s.mutexes) some l
      go (inr some) (inr l) = absurd (bad (fine_shown (k.unmade m l).0 (k.unmade m l).1))

  cell : (mutex_at w m).health ≢ Fine → CellIsSound (has_thread s) (has_waiter s.kernel.waiters m) (cell_at s m)
  cell bad = stands.sound.all.mutexes m (bad_is_added bad)

  pub bad_is_robust : (mutex_at w m).health ≢ Fine → (mutex_at w m).robust ≡ true
  bad_is_robust bad = go (cases_Bool (library_at s m).robust)
    where
      go : ((library_at s m).robust ≡ true) ⊎ ((library_at s m).robust ≡ false) → (mutex_at w m).robust ≡ true
      go (inl y) = ap (λ (x : Mutex). x.robust) shown ∙ y
      go (inr n) =
          let k = (cell bad).stalled n in
          absurd (bad (ap (λ (y : Mutex). y.health) shown ∙ ap (λ d. health_of (health_word_at s.words m) d) k.0 ∙ ap (λ n. health_of n false) k.1))

  -- if no living thread owns it, nobody does
  pub bad_is_free : (mutex_at w m).health ≢ Fine → lives w (mutex_at w m).owner ≡ false → IsFree w m
  bad_is_free bad dead = go (cases_eq (word_at s.words m).number 0)
    where
      go : ((word_at s.words m).number ≡ 0) ⊎ ((word_at s.words m).number ≡ 0 → ⊥) → IsFree w m
      go (inl e) = ap (λ (y : Mutex). y.owner) shown ∙ e
      go (inr some) =
          absurd (true≢false (sym (stands.sound.all.alive m (bad_is_added bad) (sym (ap (λ (x : Mutex). x.robust) shown) ∙ bad_is_robust bad) some (λ z. z))
          ∙ sym (lives_seen stands.sound.all.shape stands.history_variables (word_at s.words m).number)
          ∙ ap (λ (y : World). lives y (word_at s.words m).number) (sym stands.shows)
          ∙ ap (lives w) (sym (ap (λ (y : Mutex). y.owner) shown)) ∙ dead))

  -- and nobody waits for it
  pub free_is_unwanted : (mutex_at w m).health ≢ Fine → IsFree w m → has_waiter w.waiters m ≡ false
  free_is_unwanted bad free =
      ap (λ (y : World). has_waiter y.waiters m) stands.shows ∙ (cell bad).free (sym (ap (λ (y : Mutex). y.owner) shown) ∙ free)

-- THE LAWS

-- a lock of a mutex that isn't fine, and that no living thread owns
pub lock_is_told : (s : Table) (h : List Entry) (r : List World) (w : World) → Stands s h r w → (t m : ℕ)
    → (mutex_at w m).health ≢ Fine → lives w (mutex_at w m).owner ≡ false
    → is_living s.kernel t ≡ true → is_open (line_at s t) ≡ false
    → (call_outcome t (Lock m) s).seen ≡ Answered (answer_of_free (mutex_at w m).health)
lock_is_told s h r w stands t m bad dead living idle =
    (core_free_lock s h r w stands t m living idle (bad_is_added s h r w stands m bad) (bad_is_free s h r w stands m bad dead)).0

-- and what follows, if it is inconsistent and its new owner repairs it
pub lock_is_repaired : (s : Table) (h : List Entry) (r : List World) (w : World) → Stands s h r w → (t m : ℕ)
    → (mutex_at w m).health ≡ Inconsistent → lives w (mutex_at w m).owner ≡ false
    → is_living s.kernel t ≡ true → is_open (line_at s t) ≡ false → RepairedBy t m (call_outcome t (Lock m) s).after
lock_is_repaired s h r w stands t m bad dead living idle = record {
  made_fine = second.0;
  given_up = third.0;
  taken_again = λ u lives_then idle_then.
      subst (λ x. (call_outcome u (Lock m) (call_outcome t (Unlock m) (call_outcome t (Consistent m) (call_outcome t (Lock m) s).after).after).after).seen ≡ Answered x)
      (ap (λ (y : Mutex). answer_of_free y.health) third.1.done.mutex)
      (core_free_lock _ third.1.history third.1.states third.1.last third.1.stands u m lives_then idle_then (known_on third.1 some)
      (ap (λ (y : Mutex). y.owner) third.1.done.mutex)).0;
}
  where
    x : Mutex
    x = mutex_at w m

    is_bad : x.health ≢ Fine
    is_bad e = let z = sym bad ∙ e in absurd (cc)

    free : IsFree w m
    free = bad_is_free s h r w stands m is_bad dead

    known : has_mutex s m ≡ true
    known = bad_is_added s h r w stands m is_bad

    some : m ≢ 0
    some = (within m (length s.mutexes) known).0

    -- t owns m, for which nobody waits
    first : StandsWith (Stays t m w.waiters (record x { owner = t; count = 1 })) t (call_outcome t (Lock m) s).after
    first =
        let k = (core_free_lock s h r w stands t m living idle known free).1 in
        record {
          history = k.history;
          states = k.states;
          last = k.last;
          stands = k.stands;
          done = k.done (λ e. let z = sym bad ∙ e in absurd (cc));
          idle = k.idle;
        }

    second : ((call_outcome t (Consistent m) (call_outcome t (Lock m) s).after).seen ≡ Answered 0)
        × StandsWith (Stays t m w.waiters (record x { owner = t; count = 1; health = Fine })) t
        (call_outcome t (Consistent m) (call_outcome t (Lock m) s).after).after
    second =
        let k = core_repair (call_outcome t (Lock m) s).after first.history first.states first.last first.stands t m
        (living_on first some) (idle_on first some) (known_on first some) (ap (λ (y : Mutex). y.owner) first.done.mutex)
        (ap (λ (y : Mutex). y.robust) first.done.mutex ∙ bad_is_robust s h r w stands m is_bad)
        (ap (λ (y : Mutex). y.health) first.done.mutex ∙ bad) in (
          k.0,
          record {
            history = k.1.history;
            states = k.1.states;
            last = k.1.last;
            stands = k.1.stands;
            done = subst (λ (y : Mutex). Stays t m w.waiters (record y { health = Fine }) k.1.last) first.done.mutex
                (subst (λ ws. Stays t m ws (record (mutex_at first.last m) { health = Fine }) k.1.last) first.done.waiters k.1.done);
            idle = k.1.idle;
          },
        )

    third : ((call_outcome t (Unlock m) (call_outcome t (Consistent m) (call_outcome t (Lock m) s).after).after).seen ≡ Answered 0)
        × StandsWith (Stays t m w.waiters (record x { owner = 0; count = 1; health = Fine })) t
        (call_outcome t (Unlock m) (call_outcome t (Consistent m) (call_outcome t (Lock m) s).after).after).after
    third =
        let k = core_unlock (call_outcome t (Consistent m) (call_outcome t (Lock m) s).after).after second.1.history second.1.states second.1.last second.1.stands t m
        (living_on second.1 some) (idle_on second.1 some) (known_on second.1 some)
        (ap (λ (y : Mutex). y.owner) second.1.done.mutex) (ap (λ (y : Mutex). y.count) second.1.done.mutex)
        (ap (λ (y : Mutex). y.health) second.1.done.mutex)
        (ap (λ ws. has_waiter ws m) second.1.done.waiters ∙ free_is_unwanted s h r w stands m is_bad free) in (
          k.0,
          record {
            history = k.1.history;
            states = k.1.states;
            last = k.1.last;
            stands = k.1.stands;
            done = subst (λ (y : Mutex). Stays t m w.waiters (record y { owner = 0; count = 1 }) k.1.last) second.1.done.mutex
                (subst (λ ws. Stays t m ws (record (mutex_at second.1.last m) { owner = 0; count = 1 }) k.1.last) second.1.done.waiters k.1.done);
            idle = k.1.idle;
          },
        )
