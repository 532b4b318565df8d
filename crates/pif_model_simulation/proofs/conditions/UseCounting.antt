-- A signal or a broadcast uses its variable: each wait that was blocked and not parked is unblocked. The step is an
-- entry of the POSIX machine and keeps the invariant.
use Rattle.std.proofs.Common.{◌≡◌, ◌≢◌, ◌⊎◌, inl, inr, ℕ, ◌+◌, ◌<◌, ◌≤◌, Bool, true, false, ◌==◌, length, get_or, Option, Some, None, refl, sym, ap, ◌∙◌, subst, arith, if◌then◌else◌, eq-eqb, ne_eqb, eqb-true}
use Rattle.std.proofs.lemmas.Bool.{cases_eq, true≢false}
use Rattle.std.proofs.lemmas.List.{length-set, length-map, get_or-set_same, get_or-set_other, ext_get_or}
use Rattle.std.proofs.Math.ListN.{get_or-map}
use Rattle.pif_types.specs.declared.requests.Request.{Request}
use Rattle.pif_types.specs.declared.requests.Request.TheVariants.{Wait}
use Rattle.pif_model.specs.declared.lines.Line.{Line}
use Rattle.pif_model.specs.declared.lines.Line.TheVariants.{Idle, At}
use Rattle.pif_model.specs.declared.lines.Place.{Place}
use Rattle.pif_model.specs.declared.lines.Place.TheVariants.{Exchange, CallKernel, StayQueued, Stop, Take, Give, Park, StayParked, Wake}
use Rattle.pif_model.specs.declared.lines.TakeStep.{TakeStep}
use Rattle.pif_model.specs.declared.lines.TakeStep.TheVariants.{LoadWord, LoadHealth, StoreInconsistent, ClearDied}
use Rattle.pif_model.specs.declared.lines.Purpose.TheVariants.{ToUnlock, ToPark, ToLeave}
use Rattle.pif_model.specs.declared.lines.WakeStep.{WakeStep}
use Rattle.pif_model.specs.declared.lines.WakeStep.TheVariants.{ReadUses, CountUse, Requeue, ReadAgain}
use Rattle.pif_model.specs.declared.lines.Status.{Status}
use Rattle.pif_model.specs.declared.lines.Status.TheVariants.{Ready, Queued, Parked, Stopped, Ended}
use Rattle.pif_model.specs.declared.lines.Woken.TheVariants.{Fresh as WokenFresh, Owns as WokenOwns, Again as WokenAgain, Expired as WokenExpired}
use Rattle.pif_model.specs.Word.{word_at, health_word_at}
use Rattle.pif_model.specs.Posix.{Health, Progress, Call, Thread, Variable, World, Effect, nobody, no_variable, thread_at, variable_at, with_progress, at_progress, is_blocked, is_idle, is_newly_blocked, is_call_blocked, after_unblocking, on_unblocking, on_taking, on_release, after_use, used, is_use, named_by, variable_of}
use Rattle.pif_model.specs.World.Progress.{Enlisted, Used}
use Rattle.pif_model.specs.Posix.Effect.{use_variable}
use Rattle.pif_model.specs.Posix.Uses.{counts}
use Rattle.pif_model.specs.Posix.Effects.{none, then as first}
use Rattle.pif_model.specs.PiKernel.{is_parked, is_living}
use Rattle.pif_model.specs.Table.{Table, Cell, cell_at, has_mutex, has_cond, uses_of, status_at, line_at, with_line, with_cond_word}
use Rattle.pif_model.specs.Lines.{goes_to, use_read, use_exchange}
use Rattle.pif_model.specs.Projection.{HistoryVariables, before_lock, progress_taking, progress_waking, progress_at, call_at, call_shown, health_at, thread_shown, variable_shown, world_of, chooses_on, may_enlist}
use Rattle.pif_model.specs.Soundness.{Use, use_at, MeetsAll, needs, mutex_by, is_unsettled, LineIsSound, ListIsSound, IsShaped, IsSound}
use Rattle.pif_model_lemmas.proofs.Waiting.{by_test}
use Rattle.pif_model_lemmas.proofs.Numbers.{above_0, below}
use Rattle.pif_model_simulation.proofs.Facts.{fact, is_used_need}
use Rattle.pif_model_simulation.proofs.Kept.{unwritten, same_conds}
use Rattle.pif_model_simulation.proofs.WeakenedInvariant.{Changes, change_kept, exempt_one, admit_last, each_thread, each_absent}
use Rattle.pif_model_simulation.proofs.Shown.{threads_shown, variables_shown, thread_seen, variable_seen, same_world}
use Rattle.pif_model_simulation.proofs.Agreement.{Frames, AllParked, WasBlockedIn, taking_unblocked, quiet}
use Rattle.pif_model_simulation.proofs.Local.{ready-not_queued, ready-not_parked}
use Rattle.pif_model_simulation.proofs.Steps.{GoKeeps, Going, going_named, going_called, going_lined, goes_with, going_limited, going_ready}
use Rattle.pif_model_simulation.proofs.conditions.UseLines.{use_known, use_belongs, use_list, use_order, use_read_kept}

-- ONE CALL

-- a call once c is used
abbrev after_use_of : ℕ → Option Call → Option Call
after_use_of c x = if is_newly_blocked c x then after_unblocking x else x

-- a thread once c is used has that call, and all else as before
after_use-thread : (c : ℕ) (x : Thread) → after_use c x ≡ record x { call = after_use_of c x.call }
after_use-thread c x = by_test (λ b. (if b then record x { call = after_unblocking x.call } else x)
    ≡ record x { call = if b then after_unblocking x.call else x.call }) (is_newly_blocked c x.call) (λ _. refl) (λ _. refl)

-- the call of a request that has come so far
abbrev call_of : Request → Progress → Option Call
call_of q p = Some (record { request = q; progress = p })

-- neither way
either : (b : Bool) → (if b then false else false) ≡ false
either true = refl
either false = refl

-- who is not blocked stays as it is
stays : (c : ℕ) (q : Request) (p : Progress) → is_blocked p ≡ false → after_use_of c (call_of q p) ≡ call_of q p
stays c q p e = ap (λ b. if b then after_unblocking (call_of q p) else call_of q p)
    (ap (λ b. if is_idle p then false else (if b then variable_of q == c else false)) e ∙ either (is_idle p))

-- and so does a call that names another variable
elsewhere : (c : ℕ) (q : Request) (p : Progress) → (variable_of q == c) ≡ false
    → after_use_of c (call_of q p) ≡ call_of q p
elsewhere c q p e = ap (λ b. if b then after_unblocking (call_of q p) else call_of q p)
    (ap (λ b. if is_idle p then false else (if is_blocked p then b else false)) e
    ∙ ap (λ b. if is_idle p then false else b) (either (is_blocked p)) ∙ either (is_idle p))

-- what was read is not what the word is then
past_read : (v n : ℕ) → v ≤ n → (v == n + 1) ≡ false
past_read v n l = ne_eqb v (n + 1) (λ e. absurd (omega arith))

-- a call that is to lock is not blocked
locking_unblocked : (q : Request) → is_blocked (before_lock q) ≡ false
locking_unblocked (Wait c m) = refl
locking_unblocked _ = refl

-- nor one that takes over
step_unblocked : (y : TakeStep) (h : Health) → is_blocked (progress_taking y h) ≡ false
step_unblocked LoadWord h = taking_unblocked h
step_unblocked (LoadHealth d) h = taking_unblocked h
step_unblocked StoreInconsistent h = refl
step_unblocked ClearDied h = refl

-- nor one that wakes others
waking_unblocked : (y : WakeStep) → is_blocked (progress_waking y) ≡ false
waking_unblocked ReadUses = refl
waking_unblocked (CountUse v) = refl
waking_unblocked (Requeue v) = refl
waking_unblocked ReadAgain = refl

module _ (c : ℕ) (q : Request) (here : (variable_of q == c) ≡ true) where
  -- who owns the mutex still, and is blocked if this was read, is not blocked then
  enlisted : (v n : ℕ) → v ≤ n → call_of q (Enlisted (v == n + 1)) ≡ after_use_of c (call_of q (Enlisted (v == n)))
  enlisted v n l = ap (λ b. call_of q (Enlisted b)) (past_read v n l) ∙ sym (go (v == n))
    where
      go : (b : Bool) → after_use_of c (call_of q (Enlisted b)) ≡ call_of q (Enlisted false)
      go true = ap (λ b. if b then call_of q (Enlisted false) else call_of q (Enlisted true)) here
      go false = refl

  -- nor who has given it up
  released : (v n : ℕ) → v ≤ n → call_of q (on_release (v == n + 1)) ≡ after_use_of c (call_of q (on_release (v == n)))
  released v n l = ap (λ b. call_of q (on_release b)) (past_read v n l) ∙ sym (go (v == n))
    where
      go : (b : Bool) → after_use_of c (call_of q (on_release b)) ≡ call_of q (on_release false)
      go true = ap (λ b. if b then call_of q (on_release false) else call_of q (on_release true)) here
      go false = refl

  -- a call at any place is unblocked if its variable is used once more
  place_used : (l : ℕ → Bool) (t : ℕ) (x : Status) (d : Cell) (z : Use) (p : Place) (h : Health)
      → MeetsAll l t x d z (needs p)
      → call_of q (progress_at q p x h (z.uses + 1)) ≡ after_use_of c (call_of q (progress_at q p x h z.uses))
  place_used l t x d z Exchange h k = sym (stays c q (before_lock q) (locking_unblocked q))
  place_used l t x d z CallKernel h k = sym (stays c q (before_lock q) (locking_unblocked q))
  place_used l t x d z Stop h k = sym (stays c q (before_lock q) (locking_unblocked q))
  place_used l t (Ready w) d z StayQueued h k = sym (stays c q (on_taking h) (taking_unblocked h))
  place_used l t (Queued m) d z StayQueued h k = refl
  place_used l t (Parked i) d z StayQueued h k = refl
  place_used l t Stopped d z StayQueued h k = refl
  place_used l t Ended d z StayQueued h k = refl
  place_used l t x d z (Take y) h k = sym (stays c q (progress_taking y h) (step_unblocked y h))
  place_used l t x d z (Give y (ToPark v)) h k = enlisted v z.uses (fact is_used_need l t x d z (needs (Give y (ToPark v))) k)
  place_used l t x d z (Park v) h k = released v z.uses (fact is_used_need l t x d z (needs (Park v)) k)
  place_used l t (Ready WokenFresh) d z StayParked h k = sym (stays c q (on_taking h) (taking_unblocked h))
  place_used l t (Ready WokenOwns) d z StayParked h k = sym (stays c q (on_taking h) (taking_unblocked h))
  place_used l t (Ready WokenAgain) d z StayParked h k = refl
  place_used l t (Ready WokenExpired) d z StayParked h k = sym (stays c q (on_taking h) (taking_unblocked h))
  place_used l t (Queued m) d z StayParked h k = refl
  place_used l t (Parked i) d z StayParked h k = refl
  place_used l t Stopped d z StayParked h k = refl
  place_used l t Ended d z StayParked h k = refl
  place_used l t x d z (Give y ToUnlock) h k = refl
  place_used l t x d z (Give y ToLeave) h k = refl
  place_used l t x d z (Wake y) h k = sym (stays c q (progress_waking y) (waking_unblocked y))
  place_used l t x d z _ h k = refl

-- who is blocked then is parked
enlisted_not : (v n : ℕ) → v ≤ n → is_blocked (Enlisted (v == n + 1)) ≡ false
enlisted_not v n l = past_read v n l

released_not : (v n : ℕ) → v ≤ n → is_blocked (on_release (v == n + 1)) ≡ false
released_not v n l = ap (λ b. is_blocked (on_release b)) (past_read v n l)

place_parked : (l : ℕ → Bool) (t : ℕ) (q : Request) (x : Status) (d : Cell) (z : Use) (p : Place) (h : Health)
    → MeetsAll l t x d z (needs p) → is_blocked (progress_at q p x h (z.uses + 1)) ≡ true → is_parked x ≡ true
place_parked l t q x d z Exchange h k e = absurd (true≢false (sym e ∙ locking_unblocked q))
place_parked l t q x d z CallKernel h k e = absurd (true≢false (sym e ∙ locking_unblocked q))
place_parked l t q x d z Stop h k e = absurd (true≢false (sym e ∙ locking_unblocked q))
place_parked l t q (Ready w) d z StayQueued h k e = absurd (true≢false (sym e ∙ taking_unblocked h))
place_parked l t q (Queued m) d z StayQueued h k e = absurd (true≢false (sym e))
place_parked l t q (Parked i) d z StayQueued h k e = refl
place_parked l t q Stopped d z StayQueued h k e = absurd (true≢false (sym e))
place_parked l t q Ended d z StayQueued h k e = absurd (true≢false (sym e))
place_parked l t q x d z (Take y) h k e = absurd (true≢false (sym e ∙ step_unblocked y h))
place_parked l t q x d z (Give y (ToPark v)) h k e = absurd (true≢false (sym e
    ∙ enlisted_not v z.uses (fact is_used_need l t x d z (needs (Give y (ToPark v))) k)))
place_parked l t q x d z (Park v) h k e = absurd (true≢false (sym e
    ∙ released_not v z.uses (fact is_used_need l t x d z (needs (Park v)) k)))
place_parked l t q (Ready WokenFresh) d z StayParked h k e = absurd (true≢false (sym e ∙ taking_unblocked h))
place_parked l t q (Ready WokenOwns) d z StayParked h k e = absurd (true≢false (sym e ∙ taking_unblocked h))
place_parked l t q (Ready WokenAgain) d z StayParked h k e = absurd (true≢false (sym e))
place_parked l t q (Ready WokenExpired) d z StayParked h k e = absurd (true≢false (sym e ∙ taking_unblocked h))
place_parked l t q (Queued m) d z StayParked h k e = absurd (true≢false (sym e))
place_parked l t q (Parked i) d z StayParked h k e = refl
place_parked l t q Stopped d z StayParked h k e = absurd (true≢false (sym e))
place_parked l t q Ended d z StayParked h k e = absurd (true≢false (sym e))
place_parked l t q x d z (Give y ToUnlock) h k e = absurd (true≢false (sym e))
place_parked l t q x d z (Give y ToLeave) h k e = absurd (true≢false (sym e))
place_parked l t q x d z (Wake y) h k e = absurd (true≢false (sym e ∙ waking_unblocked y))
place_parked l t q x d z _ h k e = absurd (true≢false (sym e))

-- ALL CALLS

module _ (s : Table) (t : ℕ) (q : Request) (n : ℕ) (g : Going s t q (Wake (CountUse n))) (u : is_use q ≡ true)
    (as_read : uses_of s (variable_of q) ≡ n) where
  abbrev c : ℕ
  c = variable_of q

  -- the table then
  abbrev v : Table
  v = with_line t (At q (Wake (Requeue (n + 1)))) (with_cond_word c (n + 1) s)

  known : has_cond s c ≡ true
  known = use_known s t q (Wake (CountUse n)) g u refl

  worded : c < length s.words.conds
  worded = let e = below c (length s.conds) known in
      omega (arith, e, g.sound.all.shape.cond_words, g.sound.all.shape.few_conds)

  -- how often each variable was used then
  uses_here : uses_of v c ≡ n + 1
  uses_here = get_or-set_same s.words.conds c (n + 1) 0 worded

  uses_there : (i : ℕ) → i ≢ c → uses_of v i ≡ uses_of s i
  uses_there i d = get_or-set_other s.words.conds c i (n + 1) 0 d

  -- lines
  line_here : line_at v t ≡ At q (Wake (Requeue (n + 1)))
  line_here = get_or-set_same s.lines t (At q (Wake (Requeue (n + 1)))) Idle (going_lined g)

  line_there : (i : ℕ) → i ≢ t → line_at v i ≡ line_at s i
  line_there i d = get_or-set_other s.lines t i (At q (Wake (Requeue (n + 1)))) Idle d

  -- the parts still fit together
  shape : IsShaped v
  shape =
      let b = g.sound.all.shape in
      record {
        limits = b.limits;
        within = b.within;
        lines = length-set s.lines t (At q (Wake (Requeue (n + 1)))) ∙ b.lines;
        timers = b.timers ∙ sym (length-set s.lines t (At q (Wake (Requeue (n + 1)))));
        nobody = line_there 0 (λ e. absurd (true≢false (sym g.known ∙ ap (is_living s.kernel) (sym e)))) ∙ b.nobody;
        lists = b.lists;
        some_mutex = b.some_mutex;
        few_mutexes = b.few_mutexes;
        no_mutex = b.no_mutex;
        words = b.words;
        healths = b.healths;
        no_word = b.no_word;
        no_health = b.no_health;
        unmade = b.unmade;
        some_cond = b.some_cond;
        few_conds = b.few_conds;
        no_cond = b.no_cond;
        cond_words = length-set s.words.conds c (n + 1) ∙ b.cond_words;
        no_cond_word = uses_there 0 (λ e. above_0 c (length s.conds) known (sym e)) ∙ b.no_cond_word;
        unmade_conds = λ i e. uses_there i (λ x. absurd (let l = below c (length s.conds) known in omega (arith, l, x, e)))
            ∙ b.unmade_conds i e;
      }

  -- it was used as often, or more often, within the limit
  grown : (i : ℕ) → (i ≡ c) ⊎ (i ≢ c) → uses_of s i ≤ uses_of v i
  grown i (inl e) = subst (λ j. uses_of s j ≤ uses_of v j) (sym e) (omega (arith, uses_here, as_read))
  grown i (inr d) = omega (arith, uses_there i d)

  few : (i : ℕ) → (i ≡ c) ⊎ (i ≢ c) → uses_of s i ≤ s.limits.signals → uses_of v i ≤ s.limits.signals
  few i (inl e) l = subst (λ j. uses_of v j ≤ s.limits.signals) (sym e)
      (let b = going_limited g in omega (arith, uses_here, b))
  few i (inr d) l = omega (arith, uses_there i d, l)

  -- the change that it is
  change : Changes (λ i. i ≡ t) s v 0
  change = record {
    shape = shape;
    threads = λ i. refl;
    mutexes = λ i. refl;
    robust = λ i. refl;
    cells = λ i d. refl;
    waited = λ i d. refl;
    cell = λ e. absurd (true≢false (sym e));
    alive = λ e. absurd (true≢false (sym e));
    living = λ i out. refl;
    status = λ i out. refl;
    line = line_there;
    list = λ i out. refl;
    spares = λ i z out. unwritten (is_living s.kernel) i (cell_at s 0) (cell_at v 0) refl;
    ended = λ i e l. l;
    conds = refl;
    used = same_conds s v refl (λ i. grown i (cases_eq i c)) refl;
    few_uses = λ i l. few i (cases_eq i c) l;
    targets = λ i j e. inl e;
  }

  -- the table is sound
  sound : IsSound v
  sound = record {
    all = admit_last (change_kept (exempt_one g.sound t) change) g.known (record {
      line = subst (LineIsSound v t) (sym line_here) (record {
        named = going_named g;
        belongs = use_belongs q (Wake (Requeue (n + 1))) u refl;
        needs = (going_ready g, tt);
      });
      queue = λ j e. absurd (ready-not_queued (status_at s t) j (going_ready g) e);
      parked = λ j e. absurd (ready-not_parked (status_at s t) j (going_ready g) e);
      list = subst (ListIsSound v t) (sym line_here)
          (let b = use_list s t q (Wake (CountUse n)) g u refl (Wake (Requeue (n + 1))) refl in
          record { pending = b.pending; half_linked = b.half_linked; listed = b.listed });
      settled = subst (λ l. (m : ℕ) → has_mutex s m ≡ true → (word_at s.words m).number ≡ t
          → m ≢ mutex_by is_unsettled l → ((word_at s.words m).died ≡ false) × (health_word_at s.words m ≢ 2))
          (sym line_here) (λ m e o away. use_order s t q (Wake (CountUse n)) g u refl m e o away);
    });
    kernel = g.sound.kernel;
  }

  -- OTHERS

  -- what a call at this line comes to, if its thread lives
  open_used : (i : ℕ) (l : Line) → LineIsSound s i l
      → call_at (health_at s) (uses_of v) l (status_at s i)
      ≡ after_use_of c (call_at (health_at s) (uses_of s) l (status_at s i))
  open_used i Idle b = refl
  open_used i (At r p) b = by_test (λ y. (variable_of r == c) ≡ y
      → call_of r (progress_at r p (status_at s i) (health_at s (named_by r)) (uses_of v (variable_of r)))
      ≡ after_use_of c (call_of r (progress_at r p (status_at s i) (health_at s (named_by r))
      (uses_of s (variable_of r))))) (variable_of r == c)
      (λ e _. ap (λ j. call_of r (progress_at r p (status_at s i) (health_at s (named_by r)) j))
      (ap (uses_of v) (eqb-true (variable_of r) c e) ∙ uses_here ∙ ap (λ j. j + 1) (sym as_read
      ∙ ap (uses_of s) (sym (eqb-true (variable_of r) c e))))
      ∙ place_used c r e (is_living s.kernel) i (status_at s i) (cell_at s (named_by r)) (use_at s r) p
      (health_at s (named_by r)) b.needs)
      (λ e _. ap (λ j. call_of r (progress_at r p (status_at s i) (health_at s (named_by r)) j))
      (uses_there (variable_of r) (λ x. true≢false (sym (eq-eqb (variable_of r) c x) ∙ e)))
      ∙ sym (elsewhere c r (progress_at r p (status_at s i) (health_at s (named_by r)) (uses_of s (variable_of r))) e))
      refl

  -- another's call
  call_used : (i : ℕ) → i ≢ t → call_shown v i ≡ after_use_of c (call_shown s i)
  call_used i d = ap (λ l. call_at (health_at s) (uses_of v) l (status_at s i)) (line_there i d)
      ∙ by_test (λ b. is_living s.kernel i ≡ b → call_at (health_at s) (uses_of v) (line_at s i) (status_at s i)
      ≡ after_use_of c (call_shown s i)) (is_living s.kernel i)
      (λ e _. open_used i (line_at s i) (each_thread g.sound i e).line)
      (λ e _. subst (λ l. call_at (health_at s) (uses_of v) l (status_at s i)
      ≡ after_use_of c (call_at (health_at s) (uses_of s) l (status_at s i))) (sym (each_absent g.sound i e).line) refl)
      refl

  -- t's own, which has had no effect
  call_t : call_shown v t ≡ call_of q Used
  call_t = ap (λ l. call_at (health_at s) (uses_of v) l (status_at s t)) line_here

  -- who is blocked on c then is parked
  line_parked : (i : ℕ) (l : Line) → LineIsSound s i l
      → is_call_blocked c (call_at (health_at s) (uses_of v) l (status_at s i)) ≡ true
      → is_parked (status_at s i) ≡ true
  line_parked i Idle b e = absurd (true≢false (sym e))
  line_parked i (At r p) b e = place_parked (is_living s.kernel) i r (status_at s i) (cell_at s (named_by r)) (use_at s r)
      p (health_at s (named_by r)) b.needs
      (subst (λ j. is_blocked (progress_at r p (status_at s i) (health_at s (named_by r)) j) ≡ true) used_more parts.0)
    where
      parts : (is_blocked (progress_at r p (status_at s i) (health_at s (named_by r)) (uses_of v (variable_of r))) ≡ true)
          × ((variable_of r == c) ≡ true)
      parts = go (is_blocked (progress_at r p (status_at s i) (health_at s (named_by r)) (uses_of v (variable_of r)))) e
        where
          go : (x : Bool) → (if x then variable_of r == c else false) ≡ true
              → (x ≡ true) × ((variable_of r == c) ≡ true)
          go true e = (refl, e)
          go false e = absurd (true≢false (sym e))

      used_more : uses_of v (variable_of r) ≡ uses_of s (variable_of r) + 1
      used_more = by_test (λ x. (variable_of r == c) ≡ x → uses_of v (variable_of r) ≡ uses_of s (variable_of r) + 1)
          (variable_of r == c)
          (λ x _. ap (uses_of v) (eqb-true (variable_of r) c x) ∙ uses_here
          ∙ ap (λ j. j + 1) (sym as_read ∙ ap (uses_of s) (sym (eqb-true (variable_of r) c x))))
          (λ x f. absurd (true≢false (sym (second_part e) ∙ x))) refl
        where
          second_part : is_call_blocked c (call_at (health_at s) (uses_of v) (At r p) (status_at s i)) ≡ true
              → (variable_of r == c) ≡ true
          second_part = go (is_blocked (progress_at r p (status_at s i) (health_at s (named_by r))
              (uses_of v (variable_of r))))
            where
              go : (x : Bool) → (if x then variable_of r == c else false) ≡ true → (variable_of r == c) ≡ true
              go true e = e
              go false e = absurd (true≢false (sym e))

  all_parked : AllParked v c
  all_parked i e = go (cases_eq i t)
    where
      go : (i ≡ t) ⊎ (i ≢ t) → is_parked (status_at s i) ≡ true
      go (inl x) = absurd (true≢false (sym e ∙ ap (λ j. is_call_blocked c (call_shown v j)) x
          ∙ ap (is_call_blocked c) call_t))
      go (inr d) = by_test (λ b. is_living s.kernel i ≡ b → is_parked (status_at s i) ≡ true) (is_living s.kernel i)
          (λ k _. line_parked i (line_at s i) (each_thread g.sound i k).line
          (sym (ap (λ l. is_call_blocked c (call_at (health_at s) (uses_of v) l (status_at s i))) (line_there i d)) ∙ e))
          (λ k _. absurd (true≢false (sym e
          ∙ ap (λ l. is_call_blocked c (call_at (health_at s) (uses_of v) l (status_at s i)))
          (line_there i d ∙ (each_absent g.sound i k).line)))) refl

  -- who is blocked, and not parked, was so: nobody is unblocked but on c, and there all are parked
  was_blocked : (i : ℕ) → WasBlockedIn s v i
  was_blocked i j e f = go (cases_eq i t) (cases_eq j c)
    where
      go : (i ≡ t) ⊎ (i ≢ t) → (j ≡ c) ⊎ (j ≢ c)
          → (is_call_blocked j (call_shown s i) ≡ true) × (is_parked (status_at s i) ≡ false)
      go (inl x) y = absurd (true≢false (sym e ∙ ap (λ o. is_call_blocked j (call_shown v o)) x
          ∙ ap (is_call_blocked j) call_t))
      go (inr d) (inl y) = absurd (true≢false (sym (all_parked i
          (ap (λ o. is_call_blocked o (call_shown v i)) (sym y) ∙ e)) ∙ f))
      go (inr d) (inr y) = (by_call (call_shown s i) (sym (ap (is_call_blocked j) (call_used i d)) ∙ e), f)
        where
          by_call : (x : Option Call) → is_call_blocked j (after_use_of c x) ≡ true → is_call_blocked j x ≡ true
          by_call None b = b
          by_call (Some x) b = by_test (λ o. (variable_of x.request == c) ≡ o → is_call_blocked j (Some x) ≡ true)
              (variable_of x.request == c)
              (λ o _. absurd (y (sym (names_it b) ∙ eqb-true (variable_of x.request) c o)))
              (λ o _. sym (ap (is_call_blocked j) (elsewhere c x.request x.progress o)) ∙ b) refl
            where
              -- however far the call has come then, it is blocked only on the variable that it names
              names_it : is_call_blocked j (after_use_of c (Some x)) ≡ true → variable_of x.request ≡ j
              names_it = by_test (λ o. is_call_blocked j (if o then after_unblocking (Some x) else Some x) ≡ true
                  → variable_of x.request ≡ j) (is_newly_blocked c (Some x))
                  (λ _ b. eqb-true (variable_of x.request) j (only (is_blocked (on_unblocking x.progress)) b))
                  (λ _ b. eqb-true (variable_of x.request) j (only (is_blocked x.progress) b))
                where
                  only : (o : Bool) → (if o then variable_of x.request == j else false) ≡ true
                      → (variable_of x.request == j) ≡ true
                  only true e = e
                  only false e = absurd (true≢false (sym e))

  frames : Frames s v
  frames = record {
    lines = length-set s.lines t (At q (Wake (Requeue (n + 1))));
    joins = λ i e. joins i e (cases_eq i t);
    chooses = λ i j z e. chooses i j e (cases_eq i t);
    blocked = λ i e. was_blocked i;
  }
    where
      joins : (i : ℕ) → may_enlist (line_at s i) ≡ false → (i ≡ t) ⊎ (i ≢ t) → may_enlist (line_at v i) ≡ false
      joins i e (inl x) = ap (λ j. may_enlist (line_at v j)) x ∙ ap may_enlist line_here
      joins i e (inr d) = ap may_enlist (line_there i d) ∙ e

      chooses : (i j : ℕ) → chooses_on (line_at v i) ≡ j → (i ≡ t) ⊎ (i ≢ t)
          → (chooses_on (line_at s i) ≡ j) ⊎ AllParked v j
      chooses i j e (inl x) = inr (subst (AllParked v)
          (sym (ap chooses_on line_here) ∙ sym (ap (λ o. chooses_on (line_at v o)) x) ∙ e) all_parked)
      chooses i j e (inr d) = inl (sym (ap chooses_on (line_there i d)) ∙ e)

  -- IN THE POSIX MACHINE

  module _ (y : HistoryVariables) where
    abbrev w : World
    w = world_of s y

    -- each thread of the world in which the variable is used
    thread_used : (i : ℕ) → thread_at (used c w) i
        ≡ record (thread_at w i) { call = after_use_of c (thread_at w i).call }
    thread_used i = get_or-map (after_use c) w.threads i nobody ∙ after_use-thread c (thread_at w i)

    -- t's call is not blocked
    fresh : after_use_of c (thread_at w t).call ≡ (thread_at w t).call
    fresh = ap (after_use_of c) (going_called g y) ∙ sym (going_called g y)

    -- t then
    abbrev mine : Thread
    mine = record (thread_at (used c w) t) { call = at_progress Used (thread_at (used c w) t).call }

    long : length (used c w).threads ≡ length s.lines
    long = length-map w.threads (after_use c) ∙ threads_shown g.sound.all.shape y

    -- the step shows that world
    used_shown : world_of v y ≡ with_progress t Used (used c w)
    used_shown = same_world (world_of v y) (with_progress t Used (used c w))
        (threads_shown shape y ∙ length-set s.lines t (At q (Wake (Requeue (n + 1))))
        ∙ sym (length-set (used c w).threads t mine ∙ long))
        (λ i e. let f : i < length v.lines = subst (λ j. i < j) (threads_shown shape y) e in
        thread_seen shape y i f
        ∙ each i (subst (λ j. i < j) (length-set s.lines t (At q (Wake (Requeue (n + 1))))) f) (cases_eq i t))
        refl (λ j. refl) variables refl refl refl
      where
        here : thread_shown v y t ≡ thread_at (with_progress t Used (used c w)) t
        here = (λ i. record (thread_shown s y t) { call = call_t i })
            ∙ sym (get_or-set_same (used c w).threads t mine nobody (subst (λ j. t < j) (sym long) (going_lined g))
            ∙ (λ i. record (thread_used t i) { call = at_progress Used (thread_used t i).call })
            ∙ (λ i. record (thread_at w t) { call = at_progress Used (fresh i) })
            ∙ (λ i. record (thread_at w t) { call = at_progress Used (going_called g y i) })
            ∙ (λ i. record (thread_seen g.sound.all.shape y t (going_lined g) i) { call = call_of q Used }))

        each : (i : ℕ) → i < length s.lines → (i ≡ t) ⊎ (i ≢ t)
            → thread_shown v y i ≡ thread_at (with_progress t Used (used c w)) i
        each i f (inl x) = subst (λ j. thread_shown v y j ≡ thread_at (with_progress t Used (used c w)) j) (sym x) here
        each i f (inr d) = (λ o. record (thread_shown s y i) { call = call_used i d o })
            ∙ sym (get_or-set_other (used c w).threads t i mine nobody d ∙ thread_used i
            ∙ (λ o. record (thread_seen g.sound.all.shape y i f o)
            { call = after_use_of c (thread_seen g.sound.all.shape y i f o).call }))

        variable_here : (i : ℕ) → (i ≡ c) ⊎ (i ≢ c) → variable_shown v i ≡ get_or (used c w).variables i no_variable
        variable_here i (inl x) = subst (λ j. variable_shown v j ≡ get_or (used c w).variables j no_variable) (sym x)
            ((λ o. record (variable_shown s c) { uses = (uses_here ∙ ap (λ k. k + 1) (sym as_read)) o })
            ∙ sym (get_or-set_same w.variables c
            (record (variable_at w c) { uses = (variable_at w c).uses + 1 }) no_variable
            (subst (λ j. c < j) (sym (variables_shown g.sound.all.shape y)) (below c (length s.conds) known))
            ∙ (λ o. record (variable_seen g.sound.all.shape y c o)
            { uses = (variable_seen g.sound.all.shape y c o).uses + 1 })))
        variable_here i (inr d) = (λ o. record (variable_shown s i) { uses = uses_there i d o })
            ∙ sym (get_or-set_other w.variables c i
            (record (variable_at w c) { uses = (variable_at w c).uses + 1 }) no_variable d
            ∙ variable_seen g.sound.all.shape y i)

        variables : (world_of v y).variables ≡ (used c w).variables
        variables = ext_get_or no_variable (world_of v y).variables (used c w).variables
            (variables_shown shape y ∙ sym (length-set w.variables c
            (record (variable_at w c) { uses = (variable_at w c).uses + 1 })
            ∙ variables_shown g.sound.all.shape y))
            (λ i e. variable_seen shape y i ∙ variable_here i (cases_eq i c))

    -- it is an effect
    used_effect : Effect t w (with_progress t Used (used c w))
    used_effect = use_variable q (going_called g y) u (counts (λ e. more (ap (λ (x : Variable). x.uses)
        (sym (variable_seen g.sound.all.shape y c)) ∙ e)) refl)
      where
        more : uses_of s c ≢ s.limits.signals
        more e = absurd (let b = going_limited g in omega (arith, b, as_read, e))

  -- the variable is used
  pub use_counts : GoKeeps s t (goes_to t q (Wake (Requeue (n + 1))) (with_cond_word c (n + 1) s))
  use_counts = goes_with g v sound refl g.known (going_ready g) frames
      (λ y. first (used_effect y) (none (used_shown y)))

-- compare-exchange of the condition word
pub use_exchange_kept : (s : Table) (t : ℕ) (q : Request) (n : ℕ) → is_use q ≡ true → Going s t q (Wake (CountUse n))
    → GoKeeps s t (use_exchange q n (variable_of q) t s)
unfolding use_exchange
use_exchange_kept s t q n u g =
    by_test (λ b. GoKeeps s t (if b
    then goes_to t q (Wake (Requeue (n + 1))) (with_cond_word (variable_of q) (n + 1) s)
    else use_read q (uses_of s (variable_of q)) t s))
    (uses_of s (variable_of q) == n)
    (λ e. use_counts s t q n g u (eqb-true (uses_of s (variable_of q)) n e))
    (λ e. use_read_kept s t q (Wake (CountUse n)) g u refl (going_ready g) refl (quiet refl refl))
