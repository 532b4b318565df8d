-- What a sound table shows a person who looks at it: what each thread does, its open call, who owns a mutex, who waits
-- for it in which order, who is parked on a variable, who is ready, and for whom a thread waits through its chain.
use Rattle.std.proofs.Common.{◌≡◌, ◌≢◌, ◌<◌, ◌≤◌, ◌⊎◌, ◌==◌, ℕ, zero, suc, Bool, true, false, List, [], ◌∷◌, length, Some, None, option_map, refl, sym, ap, ◌∙◌, subst, inl, inr, eq-eqb, true≢false, if◌then◌else◌, Option}
use Rattle.std.specs.List.{slice_get}
use Rattle.std.proofs.lemmas.Bool.{or_cases, or_left, or_right, cases_eq, cases_lt}
use Rattle.std.proofs.lemmas.List.Folds.{list_any-append}
use Rattle.pif_types.specs.declared.requests.Request.{Request}
use Rattle.pif_types.specs.declared.requests.Request.TheVariants.{Wait}
use Rattle.pif_model.specs.declared.lines.Line.{Line}
use Rattle.pif_model.specs.declared.lines.Line.TheVariants.{Idle, At}
use Rattle.pif_model.specs.declared.lines.Place.{Place}
use Rattle.pif_model.specs.declared.lines.Place.TheVariants.{StayQueued, StayStopped, StayParked}
use Rattle.pif_model.specs.declared.lines.Status.{Status}
use Rattle.pif_model.specs.declared.lines.Status.TheVariants.{Ready, Queued, Parked, Stopped, Ended}
use Rattle.pif_model.specs.Graph.{waiting_order, IsPath}
use Rattle.pif_model.specs.Word.{Word, word_at}
use Rattle.pif_model.specs.PiKernel.{Seat, has_seat, has_ended, is_living, is_ready, is_among, parked_pairs, effective_in, level_at, levels_below, waiters_in, parked_in, ready_in, IsPathIn}
use Rattle.pif_model.specs.Table.{Table, Cell, cell_at, has_thread, has_mutex, uses_of, status_at, line_at, timer_at}
use Rattle.pif_model.specs.Calls.{request_at, owner_by, open_call_answer, owner_answer}
use Rattle.pif_model.specs.Posix.{Health, Call, Mutex, thread_at, variable_of, named_by, is_call_blocked, is_blocked_on, rests, waits_for}
use Rattle.pif_model.specs.Posix.{is_living as lives}
use Rattle.pif_model.specs.World.Progress.{Stuck}
use Rattle.pif_model.specs.Projection.{HistoryVariables, health_at, progress_at, call_at, world_of}
use Rattle.pif_model.specs.Soundness.{Use, use_at, needs, MeetsAll, LineIsSound, IsSound}
use Rattle.pif_model.specs.Standing.{IsDoing, call_of, owner_of, waiters_of, IsPathFrom}
use Rattle.pif_model.specs.Deadlines.{with_deadline_if_any}
use Rattle.pif_model_lemmas.proofs.Numbers.{from_within}
use Rattle.pif_model_lemmas.proofs.Waiting.{by_test, pairs}
use Rattle.pif_model_lemmas.proofs.kernel.Facts.{living-from_added, ready-not_ended, seat-unadded}
use Rattle.pif_model_lemmas.proofs.kernel.Orders.{ordered-is_waiter}
use Rattle.pif_model_simulation.proofs.WeakenedInvariant.{each_thread, each_absent}
use Rattle.pif_model_simulation.proofs.Shown.{is_thread_seen, mutex_seen, timer_seen, call_seen, call_seen_of, living_seen}
use Rattle.pif_model_simulation.proofs.Steps.{rests_ready}
use Rattle.pif_model_simulation.proofs.Effective.{waits_seen_but, effective_seen}

-- WHO STANDS IN AN ORDER

-- two tests, one after the other, that both pass
both : (a b : Bool) → (if a then b else false) ≡ true → (a ≡ true) × (b ≡ true)
both true b e = (refl, e)
both false b e = absurd (true≢false (sym e))

-- who stands at a place of a list is among it
among_at : (xs : List ℕ) (n t : ℕ) → slice_get xs n ≡ Some t → is_among xs t ≡ true
among_at [] n t e = absurd (cc)
among_at (x ∷ xs) zero t e = let same : x ≡ t = cc in or_left (x == t) (is_among xs t) (eq-eqb x t same)
among_at (x ∷ xs) (suc n) t e = or_right (x == t) (is_among xs t) (among_at xs n t e)

-- who stands at a place of the order in which a mutex goes to its waiters is paired with it
waits_at : (f : ℕ → ℕ) (ws : List (ℕ × ℕ)) (m n t : ℕ) → slice_get (waiting_order f ws m) n ≡ Some t
    → pairs t m ws ≡ true
waits_at f ws m n t e = ordered-is_waiter f ws t m (among_at (waiting_order f ws m) n t e)

-- who stands on some levels stands on one
on_level : (levels : List (List ℕ)) (n t : ℕ) → is_among (levels_below levels n) t ≡ true
    → (p : ℕ) × (is_among (level_at levels p) t ≡ true)
unfolding levels_below
on_level levels zero t e = absurd (true≢false (sym e))
on_level levels (suc n) t e =
    go (on_level levels n t)
    (or_cases (is_among (level_at levels n) t) (is_among (levels_below levels n) t)
    (sym (list_any-append (λ u. u == t) (level_at levels n) (levels_below levels n)) ∙ e))
  where
    go : (is_among (levels_below levels n) t ≡ true → (p : ℕ) × (is_among (level_at levels p) t ≡ true))
        → (is_among (level_at levels n) t ≡ true) ⊎ (is_among (levels_below levels n) t ≡ true)
        → (p : ℕ) × (is_among (level_at levels p) t ≡ true)
    go lower (inl a) = (n, a)
    go lower (inr b) = lower b

-- WHO WAITS FOR GOOD

-- a call of a thread that is stopped waits for good: that is so at the places where it need not be able to run
place_stuck : (l : ℕ → Bool) (t : ℕ) (q : Request) (c : Cell) (z : Use) (p : Place) (h : Health) (n : ℕ)
    → MeetsAll l t Stopped c z (needs p) → progress_at q p Stopped h n ≡ Stuck
place_stuck l t q c z StayQueued h n k = refl
place_stuck l t q c z StayStopped h n k = refl
place_stuck l t q c z StayParked h n k = refl
place_stuck l t q c z _ h n k = absurd (true≢false (sym k.0))

line_stuck : (s : Table) (t : ℕ) (l : Line) → status_at s t ≡ Stopped → LineIsSound s t l
    → option_map (λ (c : Call). c.progress) (call_at (health_at s) (uses_of s) l (status_at s t)) ≡ Some Stuck
line_stuck s t Idle e h = absurd (true≢false (sym h ∙ ap is_ready e))
line_stuck s t (At q p) e h =
    ap (λ x. Some (progress_at q p x (health_at s (named_by q)) (uses_of s (variable_of q)))) e
    ∙ ap Some (place_stuck (is_living s.kernel) t q (cell_at s (named_by q)) (use_at s q) p (health_at s (named_by q))
    (uses_of s (variable_of q))
    (subst (λ (x : Status). MeetsAll (is_living s.kernel) t x (cell_at s (named_by q)) (use_at s q) (needs p)) e
    h.needs))

module _ {s : Table} (h : IsSound s) (y : HistoryVariables) where
  -- WHAT A THREAD DOES

  -- who was added and may run lives, and doesn't rest
  runs_ready : (t : ℕ) → has_thread s t ≡ true → is_ready (status_at s t) ≡ true
      → (lives (world_of s y) t ≡ true) × (rests (world_of s y) t ≡ false)
  runs_ready t k e =
      let living = living-from_added s.kernel t k (ready-not_ended (status_at s t) e) in
      (living_seen s y t h.all.shape ∙ living, rests_ready h y t living e)

  -- who is parked was added
  added_parked : (t c : ℕ) → status_at s t ≡ Parked c → has_thread s t ≡ true
  added_parked t c e = by_test (λ b. has_thread s t ≡ b → b ≡ true) (has_thread s t) (λ _ _. refl)
      (λ x _. (let free = ap (λ (a : Seat). is_ready a.status) (seat-unadded s.kernel h.kernel.shape t x) in
      absurd (true≢false (sym free ∙ ap is_ready e)))) refl

  -- who is parked on c is blocked on c
  blocked_parked : (t c : ℕ) → status_at s t ≡ Parked c → is_blocked_on (world_of s y) c t ≡ true
  blocked_parked t c e =
      let living = living-from_added s.kernel t (added_parked t c e) (ap has_ended e) in
      let at = (each_thread h t living).parked c e in
      ap (is_call_blocked c) (call_seen h.all.shape y t (At (Wait c at.mutex) StayParked) at.line)
      ∙ ap (λ x. is_call_blocked c (call_at (health_at s) (uses_of s) (At (Wait c at.mutex) StayParked) x)) e
      ∙ eq-eqb c c refl

  -- who is stopped waits for good
  stuck_stopped : (t : ℕ) → has_thread s t ≡ true → status_at s t ≡ Stopped
      → option_map (λ (c : Call). c.progress) (thread_at (world_of s y) t).call ≡ Some Stuck
  stuck_stopped t k e =
      ap (option_map (λ (c : Call). c.progress)) (call_seen_of h.all.shape y t)
      ∙ line_stuck s t (line_at s t) e
      (each_thread h t (living-from_added s.kernel t k (ap has_ended e))).line

  -- a thread does what its status says
  pub doing_seen : (t : ℕ) → has_thread s t ≡ true → IsDoing (world_of s y) t (status_at s t)
  doing_seen t k = go (status_at s t) refl
    where
      go : (x : Status) → status_at s t ≡ x → IsDoing (world_of s y) t x
      go (Ready w) e = runs_ready t k (ap is_ready e)
      go (Queued m) e = h.kernel.queued t m e
      go (Parked c) e = blocked_parked t c e
      go Stopped e = stuck_stopped t k e
      go Ended e = (
        is_thread_seen h.all.shape y t ∙ k,
        living_seen s y t h.all.shape
            ∙ (λ i. if k i then (if has_ended (e i) then false else true) else false),
      )

  -- the open call is that of the thread's line
  pub open_seen : (t : ℕ) → open_call_answer t s ≡ call_of (world_of s y) t
  open_seen t = by_test
      (λ b. has_thread s t ≡ b → (if b then asked (request_at (line_at s t)) else None) ≡ call_of (world_of s y) t)
      (has_thread s t)
      (λ _ _. shown)
      (λ e _. sym (ap (λ l. asked (request_at l))
      (each_absent h t (λ i. if e i then (if has_ended (status_at s t) then false else true) else false)).line) ∙ shown)
      refl
    where
      asked : Option Request → Option Request
      asked o = option_map (with_deadline_if_any (timer_at s t).deadline) o

      at_line : (l : Line) → asked (request_at l)
          ≡ option_map (λ (c : Call). with_deadline_if_any (timer_at s t).deadline c.request)
          (call_at (health_at s) (uses_of s) l (status_at s t))
      at_line Idle = refl
      at_line (At q p) = refl

      shown : asked (request_at (line_at s t)) ≡ call_of (world_of s y) t
      shown = at_line (line_at s t) ∙ sym (λ i. option_map
          (λ (c : Call). with_deadline_if_any (timer_seen h.all.shape y t i).deadline c.request) (call_seen_of h.all.shape y t i))

  -- WHO OWNS A MUTEX, AND WHO WAITS

  -- nobody owns a mutex that was not added
  unowned : (m : ℕ) → has_mutex s m ≡ false → (cell_at s m).word.number ≡ 0
  unowned m e = go (cases_eq m 0) (cases_lt m (length s.mutexes))
    where
      go : (m ≡ 0) ⊎ (m ≢ 0) → (m < length s.mutexes) ⊎ (length s.mutexes ≤ m) → (cell_at s m).word.number ≡ 0
      go (inl z) c = ap (λ j. (word_at s.words j).number) z ∙ ap (λ (w : Word). w.number) h.all.shape.no_word
      go (inr d) (inl l) = absurd (true≢false (sym (from_within m (length s.mutexes) d l) ∙ e))
      go (inr d) (inr g) = ap (λ (w : Word). w.number) (h.all.shape.unmade m g).0

  -- the owner is that of the mutex's word, and holds it as often as the library says
  pub owner_seen : (m : ℕ) → owner_answer m s ≡ owner_of (world_of s y) m
  owner_seen m = by_test
      (λ b. has_mutex s m ≡ b
      → (if b then owner_by (cell_at s m).word.number (cell_at s m).count else None) ≡ owner_of (world_of s y) m)
      (has_mutex s m)
      (λ _ _. shown)
      (λ e _. sym (ap (λ n. owner_by n (cell_at s m).count) (unowned m e)) ∙ shown)
      refl
    where
      shown : owner_by (cell_at s m).word.number (cell_at s m).count ≡ owner_of (world_of s y) m
      shown = ap (λ (x : Mutex). owner_by x.owner x.count) (sym (mutex_seen h.all.shape y m))

  -- both machines have the same waiters in the same order
  pub waiters_seen : (m : ℕ) → waiters_in s.kernel m ≡ waiters_of (world_of s y) m
  waiters_seen m = ap (λ f. waiting_order f s.kernel.waiters m) (effective_seen h y)

  -- who stands among the parked threads of c is blocked on c
  pub parked_seen : (c n t : ℕ) → slice_get (parked_in s.kernel c) n ≡ Some t → is_blocked_on (world_of s y) c t ≡ true
  parked_seen c n t e =
      blocked_parked t c (h.kernel.parking.status t c
      (waits_at (effective_in s.kernel) (parked_pairs s.kernel.parked) c n t e))

  -- who stands among the ready threads lives, and doesn't rest
  pub ready_seen : (n t : ℕ) → slice_get (ready_in s.kernel) n ≡ Some t
      → (lives (world_of s y) t ≡ true) × (rests (world_of s y) t ≡ false)
  ready_seen n t e =
      let on = on_level s.kernel.levels 100 t (among_at (ready_in s.kernel) n t e) in
      let added = both (has_seat s.kernel t)
      (if is_ready (status_at s t) then effective_in s.kernel t == on.0 else false)
      (sym (h.kernel.level t on.0) ∙ on.1) in
      runs_ready t added.0 (both (is_ready (status_at s t)) (effective_in s.kernel t == on.0) added.1).0

  -- a living thread has the same path in both machines, and no other thread has one
  pub path_seen : (t : ℕ) (us : List ℕ) → IsPathIn s.kernel t us → IsPathFrom (world_of s y) t us
  path_seen t us p =
      subst (λ b. IsPath (waits_for (world_of s y)) (if b then t else 0) us) (sym (living_seen s y t h.all.shape))
      (subst (λ f. IsPath f (if is_living s.kernel t then t else 0) us) (waits_seen_but h.all h.kernel y) p)
