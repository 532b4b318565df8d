-- The invariant of all threads in a state of the POSIX machine, and what keeps it, one lemma for each kind of change: a
-- thread's call comes further; it writes its mutex; it joins the waiters; it takes its mutex; it gives that up, and the
-- mutex passes on; a mutex has another health; or all threads stay as they were. And what is left of an ended thread.
use Rattle.std.proofs.Common.{◌≡◌, ◌≢◌, ◌⊎◌, ◌<◌, ◌≤◌, ℕ, Bool, true, false, ◌==◌, List, [], ◌∷◌, ◌++◌, length, get_or, set, Option, Some, None, refl, sym, ap, ◌∙◌, subst, inl, inr, arith, if◌then◌else◌}
use Rattle.std.proofs.Math.Path.{fun_ext}
use Rattle.std.proofs.lemmas.Bool.{true≢false, cases_eq, cases_Bool, cases_lt}
use Rattle.std.proofs.lemmas.Bool.Decides.{nat_tests}
use Rattle.std.proofs.lemmas.List.{set-set, set-get_or, length-set, get_or_past}
use Rattle.pif_types.specs.declared.requests.Request.{Request}
use Rattle.pif_types.specs.declared.requests.Request.TheVariants.{Lock, TryLock, Wait}
use Rattle.pif_model.specs.Graph.{without}
use Rattle.pif_model.specs.Posix.{Health, Progress, Call, Thread, Mutex, World, nobody, no_mutex, thread_at, mutex_at, is_thread, is_living, is_mutex, with_thread, with_mutex, with_progress, at_progress, on_taking, taken, with_health, on_death, named_by, Passes, Releases}
use Rattle.pif_model.specs.World.Health.{Fine, Inconsistent, Unusable}
use Rattle.pif_model.specs.World.Progress.{Fresh, Waiting, Reacquiring}
use Rattle.pif_model.specs.Posix.Passes.{to_nobody, to_next}
use Rattle.pif_model.specs.Posix.Releases.{none_left, one_more}
use Rattle.pif_model.specs.Soundness.{waited_in}
use Rattle.pif_model_lemmas.proofs.Among.{is_among, is_among-without, is_among_push, next_is_among}
use Rattle.pif_model_lemmas.proofs.Numbers.{from_within, within}
use Rattle.pif_model_lemmas.proofs.Places.{kept_at}
use Rattle.pif_model_simulation.proofs.runs.Worlds.{call_of, owner_of, call-with_progress, call-with_thread_other, living-with_thread, mutex-with_mutex, mutex-with_mutex_other, is_mutex-with_mutex, is_thread-with_thread}
use Rattle.pif_model_simulation.proofs.runs.Holding.{View, Holding, IsWaiting, Stays, Counted, same_progress, Holding-stays, Holding-moves}

-- how often a living thread t holds a mutex, by the machine
abbrev pub times_held : Bool → ℕ → Mutex → ℕ
times_held living t y = if living then (if y.owner == t then y.count else 0) else 0

-- what a state has of t
abbrev pub view_of : World → ℕ → View
view_of w t = record {
  call = call_of w t;
  living = is_living w t;
  held = λ m. times_held (is_living w t) t (mutex_at w m);
  among = is_among w.waiters t;
}

-- at place 0 nobody lives and nothing is owned, and owners were added
pub record IsOrderly (w : World) : Type 0 where
  pub room : 0 < length w.threads
  pub nobody : is_living w 0 ≡ false
  pub no_mutex : owner_of w 0 ≡ 0
  pub owners : (m : ℕ) → owner_of w m ≢ 0 → is_thread w (owner_of w m) ≡ true

-- the invariant of a state, over a history's open calls and hold counts
pub record IsHeld (f : ℕ → Option Request) (counts : ℕ → ℕ → ℕ) (w : World) : Type 0 where
  pub orderly : IsOrderly w
  pub each : (t : ℕ) → Holding (f t) (counts t) (is_mutex w) (view_of w t)

-- ORDER

-- a thread is written, and at place 0 still nobody lives
pub IsOrderly-with_thread : (w : World) (t : ℕ) (x : Thread) → IsOrderly w
    → is_living (with_thread t x w) 0 ≡ is_living w 0 → IsOrderly (with_thread t x w)
IsOrderly-with_thread w t x h lives =
    record {
      room = omega (arith, h.room, length-set w.threads t x);
      nobody = lives ∙ h.nobody;
      no_mutex = h.no_mutex;
      owners = λ m n. is_thread-with_thread w t x (owner_of w m) ∙ h.owners m n;
    }

-- a mutex is written whose owner was added
pub IsOrderly-with_mutex : (w : World) (m : ℕ) (z : Mutex) → IsOrderly w → is_mutex w m ≡ true
    → (z.owner ≢ 0 → is_thread w z.owner ≡ true) → IsOrderly (with_mutex m z w)
IsOrderly-with_mutex w m z h known added =
    record {
      room = h.room;
      nobody = h.nobody;
      no_mutex = ap (λ (y : Mutex). y.owner) (mutex-with_mutex_other w m z 0 (λ e. place.0 (sym e))) ∙ h.no_mutex;
      owners = λ n. by_place n (cases_eq n m);
    }
  where
    place : (m ≢ 0) × (m < length w.mutexes)
    place = within m (length w.mutexes) known

    OwnerAdded : Mutex → Type 0
    OwnerAdded y = y.owner ≢ 0 → is_thread w y.owner ≡ true

    by_place : (n : ℕ) → (n ≡ m) ⊎ (n ≡ m → ⊥) → OwnerAdded (mutex_at (with_mutex m z w) n)
    by_place n (inl e) =
        subst OwnerAdded (sym (ap (mutex_at (with_mutex m z w)) e ∙ mutex-with_mutex w m z place.1)) added
    by_place n (inr d) = subst OwnerAdded (sym (mutex-with_mutex_other w m z n d)) (h.owners n)

-- other mutexes with the same owners change nothing
pub IsOrderly-mutexes : {w : World} {ms : List Mutex} → IsOrderly w
    → ((n : ℕ) → owner_of (record w { mutexes = ms }) n ≡ owner_of w n) → IsOrderly (record w { mutexes = ms })
IsOrderly-mutexes {w} {ms} h owners =
    record {
      room = h.room;
      nobody = h.nobody;
      no_mutex = owners 0 ∙ h.no_mutex;
      owners = λ n. subst (λ (o : ℕ). o ≢ 0 → is_thread w o ≡ true) (sym (owners n)) (h.owners n);
    }

-- other waiters change nothing
pub IsOrderly-waiters : (w : World) (ws : List (ℕ × ℕ)) → IsOrderly w → IsOrderly (record w { waiters = ws })
IsOrderly-waiters w ws h =
    record { room = h.room; nobody = h.nobody; no_mutex = h.no_mutex; owners = h.owners }

-- WHO ACTS

-- a living thread was added
pub living_is_thread : (w : World) (t : ℕ) → IsOrderly w → is_living w t ≡ true → is_thread w t ≡ true
living_is_thread w t h lives = from_within t (length w.threads) some (by_room (cases_lt t (length w.threads)))
  where
    some : t ≢ 0
    some e = true≢false (sym lives ∙ ap (is_living w) e ∙ h.nobody)

    by_room : (t < length w.threads) ⊎ (length w.threads ≤ t) → t < length w.threads
    by_room (inl l) = l
    by_room (inr l) = absurd (true≢false (sym lives ∙ ap (λ (x : Thread). x.living) (get_or_past w.threads t nobody l)))

-- t's call of this request has come this far, and t is not among the waiters
pub record IsActing (w : World) (t : ℕ) (q : Request) (a : Progress) : Type 0 where
  pub call : call_of w t ≡ Some (record { request = q; progress = a })
  pub alone : (m : ℕ) → is_among w.waiters t m ≡ true → ⊥

module _ {f : ℕ → Option Request} {counts : ℕ → ℕ → ℕ} {w : World} (h : IsHeld f counts w) where
  -- who has a call open lives
  pub caller_lives : (t : ℕ) (c : Call) → call_of w t ≡ Some c → is_living w t ≡ true
  caller_lives t c e = by_test (cases_Bool (is_living w t))
    where
      by_test : (is_living w t ≡ true) ⊎ (is_living w t ≡ false) → is_living w t ≡ true
      by_test (inl y) = y
      by_test (inr n) = let none : call_of w t ≡ None = (h.each t).idle n in absurd (cc)

  -- and was added
  pub caller_is_thread : (t : ℕ) (c : Call) → call_of w t ≡ Some c → is_thread w t ≡ true
  caller_is_thread t c e = living_is_thread w t h.orderly (caller_lives t c e)

  -- whose call is not waiting is not among the waiters
  pub acting : (t : ℕ) (q : Request) (a : Progress) → call_of w t ≡ Some (record { request = q; progress = a })
      → a ≢ Waiting → IsActing w t q a
  acting t q a e other =
      record { call = e; alone = λ m y. other (same_progress e ((h.each t).waiting m y).call) }

-- CHANGES

-- all threads stay, but t
pub IsHeld-but : {f later_f : ℕ → Option Request} {counts later_counts : ℕ → ℕ → ℕ} {w v : World} (t : ℕ)
    → IsHeld f counts w → IsOrderly v → ((m : ℕ) → is_mutex w m ≡ true → is_mutex v m ≡ true)
    → ((x : ℕ) → x ≢ t
    → (later_f x ≡ f x) × ((m : ℕ) → later_counts x m ≡ counts x m) × Stays (view_of w x) (view_of v x))
    → Holding (later_f t) (later_counts t) (is_mutex v) (view_of v t) → IsHeld later_f later_counts v
IsHeld-but {f} {later_f} {counts} {later_counts} {w} {v} t h orderly grows others mine =
    record { orderly = orderly; each = λ x. by_thread x (cases_eq x t) }
  where
    by_thread : (x : ℕ) → (x ≡ t) ⊎ (x ≡ t → ⊥) → Holding (later_f x) (later_counts x) (is_mutex v) (view_of v x)
    by_thread x (inl e) =
        subst (λ k. Holding (later_f k) (later_counts k) (is_mutex v) (view_of v k)) (sym e) mine
    by_thread x (inr d) = let s = others x d in Holding-stays (h.each x) grows s.0 s.1 s.2

-- all threads stay
pub IsHeld-stays : {f : ℕ → Option Request} {counts : ℕ → ℕ → ℕ} {w v : World} → IsHeld f counts w → IsOrderly v
    → ((m : ℕ) → is_mutex w m ≡ true → is_mutex v m ≡ true) → ((x : ℕ) → Stays (view_of w x) (view_of v x))
    → IsHeld f counts v
IsHeld-stays h orderly grows all =
    record { orderly = orderly; each = λ x. Holding-stays (h.each x) grows refl (λ m. refl) (all x) }

-- the time changes nothing
pub IsHeld-time : {f : ℕ → Option Request} {counts : ℕ → ℕ → ℕ} {w : World} → IsHeld f counts w → (n : ℕ)
    → IsHeld f counts (record w { time = n })
IsHeld-time h n = IsHeld-stays h
    (record {
      room = h.orderly.room;
      nobody = h.orderly.nobody;
      no_mutex = h.orderly.no_mutex;
      owners = h.orderly.owners;
    })
    (λ m y. y) (λ t. record { call = refl; living = λ e. e; held = λ m. refl; fewer = λ m y. y })

-- The mutexes ms and the waiters ws, if t's call of q goes on from a to b: t holds of its call's mutex what the call
-- then says, and all else is held as before; of the waiters none is new but t.
record MovesTo (w : World) (t : ℕ) (q : Request) (a b : Progress) (ms : List Mutex) (ws : List (ℕ × ℕ)) : Type 0 where
  orderly : IsOrderly (record w { mutexes = ms })
  same : (m : ℕ) → is_mutex (record w { mutexes = ms }) m ≡ is_mutex w m
  theirs : (x m : ℕ) → (x ≢ t) ⊎ (named_by q ≢ m)
      → times_held (is_living w x) x (get_or ms m no_mutex) ≡ times_held (is_living w x) x (mutex_at w m)
  mine : (n : ℕ) → Counted q a n (times_held (is_living w t) t (mutex_at w (named_by q)))
      → Counted q b n (times_held (is_living w t) t (get_or ms (named_by q) no_mutex))
  fewer : (x m : ℕ) → x ≢ t → is_among ws x m ≡ true → is_among w.waiters x m ≡ true
  joined : (m : ℕ) → is_among ws t m ≡ true → (waited_in q ≡ m) × (b ≡ Waiting)

module _ {f : ℕ → Option Request} {counts : ℕ → ℕ → ℕ} {w : World} (h : IsHeld f counts w) {t : ℕ} {q : Request}
    {a : Progress} (k : IsActing w t q a) where
  -- its thread lives
  actor_lives : is_living w t ≡ true
  actor_lives = caller_lives h t (record { request = q; progress = a }) k.call

  -- t's call comes further, among these mutexes and waiters
  IsHeld-moves : (b : Progress) (ms : List Mutex) (ws : List (ℕ × ℕ)) → MovesTo w t q a b ms ws
      → IsHeld f counts (record (with_progress t b w) { mutexes = ms; waiters = ws })
  IsHeld-moves b ms ws s =
      IsHeld-but t h
      (IsOrderly-with_thread among t further (IsOrderly-waiters (record w { mutexes = ms }) ws s.orderly) (lives 0))
      (λ m e. s.same m ∙ e)
      (λ x d. (
        refl,
        (λ m. refl),
        record {
          call = call-with_thread_other w t further x d;
          living = λ e. sym (lives x) ∙ e;
          held = λ m. ap (λ l. times_held l x (get_or ms m no_mutex)) (lives x) ∙ s.theirs x m (inl d);
          fewer = λ m. s.fewer x m d;
        },
      ))
      (subst (λ known. Holding (f t) (counts t) known (view_of v t)) (fun_ext (λ m. sym (s.same m)))
      (Holding-moves {q = q} {a = a} {b = b} (h.each t) (record {
        before = k.call;
        after = call-with_progress w t b ∙ ap (at_progress b) k.call;
        living = lives t;
        waits = s.joined;
        others = λ m d. ap (λ l. times_held l t (get_or ms m no_mutex)) (lives t) ∙ s.theirs t m (inr d);
        own = λ n c.
            subst (λ l. Counted q b n (times_held l t (get_or ms (named_by q) no_mutex))) (sym (lives t)) (s.mine n c);
      })))
    where
      further : Thread
      further = record (thread_at w t) { call = at_progress b (thread_at w t).call }

      among : World
      among = record w { mutexes = ms; waiters = ws }

      v : World
      v = record (with_progress t b w) { mutexes = ms; waiters = ws }

      lives : (x : ℕ) → is_living v x ≡ is_living w x
      lives = living-with_thread w t further refl

  -- t's call comes further, and its thread holds what it held
  pub IsHeld-progresses : (b : Progress) → ((n i : ℕ) → Counted q a n i → Counted q b n i)
      → IsHeld f counts (with_progress t b w)
  IsHeld-progresses b same = IsHeld-moves b w.mutexes w.waiters (record {
    orderly = h.orderly;
    same = λ m. refl;
    theirs = λ x m d. refl;
    mine = λ n c. same n (times_held (is_living w t) t (mutex_at w (named_by q))) c;
    fewer = λ x m d y. y;
    joined = λ m y. absurd (k.alone m y);
  })

  -- t joins the waiters of the mutex for which its call waits
  pub IsHeld-joins : (m : ℕ) → waited_in q ≡ m → ((n i : ℕ) → Counted q a n i → Counted q Waiting n i)
      → IsHeld f counts (record (with_progress t Waiting w) { waiters = w.waiters ++ (t, m) ∷ [] })
  IsHeld-joins m waits same = IsHeld-moves Waiting w.mutexes (w.waiters ++ (t, m) ∷ []) (record {
    orderly = h.orderly;
    same = λ n. refl;
    theirs = λ x n d. refl;
    mine = λ n c. same n (times_held (is_living w t) t (mutex_at w (named_by q))) c;
    fewer = λ x n d y. others x n d (is_among_push w.waiters t m x n y);
    joined = λ n y. mine n (is_among_push w.waiters t m t n y);
  })
    where
      others : (x n : ℕ) → x ≢ t → (is_among w.waiters x n ≡ true) ⊎ ((t ≡ x) × (m ≡ n)) → is_among w.waiters x n ≡ true
      others x n d (inl y) = y
      others x n d (inr e) = absurd (d (sym e.0))

      mine : (n : ℕ) → (is_among w.waiters t n ≡ true) ⊎ ((t ≡ t) × (m ≡ n)) → (waited_in q ≡ n) × (Waiting ≡ Waiting)
      mine n (inl y) = absurd (k.alone n y)
      mine n (inr e) = (waits ∙ e.1, refl)

  -- t's call comes further, and its mutex becomes z, which others hold as often as before, and t by what its call says
  pub IsHeld-writes : (b : Progress) (z : Mutex) → is_mutex w (named_by q) ≡ true
      → (z.owner ≢ 0 → is_thread w z.owner ≡ true)
      → ((x : ℕ) → x ≢ t → times_held (is_living w x) x z ≡ times_held (is_living w x) x (mutex_at w (named_by q)))
      → ((n : ℕ) → Counted q a n (times_held true t (mutex_at w (named_by q))) → Counted q b n (times_held true t z))
      → IsHeld f counts (with_progress t b (with_mutex (named_by q) z w))
  IsHeld-writes b z known added theirs mine = IsHeld-moves b (set w.mutexes (named_by q) z) w.waiters (record {
    orderly = IsOrderly-with_mutex w (named_by q) z h.orderly known added;
    same = is_mutex-with_mutex w (named_by q) z;
    theirs = λ x m d. by_mutex x m d (cases_eq m (named_by q));
    mine = λ n c. rw (here, actor_lives) (mine n (rw actor_lives at c));
    fewer = λ x m d y. y;
    joined = λ m y. absurd (k.alone m y);
  })
    where
      here : mutex_at (with_mutex (named_by q) z w) (named_by q) ≡ z
      here = mutex-with_mutex w (named_by q) z (within (named_by q) (length w.mutexes) known).1

      by_mutex : (x m : ℕ) → (x ≢ t) ⊎ (named_by q ≢ m) → (m ≡ named_by q) ⊎ (m ≡ named_by q → ⊥)
          → times_held (is_living w x) x (mutex_at (with_mutex (named_by q) z w) m)
          ≡ times_held (is_living w x) x (mutex_at w m)
      by_mutex x m (inl d) (inl e) = rw (e, here) (theirs x d)
      by_mutex x m (inr d) (inl e) = absurd (d (sym e))
      by_mutex x m d (inr o) = ap (times_held (is_living w x) x) (mutex-with_mutex_other w (named_by q) z m o)

-- TAKING, GIVING UP AND PASSING ON

-- who doesn't own a mutex doesn't hold it
pub times-other : (living : Bool) (x : ℕ) (y : Mutex) → y.owner ≢ x → times_held living x y ≡ 0
times-other living x y n = grind (arith, nat_tests)

-- nobody holds a mutex without an owner, since nobody, at place 0, doesn't live
times-free : {w : World} → IsOrderly w → (x : ℕ) (y : Mutex) → y.owner ≡ 0 → times_held (is_living w x) x y ≡ 0
times-free {w} h x y free = by_thread (cases_eq x 0)
  where
    by_thread : (x ≡ 0) ⊎ (x ≡ 0 → ⊥) → times_held (is_living w x) x y ≡ 0
    by_thread (inl e) = rw (ap (is_living w) e ∙ h.nobody) refl
    by_thread (inr d) = times-other (is_living w x) x y (λ e. d (sym e ∙ free))

-- the owner holds it as often as it counts
times-owner : (t : ℕ) (y : Mutex) → y.owner ≡ t → times_held true t y ≡ y.count
times-owner t y own = grind (arith, nat_tests)

-- a call of this request that has come this far may take its mutex: if it doesn't hold that, it holds it once then
abbrev pub MayTake : Request → Progress → Type 0
MayTake q a = (n : ℕ) (x : Health) → Counted q a n 0 → Counted q (on_taking x) n 1

-- m has no owner
abbrev pub without_owner : ℕ → World → World
without_owner m w = with_mutex m (record (mutex_at w m) { owner = 0; count = 1 }) w

module _ {f : ℕ → Option Request} {counts : ℕ → ℕ → ℕ} {w : World} (h : IsHeld f counts w) {t : ℕ} {q : Request}
    {a : Progress} (k : IsActing w t q a) (known : is_mutex w (named_by q) ≡ true) where
  -- its mutex
  abbrev mutex : Mutex
  mutex = mutex_at w (named_by q)

  -- t takes its mutex, which nobody owned
  pub IsHeld-takes : MayTake q a → mutex.owner ≡ 0 → IsHeld f counts (taken t (named_by q) w)
  IsHeld-takes may free =
      IsHeld-writes h k (on_taking mutex.health) z known
      (λ n. caller_is_thread h t (record { request = q; progress = a }) k.call)
      (λ x d. times-other (is_living w x) x z (λ e. d (sym e)) ∙ sym (times-free h.orderly x mutex free))
      (λ n c. rw (times-owner t z refl) (may n mutex.health (subst (Counted q a n) none_before c)))
    where
      z : Mutex
      z = record mutex { owner = t; count = 1 }

      none_before : times_held true t mutex ≡ 0
      none_before = ap (λ l. times_held l t mutex) (sym (actor_lives h k)) ∙ times-free h.orderly t mutex free

  -- its owner t holds it i times from now on
  pub IsHeld-counts : (b : Progress) (i : ℕ) → mutex.owner ≡ t → ((n : ℕ) → Counted q a n mutex.count → Counted q b n i)
      → IsHeld f counts (with_progress t b (with_mutex (named_by q) (record mutex { count = i }) w))
  IsHeld-counts b i own mine =
      IsHeld-writes h k b z known (h.orderly.owners (named_by q))
      (λ x d. none z own x d ∙ sym (none mutex own x d))
      (λ n c. rw (times-owner t z own) (mine n (rw (times-owner t mutex own) at c)))
    where
      z : Mutex
      z = record mutex { count = i }

      none : (y : Mutex) → y.owner ≡ t → (x : ℕ) → x ≢ t → times_held (is_living w x) x y ≡ 0
      none y o x d = times-other (is_living w x) x y (λ e. d (sym e ∙ o))

  -- its owner t holds it as often as before
  pub IsHeld-owns : (b : Progress) → mutex.owner ≡ t → ((n : ℕ) → Counted q a n mutex.count → Counted q b n mutex.count)
      → IsHeld f counts (with_progress t b w)
  IsHeld-owns b own mine =
      subst (λ (ms : List Mutex). IsHeld f counts (with_progress t b (record w { mutexes = ms })))
      (set-get_or w.mutexes (named_by q) no_mutex) (IsHeld-counts b mutex.count own mine)

  -- its owner t, who holds it once, gives it up
  IsHeld-gives_up : (b : Progress) → mutex.owner ≡ t → mutex.count ≡ 1 → ((n : ℕ) → Counted q a n 1 → Counted q b n 0)
      → IsHeld f counts (without_owner (named_by q) (with_progress t b w))
  IsHeld-gives_up b own once mine =
      IsHeld-writes h k b z known (λ n. absurd (n refl))
      (λ x d. times-free h.orderly x z refl ∙ sym (times-other (is_living w x) x mutex (λ e. d (sym e ∙ own))))
      (λ n c. rw none_later (mine n (rw (times-owner t mutex own, once) at c)))
    where
      z : Mutex
      z = record mutex { owner = 0; count = 1 }

      none_later : times_held true t z ≡ 0
      none_later = ap (λ l. times_held l t z) (sym (actor_lives h k)) ∙ times-free h.orderly t z refl

-- a lock or a trylock may take its mutex
pub may_take : (m : ℕ) → MayTake (Lock m) Fresh × MayTake (Lock m) Waiting × MayTake (TryLock m) Fresh
may_take m = ((λ n x c. lock x n c), (λ n x c. lock x n c), (λ n x c. try x n c))
  where
    lock : (x : Health) (n : ℕ) → n ≡ 0 → Counted (Lock m) (on_taking x) n 1
    lock Fine n e = grind (arith, nat_tests)
    lock Inconsistent n e = grind (arith, nat_tests)
    lock Unusable n e = (e, refl)

    try : (x : Health) (n : ℕ) → n ≡ 0 → Counted (TryLock m) (on_taking x) n 1
    try Fine n e = grind (arith, nat_tests)
    try Inconsistent n e = grind (arith, nat_tests)
    try Unusable n e = (e, refl)

-- and so may a wait that has given it up
pub wait_may_take : (c m : ℕ) → MayTake (Wait c m) Reacquiring × MayTake (Wait c m) Waiting
wait_may_take c m = ((λ n x e. takes x n e.0), (λ n x e. takes x n e.0))
  where
    takes : (x : Health) (n : ℕ) → n ≡ 1 → Counted (Wait c m) (on_taking x) n 1
    takes Fine n e = grind (arith, nat_tests)
    takes Inconsistent n e = grind (arith, nat_tests)
    takes Unusable n e = (e, refl)

-- and so may a call that waits for it
waiting_takes : (q : Request) (m : ℕ) → waited_in q ≡ m → m ≢ 0 → (named_by q ≡ m) × MayTake q Waiting
waiting_takes (Lock k) m e some = (e, (may_take k).1)
waiting_takes (Wait c k) m e some = (e, (wait_may_take c k).1)
waiting_takes _ m e some = absurd (some (sym e))

-- m, which has no owner now, passes on
pub IsHeld-Passes : {f : ℕ → Option Request} {counts : ℕ → ℕ → ℕ} {m : ℕ} {w v : World} → is_mutex w m ≡ true
    → IsHeld f counts (without_owner m w) → Passes m w v → IsHeld f counts v
IsHeld-Passes known h (to_nobody none e) = rw e h
IsHeld-Passes {f} {counts} {m} {w} {v} known h (to_next u next some e) = rw e (subst (IsHeld f counts) shown takes)
  where
    place : (m ≢ 0) × (m < length w.mutexes)
    place = within m (length w.mutexes) known

    waiting : IsWaiting m (call_of w u)
    waiting = (h.each u).waiting m (next_is_among _ w.waiters m u next some)

    may : (named_by waiting.request ≡ m) × MayTake waiting.request Waiting
    may = waiting_takes waiting.request m waiting.waits place.0

    -- m, without an owner
    free : Mutex
    free = record (mutex_at w m) { owner = 0; count = 1 }

    -- u has left the waiters
    left : World
    left = record (without_owner m w) { waiters = without w.waiters u }

    IsHeld-left : IsHeld f counts left
    IsHeld-left =
        IsHeld-stays h (IsOrderly-waiters (without_owner m w) (without w.waiters u) h.orderly) (λ n y. y)
        (λ x. record {
          call = refl;
          living = λ y. y;
          held = λ n. refl;
          fewer = λ n y. (is_among-without w.waiters u x n y).0;
        })

    here : mutex_at left m ≡ free
    here = mutex-with_mutex w m free place.1

    acts : IsActing left u waiting.request Waiting
    acts = record { call = waiting.call; alone = λ n y. (is_among-without w.waiters u u n y).1 refl }

    takes : IsHeld f counts (taken u m left)
    takes =
        subst (λ k. IsHeld f counts (taken u k left)) may.0
        (IsHeld-takes IsHeld-left acts
        (subst (λ k. is_mutex left k ≡ true) (sym may.0) (is_mutex-with_mutex w m free m ∙ known))
        may.1 (subst (λ k. owner_of left k ≡ 0) (sym may.0) (ap (λ (y : Mutex). y.owner) here)))

    -- as with_progress and its mutexes make it, for a mutex y of m
    with_taken : Mutex → List Mutex → World
    with_taken y ms = record (with_progress u (on_taking y.health) w) { mutexes = ms; waiters = without w.waiters u }

    shown : taken u m left ≡ taken u m (record w { waiters = without w.waiters u })
    shown =
        ap (λ (y : Mutex). with_taken y (set (set w.mutexes m free) m (record y { owner = u; count = 1 }))) here
        ∙ ap (with_taken (mutex_at w m)) (set-set w.mutexes m free (record (mutex_at w m) { owner = u; count = 1 }))

-- t gives up its mutex, which it owns and holds once, and the mutex passes on
pub IsHeld-releases : {f : ℕ → Option Request} {counts : ℕ → ℕ → ℕ} {w v : World} → IsHeld f counts w → {t : ℕ}
    {q : Request} {a : Progress} → IsActing w t q a → is_mutex w (named_by q) ≡ true → (b : Progress)
    → owner_of w (named_by q) ≡ t → (mutex_at w (named_by q)).count ≡ 1 → ((n : ℕ) → Counted q a n 1 → Counted q b n 0)
    → Passes (named_by q) (with_progress t b w) v → IsHeld f counts v
IsHeld-releases {w = w} h {q = q} k known b own once mine passes =
    IsHeld-Passes known (IsHeld-gives_up h k known b own once mine) passes

-- a mutex that is owned was added
pub owned_is_mutex : (w : World) (m : ℕ) → IsOrderly w → owner_of w m ≢ 0 → is_mutex w m ≡ true
owned_is_mutex w m h owned = from_within m (length w.mutexes) some (by_room (cases_lt m (length w.mutexes)))
  where
    some : m ≢ 0
    some e = owned (ap (owner_of w) e ∙ h.no_mutex)

    by_room : (m < length w.mutexes) ⊎ (length w.mutexes ≤ m) → m < length w.mutexes
    by_room (inl l) = l
    by_room (inr l) = absurd (owned (ap (λ (y : Mutex). y.owner) (get_or_past w.mutexes m no_mutex l)))

-- who holds a mutex owns it, and it was added
pub holder_is_owner : {w : World} → IsOrderly w → (t m : ℕ) → times_held (is_living w t) t (mutex_at w m) ≡ 1
    → (owner_of w m ≡ t) × ((mutex_at w m).count ≡ 1) × (is_mutex w m ≡ true)
holder_is_owner {w} h t m once = (own.0, own.1, owned_is_mutex w m h some)
  where
    own : (owner_of w m ≡ t) × ((mutex_at w m).count ≡ 1)
    own = by_tests (is_living w t) (mutex_at w m) once
      where
        by_tests : (l : Bool) (y : Mutex) → times_held l t y ≡ 1 → (y.owner ≡ t) × (y.count ≡ 1)
        by_tests l y e = grind (arith, nat_tests)

    some : owner_of w m ≢ 0
    some free =
        let none : times_held (is_living w t) t (mutex_at w m) ≡ 0 = times-free h t (mutex_at w m) free in
        omega arith

-- another health of a mutex changes nothing
pub IsHeld-with_health : {f : ℕ → Option Request} {counts : ℕ → ℕ → ℕ} {w : World} → IsHeld f counts w → (m : ℕ)
    (x : Health) → IsHeld f counts (with_health m x w)
IsHeld-with_health {w = w} h m x =
    IsHeld-stays h
    (IsOrderly-mutexes h.orderly (kept_at (λ (y : Mutex). y.owner) w.mutexes m z no_mutex refl))
    (λ n y. is_mutex-with_mutex w m z n ∙ y)
    (λ t. record {
      call = refl;
      living = λ y. y;
      held = λ n. kept_at (λ (y : Mutex). times_held (is_living w t) t y) w.mutexes m z no_mutex refl n;
      fewer = λ n y. y;
    })
  where
    z : Mutex
    z = record (mutex_at w m) { health = x }

-- THE END OF A THREAD

-- the mutex of an owner that doesn't live is held by nobody: it is given up
pub IsHeld-frees : {f : ℕ → Option Request} {counts : ℕ → ℕ → ℕ} {w : World} → IsHeld f counts w → (m : ℕ)
    → is_mutex w m ≡ true → is_living w (owner_of w m) ≡ false → IsHeld f counts (without_owner m w)
IsHeld-frees {w = w} h m known dead =
    IsHeld-stays h (IsOrderly-with_mutex w m z h.orderly known (λ n. absurd (n refl)))
    (λ n y. is_mutex-with_mutex w m z n ∙ y)
    (λ t. record {
      call = refl;
      living = λ y. y;
      held = λ n. kept_at (λ (y : Mutex). times_held (is_living w t) t y) w.mutexes m z no_mutex (none t) n;
      fewer = λ n y. y;
    })
  where
    z : Mutex
    z = record (mutex_at w m) { owner = 0; count = 1 }

    of_dead : (t : ℕ) → (owner_of w m ≡ t) ⊎ (owner_of w m ≡ t → ⊥) → times_held (is_living w t) t (mutex_at w m) ≡ 0
    of_dead t (inl e) = ap (λ l. times_held l t (mutex_at w m)) (ap (is_living w) (sym e) ∙ dead)
    of_dead t (inr d) = times-other (is_living w t) t (mutex_at w m) d

    none : (t : ℕ) → times_held (is_living w t) t z ≡ times_held (is_living w t) t (mutex_at w m)
    none t = times-free h.orderly t z refl ∙ sym (of_dead t (cases_eq (owner_of w m) t))

-- passing on changes nobody's life
living-Passes : {m : ℕ} {w v : World} → Passes m w v → (t : ℕ) → is_living v t ≡ is_living w t
living-Passes {m} {w} (to_nobody none e) t = ap (λ (u : World). is_living u t) e
living-Passes {m} {w} (to_next u next some e) t =
    ap (λ (x : World). is_living x t) e ∙ living-with_thread w u further refl t
  where
    further : Thread
    further = record (thread_at w u) { call = at_progress (on_taking (mutex_at w m).health) (thread_at w u).call }

-- the robust mutexes of a thread that doesn't live pass on
pub IsHeld-Releases : {f : ℕ → Option Request} {counts : ℕ → ℕ → ℕ} {t : ℕ} {w v : World} → IsHeld f counts w
    → is_living w t ≡ false → t ≢ 0 → Releases t w v → IsHeld f counts v
IsHeld-Releases h dead some (none_left rest e) = rw e h
IsHeld-Releases {f} {counts} {t} h dead some (one_more {w = w} m own robust passes more) =
    IsHeld-Releases (IsHeld-Passes known_later (IsHeld-frees healed m known_later dead_owner) passes)
    (living-Passes passes t ∙ dead) some more
  where
    x : Health
    x = on_death (mutex_at w m).health

    healed : IsHeld f counts (with_health m x w)
    healed = IsHeld-with_health h m x

    z : Mutex
    z = record (mutex_at w m) { health = x }

    known_later : is_mutex (with_health m x w) m ≡ true
    known_later = is_mutex-with_mutex w m z m ∙ owned_is_mutex w m h.orderly (λ e. some (sym own ∙ e))

    dead_owner : is_living w (owner_of (with_health m x w) m) ≡ false
    dead_owner = ap (is_living w) (kept_at (λ (y : Mutex). y.owner) w.mutexes m z no_mutex refl m ∙ own) ∙ dead
