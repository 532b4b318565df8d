-- What becomes of the robust mutexes of a thread that ends. They pass on one after another, and none of that changes
-- who is the next waiter of another of them.
use Rattle.std.proofs.Common.{◌≡◌, ◌≢◌, ◌⊎◌, ◌<◌, ◌≤◌, ℕ, zero, suc, Bool, true, false, ◌==◌, List, [], ◌∷◌, length, map, refl, sym, ap, ◌∙◌, subst, inl, inr, true≢false, if◌then◌else◌, eq-eqb, eqb-true}
use Rattle.std.specs.List.{filter}
use Rattle.std.proofs.lemmas.Bool.{cases_eq, cases_lt, ne_eqb}
use Rattle.std.proofs.lemmas.List.{get_or_past, length-set}
use Rattle.pif_types.specs.Bounds.{Bounds}
use Rattle.pif_model.specs.declared.events.Event.TheVariants.{End}
use Rattle.pif_model.specs.declared.events.Seen.TheVariants.{Ended}
use Rattle.pif_model.specs.declared.events.Entry.{Entry}
use Rattle.pif_model.specs.declared.events.Entry.TheVariants.{Step as Happened}
use Rattle.pif_model.specs.Graph.{without, waited_by, waiters_with, first_greatest, next_waiter, reaches_within, greatest_where, effective_among}
use Rattle.pif_model.specs.Posix.{Thread, Mutex, World, IsRun, Step, Ends, Passes, Releases, nobody, no_mutex, thread_at, mutex_at, with_mutex, waits_for, effective_of, next_of, on_death, after_end, after_owner_death}
use Rattle.pif_model.specs.Posix.Passes.{to_nobody, to_next}
use Rattle.pif_model.specs.Posix.Releases.{none_left, one_more}
use Rattle.pif_model.specs.Posix.Step.{thread_added, mutex_added, cond_added, refused, begun, went, waits, answered, ended, ticked}
use Rattle.pif_model.specs.Soundness.{waited_in}
use Rattle.pif_model_lemmas.proofs.Among.{is_among, is_among_here, is_among_there, is_among-without, next_is_among}
use Rattle.pif_model_lemmas.proofs.Numbers.{within}
use Rattle.pif_model_lemmas.proofs.Places.{kept_at}
use Rattle.pif_model_lemmas.proofs.Waiting.{by_test, names, named-from_pair, named-without_other, named-without_same, without-first}
use Rattle.pif_model_simulation.proofs.Shown.{either}
use Rattle.pif_model_simulation.proofs.runs.Fated.{last_step}
use Rattle.pif_model_simulation.proofs.runs.Holders.{IsHeld-IsRun}
use Rattle.pif_model_simulation.proofs.runs.Holding.{same_request}
use Rattle.pif_model_simulation.proofs.runs.Worlds.{owner_of, mutex-with_mutex, mutex-with_mutex_other, end_allowed}
use Rattle.pif_model_inversion.specs.Recovery.{HasPassedOn}

-- CHAINS AND WAITERS, AS LISTS AND FUNCTIONS

-- by following f from y on b isn't found: y is nobody, or another that is followed by nobody
abbrev IsDeadEnd : (ℕ → ℕ) → ℕ → ℕ → Type 0
IsDeadEnd f b y = (y ≡ 0) ⊎ ((y ≢ b) × (f y ≡ 0))

dead_end_fails : (f : ℕ → ℕ) (b y k : ℕ) → IsDeadEnd f b y → (if y == 0 then false else reaches_within k f y b) ≡ false
unfolding reaches_within
dead_end_fails f b y k (inl e) = ap (λ c. if c then false else reaches_within k f y b) (eq-eqb y 0 e)
dead_end_fails f b y zero (inr d) = ap (λ c. if y == 0 then false else c) (ne_eqb y b d.0) ∙ either (y == 0)
dead_end_fails f b y (suc k) (inr d) =
    ap (λ c. if y == 0 then false else (if c then true else (if f y == 0 then false else reaches_within k f (f y) b))) (ne_eqb y b d.0)
    ∙ ap (λ c. if y == 0 then false else (if c then false else reaches_within k f (f y) b)) (eq-eqb (f y) 0 d.1)
    ∙ either (y == 0)

-- two functions lead to b from the same numbers if they differ only in dead ends
module _ (f g : ℕ → ℕ) (b : ℕ) (same : (x : ℕ) → (f x ≡ g x) ⊎ (IsDeadEnd f b (f x) × IsDeadEnd g b (g x))) where
  reaches_same : (k x : ℕ) → reaches_within k f x b ≡ reaches_within k g x b
  unfolding reaches_within
  reaches_same zero x = refl
  reaches_same (suc k) x = ap (λ c. if x == b then true else c) (go (reaches_same k (f x)) (same x))
    where
      go : reaches_within k f (f x) b ≡ reaches_within k g (f x) b → (f x ≡ g x) ⊎ (IsDeadEnd f b (f x) × IsDeadEnd g b (g x))
          → (if f x == 0 then false else reaches_within k f (f x) b) ≡ (if g x == 0 then false else reaches_within k g (g x) b)
      go rest (inl e) =
          subst (λ y. (if f x == 0 then false else reaches_within k f (f x) b) ≡ (if y == 0 then false else reaches_within k g y b)) e
          (ap (λ c. if f x == 0 then false else c) rest)
      go rest (inr d) = dead_end_fails f b (f x) k d.0 ∙ sym (dead_end_fails g b (g x) k d.1)

  effective_same : (n : ℕ) (base : ℕ → ℕ) → effective_among n f base b ≡ effective_among n g base b
  unfolding effective_among
  effective_same n base = ap (λ (test : ℕ → Bool). greatest_where test base n) (λ i u. reaches_same n u i)

-- the waiters of m with their priorities, if these are the same for each of them
waiters_same : (e d : ℕ → ℕ) (ws : List (ℕ × ℕ)) (m : ℕ) → ((b : ℕ) → is_among ws b m ≡ true → e b ≡ d b) → waiters_with e ws m ≡ waiters_with d ws m
waiters_same e d [] m same = refl
waiters_same e d (p ∷ ws) m same =
    let rest : waiters_with e ws m ≡ waiters_with d ws m = waiters_same e d ws m (λ b k. same b (is_among_there p ws b m k)) in
    by_test
    (λ c. map {B = ℕ × ℕ} (λ (w : ℕ × ℕ). (w.0, e w.0)) (if c then p ∷ filter (λ (w : ℕ × ℕ). w.1 == m) ws else filter (λ (w : ℕ × ℕ). w.1 == m) ws)
    ≡ map {B = ℕ × ℕ} (λ (w : ℕ × ℕ). (w.0, d w.0)) (if c then p ∷ filter (λ (w : ℕ × ℕ). w.1 == m) ws else filter (λ (w : ℕ × ℕ). w.1 == m) ws))
    (p.1 == m)
    (λ y. λ i. (p.0, same p.0 (is_among_here p ws p.0 m refl (eqb-true p.1 m y)) i) ∷ rest i)
    (λ n. rest)

-- and without a thread that isn't one of them
waiters_without : (e : ℕ → ℕ) (ws : List (ℕ × ℕ)) (m u : ℕ) → (is_among ws u m ≡ true → ⊥) → waiters_with e (without ws u) m ≡ waiters_with e ws m
waiters_without e [] m u other = refl
waiters_without e (p ∷ ws) m u other =
    let rest : waiters_with e (without ws u) m ≡ waiters_with e ws m =
    waiters_without e ws m u (λ k. other (is_among_there p ws u m k)) in
    without-first (λ l. waiters_with e l m ≡ waiters_with e (p ∷ ws) m) p ws u
    (λ y. rest ∙ sym (dropped (λ z. other (is_among_here p ws u m y z))))
    (λ n. by_test
    (λ c. map {B = ℕ × ℕ} (λ (w : ℕ × ℕ). (w.0, e w.0)) (if c then p ∷ filter (λ (w : ℕ × ℕ). w.1 == m) (without ws u) else filter (λ (w : ℕ × ℕ). w.1 == m) (without ws u))
    ≡ map {B = ℕ × ℕ} (λ (w : ℕ × ℕ). (w.0, e w.0)) (if c then p ∷ filter (λ (w : ℕ × ℕ). w.1 == m) ws else filter (λ (w : ℕ × ℕ). w.1 == m) ws))
    (p.1 == m) (λ y. ap (λ l. (p.0, e p.0) ∷ l) rest) (λ k. rest))
  where
    dropped : p.1 ≢ m → waiters_with e (p ∷ ws) m ≡ waiters_with e ws m
    dropped d =
        ap (λ c. map {B = ℕ × ℕ} (λ (w : ℕ × ℕ). (w.0, e w.0)) (if c then p ∷ filter (λ (w : ℕ × ℕ). w.1 == m) ws else filter (λ (w : ℕ × ℕ). w.1 == m) ws))
        (ne_eqb p.1 m d)

-- who is no waiter waits for nothing, and whoever is waits for the mutex of its pair
waited-from_unnamed : (ws : List (ℕ × ℕ)) (u : ℕ) → names u ws ≡ false → waited_by ws u ≡ 0
unfolding waited_by
waited-from_unnamed [] u h = refl
waited-from_unnamed (p ∷ ws) u h = go (cases_eq p.0 u) (waited-from_unnamed ws u)
  where
    go : (p.0 ≡ u) ⊎ (p.0 ≡ u → ⊥) → (names u ws ≡ false → waited_by ws u ≡ 0) → (if p.0 == u then p.1 else waited_by ws u) ≡ 0
    go (inl e) rest = absurd (true≢false (sym (rw (eq-eqb p.0 u e) refl) ∙ h))
    go (inr d) rest = rw (ne_eqb p.0 u d) (rest (rw (ne_eqb p.0 u d) at h))

among-from_waited : (ws : List (ℕ × ℕ)) (u : ℕ) → names u ws ≡ true → is_among ws u (waited_by ws u) ≡ true
unfolding waited_by
among-from_waited [] u h = h
among-from_waited (p ∷ ws) u h = go (cases_eq p.0 u) (among-from_waited ws u)
  where
    go : (p.0 ≡ u) ⊎ (p.0 ≡ u → ⊥) → (names u ws ≡ true → is_among ws u (waited_by ws u) ≡ true)
        → is_among (p ∷ ws) u (if p.0 == u then p.1 else waited_by ws u) ≡ true
    go (inl e) rest = is_among_here p ws u _ e (sym (rw (eq-eqb p.0 u e) refl))
    go (inr d) rest = subst (λ k. is_among (p ∷ ws) u k ≡ true)
        (sym (ap (λ c. if c then p.1 else waited_by ws u) (ne_eqb p.0 u d)))
        (is_among_there p ws u (waited_by ws u) (rest (rw (ne_eqb p.0 u d) at h)))

-- for what another waits once u has left
waited-without_other : (ws : List (ℕ × ℕ)) (u x : ℕ) → x ≢ u → waited_by (without ws u) x ≡ waited_by ws x
unfolding waited_by
waited-without_other [] u x d = refl
waited-without_other (p ∷ ws) u x d = without-first (λ l. waited_by l x ≡ (if p.0 == x then p.1 else waited_by ws x)) p ws u
    (λ y. waited-without_other ws u x d ∙ sym (ap (λ c. if c then p.1 else waited_by ws x) (ne_eqb p.0 x (λ e. d (sym e ∙ y)))))
    (λ n. ap (λ k. if p.0 == x then p.1 else k) (waited-without_other ws u x d))

-- WHAT PASSES ON

-- t has left all that it waited for; who waits does so for one mutex; and nobody owns what was never added
record IsLeft (t : ℕ) (w : World) : Type 0 where
  gone : names t w.waiters ≡ false
  once : (u m n : ℕ) → is_among w.waiters u m ≡ true → is_among w.waiters u n ≡ true → m ≡ n
  unadded : owner_of w 0 ≡ 0

-- m has passed on from w to v, since its owner has ended: to z, which is its next waiter, or to nobody
record Passed (m : ℕ) (w v : World) : Type 0 where
  z : ℕ
  is_next : z ≡ next_of w m
  mutex : mutex_at v m ≡ record (mutex_at w m) { owner = z; count = 1; health = on_death (mutex_at w m).health }
  others : (n : ℕ) → n ≢ m → mutex_at v n ≡ mutex_at w n
  queue : ((z ≡ 0) × (v.waiters ≡ w.waiters)) ⊎ ((is_among w.waiters z m ≡ true) × (v.waiters ≡ without w.waiters z))
  room : length v.threads ≡ length w.threads
  bases : (u : ℕ) → (thread_at v u).base ≡ (thread_at w u).base

passed : (t m : ℕ) (w v : World) → t ≢ 0 → owner_of w m ≡ t → Passes m (after_owner_death m w) v → Passed m w v
passed t m w v some own = by_pass
  where
    y : Mutex
    y = record (mutex_at w m) { health = on_death (mutex_at w m).health }

    dead : World
    dead = after_owner_death m w

    known : m < length w.mutexes
    known = by_room (cases_lt m (length w.mutexes))
      where
        by_room : (m < length w.mutexes) ⊎ (length w.mutexes ≤ m) → m < length w.mutexes
        by_room (inl l) = l
        by_room (inr l) = absurd (some (sym own ∙ ap (λ (x : Mutex). x.owner) (get_or_past w.mutexes m no_mutex l)))

    known_later : m < length dead.mutexes
    known_later = subst (λ n. m < n) (sym (length-set w.mutexes m y)) known

    -- a health alone doesn't change who is next
    kept : (n : ℕ) → owner_of dead n ≡ owner_of w n
    kept n = kept_at (λ (x : Mutex). x.owner) w.mutexes m y no_mutex refl n

    next_kept : next_of dead m ≡ next_of w m
    next_kept = ap
        (λ (f : ℕ → ℕ). next_waiter (λ b. effective_among (length w.threads) f (λ u. (thread_at w u).base) b) w.waiters m)
        (λ i u. kept (waited_by w.waiters u) i)

    here : mutex_at dead m ≡ y
    here = mutex-with_mutex w m y known

    written : (z : ℕ) → mutex_at (with_mutex m (record (mutex_at dead m) { owner = z; count = 1 }) dead) m
        ≡ record (mutex_at w m) { owner = z; count = 1; health = on_death (mutex_at w m).health }
    written z =
        mutex-with_mutex dead m (record (mutex_at dead m) { owner = z; count = 1 }) known_later
        ∙ ap (λ (x : Mutex). record x { owner = z; count = 1 }) here

    elsewhere : (z n : ℕ) → n ≢ m → mutex_at (with_mutex m (record (mutex_at dead m) { owner = z; count = 1 }) dead) n ≡ mutex_at w n
    elsewhere z n d =
        mutex-with_mutex_other dead m (record (mutex_at dead m) { owner = z; count = 1 }) n d ∙ mutex-with_mutex_other w m y n d

    by_pass : Passes m dead v → Passed m w v
    by_pass (to_nobody none e) = rw e (record {
      z = 0;
      is_next = sym none ∙ next_kept;
      mutex = written 0;
      others = elsewhere 0;
      queue = inl (refl, refl);
      room = refl;
      bases = λ u. refl;
    })
    by_pass (to_next u next is_some e) = rw e (record {
      z = u;
      is_next = sym next ∙ next_kept;
      mutex = written u;
      others = elsewhere u;
      queue = inr (next_is_among _ w.waiters m u next is_some, refl);
      room = length-set w.threads u _;
      bases = λ k. kept_at (λ (x : Thread). x.base) w.threads u _ nobody refl k;
    })

module _ {t m : ℕ} {w v : World} (some : t ≢ 0) (own : owner_of w m ≡ t) (h : IsLeft t w) (p : Passed m w v) where
  -- m isn't the place of nobody
  named : m ≢ 0
  named e = some (sym own ∙ ap (owner_of w) e ∙ h.unadded)

  -- t stays gone, and owns m no more
  left_later : IsLeft t v
  left_later = record { gone = by_queue p.queue; once = once_later p.queue; unadded = unadded }
    where
      by_queue : ((p.z ≡ 0) × (v.waiters ≡ w.waiters)) ⊎ ((is_among w.waiters p.z m ≡ true) × (v.waiters ≡ without w.waiters p.z))
          → names t v.waiters ≡ false
      by_queue (inl k) = ap (names t) k.1 ∙ h.gone
      by_queue (inr k) =
          ap (names t) k.1
          ∙ named-without_other w.waiters p.z t (λ e. true≢false (sym (named-from_pair w.waiters p.z m k.0) ∙ ap (λ i. names i w.waiters) (sym e) ∙ h.gone))
          ∙ h.gone

      once_later : ((p.z ≡ 0) × (v.waiters ≡ w.waiters)) ⊎ ((is_among w.waiters p.z m ≡ true) × (v.waiters ≡ without w.waiters p.z))
          → (u i j : ℕ) → is_among v.waiters u i ≡ true → is_among v.waiters u j ≡ true → i ≡ j
      once_later (inl k) u i j a b = h.once u i j (sym (ap (λ l. is_among l u i) k.1) ∙ a) (sym (ap (λ l. is_among l u j) k.1) ∙ b)
      once_later (inr k) u i j a b = h.once u i j
          (is_among-without w.waiters p.z u i (sym (ap (λ l. is_among l u i) k.1) ∙ a)).0
          (is_among-without w.waiters p.z u j (sym (ap (λ l. is_among l u j) k.1) ∙ b)).0

      unadded : owner_of v 0 ≡ 0
      unadded = ap (λ (y : Mutex). y.owner) (p.others 0 (λ e. named (sym e))) ∙ h.unadded

  owns_no_more : owner_of v m ≢ t
  owns_no_more e = by_queue p.queue
    where
      taker : p.z ≡ t
      taker = sym (ap (λ (y : Mutex). y.owner) p.mutex) ∙ e

      by_queue : ((p.z ≡ 0) × (v.waiters ≡ w.waiters)) ⊎ ((is_among w.waiters p.z m ≡ true) × (v.waiters ≡ without w.waiters p.z)) → ⊥
      by_queue (inl k) = some (sym taker ∙ k.0)
      by_queue (inr k) =
          true≢false (sym (named-from_pair w.waiters p.z m k.0) ∙ ap (λ i. names i w.waiters) taker ∙ h.gone)

  -- another mutex of t keeps its next waiter
  module _ (n : ℕ) (apart : n ≢ m) where
    -- a waiter of it is neither t nor who took m
    waiter_stays : (b : ℕ) → is_among w.waiters b n ≡ true → (t ≢ b) × (is_among w.waiters p.z m ≡ true → p.z ≢ b)
    waiter_stays b among = (
      (λ e. true≢false (sym (named-from_pair w.waiters b n among) ∙ ap (λ i. names i w.waiters) (sym e) ∙ h.gone)),
      (λ k e. apart (h.once b n m among (subst (λ i. is_among w.waiters i m ≡ true) e k))),
    )

    -- t waits for nobody
    ends_at_t : waits_for w t ≡ 0
    ends_at_t = ap (owner_of w) (waited-from_unnamed w.waiters t h.gone) ∙ h.unadded

    owner_kept : (i : ℕ) → i ≢ m → owner_of w i ≡ owner_of v i
    owner_kept i d = ap (λ (y : Mutex). y.owner) (sym (p.others i d))

    -- who took m waits for nobody
    taker_waits_not : v.waiters ≡ without w.waiters p.z → (x : ℕ) → x ≡ p.z → waits_for v x ≡ 0
    taker_waits_not f x e =
        ap (waits_for v) e
        ∙ ap (owner_of v) (ap (λ l. waited_by l p.z) f ∙ waited-from_unnamed (without w.waiters p.z) p.z (named-without_same w.waiters p.z))
        ∙ sym (owner_kept 0 (λ k. named (sym k))) ∙ h.unadded

    -- who waited for m waits for who took it, unless it is that one
    now_on : v.waiters ≡ without w.waiters p.z → {x : ℕ} → (x ≡ p.z → ⊥) → waited_by w.waiters x ≡ m → waits_for v x ≡ p.z
    now_on f {x} d e =
        ap (owner_of v) (ap (λ l. waited_by l x) f ∙ waited-without_other w.waiters p.z x d ∙ e) ∙ ap (λ (y : Mutex). y.owner) p.mutex

    same_ways : (b : ℕ) → is_among w.waiters b n ≡ true → (x : ℕ)
        → (waits_for w x ≡ waits_for v x) ⊎ (IsDeadEnd (waits_for w) b (waits_for w x) × IsDeadEnd (waits_for v) b (waits_for v x))
    same_ways b among x = by_queue p.queue (cases_eq (waited_by w.waiters x) m)
      where
        Same : Type 0
        Same = (waits_for w x ≡ waits_for v x) ⊎ (IsDeadEnd (waits_for w) b (waits_for w x) × IsDeadEnd (waits_for v) b (waits_for v x))

        -- who waited for m waited for t
        to_t : waited_by w.waiters x ≡ m → IsDeadEnd (waits_for w) b (waits_for w x)
        to_t e = inr (
          (λ k. (waiter_stays b among).0 (sym own ∙ ap (owner_of w) (sym e) ∙ k)),
          ap (waits_for w) (ap (owner_of w) e ∙ own) ∙ ends_at_t,
        )

        owner_now : owner_of v m ≡ p.z
        owner_now = ap (λ (y : Mutex). y.owner) p.mutex

        by_taker : is_among w.waiters p.z m ≡ true → v.waiters ≡ without w.waiters p.z → (x ≡ p.z) ⊎ (x ≡ p.z → ⊥)
            → (waited_by w.waiters x ≡ m) ⊎ (waited_by w.waiters x ≡ m → ⊥) → Same
        by_taker k f (inl e) c = inr (
          to_t (ap (waited_by w.waiters) e ∙ h.once p.z (waited_by w.waiters p.z) m
              (among-from_waited w.waiters p.z (named-from_pair w.waiters p.z m k)) k),
          inl (taker_waits_not f x e),
        )
        by_taker k f (inr d) (inl e) = inr (
          to_t e,
          inr (
            (λ y. (waiter_stays b among).1 k (sym (now_on f d e) ∙ y)),
            ap (waits_for v) (now_on f d e) ∙ taker_waits_not f p.z refl,
          ),
        )
        by_taker k f (inr d) (inr other) =
            inl (owner_kept (waited_by w.waiters x) other ∙ ap (owner_of v) (sym (ap (λ l. waited_by l x) f ∙ waited-without_other w.waiters p.z x d)))

        by_queue : ((p.z ≡ 0) × (v.waiters ≡ w.waiters)) ⊎ ((is_among w.waiters p.z m ≡ true) × (v.waiters ≡ without w.waiters p.z))
            → (waited_by w.waiters x ≡ m) ⊎ (waited_by w.waiters x ≡ m → ⊥) → Same
        by_queue (inl k) (inl e) =
            inr (to_t e, inl (ap (owner_of v) (ap (λ l. waited_by l x) k.1 ∙ e) ∙ owner_now ∙ k.0))
        by_queue (inl k) (inr other) =
            inl (owner_kept (waited_by w.waiters x) other ∙ ap (λ l. owner_of v (waited_by l x)) (sym k.1))
        by_queue (inr k) c = by_taker k.0 k.1 (cases_eq x p.z) c

    effective_kept : (b : ℕ) → is_among w.waiters b n ≡ true → effective_of w b ≡ effective_of v b
    effective_kept b among =
        effective_same (waits_for w) (waits_for v) b (same_ways b among) (length w.threads) (λ u. (thread_at w u).base)
        ∙ (λ i. effective_among (sym p.room i) (waits_for v) (λ u. sym (p.bases u) i) b)

    waiters_kept : waiters_with (effective_of w) w.waiters n ≡ waiters_with (effective_of v) v.waiters n
    waiters_kept = waiters_same (effective_of w) (effective_of v) w.waiters n effective_kept ∙ by_queue p.queue
      where
        by_queue : ((p.z ≡ 0) × (v.waiters ≡ w.waiters)) ⊎ ((is_among w.waiters p.z m ≡ true) × (v.waiters ≡ without w.waiters p.z))
            → waiters_with (effective_of v) w.waiters n ≡ waiters_with (effective_of v) v.waiters n
        by_queue (inl k) = ap (λ l. waiters_with (effective_of v) l n) (sym k.1)
        by_queue (inr k) =
            sym (waiters_without (effective_of v) w.waiters n p.z (λ y. apart (h.once p.z n m y k.0)))
            ∙ ap (λ l. waiters_with (effective_of v) l n) (sym k.1)

    next_stays : next_of w n ≡ next_of v n
    unfolding next_waiter
    next_stays = ap (λ l. (first_greatest l).0) waiters_kept

-- a mutex that t doesn't own stays, whatever passes on since t has ended
others_stay : {t : ℕ} {w v : World} → t ≢ 0 → (m : ℕ) → owner_of w m ≢ t → Releases t w v → mutex_at v m ≡ mutex_at w m
others_stay some m other (none_left none e) = ap (λ (y : World). mutex_at y m) e
others_stay {t} {w} some m other (one_more {u = u} n own robust passes more) =
    let p = passed t n w u some own passes in
    let d : m ≢ n = λ e. other (ap (owner_of w) e ∙ own) in
    others_stay some m (λ e. other (ap (λ (y : Mutex). y.owner) (sym (p.others m d)) ∙ e)) more ∙ p.others m d

-- a robust mutex of t passes on
release_passes : {t : ℕ} {w v : World} → t ≢ 0 → IsLeft t w → (m : ℕ) → (mutex_at w m).robust ≡ true → owner_of w m ≡ t → Releases t w v
    → (owner_of v m ≡ next_of w m) × ((mutex_at v m).count ≡ 1) × ((mutex_at v m).health ≡ on_death (mutex_at w m).health)
release_passes some h m robust own (none_left none e) = absurd (true≢false (sym robust ∙ none m own))
release_passes {t} {w} {v} some h m robust own (one_more {u = u} n mine is_robust passes more) =
    by_mutex (λ k a b. release_passes some k m a b more) (cases_eq m n)
  where
    p : Passed n w u
    p = passed t n w u some mine passes

    by_mutex : (IsLeft t u → (mutex_at u m).robust ≡ true → owner_of u m ≡ t
        → (owner_of v m ≡ next_of u m) × ((mutex_at v m).count ≡ 1) × ((mutex_at v m).health ≡ on_death (mutex_at u m).health))
        → (m ≡ n) ⊎ (m ≡ n → ⊥)
        → (owner_of v m ≡ next_of w m) × ((mutex_at v m).count ≡ 1) × ((mutex_at v m).health ≡ on_death (mutex_at w m).health)
    by_mutex rest (inl e) =
        let stays = others_stay some n (owns_no_more some mine h p) more in
        let now = ap (mutex_at v) e ∙ stays ∙ p.mutex in (
          ap (λ (y : Mutex). y.owner) now ∙ p.is_next ∙ ap (next_of w) (sym e),
          ap (λ (y : Mutex). y.count) now,
          ap (λ (y : Mutex). y.health) now ∙ ap (λ i. on_death (mutex_at w i).health) (sym e),
        )
    by_mutex rest (inr d) =
        let same = p.others m d in
        let k = rest (left_later some mine h p) (ap (λ (y : Mutex). y.robust) same ∙ robust) (ap (λ (y : Mutex). y.owner) same ∙ own) in
        (k.0 ∙ sym (next_stays some mine h p m d), k.1, k.2 ∙ ap (λ (y : Mutex). on_death y.health) same)

-- the end of a thread
end_passes : (l : Bounds) (h : List Entry) (r : List World) (w : World) → IsRun l h r w → (t m : ℕ) (v : World) → (mutex_at w m).robust ≡ true
    → owner_of w m ≡ t → Ends t w v → HasPassedOn w v t m
end_passes l h r w run t m v robust own ends =
    let k = release_passes some left m robust own ends.releases in record { owner = k.0; count = k.1; health = k.2 }
  where
    some : t ≢ 0
    some = (within t (length w.threads) (end_allowed w t ends.allowed).0).0

    left : IsLeft t (after_end t w)
    left = record {
      gone = named-without_same w.waiters t;
      once = λ u i j a b.
          let held = (IsHeld-IsRun l run).each u in
          let x = held.waiting i (is_among-without w.waiters t u i a).0 in
          let y = held.waiting j (is_among-without w.waiters t u j b).0 in
          sym x.waits ∙ ap waited_in (same_request x.call y.call) ∙ y.waits;
      unadded = (IsHeld-IsRun l run).orderly.no_mutex;
    }

pub ended_passes : (l : Bounds) (h : List Entry) (r : List World) (w v : World) (t : ℕ) → IsRun l (Happened (End t) Ended ∷ h) (w ∷ r) v
    → (m : ℕ) → (mutex_at w m).robust ≡ true → owner_of w m ≡ t → HasPassedOn w v t m
ended_passes l h r w v t run m robust own = by_step (last_step l h r (Happened (End t) Ended) w v run).1
  where
    before : IsRun l h r w
    before = (last_step l h r (Happened (End t) Ended) w v run).0

    by_step : Step l w (Happened (End t) Ended) v → HasPassedOn w v t m
    by_step (thread_added u p same is_next room low high after) = absurd (cc)
    by_step (mutex_added k i b same is_next room after) = absurd (cc)
    by_step (cond_added c k same known is_next room after) = absurd (cc)
    by_step (refused y e same why after) = absurd (cc)
    by_step (begun u q same allowed after) = absurd (cc)
    by_step (went u same goes runs) = absurd (cc)
    by_step (waits u y same goes after resting) = absurd (cc)
    by_step (answered u a q y same goes before after runs) = absurd (cc)
    by_step (ended u same ends) =
        let e : u ≡ t = cc in end_passes l h r w before t m v robust own (subst (λ i. Ends i w v) e ends)
    by_step (ticked n same allowed after) = absurd (cc)
