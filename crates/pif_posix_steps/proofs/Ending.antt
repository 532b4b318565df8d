-- The robust mutexes of an ended thread may pass on in any order: each order leads to the same state. What a mutex
-- passes on to depends on the effective priorities of its waiters alone. No chain to one of these comes through another
-- mutex of the ended thread: the ended thread waits for nobody, and nobody waits for two mutexes.
use Rattle.std.proofs.Common.{ℕ, ◌≡◌, ◌≢◌, ◌⊎◌, ◌<◌, ◌≤◌, ◌∙◌, Bool, true, false, List, length, get_or, refl, sym, subst, ap, inl, inr, if◌then◌else◌}
use Rattle.std.proofs.lemmas.Bool.{true≢false, cases_eq, cases_lt, eq-eqb, ne_eqb}
use Rattle.std.proofs.lemmas.List.{get_or-set_same, get_or-set_other, get_or_past, length-set}
use Rattle.pif_types.specs.Bounds.{Bounds}
use Rattle.pif_model.specs.declared.events.Entry.{Entry}
use Rattle.pif_model.specs.Graph.{waited_by, without, next_waiter}
use Rattle.pif_model.specs.Soundness.{waited_in}
use Rattle.pif_model.specs.declared.events.Event.TheVariants.{End}
use Rattle.pif_model.specs.Posix.{World, Thread, Mutex, Ends, Releases, IsRun, IsAllowed, IsOwner, IsNotStalled, nobody, no_mutex, thread_at, mutex_at, waits_for, effective_of, next_of, after_end}
use Rattle.pif_model.specs.Posix.Releases.{none_left, one_more}
use Rattle.pif_model_lemmas.proofs.Among.{is_among, is_among-without, next_is_among}
use Rattle.pif_model_lemmas.proofs.Numbers.{within}
use Rattle.pif_model_lemmas.proofs.Places.{kept_at}
use Rattle.pif_model_lemmas.proofs.Waiting.{names, named-from_pair, named-without_other, named-without_same, paired-from_waited}
use Rattle.pif_model_simulation.proofs.runs.Worlds.{owner_of, end_allowed}
use Rattle.pif_model_simulation.proofs.runs.Holding.{same_request}
use Rattle.pif_model_simulation.proofs.runs.Holders.{IsHeld-IsRun}
use Rattle.pif_posix_steps.proofs.Reaching.{EndsBefore, unnamed_waits, waited-without_other, waited-from_single, next_same, next_left, effective_kept}
use Rattle.pif_posix_steps.proofs.Passing.{passed_mutex, passed_thread, passed_threads, passed_waiters, passed_to, passed, passed-from_passes, passes-to_passed, passed_to_comm}

-- A THREAD THAT HAS LEFT

-- t has left all waiters, and nobody is among those of two mutexes
pub record HasLeft (t : ℕ) (w : World) : Type 0 where
  pub somebody : t ≢ 0
  pub no_mutex : owner_of w 0 ≡ 0
  pub gone : names t w.waiters ≡ false
  pub single : (u m k : ℕ) → is_among w.waiters u m ≡ true → is_among w.waiters u k ≡ true → m ≡ k

module _ {t : ℕ} {w : World} (h : HasLeft t w) where
  -- a mutex of t is none at place 0, and was added
  owned_above_0 : (m : ℕ) → IsOwner w t m → m ≢ 0
  owned_above_0 m own e = h.somebody (sym own ∙ ap (owner_of w) e ∙ h.no_mutex)

  owned_inside : (m : ℕ) → IsOwner w t m → m < length w.mutexes
  owned_inside m own = by_room (cases_lt m (length w.mutexes))
    where
      by_room : (m < length w.mutexes) ⊎ (length w.mutexes ≤ m) → m < length w.mutexes
      by_room (inl l) = l
      by_room (inr l) =
          absurd (h.somebody (sym own ∙ ap (λ (y : Mutex). y.owner) (get_or_past w.mutexes m no_mutex l)))

  -- m, a mutex of t, has passed on
  module _ (m : ℕ) (own : IsOwner w t m) where
    -- to this thread, if to any
    abbrev to : ℕ
    to = next_of w m

    -- which is among its waiters
    to_among : to ≢ 0 → is_among w.waiters to m ≡ true
    to_among some = next_is_among (effective_of w) w.waiters m to refl some

    -- other mutexes are as they were
    other_mutex : (n : ℕ) → n ≢ m → mutex_at (passed m w) n ≡ mutex_at w n
    other_mutex n d = get_or-set_other w.mutexes m n (passed_mutex to (mutex_at w m)) no_mutex d

    other_owner : (n : ℕ) → n ≢ m → owner_of (passed m w) n ≡ owner_of w n
    other_owner n d = ap (λ (y : Mutex). y.owner) (other_mutex n d)

    no_owner_at_0 : owner_of (passed m w) 0 ≡ 0
    no_owner_at_0 = other_owner 0 (λ e. owned_above_0 m own (sym e)) ∙ h.no_mutex

    new_owner : owner_of (passed m w) m ≡ to
    new_owner =
        ap (λ (y : Mutex). y.owner)
        (get_or-set_same w.mutexes m (passed_mutex to (mutex_at w m)) no_mutex (owned_inside m own))

    -- no waiter is new
    among_before : (u k : ℕ) → is_among (passed_waiters to w.waiters) u k ≡ true → is_among w.waiters u k ≡ true
    among_before u k = go (cases_eq to 0)
      where
        go : (to ≡ 0) ⊎ (to ≢ 0) → is_among (passed_waiters to w.waiters) u k ≡ true → is_among w.waiters u k ≡ true
        go (inl e) = rw (eq-eqb to 0 e) (λ y. y)
        go (inr d) = rw (ne_eqb to 0 d) (λ y. (is_among-without w.waiters to u k y).0)

    -- t has still left
    passed-left : HasLeft t (passed m w)
    passed-left = record {
      somebody = h.somebody;
      no_mutex = no_owner_at_0;
      gone = go (cases_eq to 0) (cases_eq t to);
      single = λ u n k y z. h.single u n k (among_before u n y) (among_before u k z);
    }
      where
        go : (to ≡ 0) ⊎ (to ≢ 0) → (t ≡ to) ⊎ (t ≢ to) → names t (passed_waiters to w.waiters) ≡ false
        go (inl e) k = rw (eq-eqb to 0 e) h.gone
        go (inr d) (inl e) =
            rw (ne_eqb to 0 d)
            (subst (λ (x : ℕ). names x (without w.waiters to) ≡ false) (sym e) (named-without_same w.waiters to))
        go (inr d) (inr n) = rw (ne_eqb to 0 d) (named-without_other w.waiters to t n ∙ h.gone)

    -- whom m has passed on to waits for no mutex any more
    to_waits_not : to ≢ 0 → waited_by (passed_waiters to w.waiters) to ≡ 0
    to_waits_not some = rw (ne_eqb to 0 some)
        (unnamed_waits (without w.waiters to) to (named-without_same w.waiters to))

    -- for which mutex z waits then: for the one for which it waited, or for none if it was passed m
    waited_then : (z : ℕ) → (waited_by (passed_waiters to w.waiters) z ≡ waited_by w.waiters z)
        ⊎ ((waited_by w.waiters z ≡ m) × (waited_by (passed_waiters to w.waiters) z ≡ 0))
    waited_then z = go (cases_eq to 0) (cases_eq z to)
      where
        go : (to ≡ 0) ⊎ (to ≢ 0) → (z ≡ to) ⊎ (z ≢ to)
            → (waited_by (passed_waiters to w.waiters) z ≡ waited_by w.waiters z)
            ⊎ ((waited_by w.waiters z ≡ m) × (waited_by (passed_waiters to w.waiters) z ≡ 0))
        go (inl e) k =
            inl (ap (λ (b : Bool). waited_by (if b then w.waiters else without w.waiters to) z) (eq-eqb to 0 e))
        go (inr some) (inl e) = inr (
          ap (waited_by w.waiters) e
              ∙ waited-from_single w.waiters to m (to_among some) (λ k y. h.single to k m y (to_among some)),
          ap (waited_by (passed_waiters to w.waiters)) e ∙ to_waits_not some,
        )
        go (inr some) (inr n) = inl (
            ap (λ (b : Bool). waited_by (if b then w.waiters else without w.waiters to) z) (ne_eqb to 0 some)
            ∙ waited-without_other w.waiters to z n)

    -- n is another mutex of t
    module _ (n : ℕ) (also : IsOwner w t n) (d : m ≢ n) where
      -- none of its waiters waits for m
      not_for_m : (y : ℕ) → is_among w.waiters y n ≡ true → waited_by w.waiters y ≢ m
      not_for_m y among e =
          d (h.single y m n (paired-from_waited w.waiters y m (owned_above_0 m own) e) among)

      -- chains to one of its waiters are as they were, but that those through m end before it
      chain_then : (y : ℕ) → is_among w.waiters y n ≡ true → (z : ℕ)
          → (waits_for (passed m w) z ≡ waits_for w z)
          ⊎ (EndsBefore (waits_for (passed m w)) y z × EndsBefore (waits_for w) y z)
      chain_then y among z = by_mutex (cases_eq (waited_by w.waiters z) m) (waited_then z)
        where
          other : waited_by w.waiters z ≡ m → z ≢ y
          other e same = not_for_m y among (ap (waited_by w.waiters) (sym same) ∙ e)

          before : waited_by w.waiters z ≡ m → EndsBefore (waits_for w) y z
          before e =
              let at_t : waits_for w z ≡ t = ap (owner_of w) e ∙ own in (
                other e,
                inr (
                  λ same. true≢false (sym (named-from_pair w.waiters y n among)
                      ∙ ap (λ (x : ℕ). names x w.waiters) (sym same ∙ at_t) ∙ h.gone),
                  ap (waits_for w) at_t ∙ ap (owner_of w) (unnamed_waits w.waiters t h.gone) ∙ h.no_mutex,
                ),
              )

          at_once : waits_for (passed m w) z ≡ 0 → waited_by w.waiters z ≡ m → EndsBefore (waits_for (passed m w)) y z
          at_once e k = (other k, inl e)

          by_next : (to ≡ 0) ⊎ (to ≢ 0) → waits_for (passed m w) z ≡ to → waited_by w.waiters z ≡ m
              → EndsBefore (waits_for (passed m w)) y z
          by_next (inl none) e k = at_once (e ∙ none) k
          by_next (inr some) e k = (
            other k,
            inr (
              λ same. d (h.single to m n (to_among some)
                  (subst (λ (x : ℕ). is_among w.waiters x n ≡ true) (sym same ∙ e) among)),
              ap (waits_for (passed m w)) e ∙ ap (owner_of (passed m w)) (to_waits_not some) ∙ no_owner_at_0,
            ),
          )

          by_mutex : (waited_by w.waiters z ≡ m) ⊎ (waited_by w.waiters z ≢ m)
              → (waited_by (passed_waiters to w.waiters) z ≡ waited_by w.waiters z)
              ⊎ ((waited_by w.waiters z ≡ m) × (waited_by (passed_waiters to w.waiters) z ≡ 0))
              → (waits_for (passed m w) z ≡ waits_for w z)
              ⊎ (EndsBefore (waits_for (passed m w)) y z × EndsBefore (waits_for w) y z)
          by_mutex (inl e) (inl s) =
              inr (by_next (cases_eq to 0) (ap (owner_of (passed m w)) (s ∙ e) ∙ new_owner) e, before e)
          by_mutex (inl e) (inr s) = inr (at_once (ap (owner_of (passed m w)) s.1 ∙ no_owner_at_0) e, before e)
          by_mutex (inr o) (inl s) = inl (ap (owner_of (passed m w)) s ∙ other_owner (waited_by w.waiters z) o)
          by_mutex (inr o) (inr s) = absurd (o s.0)

      -- as many threads, of the same base priorities
      same_length : length (passed m w).threads ≡ length w.threads
      same_length = go (cases_eq to 0)
        where
          go : (to ≡ 0) ⊎ (to ≢ 0) → length (passed_threads to (mutex_at w m).health w.threads) ≡ length w.threads
          go (inl e) = rw (eq-eqb to 0 e) refl
          go (inr k) =
              rw (ne_eqb to 0 k) (length-set w.threads to (passed_thread (mutex_at w m).health (thread_at w to)))

      same_base : (x : ℕ) → (thread_at (passed m w) x).base ≡ (thread_at w x).base
      same_base x = go (cases_eq to 0)
        where
          go : (to ≡ 0) ⊎ (to ≢ 0)
              → (get_or (passed_threads to (mutex_at w m).health w.threads) x nobody).base ≡ (thread_at w x).base
          go (inl e) = rw (eq-eqb to 0 e) refl
          go (inr k) = rw (ne_eqb to 0 k) (kept_at (λ (y : Thread). y.base) w.threads to
              (passed_thread (mutex_at w m).health (thread_at w to)) nobody refl x)

      -- so n has the next waiter that it had
      next_kept : next_of (passed m w) n ≡ next_of w n
      next_kept = go (cases_eq to 0) ∙ next_same (effective_of (passed m w)) (effective_of w) w.waiters n same
        where
          same : (y : ℕ) → is_among w.waiters y n ≡ true → effective_of (passed m w) y ≡ effective_of w y
          same y among =
              effective_kept (length (passed m w).threads) (length w.threads) (waits_for (passed m w)) (waits_for w)
              (λ x. (thread_at (passed m w) x).base) (λ x. (thread_at w x).base) y same_length
              (chain_then y among) same_base

          go : (to ≡ 0) ⊎ (to ≢ 0)
              → next_waiter (effective_of (passed m w)) (passed_waiters to w.waiters) n
              ≡ next_waiter (effective_of (passed m w)) w.waiters n
          go (inl e) =
              ap
              (λ (b : Bool). next_waiter (effective_of (passed m w)) (if b then w.waiters else without w.waiters to) n)
              (eq-eqb to 0 e)
          go (inr some) =
              ap
              (λ (b : Bool). next_waiter (effective_of (passed m w)) (if b then w.waiters else without w.waiters to) n)
              (ne_eqb to 0 some)
              ∙ next_left (effective_of (passed m w)) w.waiters to n (λ y. d (h.single to m n (to_among some) y))

-- two mutexes of t may pass on in either order
passed_comm : {t : ℕ} {w : World} → HasLeft t w → (m n : ℕ) → IsOwner w t m → IsOwner w t n → m ≢ n
    → passed n (passed m w) ≡ passed m (passed n w)
passed_comm {w = w} h m n own also d =
    ap (λ (x : ℕ). passed_to x n (passed m w)) (next_kept h m own n also d)
    ∙ passed_to_comm w m n (next_of w m) (next_of w n) d (apart (cases_eq (next_of w m) 0))
    ∙ ap (λ (x : ℕ). passed_to x m (passed n w)) (sym (next_kept h n also m own (λ e. d (sym e))))
  where
    apart : (next_of w m ≡ 0) ⊎ (next_of w m ≢ 0) → next_of w m ≡ next_of w n → next_of w m ≡ 0
    apart (inl e) same = e
    apart (inr some) same =
        absurd (d (h.single (next_of w m) m n (to_among h m own some)
        (subst (λ (x : ℕ). is_among w.waiters x n ≡ true) (sym same)
        (to_among h n also (λ e. some (same ∙ e))))))

-- ALL ORDERS

-- any mutex of t may pass on first
any_first : {t : ℕ} {w v : World} → Releases t w v → HasLeft t w → (m : ℕ) → IsOwner w t m → IsNotStalled w m
    → Releases t (passed m w) v
any_first (none_left none e) h m own robust = absurd (true≢false (sym robust ∙ none m own))
any_first {t} {w} {v} (one_more {u = u} n also alike passes more) h m own robust =
    by_mutex (cases_eq m n) (any_first more (subst (HasLeft t) (sym is) (passed-left h n also)) m)
  where
    is : u ≡ passed n w
    is = passed-from_passes w n (owned_inside h n also) passes

    by_mutex : (m ≡ n) ⊎ (m ≢ n) → (IsOwner u t m → IsNotStalled u m → Releases t (passed m u) v)
        → Releases t (passed m w) v
    by_mutex (inl e) ih = subst (λ (x : World). Releases t x v) (is ∙ ap (λ (k : ℕ). passed k w) (sym e)) more
    by_mutex (inr d) ih =
        let same : mutex_at u m ≡ mutex_at w m = ap (λ (x : World). mutex_at x m) is ∙ other_mutex h n also m d in
        let there : mutex_at (passed m w) n ≡ mutex_at w n = other_mutex h m own n (λ e. d (sym e)) in
        let rest : Releases t (passed m u) v =
        ih (ap (λ (y : Mutex). y.owner) same ∙ own) (ap (λ (y : Mutex). y.robust) same ∙ robust) in
        let owned : IsOwner (passed m w) t n = ap (λ (y : Mutex). y.owner) there ∙ also in
        one_more n owned (ap (λ (y : Mutex). y.robust) there ∙ alike)
        (passes-to_passed (passed m w) n (owned_inside (passed-left h m own) n owned))
        (subst (λ (x : World). Releases t x v)
        (ap (passed m) is ∙ sym (passed_comm h m n own also d)) rest)

-- all orders lead to the same state
pub one_release : {t : ℕ} {w u v : World} → Releases t w u → HasLeft t w → Releases t w v → u ≡ v
one_release {t} {w} {u} {v} (none_left none e) h y = by_rest y
  where
    by_rest : Releases t w v → u ≡ v
    by_rest (none_left also k) = e ∙ sym k
    by_rest (one_more m own robust passes more) = absurd (true≢false (sym robust ∙ none m own))
one_release {t} {w} {u} {v} (one_more {u = x} m own robust passes more) h y =
    let is : x ≡ passed m w = passed-from_passes w m (owned_inside h m own) passes in
    one_release more (subst (HasLeft t) (sym is) (passed-left h m own))
    (subst (λ (z : World). Releases t z v) (sym is) (any_first y h m own robust))

-- in a run a thread that ends has left so
pub left_at_end : (l : Bounds) (h : List Entry) (r : List World) (w : World) → IsRun l h r w → (t : ℕ)
    → IsAllowed w (End t) → HasLeft t (after_end t w)
left_at_end l h r w run t allowed =
    let held = IsHeld-IsRun l run in
    record {
      somebody = (within t (length w.threads) (end_allowed w t allowed).0).0;
      no_mutex = held.orderly.no_mutex;
      gone = named-without_same w.waiters t;
      single = λ x m k y z.
          let i = (held.each x).waiting m (is_among-without w.waiters t x m y).0 in
          let j = (held.each x).waiting k (is_among-without w.waiters t x k z).0 in
          sym i.waits ∙ ap waited_in (same_request i.call j.call) ∙ j.waits;
    }

-- from a state of a run, the end of a thread leads to one state
pub ends_in_one_state : (l : Bounds) (h : List Entry) (r : List World) (w : World) → IsRun l h r w → (t : ℕ)
    (u v : World) → Ends t w u → Ends t w v → u ≡ v
ends_in_one_state l h r w run t u v a b = one_release a.releases (left_at_end l h r w run t a.allowed) b.releases
