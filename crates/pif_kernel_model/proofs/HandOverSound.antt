-- What is kept stays sound if a mutex is handed to its next waiter.
use Rattle.std.proofs.Common.{◌≡◌, ◌≢◌, ◌⊎◌, ℕ, ◌+◌, ◌<◌, ◌≤◌, ◌==◌, cond, Bool, true, false, if◌then◌else◌, List, length, get_or, set, Option, Some, None, IsSome, is_some, option_map, option_and_then, unwrap_or, refl, sym, ap, subst, ◌∙◌, inl, inr, arith, length-set}
use Rattle.std.specs.Cmp.{nat_cmp_total}
use Rattle.std.specs.FinMap.{len-insert}
use Rattle.std.proofs.lemmas.Bool.{cases_eq, cases_lt, true≢false}
use Rattle.std.proofs.lemmas.Bool.Decides.{nat_tests}
use Rattle.std.proofs.lemmas.List.{get_or-set_same, get_or-set_other, get_or_past}
use Rattle.pif_nodes_model.specs.declared.keys.Key.{Key}
use Rattle.pif_nodes_model.specs.Table.{NodeLists}
use Rattle.pif_nodes_model.specs.Levels.{Queue, Holds, IsLevel, IsQueued, level_of}
use Rattle.pif_nodes_model.specs.Levels.{level_after_add}
use Rattle.pif_model.specs.declared.lines.Status.{Status}
use Rattle.pif_model.specs.declared.lines.Status.TheVariants.{Ready, Queued}
use Rattle.pif_model.specs.declared.lines.Woken.TheVariants.{Fresh, Owns}
use Rattle.pif_model.specs.Graph.{has_waiter, without}
use Rattle.pif_model.specs.PiKernel.{Kernel, IsKernel, queued_on, is_ready, effective_in, has_seat, is_among, level_at, next_in, with_effective_levels, waits_for, levels_with, kernel_after_hand_over}
use Rattle.pif_model.specs.PiKernel.{state_at as kernel_state_at, with_status, with_state}
use Rattle.pif_kernel_model.specs.Owners.{Owners, Task, Wait, task_at, owner_at, count, waits_on, rank_of, no_task, with_base, with_wait, with_owner, without_state, IsTop, HasNoWaiter}
use Rattle.pif_kernel_model.specs.Owners.{waits_for as owners_wait_for}
use Rattle.pif_kernel_model.proofs.MapLemmas.{get-insert_same, get-insert_other, get-remove_other}
use Rattle.pif_kernel_model.proofs.OwnersLemmas.{some_rank}
use Rattle.pif_kernel_model.specs.Boosts.{IsRepairedBut, base_of, local_of, greatest_base}
use Rattle.pif_model_lemmas.proofs.Places.{kept_at}
use Rattle.pif_model_lemmas.proofs.Among.{is_among as is_waiter}
use Rattle.pif_model_lemmas.proofs.Waiting.{Once, has_waiter-from_pair}
use Rattle.pif_model_lemmas.proofs.Greatest.{effective_same}
use Rattle.pif_model_lemmas.proofs.Handed.{effective_handed, effective_lifted}
use Rattle.pif_model_lemmas.proofs.kernel.Facts.{queued-from_number}
use Rattle.pif_model_lemmas.proofs.kernel.Kept.{hand_over_kept}
use Rattle.pif_model_lemmas.proofs.kernel.Levels.{level-joined_same, level-joined_other}
use Rattle.pif_model_lemmas.proofs.kernel.Numbers.{among-push_other}
use Rattle.pif_kernel_model.specs.Inside.{Inside, IsListed, IsPlaced, IsSoundInside, kernel_of, status_at, state_key_at, state_at, ticket_of}
use Rattle.pif_kernel_model.specs.Arrivals.{mutexes_of}
use Rattle.pif_kernel_model.proofs.WaitersWithout.{rise_without, waiter_kept, mutexes_without}
use Rattle.pif_kernel_model.proofs.HandOverFacts.{IsHanded, IsGiven, IsHandable, IsHanding, IsHandedOn}
use Rattle.pif_kernel_model.proofs.Seats.{IsFitted, same_seats, seats_length, status_seen, waits_seen, waits_below, owners_waits, added_back, waiters_seen, states_seen, states_length, kernel_by_parts, seats_of-set_status, seats_of-same_base}
use Rattle.pif_kernel_model.proofs.Picked.{levels_count, levels_joined, length-joined}
use Rattle.pif_kernel_model.proofs.Standing.{fits, effective_level, off_queue}
use Rattle.pif_kernel_model.proofs.ChainLaws.{repaired_but}
use Rattle.pif_kernel_model.proofs.ArrivalLaws.{rise_once}
use Rattle.pif_kernel_model.proofs.TopLaws.{waits_under, priority_below, top_is_next}
use Rattle.pif_kernel_model.proofs.WalkSound.{IsWalkable, owners_effective}

module _ (p : Inside) (t m key u : ℕ) (d : IsHandable p t m key) (top : IsTop p.owners key u) where
  h : IsSoundInside p
  h = d.sound

  at : state_key_at p m ≡ Some key
  at = d.at

  abbrev rest : List (ℕ × ℕ)
  rest = without p.arrivals u

  fit : IsFitted p
  fit = fits p h

  pub among : is_waiter p.arrivals u m ≡ true
  among = waits_under p h u m key at top.waits

  queued_here : (x : ℕ) → is_waiter p.arrivals x m ≡ true → status_at p x ≡ Queued m
  queued_here x e =
      sym (status_seen p fit x)
      ∙ h.kernel.queue x m (subst (λ (ws : List (ℕ × ℕ)). is_waiter ws x m ≡ true) (sym (waiters_seen p)) e)

  status_next : status_at p u ≡ Queued m
  status_next = queued_here u among

  pub next_some : u ≢ 0
  next_some z =
      let none : None ≡ Some key
      = sym (ap (λ (x : Task). option_map (λ (w : Wait). w.state) x.wait) (ap (task_at p.owners) z ∙ h.placed.nobody))
      ∙ top.waits in
      cc

  pub next_added : u < length p.statuses
  next_added = by_place (cases_lt u (length p.statuses))
    where
      by_place : ((u < length p.statuses) ⊎ (length p.statuses ≤ u)) → u < length p.statuses
      by_place (inl l) = l
      by_place (inr g) =
          let none : None ≡ Some key
          = sym (ap (λ (x : Task). option_map (λ (w : Wait). w.state) x.wait) (h.placed.free u g)) ∙ top.waits in
          cc

  pub next : u ≡ next_in (kernel_of p) m
  next = top_is_next p h m key u at top

  next_known : has_seat (kernel_of p) u ≡ true
  next_known = added_back p fit u next_some next_added

  mutex_some : m ≢ 0
  mutex_some z = let none : None ≡ Some key = sym h.placed.no_mutex ∙ ap (state_key_at p) (sym z) ∙ at in cc

  pub mutex_known : m < length p.keys
  mutex_known = by_place (cases_lt m (length p.keys))
    where
      by_place : ((m < length p.keys) ⊎ (length p.keys ≤ m)) → m < length p.keys
      by_place (inl l) = l
      by_place (inr g) = let none : None ≡ Some key = sym (get_or_past p.keys m None g) ∙ at in cc

  pub owner_some : t ≢ 0
  owner_some z = h.placed.owned m key at (d.owner ∙ z)

  pub owner_added : t < length p.statuses
  owner_added = omega (arith, d.owner, h.placed.owners m)

  owner_other : t ≢ u
  owner_other e =
      mutex_some (sym (ap queued_on status_next) ∙ ap (λ (x : ℕ). queued_on (status_at p x)) (sym e)
      ∙ sym (ap queued_on (status_seen p fit t)) ∙ d.idle)

  pub level_some : 1 ≤ effective_in (kernel_of p) u
  level_some = (effective_level p h u next_known).0

  pub level_few : effective_in (kernel_of p) u ≤ 99
  level_few = (effective_level p h u next_known).1

  -- the next waiter is on no level
  next_off : (r : ℕ) → is_among (level_at (kernel_of p).levels r) u ≡ false
  next_off r = h.kernel.level u r ∙ rw (status_seen p fit u ∙ status_next) (both_false (has_seat (kernel_of p) u))
    where
      both_false : (b : Bool) → (if b then false else false) ≡ false
      both_false true = refl
      both_false false = refl

  pub next_on_none : IsQueued p.queue p.table u → ⊥
  next_on_none = off_queue p u next_off

  -- the owner states once the mutex was handed over
  abbrev pub given : Owners
  given = with_owner key u (with_wait u None p.owners)

  given_free : (x : ℕ) → x ≡ u → waits_on given x ≡ None
  given_free x e =
      ap (waits_on given) e
      ∙ ap (λ (s : Task). option_map (λ (w : Wait). w.state) s.wait)
      (get_or-set_same p.owners.seats u (record (task_at p.owners u) { wait = None }) no_task
      (omega (arith, next_added, fit.few)))

  given_other : (x : ℕ) → x ≢ u → waits_on given x ≡ waits_on p.owners x
  given_other x n =
      ap (λ (s : Task). option_map (λ (w : Wait). w.state) s.wait)
      (get_or-set_other p.owners.seats u x (record (task_at p.owners u) { wait = None }) no_task n)

  pub given_state : IsSome (owner_at given key)
  given_state = ap is_some (get-insert_same p.owners.owners key u key refl)

  -- if no other waits for the mutex, nobody is queued on its state
  pub given_idle : has_waiter rest m ≡ false → HasNoWaiter given key
  given_idle none x e = by_place (cases_eq x u)
    where
      by_place : ((x ≡ u) ⊎ (x ≡ u → ⊥)) → ⊥
      by_place (inl same) = let both : None ≡ Some key = sym (given_free x same) ∙ e in cc
      by_place (inr ne) =
          let was : is_waiter p.arrivals x m ≡ true = waits_under p h x m key at (sym (given_other x ne) ∙ e) in
          true≢false (sym (has_waiter-from_pair rest x m (waiter_kept p.arrivals u x m ne was)) ∙ none)

  given_count : count given ≡ count p.owners
  given_count =
      len-insert nat_cmp_total p.owners.owners key u
      ∙ ap (λ (b : Bool). cond b (count p.owners) (count p.owners + 1)) (h.placed.made m key at)

  pub still : has_waiter rest m ≡ true → IsHanded p p.keys given u m key
  still some = record {
    seats = refl;
    long = refl;
    here = at ∙ sym (rw some refl);
    there = λ n ne. refl;
    owned = λ e. get-insert_same p.owners.owners key u key refl;
    others = λ k ne. get-insert_other p.owners.owners key u k ne;
    counted = rw some (omega (arith, given_count));
  }

  pub ended : (v : Owners) → has_waiter rest m ≡ false → v ≡ without_state key given → count v + 1 ≡ count given
      → IsHanded p (set p.keys m None) v u m key
  ended v none e fewer = record {
    seats = ap (λ (x : Owners). x.seats) e;
    long = length-set p.keys m None;
    here = get_or-set_same p.keys m None None mutex_known ∙ sym (rw none refl);
    there = λ n ne. get_or-set_other p.keys m n None None ne;
    owned = λ some. absurd (true≢false (sym some ∙ none));
    others =
        λ k ne. ap (λ (x : Owners). owner_at x k) e ∙ get-remove_other given.owners key k ne
        ∙ get-insert_other p.owners.owners key u k ne;
    counted = rw none (omega (arith, fewer, given_count));
  }

  pub ended_given : (x : Inside) (handed v : Owners) (ws : List (ℕ × ℕ)) (any : Bool)
      → x ≡ record p { keys = set p.keys m None; owners = v; arrivals = ws } → ws ≡ rest → any ≡ has_waiter ws m
      → any ≡ false → handed ≡ given → v ≡ without_state key handed → count v + 1 ≡ count handed → IsGiven p x u m key
  ended_given x handed v ws any is same test none e over fewer =
      subst (λ (y : Inside). IsGiven p y u m key)
      (sym (is ∙ ap (λ (l : List (ℕ × ℕ)). record p { keys = set p.keys m None; owners = v; arrivals = l }) same))
      (record {
        frame = refl;
        handed =
            ended v (sym (ap (λ (l : List (ℕ × ℕ)). has_waiter l m) same) ∙ sym test ∙ none)
            (over ∙ ap (without_state key) e) (fewer ∙ ap count e);
      })

  pub still_given : (x : Inside) (handed : Owners) (ws : List (ℕ × ℕ)) (any : Bool)
      → x ≡ record p { owners = handed; arrivals = ws } → ws ≡ rest → any ≡ has_waiter ws m → any ≡ true
      → handed ≡ given → IsGiven p x u m key
  still_given x handed ws any is same test some e =
      subst (λ (y : Inside). IsGiven p y u m key)
      (sym (is ∙ ap (λ (l : List (ℕ × ℕ)). record p { owners = handed; arrivals = l }) same
      ∙ ap (λ (o : Owners). record p { owners = o; arrivals = rest }) e))
      (record { frame = refl; handed = still (sym (ap (λ (l : List (ℕ × ℕ)). has_waiter l m) same) ∙ sym test ∙ some) })

  pub handing : (old x : Inside) → kernel_of p ≡ kernel_of old → IsGiven p x u m key → IsHandedOn old p x t m key u
  handing old x before g =
      let back : record x { keys = p.keys; owners = p.owners; arrivals = p.arrivals } ≡ p
      = ap (λ (y : Inside). record y { keys = p.keys; owners = p.owners; arrivals = p.arrivals }) g.frame in
      subst (λ (y : Inside). IsHanding old y x t m key u) (sym back)
      (record {
        hands = d;
        top = top;
        handed = g.handed;
        rest = ap
            (λ (y : Inside). y.arrivals) g.frame;
        same = before;
      })

  module _ (keys : List (Option ℕ)) (owners : Owners) (prio : ℕ) (o : IsHanded p keys owners u m key)
      (rank_is : prio ≡ effective_in (kernel_of p) u)
      (q : Queue) (tb : NodeLists) (place : q ≡ record p.queue { mask = q.mask })
      (levels : (r : ℕ) → IsLevel r → level_of q tb r ≡ level_after_add u prio r (level_of p.queue p.table r))
      (holds : Holds q tb) where
    -- what is kept before the walk
    abbrev pub mid : Inside
    mid =
        record p {
          statuses = set p.statuses u
              (Ready Owns);
          keys = keys;
          owners = owners;
          queue = q;
          table = tb;
          arrivals = rest;
        }

    abbrev row : Task
    row = record (task_at p.owners u) { wait = None }

    was : (x : ℕ) → task_at owners x ≡ get_or (set p.owners.seats u row) x no_task
    was x = ap (λ (l : List Task). get_or l x no_task) o.seats

    long : length mid.owners.seats ≡ length p.owners.seats
    long = ap length o.seats ∙ length-set p.owners.seats u row

    many : length mid.statuses ≡ length p.statuses
    many = length-set p.statuses u (Ready Owns)

    inside : u < length p.owners.seats
    inside = omega (arith, next_added, fit.few)

    other : (x : ℕ) → x ≢ u → task_at mid.owners x ≡ task_at p.owners x
    other x n = was x ∙ get_or-set_other p.owners.seats u x row no_task n

    same : (x : ℕ) → x ≡ u → task_at mid.owners x ≡ row
    same x e =
        was x ∙ ap (λ (v : ℕ). get_or (set p.owners.seats u row) v no_task) e
        ∙ get_or-set_same p.owners.seats u row no_task inside

    base_same : (x : ℕ) → (task_at mid.owners x).base ≡ (task_at p.owners x).base
    base_same x = ap (λ (s : Task). s.base) (was x) ∙ kept_at (λ (s : Task). s.base) p.owners.seats u row no_task refl x

    local_same : (x : ℕ) → (task_at mid.owners x).local ≡ (task_at p.owners x).local
    local_same x =
        ap (λ (s : Task). s.local) (was x) ∙ kept_at (λ (s : Task). s.local) p.owners.seats u row no_task refl x

    status_other : (x : ℕ) → x ≢ u → status_at mid x ≡ status_at p x
    status_other x n = get_or-set_other p.statuses u x (Ready Owns) (Ready Fresh) n

    status_here : (x : ℕ) → x ≡ u → status_at mid x ≡ Ready Owns
    status_here x e =
        ap (λ (v : ℕ). status_at mid v) e ∙ get_or-set_same p.statuses u (Ready Owns) (Ready Fresh) next_added

    -- the owner state of m, by whether others wait for it
    here_some : has_waiter rest m ≡ true → state_key_at mid m ≡ Some key
    here_some e = o.here ∙ rw e refl

    here_none : has_waiter rest m ≡ false → state_key_at mid m ≡ None
    here_none e = o.here ∙ rw e refl

    alone : (n : ℕ) → n ≢ m → state_key_at p n ≡ Some key → ⊥
    alone n ne e = ne (h.placed.apart n m key e at)

    state_some : has_waiter rest m ≡ true → state_at mid m ≡ u
    state_some e =
        ap (λ (k : Option ℕ). unwrap_or (option_and_then (owner_at owners) k) 0) (here_some e)
        ∙ ap (λ (x : Option ℕ). unwrap_or x 0) (o.owned e)

    state_none : has_waiter rest m ≡ false → state_at mid m ≡ 0
    state_none e = ap (λ (k : Option ℕ). unwrap_or (option_and_then (owner_at owners) k) 0) (here_none e)

    state_here : state_at mid m ≡ (if has_waiter rest m then u else 0)
    state_here = by_test (has_waiter rest m) refl
      where
        by_test : (b : Bool) → has_waiter rest m ≡ b → state_at mid m ≡ (if has_waiter rest m then u else 0)
        by_test true e = state_some e ∙ sym (rw e refl)
        by_test false e = state_none e ∙ sym (rw e refl)

    state_other : (n : ℕ) → n ≢ m → state_at mid n ≡ state_at p n
    state_other n ne =
        ap (λ (k : Option ℕ). unwrap_or (option_and_then (owner_at owners) k) 0) (o.there n ne)
        ∙ by_key (state_key_at p n) refl
      where
        by_key : (k : Option ℕ) → state_key_at p n ≡ k
            → unwrap_or (option_and_then (owner_at owners) k) 0 ≡ unwrap_or (option_and_then (owner_at p.owners) k) 0
        by_key None e = refl
        by_key (Some k) e = ap (λ (x : Option ℕ). unwrap_or x 0) (o.others k (λ z. alone n ne (e ∙ ap Some z)))

    -- the others that were queued on m still are
    waiter_was : (x n : ℕ) → status_at p x ≡ Queued n → is_waiter p.arrivals x n ≡ true
    waiter_was x n e =
        subst (λ (ws : List (ℕ × ℕ)). is_waiter ws x n ≡ true) (waiters_seen p)
        (h.kernel.queued x n (status_seen p fit x ∙ e))

    left_one : (x : ℕ) → x ≢ u → queued_on (status_at p x) ≡ m → has_waiter rest m ≡ true
    left_one x ne e =
        has_waiter-from_pair rest x m (waiter_kept p.arrivals u x m ne
        (waiter_was x m (queued-from_number (status_at p x) m mutex_some e)))

    no_mutex_mid : state_key_at mid 0 ≡ None
    no_mutex_mid = o.there 0 (λ e. mutex_some (sym e)) ∙ h.placed.no_mutex

    waits_mid : (x : ℕ) → ((x ≡ u) ⊎ (x ≡ u → ⊥)) → waits_on mid.owners x ≡ state_key_at mid (queued_on (status_at mid x))
    waits_mid x (inl e) =
        ap (λ (s : Task). option_map (λ (w : Wait). w.state) s.wait) (same x e) ∙ sym no_mutex_mid
        ∙ ap (λ (y : Status). state_key_at mid (queued_on y)) (sym (status_here x e))
    waits_mid x (inr n) =
        ap (λ (s : Task). option_map (λ (w : Wait). w.state) s.wait) (other x n) ∙ h.placed.waits x
        ∙ sym (by_place (cases_eq (queued_on (status_at p x)) m))
        ∙ ap (λ (y : Status). state_key_at mid (queued_on y)) (sym (status_other x n))
      where
        by_place : ((queued_on (status_at p x) ≡ m) ⊎ (queued_on (status_at p x) ≡ m → ⊥))
            → state_key_at mid (queued_on (status_at p x)) ≡ state_key_at p (queued_on (status_at p x))
        by_place (inl e) = ap (state_key_at mid) e ∙ here_some (left_one x n e) ∙ sym at ∙ ap (state_key_at p) (sym e)
        by_place (inr ne) = o.there (queued_on (status_at p x)) ne

    owners_mid : (n : ℕ) → ((n ≡ m) ⊎ (n ≡ m → ⊥)) → state_at mid n < length mid.statuses
    owners_mid n (inl e) = by_test (has_waiter rest m) refl
      where
        by_test : (b : Bool) → has_waiter rest m ≡ b → state_at mid n < length mid.statuses
        by_test true x = omega (arith, ap (state_at mid) e, state_some x, next_added, many)
        by_test false x = omega (arith, ap (state_at mid) e, state_none x, next_added, many)
    owners_mid n (inr ne) = omega (arith, state_other n ne, h.placed.owners n, many)

    fit_mid : IsFitted mid
    fit_mid = record {
      few = omega (arith, fit.few, long, many);
      free =
          λ x l. other x (λ e. absurd (omega (arith, l, next_added, many))) ∙ h.placed.free x (omega (arith, l, many));
      waits = λ x. waits_mid x (cases_eq x u);
      owners = λ n. owners_mid n (cases_eq n m);
    }

    has_mid : (x : ℕ) → has_seat (kernel_of mid) x ≡ has_seat (kernel_of p) x
    has_mid x = same_seats p mid fit fit_mid many x

    -- for whom each waits
    abbrev on : ℕ → Bool
    on x = queued_on (status_at p x) == m

    on_is : (x : ℕ) → on x ≡ true → queued_on (status_at p x) ≡ m
    on_is x e = grind (arith, nat_tests)

    off_is : (x : ℕ) → on x ≡ false → queued_on (status_at p x) ≢ m
    off_is x e z = let yes : on x ≡ true = grind (arith, nat_tests) in true≢false (sym yes ∙ e)

    off_next : (x : ℕ) → on x ≡ false → x ≢ u
    off_next x e z = off_is x e (ap (λ (v : ℕ). queued_on (status_at p v)) z ∙ ap queued_on status_next)

    waited : (x : ℕ) → on x ≡ true → waits_for (kernel_of p) x ≡ t
    waited x e = waits_seen p fit x ∙ ap (state_at p) (on_is x e) ∙ d.owner

    others : (x : ℕ) → on x ≡ false → waits_for (kernel_of mid) x ≡ waits_for (kernel_of p) x
    others x e =
        waits_seen mid fit_mid x ∙ ap (λ (y : Status). state_at mid (queued_on y)) (status_other x (off_next x e))
        ∙ state_other (queued_on (status_at p x)) (off_is x e) ∙ sym (waits_seen p fit x)

    moved : (x : ℕ) → on x ≡ true → x ≢ u → waits_for (kernel_of mid) x ≡ u
    moved x e ne =
        waits_seen mid fit_mid x ∙ ap (λ (y : Status). state_at mid (queued_on y)) (status_other x ne)
        ∙ ap (state_at mid) (on_is x e) ∙ state_some (left_one x ne (on_is x e))

    freed : waits_for (kernel_of mid) u ≡ 0
    freed =
        waits_seen mid fit_mid u ∙ ap (λ (y : Status). state_at mid (queued_on y)) (status_here u refl)
        ∙ ap (λ (k : Option ℕ). unwrap_or (option_and_then (owner_at owners) k) 0) no_mutex_mid

    idle : waits_for (kernel_of p) t ≡ 0
    idle =
        waits_seen p fit t ∙ ap (state_at p) (sym (ap queued_on (status_seen p fit t)) ∙ d.idle)
        ∙ ap (λ (k : Option ℕ). unwrap_or (option_and_then (owner_at p.owners) k) 0) h.placed.no_mutex

    below : (x : ℕ) → owners_wait_for p.owners x < length p.owners.seats
    below x = omega (arith, owners_waits p fit x, waits_below p fit x, seats_length p fit, fit.few)

    below_mid : (x : ℕ) → owners_wait_for mid.owners x < length p.owners.seats
    below_mid x =
        omega (
          arith,
          owners_waits mid fit_mid x,
          waits_below mid fit_mid x,
          seats_length mid fit_mid,
          fit_mid.few,
          long,
        )

    -- no waiter of m is higher than the next
    highest : (x : ℕ) → on x ≡ true → greatest_base p.owners x ≤ greatest_base p.owners u
    highest x e = by_rank (some_rank (task_at p.owners x).wait key waits)
      where
        waits : waits_on p.owners x ≡ Some key
        waits = h.placed.waits x ∙ ap (state_key_at p) (on_is x e) ∙ at

        by_rank : (r : Key) × (rank_of p.owners x ≡ Some r) → greatest_base p.owners x ≤ greatest_base p.owners u
        by_rank r =
            let high : r.0.prio ≤ top.rank.prio = priority_below r.0 top.rank (top.first x r.0 waits r.1) in
            omega (
              arith,
              high,
              h.rank x r.0 r.1,
              h.rank u top.rank top.ranked,
              owners_effective p fit x,
              owners_effective p fit u,
            )

    -- nobody but t has another effective priority
    effective_kept : (y : ℕ) → y ≢ t → effective_in (kernel_of mid) y ≡ effective_in (kernel_of p) y
    effective_kept y ne =
        sym (owners_effective mid fit_mid y)
        ∙ effective_same (length mid.owners.seats) (length p.owners.seats) (owners_wait_for mid.owners)
        (owners_wait_for mid.owners) (base_of mid.owners) (base_of p.owners) y long (λ x. refl) base_same
        ∙ effective_handed (length p.owners.seats) (owners_wait_for p.owners) (owners_wait_for mid.owners)
        (base_of p.owners) t u on below below_mid
        (λ x e. owners_waits p fit x ∙ waited x e)
        (λ x e. owners_waits mid fit_mid x ∙ others x e ∙ sym (owners_waits p fit x))
        (λ x e n. owners_waits mid fit_mid x ∙ moved x e n)
        (owners_waits mid fit_mid u ∙ freed) (owners_waits p fit t ∙ idle) highest y ne
        ∙ owners_effective p fit y

    abbrev high : Owners
    high = with_base t (effective_in (kernel_of p) t) mid.owners

    abbrev high_row : Task
    high_row = record (task_at mid.owners t) { base = effective_in (kernel_of p) t }

    high_waits : (x : ℕ) → owners_wait_for high x ≡ owners_wait_for mid.owners x
    high_waits x =
        ap (λ (w : Option Wait). unwrap_or
        (option_and_then (owner_at mid.owners) (option_map (λ (y : Wait). y.state) w)) 0) (kept_at
        (λ (s : Task). s.wait) mid.owners.seats t high_row no_task refl x)

    high_long : length high.seats ≡ length mid.owners.seats
    high_long = length-set mid.owners.seats t high_row

    high_base : (x : ℕ) → x ≢ t → base_of high x ≡ base_of mid.owners x
    high_base x ne = ap (λ (s : Task). s.base) (get_or-set_other mid.owners.seats t x high_row no_task ne)

    high_own : base_of high t ≡ greatest_base p.owners t
    high_own =
        ap (λ (s : Task). s.base) (get_or-set_same mid.owners.seats t high_row no_task
        (omega (arith, owner_added, fit.few, long))) ∙ sym (owners_effective p fit t)

    high_local : (y : ℕ) → greatest_base high y ≡ local_of mid.owners y
    high_local y =
        effective_same (length high.seats) (length p.owners.seats) (owners_wait_for high) (owners_wait_for mid.owners)
        (base_of high) (base_of high) y (high_long ∙ long) high_waits (λ x. refl)
        ∙ effective_lifted (length p.owners.seats) (owners_wait_for p.owners) (owners_wait_for mid.owners)
        (base_of p.owners) t u on below below_mid
        (λ x e. owners_waits p fit x ∙ waited x e)
        (λ x e. owners_waits mid fit_mid x ∙ others x e ∙ sym (owners_waits p fit x))
        (λ x e n. owners_waits mid fit_mid x ∙ moved x e n)
        (owners_waits mid fit_mid u ∙ freed) (owners_waits p fit t ∙ idle) highest (base_of high) high_own
        (λ x ne. high_base x ne ∙ base_same x) (omega (arith, owner_added, fit.few)) y
        ∙ owners_effective p fit y ∙ sym (h.local y) ∙ sym (local_same y)

    ranks : (x : ℕ) (r : Key) → ((x ≡ u) ⊎ (x ≡ u → ⊥)) → rank_of mid.owners x ≡ Some r
        → r.prio ≡ effective_in (kernel_of p) x
    ranks x r (inl e) y =
        let none : None ≡ Some r = sym (ap (λ (s : Task). option_map (λ (w : Wait). w.rank) s.wait) (same x e)) ∙ y in
        cc
    ranks x r (inr n) y = h.rank x r (sym (ap (λ (s : Task). option_map (λ (w : Wait). w.rank) s.wait) (other x n)) ∙ y)

    repairs : IsRepairedBut t mid.owners
    repairs =
        repaired_but high mid.owners t (sym high_long)
        (λ x y ne nz. ap (λ (n : ℕ). n == y) (high_waits x)) high_base high_local
        (λ x r e. ranks x r (cases_eq x u) e ∙ sym (h.local x) ∙ sym (local_same x))

    joins_level : (r : ℕ) → level_at (kernel_of mid).levels r ≡ level_at (levels_with u prio (kernel_of p).levels) r
    joins_level r =
        levels_joined p mid u prio (omega (arith, rank_is, level_some), omega (arith, rank_is, level_few)) levels r

    -- u joins its level, and the others stay
    listed_mid : (x r : ℕ) → ((x ≡ u) ⊎ (x ≡ u → ⊥)) → is_among (level_at (kernel_of mid).levels r) x ≡ true
        → IsListed mid x r
    listed_mid x r c y = by_thread c (cases_eq r prio)
      where
        on_new : is_among (level_at (levels_with u prio (kernel_of p).levels) r) x ≡ true
        on_new = ap (λ (xs : List ℕ). is_among xs x) (sym (joins_level r)) ∙ y

        below : prio < length (kernel_of p).levels
        below = omega (arith, rank_is, level_few, levels_count p)

        -- another level has whom it had
        on_old : r ≢ prio → is_among (level_at (kernel_of p).levels r) x ≡ true
        on_old ne =
            sym (ap (λ (xs : List ℕ). is_among xs x) (level-joined_other u prio (kernel_of p).levels r ne)) ∙ on_new

        kept : x ≢ u → is_among (level_at (kernel_of p).levels r) x ≡ true → IsListed mid x r
        kept n e =
            let l = h.placed.listed x r e in
            record {
              added = has_mid x ∙ l.added;
              ready = ap is_ready (status_other x n) ∙ l.ready;
              local = local_same x
                  ∙ l.local;
            }

        by_thread : ((x ≡ u) ⊎ (x ≡ u → ⊥)) → ((r ≡ prio) ⊎ (r ≡ prio → ⊥)) → IsListed mid x r
        by_thread (inl e) (inl same) = record {
          added = has_mid x ∙ ap (has_seat (kernel_of p)) e ∙ next_known;
          ready = ap is_ready (status_here x e);
          local = local_same x ∙ h.local x ∙ ap (effective_in (kernel_of p)) e ∙ sym rank_is ∙ sym same;
        }
        by_thread (inl e) (inr ne) =
            absurd (true≢false (sym (on_old ne) ∙ ap (is_among (level_at (kernel_of p).levels r)) e ∙ next_off r))
        by_thread (inr n) (inr ne) = kept n (on_old ne)
        by_thread (inr n) (inl same) =
            kept n
            (ap (λ (j : ℕ). is_among (level_at (kernel_of p).levels j) x) same
            ∙ sym (among-push_other (level_at (kernel_of p).levels prio) u x n)
            ∙ sym (ap (λ (xs : List ℕ). is_among xs x) (level-joined_same u prio (kernel_of p).levels below))
            ∙ ap (λ (j : ℕ). is_among (level_at (levels_with u prio (kernel_of p).levels) j) x) (sym same) ∙ on_new)

    -- a key of m is the one that it had, and others wait for m
    kept_some : (a k : ℕ) → a ≡ m → state_key_at mid a ≡ Some k → has_waiter rest m ≡ true
    kept_some a k x e = by_test (has_waiter rest m) refl
      where
        by_test : (b : Bool) → has_waiter rest m ≡ b → has_waiter rest m ≡ true
        by_test true y = y
        by_test false y = let none : None ≡ Some k = sym (here_none y) ∙ ap (state_key_at mid) (sym x) ∙ e in cc

    held : (a k : ℕ) → a ≡ m → state_key_at mid a ≡ Some k → k ≡ key
    held a k x e = let both : Some k ≡ Some key = sym e ∙ ap (state_key_at mid) x ∙ here_some (kept_some a k x e) in cc

    apart_mid : (a b k : ℕ) → ((a ≡ m) ⊎ (a ≡ m → ⊥)) → ((b ≡ m) ⊎ (b ≡ m → ⊥)) → state_key_at mid a ≡ Some k
        → state_key_at mid b ≡ Some k → a ≡ b
    apart_mid a b k (inl x) (inl y) e f = x ∙ sym y
    apart_mid a b k (inl x) (inr y) e f = absurd (alone b y (sym (o.there b y) ∙ f ∙ ap Some (held a k x e)))
    apart_mid a b k (inr x) (inl y) e f = absurd (alone a x (sym (o.there a x) ∙ e ∙ ap Some (held b k y f)))
    apart_mid a b k (inr x) (inr y) e f = h.placed.apart a b k (sym (o.there a x) ∙ e) (sym (o.there b y) ∙ f)

    made_mid : (a k : ℕ) → ((a ≡ m) ⊎ (a ≡ m → ⊥)) → state_key_at mid a ≡ Some k → IsSome (owner_at owners k)
    made_mid a k (inl x) e =
        ap (λ (n : ℕ). is_some (owner_at owners n)) (held a k x e) ∙ ap is_some (o.owned (kept_some a k x e))
    made_mid a k (inr x) e =
        let old : state_key_at p a ≡ Some k = sym (o.there a x) ∙ e in
        ap is_some (o.others k (λ z. alone a x (old ∙ ap Some z))) ∙ h.placed.made a k old

    owned_mid : (a k : ℕ) → ((a ≡ m) ⊎ (a ≡ m → ⊥)) → state_key_at mid a ≡ Some k → state_at mid a ≢ 0
    owned_mid a k (inl x) e z = next_some (sym (ap (state_at mid) x ∙ state_some (kept_some a k x e)) ∙ z)
    owned_mid a k (inr x) e z = h.placed.owned a k (sym (o.there a x) ∙ e) (sym (state_other a x) ∙ z)

    ticket_other : (x : ℕ) → x ≢ u → ticket_of mid.owners x ≡ ticket_of p.owners x
    ticket_other x n =
        ap (λ (s : Task). unwrap_or (option_map (λ (r : Key). r.ticket) (option_map (λ (w : Wait). w.rank) s.wait)) 0)
        (other x n)

    once : Once p.arrivals
    once = rise_once (ticket_of p.owners) 1 p.arrivals p.next h.placed.tickets

    counted_mid : count owners ≡ mutexes_of rest
    counted_mid = by_sum (if has_waiter rest m then 0 else 1) o.counted (mutexes_without p.arrivals u m once among)
      where
        by_sum : (n : ℕ) → count owners + n ≡ count p.owners → mutexes_of rest + n ≡ mutexes_of p.arrivals
            → count owners ≡ mutexes_of rest
        by_sum n a b = omega (arith, a, b, h.placed.count)

    pub placed : IsPlaced mid
    placed = record {
      within = h.placed.within;
      rows = long ∙ h.placed.rows;
      keys = o.long ∙ h.placed.keys;
      some = omega (arith, many, h.placed.some);
      few = omega (arith, many, h.placed.few);
      nobody = other 0 (λ e. next_some (sym e)) ∙ h.placed.nobody;
      admitted = λ x n l. omega (arith, base_same x, h.placed.admitted x n (omega (arith, l, many)));
      free = fit_mid.free;
      most = λ x. omega (arith, base_same x, h.placed.most x);
      threads = ap (λ (x : Queue). x.threads) place ∙ h.placed.threads;
      holds = holds;
      listed = λ x r e. listed_mid x r (cases_eq x u) e;
      waits = fit_mid.waits;
      no_mutex = no_mutex_mid;
      apart = λ a b k e f. apart_mid a b k (cases_eq a m) (cases_eq b m) e f;
      made = λ a k e. made_mid a k (cases_eq a m) e;
      owned = λ a k e. owned_mid a k (cases_eq a m) e;
      count = counted_mid;
      owners = fit_mid.owners;
      tickets =
          rise_without (ticket_of p.owners) (ticket_of mid.owners) 1 p.arrivals u p.next h.placed.tickets ticket_other;
    }

    -- the kernel by itself before the walk
    abbrev over : Kernel
    over =
        record (with_status u (Ready Owns) (with_state m (if has_waiter rest m then u else 0) (kernel_of p)))
        { waiters = without (kernel_of p).waiters u }

    -- the owner states before the walk, as the kernel by itself has them
    state_placed : (n : ℕ) → ((n ≡ m) ⊎ (n ≡ m → ⊥))
        → kernel_state_at (kernel_of mid) n ≡ get_or
        (set (kernel_of p).states m (if has_waiter rest m then u else 0)) n 0
    state_placed n (inl e) =
        states_seen mid n ∙ ap (state_at mid) e ∙ state_here
        ∙ sym (get_or-set_same (kernel_of p).states m (if has_waiter rest m then u else 0) 0
        (omega (arith, mutex_known, states_length p)))
        ∙ ap (λ (j : ℕ). get_or (set (kernel_of p).states m (if has_waiter rest m then u else 0)) j 0) (sym e)
    state_placed n (inr ne) =
        states_seen mid n ∙ state_other n ne ∙ sym (states_seen p n)
        ∙ sym (get_or-set_other (kernel_of p).states m n (if has_waiter rest m then u else 0) 0 ne)

    kernel_mid : kernel_of mid
        ≡ record over { levels = levels_with u (effective_in (kernel_of p) u) (kernel_of p).levels }
    unfolding kernel_of
    kernel_mid =
        kernel_by_parts (kernel_of mid) _ refl
        (seats_of-same_base mid.statuses p.owners.seats mid.owners.seats long base_same
        ∙ seats_of-set_status p.statuses p.owners.seats u (Ready Owns) fit.few)
        (states_length mid ∙ o.long ∙ sym (states_length p)
        ∙ sym (length-set (kernel_of p).states m (if has_waiter rest m then u else 0))) (λ n. state_placed n
        (cases_eq n m)) refl refl
        (length-joined p mid u (effective_in (kernel_of p) u))
        (λ r. joins_level r ∙ ap (λ (n : ℕ). level_at (levels_with u n (kernel_of p).levels) r) rank_is)

    level_same : effective_in over u ≡ effective_in (kernel_of p) u
    level_same = sym (ap (λ (k : Kernel). effective_in k u) kernel_mid) ∙ effective_kept u (λ e. owner_other (sym e))

    handed_mid : with_effective_levels
        (record over { levels = levels_with u (effective_in over u) (kernel_of p).levels })
        ≡ kernel_after_hand_over u m (kernel_of p)
    unfolding kernel_after_hand_over kernel_of
    handed_mid = refl

    pub walkable : IsWalkable mid t (kernel_after_hand_over u m (kernel_of p))
    walkable = record {
      placed = placed;
      admitted = omega (arith, base_same t, h.placed.admitted t owner_some owner_added);
      repaired = repairs;
      after =
          ap with_effective_levels (kernel_mid
          ∙ ap (λ (n : ℕ). record over { levels = levels_with u n (kernel_of p).levels }) (sym level_same))
          ∙ handed_mid;
      kept =
          subst (λ (n : ℕ). IsKernel (kernel_after_hand_over n m (kernel_of p))) (sym next)
          (hand_over_kept m (kernel_of p) h.kernel (λ z. h.placed.owned m key at (sym (states_seen p m) ∙ z)));
    }

module _ (old p x : Inside) (t m key u : ℕ) (i : IsHanding old p x t m key u) where
  -- the next waiter has the effective priority that it had
  pub local_is : (task_at x.owners u).local ≡ effective_in (kernel_of p) u
  local_is =
      ap (λ (l : List Task). (get_or l u no_task).local) i.handed.seats
      ∙ kept_at (λ (s : Task). s.local) p.owners.seats u (record (task_at p.owners u) { wait = None }) no_task refl u
      ∙ i.hands.sound.local u

  -- that is a level
  pub local_low : 1 ≤ (task_at x.owners u).local
  local_low = omega (arith, local_is, level_some p t m key u i.hands i.top)

  pub seated : u ≤ p.queue.threads
  seated =
      omega (arith, next_added p t m key u i.hands i.top, i.hands.sound.placed.few, i.hands.sound.placed.threads)

  -- and is on no level
  pub off : IsQueued p.queue p.table u → ⊥
  off = next_on_none p t m key u i.hands i.top

  -- what is kept before the walk
  pub before_walk : (level : ℕ) (q : Queue) (tb : NodeLists) → level ≡ (task_at x.owners u).local
      → q ≡ record p.queue { mask = q.mask }
      → ((r : ℕ) → IsLevel r → level_of q tb r ≡ level_after_add u level r (level_of p.queue p.table r)) → Holds q tb
      → IsWalkable (record p {
        statuses = set p.statuses u
            (Ready Owns);
        keys = x.keys;
        owners = x.owners;
        queue = q;
        table = tb;
        arrivals = x.arrivals;
      }) t (kernel_after_hand_over u m (kernel_of old))
  before_walk level q tb value place levels holds =
      rw (i.rest, ← i.same) (walkable p t m key u i.hands i.top x.keys x.owners level i.handed
      (value ∙ local_is) q tb place levels holds)
