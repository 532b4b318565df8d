-- A thread has left what it waited for, and its level.
use Rattle.std.proofs.Common.{◌≡◌, ◌≢◌, ◌⊎◌, ℕ, ◌+◌, ◌<◌, ◌≤◌, Bool, true, false, if◌then◌else◌, List, length, set, Option, Some, None, IsSome, is_some, option_map, option_and_then, unwrap_or, refl, sym, ap, subst, ◌∙◌, inl, inr, arith, length-set}
use Rattle.std.proofs.lemmas.Bool.{cases_eq, cases_lt, true≢false, false≢true}
use Rattle.std.proofs.lemmas.List.{get_or-set_same, get_or-set_other, get_or_past}
use Rattle.pif_nodes_model.specs.Lists.{list_without}
use Rattle.pif_nodes_model.specs.Table.{NodeLists}
use Rattle.pif_nodes_model.proofs.ListLemmas.{without_absent}
use Rattle.pif_nodes_model.specs.Levels.{Queue, Holds, IsLevel, level_of}
use Rattle.pif_model.specs.declared.lines.Status.{Status}
use Rattle.pif_model.specs.declared.lines.Status.TheVariants.{Queued}
use Rattle.pif_model.specs.Graph.{has_waiter, without}
use Rattle.pif_model.specs.PiKernel.{queued_on, is_ready, is_parked, has_seat, is_among, waits_for, Parking, parkings_without}
use Rattle.pif_model.specs.PiKernel.{seat_at as kernel_seat_at}
use Rattle.pif_kernel_model.specs.Owners.{Owners, Task, Wait, task_at, owner_at, count, waits_on, no_task, with_wait, without_state, HasNoWaiter}
use Rattle.pif_kernel_model.proofs.MapLemmas.{get-remove_other}
use Rattle.pif_model_lemmas.proofs.Among.{is_among as is_waiter}
use Rattle.pif_model_lemmas.proofs.Waiting.{names, Once, without-unnamed, has_waiter-from_pair, has_waiter-without_other, waited-from_pair}
use Rattle.pif_kernel_model.specs.Inside.{Inside, IsSoundInside, kernel_of, status_at, state_key_at, state_at, ticket_of}
use Rattle.pif_kernel_model.specs.Arrivals.{mutexes_of}
use Rattle.pif_kernel_model.specs.Leaving.{IsLeft}
use Rattle.pif_kernel_model.proofs.Seats.{status_seen, waits_seen, added_seen, waiters_seen}
use Rattle.pif_kernel_model.proofs.ParkingFacts.{unparked_absent}
use Rattle.pif_kernel_model.proofs.Picked.{among_has}
use Rattle.pif_kernel_model.proofs.Standing.{fits, level_same}
use Rattle.pif_kernel_model.proofs.ArrivalLaws.{rise_once}
use Rattle.pif_kernel_model.proofs.TopLaws.{waits_under}
use Rattle.pif_kernel_model.proofs.Waiters.{has_waiter-key, no_key-no_waiter, waits_some}
use Rattle.pif_kernel_model.proofs.WaitersWithout.{waiter_kept, mutexes_without}

-- a seat that waits for nothing
no_wait : (s : Task) → option_map (λ (w : Wait). w.state) s.wait ≡ None → s ≡ record s { wait = None }
no_wait s e = by_wait s.wait refl e
  where
    by_wait : (o : Option Wait) → s.wait ≡ o → option_map (λ (w : Wait). w.state) s.wait ≡ None
        → s ≡ record s { wait = None }
    by_wait None is e = λ i. record s { wait = is i }
    by_wait (Some w) is e = let none : Some w.state ≡ None = sym (ap (option_map (λ (w : Wait). w.state)) is) ∙ e in cc

-- a mutex has a key only if it has a waiter
keyed : (p : Inside) → IsSoundInside p → (m : ℕ) → state_key_at p m ≡ (if has_waiter p.arrivals m then state_key_at p m else None)
keyed p h m = by_test (has_waiter p.arrivals m) refl (state_key_at p m) refl
  where
    by_test : (b : Bool) → has_waiter p.arrivals m ≡ b → (k : Option ℕ) → state_key_at p m ≡ k
        → state_key_at p m ≡ (if has_waiter p.arrivals m then state_key_at p m else None)
    by_test true w k e = sym (rw w refl)
    by_test false w None e = e ∙ sym (rw w refl)
    by_test false w (Some k) e = absurd (true≢false (sym (has_waiter-key p h m (h.placed.owned m k e)) ∙ w))

-- one that may not run is on no level
pub unready_off : (p : Inside) → IsSoundInside p → (t : ℕ) → is_ready (kernel_seat_at (kernel_of p) t).status ≡ false → (r : ℕ)
    → IsLevel r → level_of p.queue p.table r ≡ list_without t (level_of p.queue p.table r)
unready_off p h t unready r l =
    sym (without_absent t (level_of p.queue p.table r) (sym (among_has (level_of p.queue p.table r) t)
    ∙ ap (λ (xs : List ℕ). is_among xs t) (sym (level_same p r l)) ∙ h.kernel.level t r
    ∙ rw unready (both_false (has_seat (kernel_of p) t))))
  where
    both_false : (b : Bool) → (if b then false else false) ≡ false
    both_false true = refl
    both_false false = refl

-- who waits for nothing leaves its level alone, or the variable on which it is parked
module _ (p : Inside) (t : ℕ) (h : IsSoundInside p) (known : has_seat (kernel_of p) t ≡ true)
    (idle : queued_on (status_at p t) ≡ 0) (q : Queue) (tb : NodeLists)
    (levels : (r : ℕ) → IsLevel r → level_of q tb r ≡ list_without t (level_of p.queue p.table r))
    (place : q ≡ record p.queue { mask = q.mask }) (holds : Holds q tb)
    (ps : List Parking) (but : ps ≡ parkings_without p.parked t) where
  free_here : waits_on p.owners t ≡ None
  free_here = h.placed.waits t ∙ ap (state_key_at p) idle ∙ h.placed.no_mutex

  unnamed : names t p.arrivals ≡ false
  unnamed = by_test (names t p.arrivals) refl
    where
      by_test : (b : Bool) → names t p.arrivals ≡ b → names t p.arrivals ≡ false
      by_test false e = e
      by_test true e = absurd (false≢true (sym (ap is_some free_here) ∙ waits_some p h t e))

  same : without p.arrivals t ≡ p.arrivals
  same = without-unnamed p.arrivals t unnamed

  nobody : waits_for (kernel_of p) t ≡ 0
  nobody =
      waits_seen p (fits p h) t ∙ ap (state_at p) idle
      ∙ ap (λ (k : Option ℕ). unwrap_or (option_and_then (owner_at p.owners) k) 0) h.placed.no_mutex

  pub left_idle : IsLeft p (record p { queue = q; table = tb; parked = ps }) t t
  left_idle = record {
    frame = λ i. record p { queue = q; table = tb; parked = but i };
    rows = refl;
    free = no_wait (task_at p.owners t) free_here;
    others = λ u n. refl;
    places = refl;
    keys = λ m. keyed p h m
        ∙ ap (λ (ws : List (ℕ × ℕ)). if has_waiter ws m then state_key_at p m else None) (sym same);
    states = λ m k w e. refl;
    count = h.placed.count ∙ ap mutexes_of (sym same);
    levels = levels;
    place = place;
    holds = holds;
    waited = λ u nz e. absurd (nz (sym e ∙ nobody));
    some = (added_seen p (fits p h) t known).0;
    added = (added_seen p (fits p h) t known).1;
  }

-- who is queued leaves the owner state of its mutex
module _ (p : Inside) (t m : ℕ) (h : IsSoundInside p) (queued : (kernel_seat_at (kernel_of p) t).status ≡ Queued m) where
  abbrev rest : List (ℕ × ℕ)
  rest = without p.arrivals t

  status : status_at p t ≡ Queued m
  status = sym (status_seen p (fits p h) t) ∙ queued

  unready : is_ready (kernel_seat_at (kernel_of p) t).status ≡ false
  unready = ap is_ready queued

  -- it is not parked
  parked_still : p.parked ≡ parkings_without p.parked t
  parked_still = unparked_absent p h t (ap is_parked queued)

  among : is_waiter p.arrivals t m ≡ true
  among = subst (λ (ws : List (ℕ × ℕ)). is_waiter ws t m ≡ true) (waiters_seen p) (h.kernel.queued t m queued)

  owned_some : state_at p m ≢ 0
  owned_some z =
      true≢false (sym (has_waiter-from_pair p.arrivals t m among) ∙ no_key-no_waiter p h m z)

  -- its mutex has a key
  pub key_there : IsSome (state_key_at p m)
  key_there = by_key (state_key_at p m) refl
    where
      by_key : (k : Option ℕ) → state_key_at p m ≡ k → is_some (state_key_at p m) ≡ true
      by_key None e =
          absurd (owned_some (ap (λ (x : Option ℕ). unwrap_or (option_and_then (owner_at p.owners) x) 0) e))
      by_key (Some k) e = ap is_some e

  pub mutex_below : m < length p.keys
  mutex_below = by_place (cases_lt m (length p.keys))
    where
      by_place : ((m < length p.keys) ⊎ (length p.keys ≤ m)) → m < length p.keys
      by_place (inl l) = l
      by_place (inr g) = absurd (false≢true (sym (ap is_some (get_or_past p.keys m None g)) ∙ key_there))

  row_below : t < length p.owners.seats
  row_below = by_place (cases_lt t (length p.owners.seats))
    where
      by_place : ((t < length p.owners.seats) ⊎ (length p.owners.seats ≤ t)) → t < length p.owners.seats
      by_place (inl l) = l
      by_place (inr g) =
          absurd (false≢true (sym (ap (λ (s : Task). is_some (option_map (λ (w : Wait). w.state) s.wait))
          (get_or_past p.owners.seats t no_task g))
          ∙ ap is_some (h.placed.waits t ∙ ap (λ (x : Status). state_key_at p (queued_on x)) status) ∙ key_there))

  module _ (key : ℕ) (at : state_key_at p m ≡ Some key) where
    -- it waits under that key
    pub waits_here : waits_on p.owners t ≡ Some key
    waits_here = h.placed.waits t ∙ ap (λ (x : Status). state_key_at p (queued_on x)) status ∙ at

    -- the owner states without it
    abbrev pub freed : Owners
    freed = with_wait t None p.owners

    abbrev row : Task
    row = record (task_at p.owners t) { wait = None }

    row_here : task_at freed t ≡ row
    row_here = get_or-set_same p.owners.seats t row no_task row_below

    row_other : (u : ℕ) → u ≢ t → task_at freed u ≡ task_at p.owners u
    row_other u n = get_or-set_other p.owners.seats t u row no_task n

    -- if no other waits for the mutex, nobody is queued on its state
    pub freed_idle : has_waiter rest m ≡ false → HasNoWaiter freed key
    freed_idle none u e = by_place (cases_eq u t)
      where
        by_place : ((u ≡ t) ⊎ (u ≡ t → ⊥)) → ⊥
        by_place (inl same) =
            let both : None ≡ Some key
            = sym (ap (waits_on freed) same
            ∙ ap (λ (s : Task). option_map (λ (w : Wait). w.state) s.wait) row_here) ∙ e in
            cc
        by_place (inr ne) =
            let was : is_waiter p.arrivals u m ≡ true
            = waits_under p h u m key at
            (sym (ap (λ (s : Task). option_map (λ (w : Wait). w.state) s.wait) (row_other u ne)) ∙ e) in
            true≢false (sym (has_waiter-from_pair rest u m (waiter_kept p.arrivals t u m ne was)) ∙ none)

    others_kept : (n : ℕ) → n ≢ m → has_waiter rest n ≡ has_waiter p.arrivals n
    others_kept n ne =
        has_waiter-without_other p.arrivals t m n once (waited-from_pair p.arrivals t m once among) ne
      where
        once : Once p.arrivals
        once = rise_once (ticket_of p.owners) 1 p.arrivals p.next h.placed.tickets

    keys_other : (n : ℕ) → n ≢ m → state_key_at p n ≡ (if has_waiter rest n then state_key_at p n else None)
    keys_other n ne =
        keyed p h n ∙ ap (λ (b : Bool). if b then state_key_at p n else None) (sym (others_kept n ne))

    fewer : mutexes_of rest + (if has_waiter rest m then 0 else 1) ≡ mutexes_of p.arrivals
    fewer = mutexes_without p.arrivals t m (rise_once (ticket_of p.owners) 1 p.arrivals p.next h.placed.tickets) among

    module _ (owner : ℕ) (owns : owner_at p.owners key ≡ Some owner) where
      state_is : state_at p m ≡ owner
      state_is =
          ap (λ (k : Option ℕ). unwrap_or (option_and_then (owner_at p.owners) k) 0) at
          ∙ ap (λ (o : Option ℕ). unwrap_or o 0) owns

      waits_owner : waits_for (kernel_of p) t ≡ owner
      waits_owner =
          waits_seen p (fits p h) t ∙ ap (λ (x : Status). state_at p (queued_on x)) status ∙ state_is

      owner_nonzero : owner ≢ 0
      owner_nonzero z = h.placed.owned m key at (state_is ∙ z)

      owner_below : owner < length p.statuses
      owner_below = omega (arith, state_is, h.placed.owners m)

      -- others wait for the mutex
      pub left_still : has_waiter rest m ≡ true → IsLeft p (record p { owners = freed; arrivals = rest }) t owner
      left_still some = record {
        frame = λ i. record p { owners = freed; arrivals = rest; parked = parked_still i };
        rows = length-set p.owners.seats t row;
        free = row_here;
        others = row_other;
        places = refl;
        keys = λ n. by_place n (cases_eq n m);
        states = λ n k w e. refl;
        count = by_sum (fewer);
        levels = unready_off p h t unready;
        place = refl;
        holds = h.placed.holds;
        waited = λ u nz e. sym e ∙ waits_owner;
        some = owner_nonzero;
        added = owner_below;
      }
        where
          by_place : (n : ℕ) → ((n ≡ m) ⊎ (n ≡ m → ⊥)) → state_key_at p n ≡ (if has_waiter rest n then state_key_at p n else None)
          by_place n (inl e) = sym (rw (ap (has_waiter rest) e ∙ some) refl)
          by_place n (inr ne) = keys_other n ne

          by_sum : mutexes_of rest + (if has_waiter rest m then 0 else 1) ≡ mutexes_of p.arrivals
              → count p.owners ≡ mutexes_of rest
          by_sum e =
              let f : mutexes_of rest + 0 ≡ mutexes_of p.arrivals = rw some at e in omega (arith, f, h.placed.count)

      -- nobody else waits for it
      pub left_ended : (v : Owners) → has_waiter rest m ≡ false → v ≡ without_state key freed
          → count v + 1 ≡ count freed
          → IsLeft p (record p { keys = set p.keys m None; owners = v; arrivals = rest }) t owner
      left_ended v none is one = record {
        frame = λ i. record p { keys = set p.keys m None; owners = v; arrivals = rest; parked = parked_still i };
        rows = ap (λ (o : Owners). length o.seats) is ∙ length-set p.owners.seats t row;
        free = ap (λ (o : Owners). task_at o t) is ∙ row_here;
        others = λ u n. ap (λ (o : Owners). task_at o u) is ∙ row_other u n;
        places = length-set p.keys m None;
        keys = λ n. by_place n (cases_eq n m);
        states = λ n k w e. by_owner n k w e (cases_eq k key);
        count = by_sum (fewer);
        levels = unready_off p h t unready;
        place = refl;
        holds = h.placed.holds;
        waited = λ u nz e. sym e ∙ waits_owner;
        some = owner_nonzero;
        added = owner_below;
      }
        where
          by_place : (n : ℕ) → ((n ≡ m) ⊎ (n ≡ m → ⊥))
              → state_key_at (record p { keys = set p.keys m None }) n ≡ (if has_waiter rest n then state_key_at p n else None)
          by_place n (inl e) =
              ap (state_key_at (record p { keys = set p.keys m None })) e ∙ get_or-set_same p.keys m None None mutex_below
              ∙ sym (rw (ap (has_waiter rest) e ∙ none) refl)
          by_place n (inr ne) = get_or-set_other p.keys m n None None ne ∙ keys_other n ne

          by_owner : (n k : ℕ) → has_waiter rest n ≡ true → state_key_at p n ≡ Some k → ((k ≡ key) ⊎ (k ≡ key → ⊥))
              → owner_at v k ≡ owner_at p.owners k
          by_owner n k w e (inl same) =
              let at_m : n ≡ m = h.placed.apart n m key (e ∙ ap Some same) at in
              absurd (true≢false (sym w ∙ ap (has_waiter rest) at_m ∙ none))
          by_owner n k w e (inr ne) =
              ap (λ (o : Owners). owner_at o k) is ∙ get-remove_other freed.owners key k ne

          by_sum : mutexes_of rest + (if has_waiter rest m then 0 else 1) ≡ mutexes_of p.arrivals
              → count v ≡ mutexes_of rest
          by_sum e =
              let f : mutexes_of rest + 1 ≡ mutexes_of p.arrivals = rw none at e in
              let g : count v + 1 ≡ count p.owners = one in
              omega (arith, f, g, h.placed.count)

-- the same, as it is written
pub still_at : (p x : Inside) (t m : ℕ) (h : IsSoundInside p) (queued : (kernel_seat_at (kernel_of p) t).status ≡ Queued m)
    (key : ℕ) (at : state_key_at p m ≡ Some key) (owner : ℕ) → owner_at p.owners key ≡ Some owner
    → (v : Owners) (ws : List (ℕ × ℕ)) → x ≡ record p { owners = v; arrivals = ws } → ws ≡ without p.arrivals t
    → has_waiter (without p.arrivals t) m ≡ true → v ≡ with_wait t None p.owners → IsLeft p x t owner
still_at p x t m h queued key at owner owns v ws is same some e =
    subst (λ (y : Inside). IsLeft p y t owner)
    (sym (is ∙ (λ i. record p { owners = e i; arrivals = same i })))
    (left_still p t m h queued key at owner owns some)

pub ended_at : (p x : Inside) (t m : ℕ) (h : IsSoundInside p) (queued : (kernel_seat_at (kernel_of p) t).status ≡ Queued m)
    (key : ℕ) (at : state_key_at p m ≡ Some key) (owner : ℕ) → owner_at p.owners key ≡ Some owner
    → (v given : Owners) (ws : List (ℕ × ℕ))
    → x ≡ record p { keys = set p.keys m None; owners = v; arrivals = ws }
    → ws ≡ without p.arrivals t → has_waiter (without p.arrivals t) m ≡ false
    → given ≡ with_wait t None p.owners → v ≡ without_state key given → count v + 1 ≡ count given → IsLeft p x t owner
ended_at p x t m h queued key at owner owns v given ws is same none e over one =
    subst (λ (y : Inside). IsLeft p y t owner)
    (sym (is ∙ (λ i. record p { keys = set p.keys m None; owners = v; arrivals = same i })))
    (left_ended p t m h queued key at owner owns v none (over ∙ ap (without_state key) e) (one ∙ ap count e))

-- whatever waiters it names
pub left_with : (p x : Inside) (t start : ℕ) (ws : List (ℕ × ℕ)) → IsLeft p x t start
    → IsLeft p (record x { arrivals = ws }) t start
left_with p x t start ws l = record {
  frame = ap (λ (y : Inside). record y { arrivals = ws }) l.frame;
  rows = l.rows;
  free = l.free;
  others = l.others;
  places = l.places;
  keys = l.keys;
  states = l.states;
  count = l.count;
  levels = l.levels;
  place = l.place;
  holds = l.holds;
  waited = l.waited;
  some = l.some;
  added = l.added;
}
