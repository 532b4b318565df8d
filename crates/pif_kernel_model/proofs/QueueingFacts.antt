-- What is known if a thread is queued on a mutex: a ticket was taken, and there is an owner state.
use Rattle.std.proofs.Common.{◌≡◌, ◌≢◌, ◌⊎◌, ℕ, ◌+◌, ◌<◌, ◌≤◌, true, false, List, [], ◌∷◌, ◌++◌, length, set, Option, Some, None, get_or, option_map, option_and_then, unwrap_or, refl, sym, ap, subst, ◌∙◌, inl, inr, arith}
use Rattle.std.proofs.Math.Path.{fun_ext}
use Rattle.std.proofs.lemmas.Bool.{cases_eq, true≢false}
use Rattle.pif_nodes_model.specs.Lists.{list_without}
use Rattle.pif_nodes_model.specs.Table.{NodeLists}
use Rattle.pif_nodes_model.specs.Levels.{Queue, Holds, IsLevel, IsQueued, level_of}
use Rattle.pif_model.specs.declared.lines.Status.TheVariants.{Queued}
use Rattle.pif_model.specs.Graph.{reaches_within, Reaches}
use Rattle.pif_model.specs.PiKernel.{Kernel, queued_on, has_seat, is_living, is_ready, effective_in, waits_for, kernel_after_queueing}
use Rattle.pif_model.specs.PiKernel.{seat_at as kernel_seat_at, state_at as kernel_state_at}
use Rattle.pif_kernel_model.specs.Owners.{Owners, Task, Wait, no_task, task_at, owner_at, waits_on, with_wait, WaitsFor}
use Rattle.pif_kernel_model.specs.Owners.{waits_for as owners_wait_for}
use Rattle.pif_model_lemmas.proofs.kernel.Facts.{living-added}
use Rattle.pif_model_lemmas.proofs.Following.{Follows, within-from_reaches}
use Rattle.pif_kernel_model.specs.Inside.{Inside, IsSoundInside, kernel_of, status_at, state_key_at, state_at, ticket_of}
use Rattle.pif_kernel_model.specs.Arrivals.{Rise}
use Rattle.pif_kernel_model.specs.Fields.{chains_of}
use Rattle.pif_kernel_model.specs.Opened.{IsOpened}
use Rattle.pif_kernel_model.proofs.Seats.{seats_length, waits_below, owners_waits, added_seen, states_seen}
use Rattle.pif_kernel_model.proofs.Standing.{fits, effective_level, ready_queued}
use Rattle.pif_kernel_model.proofs.Waiters.{ready_free}
use Rattle.pif_kernel_model.proofs.WalkSound.{IsWalkable}
use Rattle.pif_kernel_model.proofs.TableMoved.{kernel_moved, sound_in_table}
use Rattle.pif_kernel_model.proofs.QueueingSound.{IsOpen, opened, opened_kept, walkable}

pub record IsEntry (now p x : Inside) (t m owner key ticket : ℕ) : Type 0 where
  pub sound : IsSoundInside p
  pub same : kernel_of p ≡ kernel_of now
  pub shape : x ≡ record p { keys = x.keys; owners = x.owners }
  pub opens : IsOpen p x.keys x.owners m owner key
  pub added : has_seat (kernel_of p) t ≡ true
  pub ready : is_ready (kernel_seat_at (kernel_of p) t).status ≡ true
  pub named : m ≢ 0
  pub mutex : m < 1025
  pub living : is_living (kernel_of p) owner ≡ true
  pub state : state_at p m ≢ 0 → state_at p m ≡ owner
  pub unreached : reaches_within (length (kernel_of p).seats) (waits_for (kernel_of p)) owner t ≡ false
  pub rises : Rise (ticket_of p.owners) 1 p.arrivals ticket
  pub later : ticket < p.next

-- what is known before t is queued on m, whose owner state has this key, if there is one
pub record IsQueueing (p : Inside) (t m owner : ℕ) : Type 0 where
  pub added : has_seat (kernel_of p) t ≡ true
  pub ready : is_ready (kernel_seat_at (kernel_of p) t).status ≡ true
  pub mutex : m < 1025
  pub living : is_living (kernel_of p) owner ≡ true
  pub state : state_at p m ≢ 0 → state_at p m ≡ owner
  pub unreached : reaches_within (length (kernel_of p).seats) (waits_for (kernel_of p)) owner t ≡ false

-- the keys and owner states are open too if only the table became another one
open_moved : (p x : Inside) (m owner key : ℕ) → IsOpen p x.keys x.owners m owner key
    → IsOpen (record p { queue = x.queue; table = x.table }) x.keys x.owners m owner key
open_moved p x m owner key o = record {
  seats = o.seats;
  long = o.long;
  here = o.here;
  there = o.there;
  alone = o.alone;
  kept = o.kept;
  owned = o.owned;
  others = o.others;
  counted = o.counted;
}

pub entry : (now p x : Inside) (t m owner key ticket : ℕ) → 1 ≤ m → IsQueueing now t m owner
    → p.next ≡ ticket + 1 → Rise (ticket_of p.owners) 1 p.arrivals ticket → kernel_of p ≡ kernel_of now → IsSoundInside p
    → IsOpened p x m owner key
    → IsEntry now (record p { queue = x.queue; table = x.table }) x t m owner key ticket
entry now p x t m owner key ticket named w next rises before h o =
    let is : state_at p m ≡ state_at now m
    = sym (states_seen p m) ∙ ap (λ (k : Kernel). kernel_state_at k m) before ∙ states_seen now m in
    let within : m < length p.keys = omega (arith, w.mutex, h.placed.keys) in
    let state' : state_at p m ≢ 0 → state_at p m ≡ owner = λ n. is ∙ w.state (λ z. n (is ∙ z)) in
    let both = opened p x m owner key h within state' o in
    let kept = opened_kept p x m owner key h o in
    let same = kernel_moved p (record (chains_of x) { keys = p.keys; parked = p.parked }) kept ∙ before in
    record {
      sound = sound_in_table p (record (chains_of x) { keys = p.keys; parked = p.parked }) kept h;
      same = same;
      shape = both.0
          ∙ ap (λ (q : Queue). record p { keys = x.keys; owners = x.owners; table = x.table; queue = q })
          (sym (ap (λ (y : Inside). y.queue) both.0));
      opens = open_moved p x m owner key both.1;
      added = ap (λ (k : Kernel). has_seat k t) same ∙ w.added;
      ready = ap (λ (k : Kernel). is_ready (kernel_seat_at k t).status) same ∙ w.ready;
      named = λ z. absurd (omega arith);
      mutex = w.mutex;
      living = ap (λ (k : Kernel). is_living k owner) same ∙ w.living;
      state = state';
      unreached = ap (λ (k : Kernel). reaches_within (length k.seats) (waits_for k) owner t) same ∙ w.unreached;
      rises = rises;
      later = omega (arith, next);
    }

-- the same, if what is kept is written by the one with the owner state
abbrev pub IsEntered : (now p x : Inside) (t m owner key ticket : ℕ) → Type 0
IsEntered now p x t m owner key ticket =
    IsEntry now (record x { keys = p.keys; owners = p.owners }) x t m owner key ticket

pub folded : (now p x : Inside) (t m owner key ticket : ℕ) → IsEntry now p x t m owner key ticket
    → IsEntered now p x t m owner key ticket
folded now p x t m owner key ticket i =
    subst (λ (y : Inside). IsEntry now y x t m owner key ticket)
    (sym (ap (λ (z : Inside). record z { keys = p.keys; owners = p.owners }) i.shape)) i

-- for whom a thread waits, if there is an owner state
waits_open : (now p x : Inside) (t m owner key ticket : ℕ) → IsEntry now p x t m owner key ticket → (u : ℕ)
    → owners_wait_for x.owners u ≡ waits_for (kernel_of p) u
waits_open now p x t m owner key ticket i u =
    ap (λ (l : List Task). unwrap_or
    (option_and_then (owner_at x.owners) (option_map (λ (w : Wait). w.state) (get_or l u no_task).wait))
    0) i.opens.seats
    ∙ by_key (waits_on p.owners u) refl ∙ owners_waits p (fits p i.sound) u
  where
    by_place : (k : ℕ) → waits_on p.owners u ≡ Some k → ((k ≡ key) ⊎ (k ≡ key → ⊥))
        → unwrap_or (owner_at x.owners k) 0 ≡ unwrap_or (owner_at p.owners k) 0
    by_place k e (inr ne) = ap (λ (o : Option ℕ). unwrap_or o 0) (i.opens.others k ne)
    by_place k e (inl same) =
        let on : state_key_at p (queued_on (status_at p u)) ≡ Some key = sym (i.sound.placed.waits u) ∙ e ∙ ap Some same in
        let at : queued_on (status_at p u) ≡ m = i.opens.alone (queued_on (status_at p u)) on in
        let here : state_key_at p m ≡ Some key = ap (state_key_at p) (sym at) ∙ on in
        let was : state_at p m ≡ unwrap_or (owner_at p.owners key) 0
        = ap (λ (o : Option ℕ). unwrap_or (option_and_then (owner_at p.owners) o) 0) here in
        ap (λ (n : ℕ). unwrap_or (owner_at x.owners n) 0) same ∙ ap (λ (o : Option ℕ). unwrap_or o 0) i.opens.owned
        ∙ sym (i.state (i.sound.placed.owned m key here)) ∙ was
        ∙ ap (λ (n : ℕ). unwrap_or (owner_at p.owners n) 0) (sym same)

    by_key : (o : Option ℕ) → waits_on p.owners u ≡ o
        → unwrap_or (option_and_then (owner_at x.owners) (waits_on p.owners u)) 0
        ≡ unwrap_or (option_and_then (owner_at p.owners) (waits_on p.owners u)) 0
    by_key None e = rw e refl
    by_key (Some k) e = rw e (by_place k e (cases_eq k key))

pub no_cycle : (now p x : Inside) (t m owner key ticket : ℕ) → IsEntry now p x t m owner key ticket → (n : ℕ)
    → owner_at x.owners key ≡ Some n → Reaches (WaitsFor x.owners) n t → ⊥
no_cycle now p x t m owner key ticket i n e r =
    let both : Some owner ≡ Some n = sym i.opens.owned ∙ e in
    let at : n ≡ owner = cc in
    true≢false
    (sym (within-from_reaches (length (kernel_of p).seats) (waits_for (kernel_of p)) owner t
    (omega (
      arith,
      (added_seen p (fits p i.sound) owner (living-added (kernel_of p) owner i.living)).1,
      seats_length p (fits p i.sound),
    ))
    (λ y some. waits_below p (fits p i.sound) y)
    (subst (λ (w : ℕ → ℕ). Reaches (Follows w) owner t) (fun_ext (waits_open now p x t m owner key ticket i))
    (subst (λ (y : ℕ). Reaches (WaitsFor x.owners) y t) at r)))
    ∙ i.unreached)

module _ (now p x : Inside) (t m owner key ticket : ℕ) (i : IsEntry now p x t m owner key ticket) where
  -- the thread has its effective priority
  pub local_is : (task_at x.owners t).local ≡ effective_in (kernel_of p) t
  local_is = ap (λ (l : List Task). (get_or l t no_task).local) i.opens.seats ∙ i.sound.local t

  -- that is a level
  pub local_low : 1 ≤ (task_at x.owners t).local
  local_low = omega (arith, local_is, (effective_level p i.sound t i.added).0)

  pub place : t < length p.statuses
  place = (added_seen p (fits p i.sound) t i.added).1

  pub free : waits_on x.owners t ≡ None
  free =
      ap (λ (l : List Task). option_map (λ (w : Wait). w.state) (get_or l t no_task).wait) i.opens.seats
      ∙ ready_free p i.sound t i.ready

  pub on_level : IsQueued p.queue p.table t
  on_level = ready_queued p i.sound t i.added i.ready

  -- what is kept before the walk
  pub before_walk : (level : ℕ) (v : Owners) (q : Queue) (tb : NodeLists) → level ≡ (task_at x.owners t).local
      → v ≡ with_wait t (Some (record { state = key; rank = record { prio = level; ticket = ticket } })) x.owners
      → q ≡ record p.queue { mask = q.mask }
      → ((r : ℕ) → IsLevel r → level_of q tb r ≡ list_without t (level_of p.queue p.table r)) → Holds q tb
      → IsWalkable (record p {
        statuses = set p.statuses t
            (Queued m);
        keys = x.keys;
        owners = v;
        queue = q;
        table = tb;
        arrivals = p.arrivals ++
            (t, m) ∷ [];
      }) owner (kernel_after_queueing t m owner (kernel_of now))
  before_walk level v q tb value queued place levels holds =
      rw (queued, ← i.same)
      (walkable p x.keys x.owners t m owner key level ticket p.next i.sound i.opens i.added i.ready i.named i.mutex
      i.living i.state i.unreached (value ∙ local_is) i.rises i.later q tb place levels holds)
