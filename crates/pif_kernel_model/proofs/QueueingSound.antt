-- What is kept stays sound if a thread is queued on a mutex.
use Rattle.std.proofs.Common.{◌≡◌, ◌≢◌, ◌⊎◌, ℕ, ◌+◌, ◌<◌, ◌==◌, true, false, if◌then◌else◌, List, [], ◌∷◌, ◌++◌, length, get_or, set, Option, Some, None, IsSome, is_some, option_map, option_and_then, unwrap_or, refl, sym, ap, subst, ◌∙◌, inl, inr, arith, length-set}
use Rattle.std.specs.List.{filter}
use Rattle.std.proofs.lemmas.Bool.{cases_eq, true≢false, false≢true}
use Rattle.std.proofs.lemmas.Bool.Decides.{nat_tests}
use Rattle.std.proofs.lemmas.List.{get_or-set_same, get_or-set_other}
use Rattle.pif_nodes_model.specs.declared.keys.Key.{Key}
use Rattle.pif_nodes_model.specs.Lists.{list_without}
use Rattle.pif_nodes_model.specs.Table.{NodeLists}
use Rattle.pif_nodes_model.specs.Levels.{Queue, Holds, IsLevel, level_of}
use Rattle.pif_types.specs.Bounds.{Bounds}
use Rattle.pif_model.specs.declared.lines.Status.{Status}
use Rattle.pif_model.specs.declared.lines.Status.TheVariants.{Ready, Queued}
use Rattle.pif_model.specs.declared.lines.Woken.TheVariants.{Fresh}
use Rattle.pif_model.specs.Graph.{reaches_within, has_waiter}
use Rattle.pif_model.specs.PiKernel.{queued_on, is_ready, effective_in, has_seat, is_among, is_living, level_at, with_effective_levels, waits_for, levels_without, kernel_after_queueing}
use Rattle.pif_model.specs.PiKernel.{seat_at as kernel_seat_at, state_at as kernel_state_at, with_status, with_state}
use Rattle.pif_kernel_model.specs.Owners.{Owners, Task, Wait, task_at, owner_at, count, waits_on, rank_of, no_task, with_wait, with_owner}
use Rattle.pif_kernel_model.specs.Owners.{waits_for as owners_wait_for}
use Rattle.pif_kernel_model.proofs.MapLemmas.{get-insert_same, get-insert_other}
use Rattle.pif_kernel_model.specs.Boosts.{IsRepairedBut}
use Rattle.pif_model_lemmas.proofs.kernel.Facts.{living-added, queued-from_number}
use Rattle.pif_model_lemmas.proofs.kernel.Kept.{queueing_kept}
use Rattle.pif_model_lemmas.proofs.kernel.Levels.{level-left}
use Rattle.pif_model_lemmas.proofs.kernel.Numbers.{is_other, among-left_same, among-left_other}
use Rattle.pif_model_lemmas.proofs.Waiting.{has_waiter-from_pair}
use Rattle.pif_model_lemmas.proofs.Places.{kept_at}
use Rattle.pif_model_lemmas.proofs.Among.{is_among as is_waiter}
use Rattle.pif_kernel_model.specs.Inside.{Inside, IsListed, IsPlaced, IsSoundInside, kernel_of, status_at, state_key_at, state_at, ticket_of, arrivals_in}
use Rattle.pif_kernel_model.specs.Arrivals.{Rise}
use Rattle.pif_kernel_model.specs.Chained.{Chained, KeepsLevels}
use Rattle.pif_kernel_model.specs.Fields.{inside_from, chains_of}
use Rattle.pif_kernel_model.specs.Opened.{IsOpened}
use Rattle.pif_kernel_model.specs.Opened.IsOpened.{found, made}
use Rattle.pif_kernel_model.proofs.Seats.{IsFitted, same_seats, status_seen, waits_seen, owners_waits, added_seen, waiters_seen, states_seen, states_length, kernel_by_parts, seats_of-set_status, seats_of-same_base}
use Rattle.pif_kernel_model.proofs.Picked.{levels_left, length-left}
use Rattle.pif_kernel_model.proofs.Standing.{fits}
use Rattle.pif_kernel_model.proofs.ChainLaws.{repaired_but}
use Rattle.pif_kernel_model.proofs.ArrivalLaws.{rise_push, mutexes_push}
use Rattle.pif_kernel_model.proofs.Waiters.{has_waiter-key, no_key-no_waiter, ready_idle, ready_unnamed}
use Rattle.pif_kernel_model.proofs.TableMoved.{levels_kept_beside}
use Rattle.pif_kernel_model.proofs.WalkSound.{IsWalkable, owners_effective}

-- the keys and owner states in which m has an owner state of this owner under this key, and all others are as before
pub record IsOpen (p : Inside) (keys : List (Option ℕ)) (owners : Owners) (m owner key : ℕ) : Type 0 where
  pub seats : owners.seats ≡ p.owners.seats
  pub long : length keys ≡ length p.keys
  pub here : get_or keys m None ≡ Some key
  pub there : (n : ℕ) → n ≢ m → get_or keys n None ≡ state_key_at p n
  pub alone : (n : ℕ) → state_key_at p n ≡ Some key → n ≡ m
  pub kept : (k : ℕ) → state_key_at p m ≡ Some k → k ≡ key
  pub owned : owner_at owners key ≡ Some owner
  pub others : (k : ℕ) → k ≢ key → owner_at owners k ≡ owner_at p.owners k
  pub counted : count owners ≡ (if has_waiter p.arrivals m then count p.owners else count p.owners + 1)

some_owner : (o : Option ℕ) (n : ℕ) → unwrap_or o 0 ≡ n → n ≢ 0 → o ≡ Some n
some_owner None n e z = absurd (z (sym e))
some_owner (Some x) n e z = ap Some e

pub opened : (p now : Inside) (m owner key : ℕ) → IsSoundInside p → m < length p.keys
    → (state_at p m ≢ 0 → state_at p m ≡ owner) → IsOpened p now m owner key
    → (now ≡ record p { keys = now.keys; owners = now.owners; table = now.table })
    × IsOpen p now.keys now.owners m owner key
opened p now m owner key h l state (found e same) =
    let some : state_at p m ≢ 0 = h.placed.owned m key e in
    let is : unwrap_or (owner_at p.owners key) 0 ≡ owner
    = sym (ap (λ (o : Option ℕ). unwrap_or (option_and_then (owner_at p.owners) o) 0) e) ∙ state some in (
      same ∙ sym (ap (λ (x : Inside). record p { keys = x.keys; owners = x.owners; table = x.table }) same),
      subst (λ (x : Inside). IsOpen p x.keys x.owners m owner key) (sym same) (record {
        seats = refl;
        long = refl;
        here = e;
        there = λ n ne. refl;
        alone = λ n x. h.placed.apart n m key x e;
        kept = λ k x. let both : Some k ≡ Some key = sym x ∙ e in cc;
        owned = some_owner (owner_at p.owners key) owner is (λ z. some (state some ∙ z));
        others = λ k ne. refl;
        counted = sym (rw (has_waiter-key p h m some) refl);
      }),
    )
opened p now m owner key h l state (made e fresh same levels more) =
    let none : state_at p m ≡ 0 = ap (λ (o : Option ℕ). unwrap_or (option_and_then (owner_at p.owners) o) 0) e in (
      same ∙ sym (ap (λ (x : Inside). record p { keys = x.keys; owners = x.owners; table = x.table }) same),
      subst (λ (x : Inside). IsOpen p x.keys x.owners m owner key) (sym same) (record {
        seats = refl;
        long = length-set p.keys m (Some key);
        here = get_or-set_same p.keys m (Some key) None l;
        there = λ n ne. get_or-set_other p.keys m n (Some key) None ne;
        alone = λ n x. absurd (false≢true (sym (ap is_some fresh) ∙ h.placed.made n key x));
        kept = λ k x. let both : Some k ≡ None = sym x ∙ e in cc;
        owned = get-insert_same p.owners.owners key owner key refl;
        others = λ k ne. get-insert_other p.owners.owners key owner k ne;
        counted = sym (ap (λ (x : Inside). count x.owners) same) ∙ more ∙ sym (rw (no_key-no_waiter p h m none) refl);
      }),
    )

-- a new owner state
pub opened_made : (was : Inside) (l : Bounds) (xs : List Status) (x y : Chained) (next m owner key : ℕ)
    → inside_from l xs x next ≡ was → state_key_at was m ≡ None → owner_at x.owners key ≡ None
    → y.owners ≡ with_owner key owner x.owners → KeepsLevels (record x { keys = set x.keys m (Some key) }) y
    → count y.owners ≡ count x.owners + 1 → IsOpened was (inside_from l xs y next) m owner key
opened_made was l xs x y next m owner key e none fresh is kept more =
    subst (λ (p : Inside). IsOpened p (inside_from l xs y next) m owner key) e
    (made (ap (λ (p : Inside). state_key_at p m) e ∙ none) fresh
    (λ i. record {
      limits = l;
      statuses = xs;
      keys = kept.keys i;
      owners = is i;
      queue = kept.queue i;
      table = y.table;
      arrivals = arrivals_in xs (is i);
      parked = kept.parked i;
      next = next;
    }) kept more)

-- each level is as it was then
pub opened_kept : (p now : Inside) (m owner key : ℕ) → IsSoundInside p → IsOpened p now m owner key
    → KeepsLevels (chains_of p) (record (chains_of now) { keys = p.keys; parked = p.parked })
opened_kept p now m owner key h (found e same) =
    subst (λ (x : Inside). KeepsLevels (chains_of p) (record (chains_of x) { keys = p.keys; parked = p.parked })) (sym same)
    (record { levels = λ r lr. refl; queue = refl; holds = h.placed.holds; keys = refl; parked = refl })
opened_kept p now m owner key h (made e fresh same levels more) =
    levels_kept_beside (chains_of p) (chains_of now) (set p.keys m (Some key)) p.parked levels

module _ (p : Inside) (keys : List (Option ℕ)) (owners : Owners) (t m owner key prio ticket next : ℕ) (h : IsSoundInside p)
    (o : IsOpen p keys owners m owner key)
    (known : has_seat (kernel_of p) t ≡ true) (ready : is_ready (kernel_seat_at (kernel_of p) t).status ≡ true)
    (some : m ≢ 0) (mutex : m < 1025)
    (living : is_living (kernel_of p) owner ≡ true) (state : state_at p m ≢ 0 → state_at p m ≡ owner)
    (unreached : reaches_within (length (kernel_of p).seats) (waits_for (kernel_of p)) owner t ≡ false)
    (rank_is : prio ≡ effective_in (kernel_of p) t) (rises : Rise (ticket_of p.owners) 1 p.arrivals ticket)
    (later : ticket < next)
    (q : Queue) (tb : NodeLists) (place : q ≡ record p.queue { mask = q.mask })
    (levels : (r : ℕ) → IsLevel r → level_of q tb r ≡ list_without t (level_of p.queue p.table r)) (holds : Holds q tb) where
  abbrev wait : Option Wait
  wait = Some (record { state = key; rank = record { prio = prio; ticket = ticket } })

  -- what is kept before the walk
  abbrev pub mid : Inside
  mid =
      record p {
        statuses = set p.statuses t
            (Queued m);
        keys = keys;
        owners = with_wait t wait owners;
        queue = q;
        table = tb;
        arrivals = p.arrivals ++
            (t, m) ∷ [];
        next = next;
      }

  fit : IsFitted p
  fit = fits p h

  nonzero : t ≢ 0
  nonzero = (added_seen p fit t known).0

  added : t < length p.statuses
  added = (added_seen p fit t known).1

  owner_some : owner ≢ 0
  owner_some = (added_seen p fit owner (living-added (kernel_of p) owner living)).0

  owner_added : owner < length p.statuses
  owner_added = (added_seen p fit owner (living-added (kernel_of p) owner living)).1

  abbrev row : Task
  row = record (task_at owners t) { wait = wait }

  was : (u : ℕ) → task_at owners u ≡ task_at p.owners u
  was u = ap (λ (l : List Task). get_or l u no_task) o.seats

  long : length mid.owners.seats ≡ length p.owners.seats
  long = length-set owners.seats t row ∙ ap length o.seats

  many : length mid.statuses ≡ length p.statuses
  many = length-set p.statuses t (Queued m)

  inside : t < length owners.seats
  inside = omega (arith, added, fit.few, ap (λ (l : List Task). length l) o.seats)

  other : (u : ℕ) → u ≢ t → task_at mid.owners u ≡ task_at p.owners u
  other u n = get_or-set_other owners.seats t u row no_task n ∙ was u

  same : (u : ℕ) → u ≡ t → task_at mid.owners u ≡ record (task_at p.owners t) { wait = wait }
  same u e =
      ap (λ (v : ℕ). task_at mid.owners v) e ∙ get_or-set_same owners.seats t row no_task inside
      ∙ ap (λ (x : Task). record x { wait = wait }) (was t)

  base_same : (u : ℕ) → (task_at mid.owners u).base ≡ (task_at p.owners u).base
  base_same u = kept_at (λ (x : Task). x.base) owners.seats t row no_task refl u ∙ ap (λ (x : Task). x.base) (was u)

  local_same : (u : ℕ) → (task_at mid.owners u).local ≡ (task_at p.owners u).local
  local_same u = kept_at (λ (x : Task). x.local) owners.seats t row no_task refl u ∙ ap (λ (x : Task). x.local) (was u)

  status_other : (u : ℕ) → u ≢ t → status_at mid u ≡ status_at p u
  status_other u n = get_or-set_other p.statuses t u (Queued m) (Ready Fresh) n

  status_here : (u : ℕ) → u ≡ t → status_at mid u ≡ Queued m
  status_here u e = ap (λ (v : ℕ). status_at mid v) e ∙ get_or-set_same p.statuses t (Queued m) (Ready Fresh) added

  -- the owner in the owner state of a mutex
  state_mid : (n : ℕ) → state_at mid n ≡ (if n == m then owner else state_at p n)
  state_mid n = by_place (cases_eq n m)
    where
      by_key : (n ≡ m → ⊥) → (k : Option ℕ) → state_key_at p n ≡ k
          → unwrap_or (option_and_then (owner_at owners) k) 0 ≡ unwrap_or (option_and_then (owner_at p.owners) k) 0
      by_key ne None e = refl
      by_key ne (Some k) e = ap (λ (x : Option ℕ). unwrap_or x 0) (o.others k (λ z. ne (o.alone n (e ∙ ap Some z))))

      by_place : ((n ≡ m) ⊎ (n ≡ m → ⊥)) → state_at mid n ≡ (if n == m then owner else state_at p n)
      by_place (inl e) =
          let yes : (n == m) ≡ true = grind (arith, nat_tests) in
          rw yes (ap (λ (j : ℕ). unwrap_or (option_and_then (owner_at owners) (get_or keys j None)) 0) e
          ∙ ap (λ (k : Option ℕ). unwrap_or (option_and_then (owner_at owners) k) 0) o.here
          ∙ ap (λ (x : Option ℕ). unwrap_or x 0) o.owned)
      by_place (inr ne) =
          let no : (n == m) ≡ false = grind (arith, nat_tests) in
          rw no (ap (λ (k : Option ℕ). unwrap_or (option_and_then (owner_at owners) k) 0) (o.there n ne)
          ∙ by_key ne (state_key_at p n) refl)

  state_here : state_at mid m ≡ owner
  state_here = let yes : (m == m) ≡ true = grind (arith, nat_tests) in state_mid m ∙ rw yes refl

  state_other : (n : ℕ) → n ≢ m → state_at mid n ≡ state_at p n
  state_other n ne = let no : (n == m) ≡ false = grind (arith, nat_tests) in state_mid n ∙ rw no refl

  -- the same as in the kernel by itself
  state_placed : (n : ℕ) → ((n ≡ m) ⊎ (n ≡ m → ⊥))
      → kernel_state_at (kernel_of mid) n ≡ get_or (set (kernel_of p).states m owner) n 0
  state_placed n (inl e) =
      states_seen mid n ∙ ap (state_at mid) e ∙ state_here
      ∙ sym (get_or-set_same (kernel_of p).states m owner 0 (omega (arith, mutex, states_length p, h.placed.keys)))
      ∙ ap (λ (j : ℕ). get_or (set (kernel_of p).states m owner) j 0) (sym e)
  state_placed n (inr ne) =
      states_seen mid n ∙ state_other n ne ∙ sym (states_seen p n)
      ∙ sym (get_or-set_other (kernel_of p).states m n owner 0 ne)

  -- if a thread is queued on m, there was an owner state
  waited : (u : ℕ) → queued_on (status_at p u) ≡ m → state_at p m ≢ 0
  waited u e z =
      let status : (kernel_seat_at (kernel_of p) u).status ≡ Queued m
      = status_seen p fit u ∙ queued-from_number (status_at p u) m some e in
      let among : is_waiter p.arrivals u m ≡ true
      = subst (λ (ws : List (ℕ × ℕ)). is_waiter ws u m ≡ true) (waiters_seen p) (h.kernel.queued u m status) in
      true≢false (sym (has_waiter-from_pair p.arrivals u m among) ∙ no_key-no_waiter p h m z)

  key_kept : (u : ℕ) → get_or keys (queued_on (status_at p u)) None ≡ state_key_at p (queued_on (status_at p u))
  key_kept u = by_place (cases_eq (queued_on (status_at p u)) m)
    where
      by_key : (k : Option ℕ) → state_key_at p m ≡ k → queued_on (status_at p u) ≡ m → get_or keys m None ≡ state_key_at p m
      by_key None x e =
          absurd (waited u e (ap (λ (k : Option ℕ). unwrap_or (option_and_then (owner_at p.owners) k) 0) x))
      by_key (Some k) x e = o.here ∙ ap Some (sym (o.kept k x)) ∙ sym x

      by_place : ((queued_on (status_at p u) ≡ m) ⊎ (queued_on (status_at p u) ≡ m → ⊥))
          → get_or keys (queued_on (status_at p u)) None ≡ state_key_at p (queued_on (status_at p u))
      by_place (inl e) = ap (λ (n : ℕ). get_or keys n None) e ∙ by_key (state_key_at p m) refl e ∙ ap (state_key_at p) (sym e)
      by_place (inr ne) = o.there (queued_on (status_at p u)) ne

  waits_mid : (u : ℕ) → ((u ≡ t) ⊎ (u ≡ t → ⊥)) → waits_on mid.owners u ≡ state_key_at mid (queued_on (status_at mid u))
  waits_mid u (inl e) =
      ap (λ (x : Task). option_map (λ (w : Wait). w.state) x.wait) (same u e) ∙ sym o.here
      ∙ ap (λ (x : Status). state_key_at mid (queued_on x)) (sym (status_here u e))
  waits_mid u (inr n) =
      ap (λ (x : Task). option_map (λ (w : Wait). w.state) x.wait) (other u n) ∙ h.placed.waits u ∙ sym (key_kept u)
      ∙ ap (λ (x : Status). state_key_at mid (queued_on x)) (sym (status_other u n))

  owners_mid : (n : ℕ) → ((n ≡ m) ⊎ (n ≡ m → ⊥)) → state_at mid n < length mid.statuses
  owners_mid n (inl e) = omega (arith, ap (state_at mid) e, state_here, owner_added, many)
  owners_mid n (inr ne) = omega (arith, state_other n ne, h.placed.owners n, many)

  fit_mid : IsFitted mid
  fit_mid = record {
    few = omega (arith, fit.few, long, many);
    free = λ u l. other u (λ e. absurd (omega (arith, l, added, many))) ∙ h.placed.free u (omega (arith, l, many));
    waits = λ u. waits_mid u (cases_eq u t);
    owners = λ n. owners_mid n (cases_eq n m);
  }

  has_mid : (u : ℕ) → has_seat (kernel_of mid) u ≡ has_seat (kernel_of p) u
  has_mid u = same_seats p mid fit fit_mid many u

  -- t waits for the owner now, and all others for whom they did
  waits_new : (u : ℕ) → u ≡ t → waits_for (kernel_of mid) u ≡ owner
  waits_new u e =
      waits_seen mid fit_mid u ∙ ap (λ (x : Status). state_at mid (queued_on x)) (status_here u e) ∙ state_here

  waits_other : (u : ℕ) → u ≢ t → waits_for (kernel_of mid) u ≡ waits_for (kernel_of p) u
  waits_other u n =
      waits_seen mid fit_mid u ∙ ap (λ (x : Status). state_at mid (queued_on x)) (status_other u n)
      ∙ by_place (cases_eq (queued_on (status_at p u)) m) ∙ sym (waits_seen p fit u)
    where
      by_place : ((queued_on (status_at p u) ≡ m) ⊎ (queued_on (status_at p u) ≡ m → ⊥))
          → state_at mid (queued_on (status_at p u)) ≡ state_at p (queued_on (status_at p u))
      by_place (inl e) = ap (state_at mid) e ∙ state_here ∙ sym (state (waited u e)) ∙ ap (state_at p) (sym e)
      by_place (inr ne) = state_other (queued_on (status_at p u)) ne

  waits_none : waits_for (kernel_of p) t ≡ 0
  waits_none =
      waits_seen p fit t ∙ ap (state_at p) (ready_idle p h t ready)
      ∙ ap (λ (k : Option ℕ). unwrap_or (option_and_then (owner_at p.owners) k) 0) h.placed.no_mutex

  -- t left its level, and the others stay
  listed_mid : (u r : ℕ) → ((u ≡ t) ⊎ (u ≡ t → ⊥)) → is_among (level_at (kernel_of mid).levels r) u ≡ true
      → IsListed mid u r
  listed_mid u r c x =
      by_place c (sym (ap (λ (xs : List ℕ). is_among xs u)
      (levels_left p mid t levels r ∙ level-left t (kernel_of p).levels r)) ∙ x)
    where
      by_place : ((u ≡ t) ⊎ (u ≡ t → ⊥)) → is_among (filter (is_other t) (level_at (kernel_of p).levels r)) u ≡ true
          → IsListed mid u r
      by_place (inl e) y =
          absurd (true≢false (sym y ∙ ap (is_among (filter (is_other t) (level_at (kernel_of p).levels r))) e
          ∙ among-left_same (level_at (kernel_of p).levels r) t))
      by_place (inr n) y =
          let l = h.placed.listed u r (sym (among-left_other (level_at (kernel_of p).levels r) t u n) ∙ y) in
          record {
            added = has_mid u ∙ l.added;
            ready = ap is_ready (status_other u n) ∙ l.ready;
            local = local_same u
                ∙ l.local;
          }

  apart_mid : (a b k : ℕ) → ((a ≡ m) ⊎ (a ≡ m → ⊥)) → ((b ≡ m) ⊎ (b ≡ m → ⊥)) → state_key_at mid a ≡ Some k
      → state_key_at mid b ≡ Some k → a ≡ b
  apart_mid a b k (inl x) (inl y) e f = x ∙ sym y
  apart_mid a b k (inl x) (inr y) e f =
      absurd (y (o.alone b (sym (o.there b y) ∙ f ∙ sym e ∙ ap (λ (n : ℕ). get_or keys n None) x ∙ o.here)))
  apart_mid a b k (inr x) (inl y) e f =
      absurd (x (o.alone a (sym (o.there a x) ∙ e ∙ sym f ∙ ap (λ (n : ℕ). get_or keys n None) y ∙ o.here)))
  apart_mid a b k (inr x) (inr y) e f = h.placed.apart a b k (sym (o.there a x) ∙ e) (sym (o.there b y) ∙ f)

  made_mid : (a k : ℕ) → ((a ≡ m) ⊎ (a ≡ m → ⊥)) → state_key_at mid a ≡ Some k → IsSome (owner_at owners k)
  made_mid a k (inl x) e =
      let both : Some k ≡ Some key = sym e ∙ ap (λ (n : ℕ). get_or keys n None) x ∙ o.here in
      let at : k ≡ key = cc in
      ap (λ (n : ℕ). is_some (owner_at owners n)) at ∙ ap is_some o.owned
  made_mid a k (inr x) e =
      let was : state_key_at p a ≡ Some k = sym (o.there a x) ∙ e in
      ap is_some (o.others k (λ z. x (o.alone a (was ∙ ap Some z)))) ∙ h.placed.made a k was

  owned_mid : (a k : ℕ) → ((a ≡ m) ⊎ (a ≡ m → ⊥)) → state_key_at mid a ≡ Some k → state_at mid a ≢ 0
  owned_mid a k (inl x) e z = owner_some (sym (ap (state_at mid) x ∙ state_here) ∙ z)
  owned_mid a k (inr x) e z = h.placed.owned a k (sym (o.there a x) ∙ e) (sym (state_other a x) ∙ z)

  ticket_other : (u : ℕ) → u ≢ t → ticket_of mid.owners u ≡ ticket_of p.owners u
  ticket_other u n =
      ap (λ (x : Task). unwrap_or (option_map (λ (r : Key). r.ticket) (option_map (λ (w : Wait). w.rank) x.wait)) 0)
      (other u n)

  ticket_here : ticket_of mid.owners t ≡ ticket
  ticket_here =
      ap (λ (x : Task). unwrap_or (option_map (λ (r : Key). r.ticket) (option_map (λ (w : Wait). w.rank) x.wait)) 0)
      (same t refl)

  pub placed : IsPlaced mid
  placed = record {
    within = h.placed.within;
    rows = long ∙ h.placed.rows;
    keys = o.long ∙ h.placed.keys;
    some = omega (arith, many, h.placed.some);
    few = omega (arith, many, h.placed.few);
    nobody = other 0 (λ e. nonzero (sym e)) ∙ h.placed.nobody;
    admitted = λ u n l. omega (arith, base_same u, h.placed.admitted u n (omega (arith, l, many)));
    free = fit_mid.free;
    most = λ u. omega (arith, base_same u, h.placed.most u);
    threads = ap (λ (x : Queue). x.threads) place ∙ h.placed.threads;
    holds = holds;
    listed = λ u r e. listed_mid u r (cases_eq u t) e;
    waits = fit_mid.waits;
    no_mutex = o.there 0 (λ e. some (sym e)) ∙ h.placed.no_mutex;
    apart = λ a b k e f. apart_mid a b k (cases_eq a m) (cases_eq b m) e f;
    made = λ a k e. made_mid a k (cases_eq a m) e;
    owned = λ a k e. owned_mid a k (cases_eq a m) e;
    count =
        o.counted ∙ ap (λ (n : ℕ). if has_waiter p.arrivals m then n else n + 1) h.placed.count
        ∙ sym (mutexes_push p.arrivals t m);
    owners = fit_mid.owners;
    tickets =
        rise_push (ticket_of p.owners) (ticket_of mid.owners) 1 p.arrivals ticket t m next rises
        (ready_unnamed p h t ready) ticket_other ticket_here later;
  }

  waiting : (x u : ℕ) → u ≢ owner → u ≢ 0 → ((x ≡ t) ⊎ (x ≡ t → ⊥))
      → (owners_wait_for p.owners x == u) ≡ (owners_wait_for mid.owners x == u)
  waiting x u ne nz (inl e) =
      let before : owners_wait_for p.owners x ≡ 0
      = owners_waits p fit x ∙ ap (waits_for (kernel_of p)) e ∙ waits_none in
      let after : owners_wait_for mid.owners x ≡ owner = owners_waits mid fit_mid x ∙ waits_new x e in
      let a : (owners_wait_for p.owners x == u) ≡ false = grind (arith, nat_tests) in
      let b : (owners_wait_for mid.owners x == u) ≡ false = grind (arith, nat_tests) in
      a ∙ sym b
  waiting x u ne nz (inr n) =
      ap (λ (v : ℕ). v == u) (owners_waits p fit x ∙ sym (waits_other x n) ∙ sym (owners_waits mid fit_mid x))

  ranks : (u : ℕ) (r : Key) → ((u ≡ t) ⊎ (u ≡ t → ⊥)) → rank_of mid.owners u ≡ Some r
      → r.prio ≡ effective_in (kernel_of p) u
  ranks u r (inl e) x =
      let both : Some (record { prio = prio; ticket = ticket }) ≡ Some r
      = sym (ap (λ (s : Task). option_map (λ (w : Wait). w.rank) s.wait) (same u e)) ∙ x in
      let at : record { prio = prio; ticket = ticket } ≡ r = cc in
      sym (ap (λ (k : Key). k.prio) at) ∙ rank_is ∙ ap (effective_in (kernel_of p)) (sym e)
  ranks u r (inr n) x = h.rank u r (sym (ap (λ (s : Task). option_map (λ (w : Wait). w.rank) s.wait) (other u n)) ∙ x)

  repairs : IsRepairedBut owner mid.owners
  repairs =
      repaired_but p.owners mid.owners owner long (λ x u ne nz. waiting x u ne nz (cases_eq x t))
      (λ u ne. sym (base_same u))
      (λ u. owners_effective p fit u ∙ sym (h.local u) ∙ sym (local_same u))
      (λ u r e. ranks u r (cases_eq u t) e ∙ sym (h.local u) ∙ sym (local_same u))

  kernel_mid : kernel_of mid
      ≡ record (with_status t (Queued m) (with_state m owner (kernel_of p))) {
        waiters = (kernel_of p).waiters ++ (t, m) ∷ [];
        levels = levels_without t (kernel_of p).levels;
      }
  unfolding kernel_of
  kernel_mid =
      kernel_by_parts (kernel_of mid) _ refl
      (seats_of-same_base mid.statuses p.owners.seats mid.owners.seats long base_same
      ∙ seats_of-set_status p.statuses p.owners.seats t (Queued m) fit.few)
      (states_length mid ∙ o.long ∙ sym (states_length p) ∙ sym (length-set (kernel_of p).states m owner))
      (λ n. state_placed n (cases_eq n m)) refl refl
      (length-left p mid t) (levels_left p mid t levels)

  settled_mid : with_effective_levels (kernel_of mid) ≡ kernel_after_queueing t m owner (kernel_of p)
  unfolding kernel_after_queueing
  settled_mid = ap with_effective_levels kernel_mid

  kernel_state : kernel_state_at (kernel_of p) m ≢ 0 → kernel_state_at (kernel_of p) m ≡ owner
  kernel_state n = states_seen p m ∙ state (λ z. n (states_seen p m ∙ z))

  pub walkable : IsWalkable mid owner (kernel_after_queueing t m owner (kernel_of p))
  walkable = record {
    placed = placed;
    admitted = omega (arith, base_same owner, h.placed.admitted owner owner_some owner_added);
    repaired = repairs;
    after = settled_mid;
    kept = queueing_kept t m owner (kernel_of p) h.kernel known ready some mutex living kernel_state unreached;
  }
