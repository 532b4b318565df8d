-- What is kept stays sound if a thread leaves what it waits for and its level.
use Rattle.std.proofs.Common.{◌≡◌, ◌≢◌, ◌⊎◌, ℕ, ◌<◌, ◌==◌, Bool, true, false, if◌then◌else◌, List, length, set, Option, Some, None, is_some, option_map, option_and_then, unwrap_or, refl, sym, ap, subst, ◌∙◌, inl, inr, arith, length-set, ne_eqb}
use Rattle.std.specs.List.{filter}
use Rattle.std.proofs.lemmas.Bool.{cases_eq, true≢false}
use Rattle.std.proofs.lemmas.List.{get_or-set_same, get_or-set_other}
use Rattle.pif_nodes_model.specs.Levels.{Queue}
use Rattle.pif_nodes_model.specs.declared.keys.Key.{Key}
use Rattle.pif_model.specs.declared.lines.Status.{Status}
use Rattle.pif_model.specs.declared.lines.Status.TheVariants.{Ready}
use Rattle.pif_model.specs.declared.lines.Woken.TheVariants.{Fresh}
use Rattle.pif_model.specs.Graph.{has_waiter, without}
use Rattle.pif_model.specs.PiKernel.{Kernel, queued_on, is_ready, effective_in, has_seat, is_among, is_living, level_at, with_effective_levels, waits_for, is_out, kernel_left_as, parkings_without}
use Rattle.pif_model.specs.PiKernel.{state_at as kernel_state_at}
use Rattle.pif_kernel_model.specs.Owners.{Task, Wait, task_at, owner_at, waits_on, rank_of}
use Rattle.pif_kernel_model.specs.Owners.{waits_for as owners_wait_for}
use Rattle.pif_kernel_model.specs.Boosts.{IsRepairedBut}
use Rattle.pif_model_lemmas.proofs.kernel.Facts.{living-added, queued-from_number}
use Rattle.pif_model_lemmas.proofs.kernel.Left.{kernel_with_leaving, left_is, state-left, waits-left_other, waits-left_same, kernel-left}
use Rattle.pif_model_lemmas.proofs.kernel.Levels.{level-left}
use Rattle.pif_model_lemmas.proofs.kernel.Numbers.{is_other, among-left_same, among-left_other}
use Rattle.pif_model_lemmas.proofs.kernel.Statuses.{out-queued_on_nothing}
use Rattle.pif_model_lemmas.proofs.Waiting.{has_waiter-from_pair}
use Rattle.pif_model_lemmas.proofs.Among.{is_among as is_waiter}
use Rattle.pif_kernel_model.specs.Inside.{Inside, IsListed, IsPlaced, IsSoundInside, kernel_of, status_at, state_key_at, state_at, ticket_of}
use Rattle.pif_kernel_model.specs.Leaving.{IsLeft}
use Rattle.pif_kernel_model.proofs.Seats.{IsFitted, same_seats, status_seen, owners_waits, added_seen, waiters_seen, states_seen, states_length, kernel_by_parts, seats_of-set_status, seats_of-same_base}
use Rattle.pif_kernel_model.proofs.Picked.{levels_left, length-left}
use Rattle.pif_kernel_model.proofs.Standing.{fits}
use Rattle.pif_kernel_model.proofs.ChainLaws.{repaired_but}
use Rattle.pif_kernel_model.proofs.WaitersWithout.{rise_without, waiter_kept}
use Rattle.pif_kernel_model.proofs.WalkSound.{IsWalkable, owners_effective}

module _ (p x : Inside) (next : Status) (t start : ℕ) (h : IsSoundInside p) (lives : is_living (kernel_of p) t ≡ true)
    (out : is_out next ≡ true) (l : IsLeft p x t start) where
  abbrev rest : List (ℕ × ℕ)
  rest = without p.arrivals t

  -- what is kept before the walk
  abbrev pub mid : Inside
  mid =
      record p {
        statuses = set p.statuses t next;
        keys = x.keys;
        owners = x.owners;
        queue = x.queue;
        table = x.table;
        arrivals = rest;
        parked = parkings_without p.parked t;
      }

  fit : IsFitted p
  fit = fits p h

  known : has_seat (kernel_of p) t ≡ true
  known = living-added (kernel_of p) t lives

  nonzero : t ≢ 0
  nonzero = (added_seen p fit t known).0

  added : t < length p.statuses
  added = (added_seen p fit t known).1

  many : length mid.statuses ≡ length p.statuses
  many = length-set p.statuses t next

  base_same : (u : ℕ) → (task_at mid.owners u).base ≡ (task_at p.owners u).base
  base_same u = by_place (cases_eq u t)
    where
      by_place : ((u ≡ t) ⊎ (u ≡ t → ⊥)) → (task_at mid.owners u).base ≡ (task_at p.owners u).base
      by_place (inl e) =
          ap (λ (v : ℕ). (task_at mid.owners v).base) e ∙ ap (λ (s : Task). s.base) l.free
          ∙ ap (λ (v : ℕ). (task_at p.owners v).base) (sym e)
      by_place (inr n) = ap (λ (s : Task). s.base) (l.others u n)

  local_same : (u : ℕ) → (task_at mid.owners u).local ≡ (task_at p.owners u).local
  local_same u = by_place (cases_eq u t)
    where
      by_place : ((u ≡ t) ⊎ (u ≡ t → ⊥)) → (task_at mid.owners u).local ≡ (task_at p.owners u).local
      by_place (inl e) =
          ap (λ (v : ℕ). (task_at mid.owners v).local) e ∙ ap (λ (s : Task). s.local) l.free
          ∙ ap (λ (v : ℕ). (task_at p.owners v).local) (sym e)
      by_place (inr n) = ap (λ (s : Task). s.local) (l.others u n)

  status_other : (u : ℕ) → u ≢ t → status_at mid u ≡ status_at p u
  status_other u n = get_or-set_other p.statuses t u next (Ready Fresh) n

  status_here : (u : ℕ) → u ≡ t → status_at mid u ≡ next
  status_here u e = ap (λ (v : ℕ). status_at mid v) e ∙ get_or-set_same p.statuses t next (Ready Fresh) added

  -- the owner state of a mutex on which others are queued is the one that it was
  owner_kept : (n : ℕ) → has_waiter rest n ≡ true → (k : Option ℕ) → state_key_at p n ≡ k
      → unwrap_or (option_and_then (owner_at x.owners) k) 0 ≡ unwrap_or (option_and_then (owner_at p.owners) k) 0
  owner_kept n w None e = refl
  owner_kept n w (Some k) e = ap (λ (o : Option ℕ). unwrap_or o 0) (l.states n k w e)

  key_some : (n : ℕ) → has_waiter rest n ≡ true → state_key_at mid n ≡ state_key_at p n
  key_some n w = l.keys n ∙ rw w refl

  key_none : (n : ℕ) → has_waiter rest n ≡ false → state_key_at mid n ≡ None
  key_none n w = l.keys n ∙ rw w refl

  state_mid : (n : ℕ) → state_at mid n ≡ (if has_waiter rest n then state_at p n else 0)
  state_mid n = by_test (has_waiter rest n) refl
    where
      by_test : (b : Bool) → has_waiter rest n ≡ b → state_at mid n ≡ (if has_waiter rest n then state_at p n else 0)
      by_test true w =
          ap (λ (k : Option ℕ). unwrap_or (option_and_then (owner_at x.owners) k) 0) (key_some n w)
          ∙ owner_kept n w (state_key_at p n) refl ∙ sym (rw w refl)
      by_test false w =
          ap (λ (k : Option ℕ). unwrap_or (option_and_then (owner_at x.owners) k) 0) (key_none n w)
          ∙ sym (rw w refl)

  -- the same as in the kernel by itself
  state_placed : (n : ℕ) → kernel_state_at (kernel_of mid) n
      ≡ kernel_state_at (kernel_left_as next t (kernel_of p)) n
  state_placed n =
      states_seen mid n ∙ state_mid n
      ∙ ap (λ (s : ℕ). if has_waiter rest n then s else 0) (sym (states_seen p n))
      ∙ ap (λ (ws : List (ℕ × ℕ)). if has_waiter (without ws t) n then kernel_state_at (kernel_of p) n else 0)
      (sym (waiters_seen p))
      ∙ sym (state-left next t (kernel_of p) h.kernel n)

  kernel_mid : kernel_of mid ≡ kernel_with_leaving next t (kernel_of p)
  unfolding kernel_of kernel_left_as
  kernel_mid =
      kernel_by_parts (kernel_of mid) (kernel_with_leaving next t (kernel_of p)) refl
      (seats_of-same_base mid.statuses p.owners.seats mid.owners.seats l.rows base_same
      ∙ seats_of-set_status p.statuses p.owners.seats t next fit.few)
      (states_length mid ∙ l.places ∙ sym (states_length p) ∙ sym (length-set (kernel_of p).states _ _))
      state_placed refl refl
      (length-left p mid t) (levels_left p mid t l.levels)

  waits_left : (u : ℕ) → waits_for (kernel_of mid) u ≡ waits_for (kernel_left_as next t (kernel_of p)) u
  unfolding kernel_left_as
  waits_left u = ap (λ (k : Kernel). waits_for k u) kernel_mid

  waits_other : (u : ℕ) → u ≢ t → waits_for (kernel_of mid) u ≡ waits_for (kernel_of p) u
  waits_other u n = waits_left u ∙ waits-left_other next t (kernel_of p) h.kernel u n

  waits_here : waits_for (kernel_of mid) t ≡ 0
  waits_here = waits_left t ∙ waits-left_same next t (kernel_of p) h.kernel known out

  no_mutex_mid : state_key_at mid 0 ≡ None
  no_mutex_mid = by_test (has_waiter rest 0) refl
    where
      by_test : (b : Bool) → has_waiter rest 0 ≡ b → state_key_at mid 0 ≡ None
      by_test true w = key_some 0 w ∙ h.placed.no_mutex
      by_test false w = key_none 0 w

  -- on what another is queued, it still is
  left_one : (u m : ℕ) → u ≢ t → m ≢ 0 → queued_on (status_at p u) ≡ m → has_waiter rest m ≡ true
  left_one u m n z e =
      has_waiter-from_pair rest u m (waiter_kept p.arrivals t u m n
      (subst (λ (ws : List (ℕ × ℕ)). is_waiter ws u m ≡ true) (waiters_seen p)
      (h.kernel.queued u m (status_seen p fit u ∙ queued-from_number (status_at p u) m z e))))

  key_kept : (u : ℕ) → u ≢ t → state_key_at mid (queued_on (status_at p u)) ≡ state_key_at p (queued_on (status_at p u))
  key_kept u n = by_place (cases_eq (queued_on (status_at p u)) 0)
    where
      by_place : ((queued_on (status_at p u) ≡ 0) ⊎ (queued_on (status_at p u) ≡ 0 → ⊥))
          → state_key_at mid (queued_on (status_at p u)) ≡ state_key_at p (queued_on (status_at p u))
      by_place (inl z) = ap (state_key_at mid) z ∙ no_mutex_mid ∙ sym h.placed.no_mutex ∙ ap (state_key_at p) (sym z)
      by_place (inr z) = key_some (queued_on (status_at p u)) (left_one u (queued_on (status_at p u)) n z refl)

  waits_mid : (u : ℕ) → ((u ≡ t) ⊎ (u ≡ t → ⊥)) → waits_on mid.owners u ≡ state_key_at mid (queued_on (status_at mid u))
  waits_mid u (inl e) =
      ap (waits_on mid.owners) e ∙ ap (λ (s : Task). option_map (λ (w : Wait). w.state) s.wait) l.free
      ∙ sym no_mutex_mid ∙ ap (state_key_at mid) (sym (out-queued_on_nothing next out))
      ∙ ap (λ (y : Status). state_key_at mid (queued_on y)) (sym (status_here u e))
  waits_mid u (inr n) =
      ap (λ (s : Task). option_map (λ (w : Wait). w.state) s.wait) (l.others u n) ∙ h.placed.waits u
      ∙ sym (key_kept u n) ∙ ap (λ (y : Status). state_key_at mid (queued_on y)) (sym (status_other u n))

  owners_mid : (n : ℕ) → state_at mid n < length mid.statuses
  owners_mid n = by_test (has_waiter rest n) refl
    where
      by_test : (b : Bool) → has_waiter rest n ≡ b → state_at mid n < length mid.statuses
      by_test true w =
          let e : state_at mid n ≡ state_at p n = state_mid n ∙ rw w refl in omega (arith, e, h.placed.owners n, many)
      by_test false w = let e : state_at mid n ≡ 0 = state_mid n ∙ rw w refl in omega (arith, e, added, many)

  fit_mid : IsFitted mid
  fit_mid = record {
    few = omega (arith, fit.few, l.rows, many);
    free = λ u b. l.others u (λ e. absurd (omega (arith, b, added, many, e)))
        ∙ h.placed.free u (omega (arith, b, many));
    waits = λ u. waits_mid u (cases_eq u t);
    owners = owners_mid;
  }

  has_mid : (u : ℕ) → has_seat (kernel_of mid) u ≡ has_seat (kernel_of p) u
  has_mid u = same_seats p mid fit fit_mid many u

  -- t left its level, and the others stay
  listed_mid : (u r : ℕ) → ((u ≡ t) ⊎ (u ≡ t → ⊥)) → is_among (level_at (kernel_of mid).levels r) u ≡ true
      → IsListed mid u r
  listed_mid u r c y =
      by_place c (sym (ap (λ (xs : List ℕ). is_among xs u)
      (levels_left p mid t l.levels r ∙ level-left t (kernel_of p).levels r)) ∙ y)
    where
      by_place : ((u ≡ t) ⊎ (u ≡ t → ⊥)) → is_among (filter (is_other t) (level_at (kernel_of p).levels r)) u ≡ true
          → IsListed mid u r
      by_place (inl e) y =
          absurd (true≢false (sym y ∙ ap (is_among (filter (is_other t) (level_at (kernel_of p).levels r))) e
          ∙ among-left_same (level_at (kernel_of p).levels r) t))
      by_place (inr n) y =
          let a = h.placed.listed u r (sym (among-left_other (level_at (kernel_of p).levels r) t u n) ∙ y) in
          record {
            added = has_mid u ∙ a.added;
            ready = ap is_ready (status_other u n) ∙ a.ready;
            local = local_same u
                ∙ a.local;
          }

  -- a key that is there was there, and others are queued on its mutex
  was : (a k : ℕ) → state_key_at mid a ≡ Some k → (has_waiter rest a ≡ true) × (state_key_at p a ≡ Some k)
  was a k e = by_test (has_waiter rest a) refl
    where
      by_test : (b : Bool) → has_waiter rest a ≡ b → (has_waiter rest a ≡ true) × (state_key_at p a ≡ Some k)
      by_test true w = (w, sym (key_some a w) ∙ e)
      by_test false w = let none : None ≡ Some k = sym (key_none a w) ∙ e in cc

  ticket_other : (u : ℕ) → u ≢ t → ticket_of mid.owners u ≡ ticket_of p.owners u
  ticket_other u n =
      ap (λ (s : Task). unwrap_or (option_map (λ (r : Key). r.ticket) (option_map (λ (w : Wait). w.rank) s.wait)) 0)
      (l.others u n)

  pub placed : IsPlaced mid
  placed = record {
    within = h.placed.within;
    rows = l.rows ∙ h.placed.rows;
    keys = l.places ∙ h.placed.keys;
    some = omega (arith, many, h.placed.some);
    few = omega (arith, many, h.placed.few);
    nobody = l.others 0 (λ e. nonzero (sym e)) ∙ h.placed.nobody;
    admitted = λ u n b. omega (arith, base_same u, h.placed.admitted u n (omega (arith, b, many)));
    free = fit_mid.free;
    most = λ u. omega (arith, base_same u, h.placed.most u);
    threads = ap (λ (x : Queue). x.threads) l.place ∙ h.placed.threads;
    holds = l.holds;
    listed = λ u r e. listed_mid u r (cases_eq u t) e;
    waits = fit_mid.waits;
    no_mutex = no_mutex_mid;
    apart = λ a b k e f. h.placed.apart a b k (was a k e).1 (was b k f).1;
    made = λ a k e. ap is_some (l.states a k (was a k e).0 (was a k e).1) ∙ h.placed.made a k (was a k e).1;
    owned =
        λ a k e z. h.placed.owned a k (was a k e).1 (sym (state_mid a ∙ rw ((was a k e).0) refl) ∙ z);
    count = l.count;
    owners = fit_mid.owners;
    tickets =
        rise_without (ticket_of p.owners) (ticket_of mid.owners) 1 p.arrivals t p.next h.placed.tickets ticket_other;
  }

  waiting : (y u : ℕ) → u ≢ start → u ≢ 0 → ((y ≡ t) ⊎ (y ≡ t → ⊥))
      → (owners_wait_for p.owners y == u) ≡ (owners_wait_for mid.owners y == u)
  waiting y u ne nz (inl e) =
      let before : owners_wait_for p.owners y ≢ u
      = λ z. ne (l.waited u nz (sym (owners_waits p fit y ∙ ap (waits_for (kernel_of p)) e) ∙ z)) in
      let after : owners_wait_for mid.owners y ≢ u
      = λ z. nz (sym z ∙ owners_waits mid fit_mid y ∙ ap (waits_for (kernel_of mid)) e ∙ waits_here) in
      ne_eqb (owners_wait_for p.owners y) u before ∙ sym (ne_eqb (owners_wait_for mid.owners y) u after)
  waiting y u ne nz (inr n) =
      ap (λ (v : ℕ). v == u) (owners_waits p fit y ∙ sym (waits_other y n) ∙ sym (owners_waits mid fit_mid y))

  ranks : (u : ℕ) (r : Key) → ((u ≡ t) ⊎ (u ≡ t → ⊥)) → rank_of mid.owners u ≡ Some r
      → r.prio ≡ effective_in (kernel_of p) u
  ranks u r (inl e) y =
      let none : None ≡ Some r
      = sym (ap (rank_of mid.owners) e ∙ ap (λ (s : Task). option_map (λ (w : Wait). w.rank) s.wait) l.free) ∙ y in
      cc
  ranks u r (inr n) y =
      h.rank u r (sym (ap (λ (s : Task). option_map (λ (w : Wait). w.rank) s.wait) (l.others u n)) ∙ y)

  repairs : IsRepairedBut start mid.owners
  repairs =
      repaired_but p.owners mid.owners start l.rows (λ y u ne nz. waiting y u ne nz (cases_eq y t))
      (λ u ne. sym (base_same u))
      (λ u. owners_effective p fit u ∙ sym (h.local u) ∙ sym (local_same u))
      (λ u r e. ranks u r (cases_eq u t) e ∙ sym (h.local u) ∙ sym (local_same u))

  pub walkable : IsWalkable mid start (kernel_left_as next t (kernel_of p))
  walkable = record {
    placed = placed;
    admitted = omega (arith, base_same start, h.placed.admitted start l.some l.added);
    repaired = repairs;
    after = ap with_effective_levels kernel_mid ∙ sym (left_is next t (kernel_of p));
    kept = kernel-left next t (kernel_of p) h.kernel known out;
  }

-- what is kept before the walk, as it is written
pub before_walk : (p x y : Inside) (next : Status) (t start g : ℕ) → IsSoundInside p → is_living (kernel_of p) t ≡ true
    → is_out next ≡ true → IsLeft p x t start → y ≡ x → g ≡ t
    → IsWalkable (record y { statuses = set y.statuses g next; arrivals = without p.arrivals t }) start
    (kernel_left_as next t (kernel_of p))
before_walk p x y next t start g h lives out l same here =
    subst (λ (n : ℕ). IsWalkable (record y { statuses = set y.statuses n next; arrivals = without p.arrivals t }) start
    (kernel_left_as next t (kernel_of p))) (sym here)
    (subst (λ (z : Inside). IsWalkable (record z {
      statuses = set z.statuses t next;
      arrivals = without p.arrivals t;
    }) start
    (kernel_left_as next t (kernel_of p))) (sym (same ∙ l.frame)) (walkable p x next t start h lives out l))
