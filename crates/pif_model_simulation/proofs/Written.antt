-- What a line writes: its thread's line, one mutex, and the kernel. What it has to show of them for the invariant, and
-- what the POSIX machine sees of it.
use Rattle.std.proofs.Common.{◌≡◌, ◌≢◌, ℕ, ◌<◌, ◌≤◌, ◌+◌, Bool, true, false, ◌==◌, nat_lt, List, length, set, Option, Some, refl, sym, ap, ◌∙◌, subst, arith, if◌then◌else◌, ◌⊎◌, inl, inr}
use Rattle.std.proofs.lemmas.Bool.{cases_eq}
use Rattle.std.proofs.lemmas.List.{length-set, get_or-set_same, get_or-set_other, set-get_or}
use Rattle.pif_types.specs.declared.requests.Kind.TheVariants.{Normal}
use Rattle.pif_model.specs.declared.lines.Line.{Line}
use Rattle.pif_model.specs.declared.lines.Line.TheVariants.{Idle, At}
use Rattle.pif_model.specs.declared.lines.Place.{Place}
use Rattle.pif_model.specs.declared.lines.Place.TheVariants.{StayQueued, Take, StayParked}
use Rattle.pif_model.specs.declared.lines.Status.{Status}
use Rattle.pif_model.specs.declared.lines.Status.TheVariants.{Ready, Queued, Parked, Stopped, Ended}
use Rattle.pif_model.specs.declared.lines.Woken.TheVariants.{Fresh as WokenFresh, Owns as WokenOwns, Again as WokenAgain, Expired as WokenExpired}
use Rattle.pif_model.specs.Graph.{has_waiter}
use Rattle.pif_model.specs.Word.{Word, free_word, word_at, health_word_at}
use Rattle.pif_types.specs.declared.requests.Request.{Request}
use Rattle.pif_model.specs.Posix.{named_by, variable_of, Health, Thread, Mutex, World, Call, thread_at, mutex_at, with_thread, with_mutex, nobody, no_mutex}
use Rattle.pif_model.specs.PiKernel.{Kernel, Seat, seat_at, state_at, is_living}
use Rattle.pif_model.specs.RobustList.{RobustRow, no_robust_row, robust_at, with_robust}
use Rattle.pif_model.specs.Table.{Table, Cell, LibraryMutex, new_mutex, has_thread, has_mutex, bound_to, uses_of, status_at, line_at, timer_at, library_at, cell_at}
use Rattle.pif_model.specs.Projection.{HistoryVariables, progress_at, call_at, call_shown, memory_at, may_enlist, health_of, health_at, thread_shown, mutex_shown, world_of}
use Rattle.pif_model.specs.Soundness.{Use, use_at, MeetsAll, LineIsSound, ThreadIsSound, needs, CellIsSound, IsShaped}
use Rattle.pif_model_simulation.proofs.Kept.{Spares, unused}
use Rattle.pif_model_simulation.proofs.WeakenedInvariant.{Changes, aims}
use Rattle.pif_model_simulation.proofs.Shown.{threads_shown, mutexes_shown, thread_seen, mutex_seen, same_world}
use Rattle.pif_model_simulation.proofs.Agreement.{Frames, Follows, WasBlockedIn, frames_by, was_same}

-- t's line and robust list, m's word, health word and count in place of what there was, and this kernel
abbrev pub written : ℕ → ℕ → Line → RobustRow → Word → ℕ → ℕ → Kernel → Table → Table
written t m l r x a n k s = record s {
  words = record s.words { mutexes = set s.words.mutexes m x; healths = set s.words.healths m a };
  kernel = k;
  lists = with_robust t r s.lists;
  lines = set s.lines t l;
  mutexes = set s.mutexes m (record (library_at s m) { count = n });
}

-- all that the parts have of m then
abbrev pub cell_written : ℕ → Word → ℕ → ℕ → Kernel → Table → Cell
cell_written m x a n k s = record (cell_at s m) { word = x; health = a; count = n; state_owner = state_at k m }

-- the mutex of a cell, as the POSIX machine sees it
abbrev pub mutex_of : Cell → Mutex
mutex_of c = record {
  kind = c.kind;
  robust = c.robust;
  owner = c.word.number;
  count = c.count;
  health = health_of c.health c.word.died;
}

-- what is written as it was stays
pub same_word : (s : Table) (m : ℕ) → set s.words.mutexes m (word_at s.words m) ≡ s.words.mutexes
same_word s m = set-get_or s.words.mutexes m free_word

pub same_health : (s : Table) (m : ℕ) → set s.words.healths m (health_word_at s.words m) ≡ s.words.healths
same_health s m = set-get_or s.words.healths m 0

pub same_library : (s : Table) (m : ℕ) → set s.mutexes m
    (record (library_at s m) { count = (library_at s m).count }) ≡ s.mutexes
same_library s m = set-get_or s.mutexes m (new_mutex Normal false)

pub same_list : (s : Table) (t : ℕ) → set s.lists.threads t (robust_at s.lists t) ≡ s.lists.threads
same_list s t = set-get_or s.lists.threads t no_robust_row

-- a table in which these parts are written
pub written_is : (t m : ℕ) (l : Line) (r : RobustRow) (x : Word) (a n : ℕ) (k : Kernel)
    (s : Table) {ws : List Word} {hs : List ℕ} {rs : List RobustRow} {ls : List LibraryMutex}
    → set s.words.mutexes m x ≡ ws → set s.words.healths m a ≡ hs → set s.lists.threads t r ≡ rs
    → set s.mutexes m (record (library_at s m) { count = n }) ≡ ls
    → written t m l r x a n k s ≡ record s {
      words = record s.words { mutexes = ws; healths = hs };
      kernel = k;
      lists = record s.lists { threads = rs };
      lines = set s.lines t l;
      mutexes = ls;
    }
written_is t m l r x a n k s e f g h = λ i. record s {
  words = record s.words { mutexes = e i; healths = f i };
  kernel = k;
  lists = record s.lists { threads = g i };
  lines = set s.lines t l;
  mutexes = h i;
}

-- what a kernel call on m leaves, but for exempt threads, if variables are bound so
pub record IsCallOn (Exempt : ℕ → Type 0) (bound : ℕ → ℕ) (k k' : Kernel) (m : ℕ) : Type 0 where
  pub limits : k'.limits ≡ k.limits
  pub seats : length k'.seats ≡ length k.seats
  pub status : (u : ℕ) → (Exempt u → ⊥) → (seat_at k' u).status ≡ (seat_at k u).status
  pub living : (u : ℕ) → is_living k' u ≡ is_living k u
  pub states : (n : ℕ) → n ≢ m → state_at k' n ≡ state_at k n
  pub waited : (n : ℕ) → n ≢ m → has_waiter k'.waiters n ≡ has_waiter k.waiters n
  pub targets : (c n : ℕ) → aims k' c n ≡ true → (aims k c n ≡ true) ⊎ (bound c ≡ n)

-- if the same threads are parked
pub same_targets : (bound : ℕ → ℕ) (k k' : Kernel) → k'.parked ≡ k.parked → (c n : ℕ) → aims k' c n ≡ true
    → (aims k c n ≡ true) ⊎ (bound c ≡ n)
same_targets bound k k' e c n a = inl (sym (ap (λ ps. aims (record k { parked = ps }) c n) e) ∙ a)

-- no kernel call
pub no_call : (Exempt : ℕ → Type 0) (bound : ℕ → ℕ) (k : Kernel) (m : ℕ) → IsCallOn Exempt bound k k m
no_call Exempt bound k m = record {
  limits = refl;
  seats = refl;
  status = λ u n. refl;
  living = λ u. refl;
  states = λ n d. refl;
  waited = λ n d. refl;
  targets = λ c n e. inl e;
}

-- how far a call of a thread that doesn't own its mutex has come does not depend on the mutex's health
progress_other : (living : ℕ → Bool) (u : ℕ) (q : Request) (x : Status) (c : Cell) (z : Use) (p : Place) (h h' : Health)
    (n : ℕ) → c.word.number ≢ u → MeetsAll living u x c z (needs p) → progress_at q p x h n ≡ progress_at q p x h' n
progress_other living u q (Ready w) c z StayQueued h h' n d m = absurd (d (m.1.0 refl))
progress_other living u q (Queued i) c z StayQueued h h' n d m = refl
progress_other living u q (Parked i) c z StayQueued h h' n d m = refl
progress_other living u q Stopped c z StayQueued h h' n d m = refl
progress_other living u q Ended c z StayQueued h h' n d m = refl
progress_other living u q x c z (Take y) h h' n d m = absurd (d m.1.0)
progress_other living u q (Ready WokenFresh) c z StayParked h h' n d m = absurd (d (m.1.0.0 refl))
progress_other living u q (Ready WokenOwns) c z StayParked h h' n d m = absurd (d (m.1.0.0 refl))
progress_other living u q (Ready WokenAgain) c z StayParked h h' n d m = refl
progress_other living u q (Ready WokenExpired) c z StayParked h h' n d m = absurd (d (m.1.0.0 refl))
progress_other living u q (Queued i) c z StayParked h h' n d m = refl
progress_other living u q (Parked i) c z StayParked h h' n d m = refl
progress_other living u q Stopped c z StayParked h h' n d m = refl
progress_other living u q Ended c z StayParked h h' n d m = refl
progress_other living u q x c z _ h h' n d m = refl

module _ (s : Table) (t m : ℕ) (l : Line) (r : RobustRow) (x : Word) (a n : ℕ) (k : Kernel) (t0 : t ≢ 0)
    (tl : t < length s.lines) (tr : t < length s.lists.threads) (ml : m < length s.mutexes) (shape : IsShaped s) where
  abbrev v : Table
  v = written t m l r x a n k s

  -- t's line then
  pub line_here : line_at v t ≡ l
  line_here = get_or-set_same s.lines t l Idle tl

  -- the line of another
  pub line_there : (u : ℕ) → u ≢ t → line_at v u ≡ line_at s u
  line_there u d = get_or-set_other s.lines t u l Idle d

  -- t's robust list then, and that of another
  pub list_here : robust_at v.lists t ≡ r
  list_here = get_or-set_same s.lists.threads t r no_robust_row tr

  pub list_there : (u : ℕ) → u ≢ t → robust_at v.lists u ≡ robust_at s.lists u
  list_there u d = get_or-set_other s.lists.threads t u r no_robust_row d

  -- m's word, health word and count
  word_here : word_at v.words m ≡ x
  word_here = get_or-set_same s.words.mutexes m x free_word (omega (arith, shape.words, shape.few_mutexes))

  health_here : health_word_at v.words m ≡ a
  health_here = get_or-set_same s.words.healths m a 0 (omega (arith, shape.healths, shape.few_mutexes))

  library_here : library_at v m ≡ record (library_at s m) { count = n }
  library_here = get_or-set_same s.mutexes m (record (library_at s m) { count = n }) (new_mutex Normal false) ml

  -- m then
  pub cell_here : cell_at v m ≡ cell_written m x a n k s
  cell_here = λ i. record {
    kind = (library_here i).kind;
    robust = (library_here i).robust;
    count = (library_here i).count;
    word = word_here i;
    health = health_here i;
    state_owner = state_at k m;
  }

  -- another mutex, if the kernel has the same owner state of it
  pub cell_there : (j : ℕ) → j ≢ m → state_at k j ≡ state_at s.kernel j → cell_at v j ≡ cell_at s j
  cell_there j d e =
      let b : library_at v j ≡ library_at s j = get_or-set_other s.mutexes m j (record (library_at s m) { count = n })
      (new_mutex Normal false) d in
      (λ i. record {
        kind = (b i).kind;
        robust = (b i).robust;
        count = (b i).count;
        word = get_or-set_other s.words.mutexes m j x free_word d i;
        health = get_or-set_other s.words.healths m j a 0 d i;
        state_owner = e i;
      })

  -- the kinds of mutexes stay
  robust_same : (j : ℕ) → (j ≡ m) ⊎ (j ≢ m) → (library_at v j).robust ≡ (library_at s j).robust
  robust_same j (inl q) = subst (λ i. (library_at v i).robust ≡ (library_at s i).robust) (sym q)
      (ap (λ (y : LibraryMutex). y.robust) library_here)
  robust_same j (inr d) = ap (λ (y : LibraryMutex). y.robust)
      (get_or-set_other s.mutexes m j (record (library_at s m) { count = n }) (new_mutex Normal false) d)

  -- the parts still fit together
  pub shape_written : {Exempt : ℕ → Type 0} → IsCallOn Exempt (bound_to s) s.kernel k m
      → (m ≡ 0 → (x ≡ free_word) × (a ≡ 0) × (n ≡ (library_at s m).count)) → IsShaped v
  shape_written c zero = record {
    limits = c.limits ∙ shape.limits;
    within = shape.within;
    lines = length-set s.lines t l ∙ shape.lines ∙ sym c.seats;
    timers = shape.timers ∙ sym (length-set s.lines t l);
    nobody = line_there 0 (λ e. t0 (sym e)) ∙ shape.nobody;
    lists = length-set s.lists.threads t r ∙ shape.lists;
    some_mutex = subst (λ j. 1 ≤ j) (sym long) shape.some_mutex;
    few_mutexes = subst (λ j. j ≤ s.limits.mutexes + 1) (sym long) shape.few_mutexes;
    no_mutex = first_mutex (cases_eq 0 m) ∙ shape.no_mutex;
    words = length-set s.words.mutexes m x ∙ shape.words;
    healths = length-set s.words.healths m a ∙ shape.healths;
    no_word = first_word (cases_eq 0 m) ∙ shape.no_word;
    no_health = first_health (cases_eq 0 m) ∙ shape.no_health;
    unmade = λ j e. (
        let far : length s.mutexes ≤ j = subst (λ i. i ≤ j) long e in
        let d : j ≢ m = (λ q. omega (arith, q, far, ml)) in
        let u = shape.unmade j far in (
          get_or-set_other s.words.mutexes m j x free_word d ∙ u.0,
          get_or-set_other s.words.healths m j a 0 d
              ∙ u.1,
          c.waited j d ∙ u.2,
        )
        );
    some_cond = shape.some_cond;
    few_conds = shape.few_conds;
    no_cond = shape.no_cond;
    cond_words = shape.cond_words;
    no_cond_word = shape.no_cond_word;
    unmade_conds = shape.unmade_conds;
  }
    where
      long : length v.mutexes ≡ length s.mutexes
      long = length-set s.mutexes m (record (library_at s m) { count = n })

      first_mutex : (0 ≡ m) ⊎ (0 ≢ m) → library_at v 0 ≡ library_at s 0
      first_mutex (inl e) = subst (λ j. library_at v j ≡ library_at s j) (sym e)
          (library_here ∙ (λ i. record (library_at s m) { count = (zero (sym e)).2 i }))
      first_mutex (inr d) = get_or-set_other s.mutexes m 0 (record (library_at s m) { count = n })
          (new_mutex Normal false) d

      first_word : (0 ≡ m) ⊎ (0 ≢ m) → word_at v.words 0 ≡ word_at s.words 0
      first_word (inl e) = subst (λ j. word_at v.words j ≡ word_at s.words j) (sym e)
          (word_here ∙ (zero (sym e)).0 ∙ sym shape.no_word ∙ ap (word_at s.words) e)
      first_word (inr d) = get_or-set_other s.words.mutexes m 0 x free_word d

      first_health : (0 ≡ m) ⊎ (0 ≢ m) → health_word_at v.words 0 ≡ health_word_at s.words 0
      first_health (inl e) = subst (λ j. health_word_at v.words j ≡ health_word_at s.words j) (sym e)
          (health_here ∙ (zero (sym e)).1 ∙ sym shape.no_health ∙ ap (health_word_at s.words) e)
      first_health (inr d) = get_or-set_other s.words.healths m 0 a 0 d

  -- the change that is written
  pub changes : {Exempt : ℕ → Type 0} → Exempt t → IsCallOn Exempt (bound_to s) s.kernel k m
      → (m ≡ 0 → (x ≡ free_word) × (a ≡ 0) × (n ≡ (library_at s m).count))
      → (has_mutex s m ≡ true → CellIsSound (has_thread s) (has_waiter k.waiters m) (cell_written m x a n k s))
      → (has_mutex s m ≡ true → (library_at s m).robust ≡ true → x.number ≢ 0 → (Exempt x.number → ⊥)
      → is_living s.kernel x.number ≡ true)
      → ((u : ℕ) → u ≢ 0 → (Exempt u → ⊥) → Spares (is_living s.kernel) (is_living s.kernel) u (cell_at s m)
      (cell_written m x a n k s)) → Changes Exempt s v m
  changes {Exempt} out c zero cell alive spares = record {
    shape = shape_written c zero;
    threads = λ u. ap (λ j. if u == 0 then false else nat_lt u j) c.seats;
    mutexes = λ j. ap (λ i. if j == 0 then false else nat_lt j i)
        (length-set s.mutexes m (record (library_at s m) { count = n }));
    robust = λ j. robust_same j (cases_eq j m);
    cells = λ j d. cell_there j d (c.states j d);
    waited = c.waited;
    cell = λ e. subst (CellIsSound (has_thread s) (has_waiter k.waiters m)) (sym cell_here) (cell e);
    alive = λ e. subst (λ (d : Cell). d.robust ≡ true → d.word.number ≢ 0 → (Exempt d.word.number → ⊥)
        → is_living s.kernel d.word.number ≡ true) (sym cell_here) (alive e);
    living = λ u b. c.living u;
    status = λ u b. c.status u b;
    line = λ u b. line_there u (λ e. b (subst Exempt (sym e) out));
    list = λ u b. list_there u (λ e. b (subst Exempt (sym e) out));
    spares = λ u z b. (
        let living : is_living k ≡ is_living s.kernel = (λ i j. c.living j i) in
        subst (λ f. Spares (is_living s.kernel) f u (cell_at s m) (cell_at v m)) (sym living)
        (subst (Spares (is_living s.kernel) (is_living s.kernel) u (cell_at s m)) (sym cell_here) (spares u z b))
        );
    ended = λ u e b. c.living u ∙ b;
    conds = refl;
    used = unused s v refl refl refl;
    few_uses = λ i e. e;
    targets = c.targets;
  }

  -- IN THE POSIX MACHINE

  -- the health of another mutex
  health_there : (j : ℕ) → j ≢ m → health_at v j ≡ health_at s j
  health_there j d = λ i. health_of (get_or-set_other s.words.healths m j a 0 d i)
      (get_or-set_other s.words.mutexes m j x free_word d i).died

  -- and that of m
  pub health_m : health_at v m ≡ health_of a x.died
  health_m = λ i. health_of (health_here i) (word_here i).died

  -- if m's health stays or its owner was not u, u's call has come as far as before
  pub call_there : (u : ℕ) → (health_of a x.died ≡ health_at s m) ⊎ ((word_at s.words m).number ≢ u) → ThreadIsSound s u
      → call_at (health_at v) (uses_of s) (line_at s u) (status_at s u) ≡ call_shown s u
  call_there u why b = go (line_at s u) b.line
    where
      of_m : (q : Request) (p : Place)
          → MeetsAll (is_living s.kernel) u (status_at s u) (cell_at s m) (use_at s q) (needs p)
          → (health_of a x.died ≡ health_at s m) ⊎ ((word_at s.words m).number ≢ u)
          → progress_at q p (status_at s u) (health_at v m) (uses_of s (variable_of q))
          ≡ progress_at q p (status_at s u) (health_at s m) (uses_of s (variable_of q))
      of_m q p e (inl w) = ap (λ y. progress_at q p (status_at s u) y (uses_of s (variable_of q))) (health_m ∙ w)
      of_m q p e (inr w) = progress_other (is_living s.kernel) u q (status_at s u) (cell_at s m) (use_at s q) p
          (health_at v m) (health_at s m) (uses_of s (variable_of q)) w e

      by_mutex : (q : Request) (p : Place) → MeetsAll (is_living s.kernel) u (status_at s u) (cell_at s (named_by q))
          (use_at s q) (needs p) → (named_by q ≡ m) ⊎ (named_by q ≢ m)
          → progress_at q p (status_at s u) (health_at v (named_by q)) (uses_of s (variable_of q))
          ≡ progress_at q p (status_at s u) (health_at s (named_by q)) (uses_of s (variable_of q))
      by_mutex q p e (inl w) = subst (λ j. MeetsAll (is_living s.kernel) u (status_at s u) (cell_at s j) (use_at s q)
          (needs p) → progress_at q p (status_at s u) (health_at v j) (uses_of s (variable_of q))
          ≡ progress_at q p (status_at s u) (health_at s j) (uses_of s (variable_of q))) (sym w)
          (λ e. of_m q p e why) e
      by_mutex q p e (inr w) = ap (λ y. progress_at q p (status_at s u) y (uses_of s (variable_of q)))
          (health_there (named_by q) w)

      go : (b : Line) → LineIsSound s u b → call_at (health_at v) (uses_of s) b (status_at s u)
          ≡ call_at (health_at s) (uses_of s) b (status_at s u)
      go Idle e = refl
      go (At q p) e = ap (λ y. Some (record { request = q; progress = y }))
          (by_mutex q p e.needs (cases_eq (named_by q) m))

  -- t then
  pub thread_here : (y : HistoryVariables) → thread_shown v y t ≡ record {
    base = (seat_at k t).base;
    living = is_living k t;
    call = call_at (health_at v) (uses_of s) l (seat_at k t).status;
    timer = timer_at s t;
    memory = memory_at y t;
  }
  thread_here y = λ i. record {
    base = (seat_at k t).base;
    living = is_living k t;
    call = call_at (health_at v) (uses_of s) (line_here i) (seat_at k t).status;
    timer = timer_at s t;
    memory = memory_at y t;
  }

  -- another thread
  pub thread_there : (y : HistoryVariables) (u : ℕ) → u ≢ t → thread_shown v y u ≡ record {
    base = (seat_at k u).base;
    living = is_living k u;
    call = call_at (health_at v) (uses_of s) (line_at s u) (seat_at k u).status;
    timer = timer_at s u;
    memory = memory_at y u;
  }
  thread_there y u d = λ i. record {
    base = (seat_at k u).base;
    living = is_living k u;
    call = call_at (health_at v) (uses_of s) (line_there u d i) (seat_at k u).status;
    timer = timer_at s u;
    memory = memory_at y u;
  }

  -- m then
  pub mutex_here : mutex_shown v m ≡ mutex_of (cell_written m x a n k s)
  mutex_here = ap mutex_of cell_here

  -- another mutex then
  pub mutex_there : (j : ℕ) → j ≢ m → mutex_shown v j ≡ mutex_shown s j
  mutex_there j d =
      let b : library_at v j ≡ library_at s j = get_or-set_other s.mutexes m j (record (library_at s m) { count = n })
      (new_mutex Normal false) d in
      (λ i. record {
        kind = (b i).kind;
        robust = (b i).robust;
        owner = (get_or-set_other s.words.mutexes m j x free_word d i).number;
        count = (b i).count;
        health = health_there j d i;
      })

  -- what is shown is w, if w has these threads, mutexes and waiters, and the variables and the time that there were
  pub shows : (y : HistoryVariables) (w : World) → IsShaped v → length w.threads ≡ length s.lines
      → length w.mutexes ≡ length s.mutexes → k.waiters ≡ w.waiters
      → (thread_shown v y t ≡ thread_at w t)
      → ((u : ℕ) → u < length s.lines → u ≢ t → thread_shown v y u ≡ thread_at w u)
      → (mutex_of (cell_written m x a n k s) ≡ mutex_at w m) → ((j : ℕ) → j ≢ m → mutex_shown s j ≡ mutex_at w j)
      → (world_of s y).variables ≡ w.variables → s.limits.signals ≡ w.signals → s.time ≡ w.time
      → world_of v y ≡ w
  shows y w fits b c waiters here there it others variables signals time = same_world (world_of v y) w
      (threads_shown fits y ∙ length-set s.lines t l ∙ sym b)
      (λ u i. let e : u < length v.lines = subst (λ n. u < n) (threads_shown fits y) i in
      thread_seen fits y u e ∙ each u (subst (λ n. u < n) (length-set s.lines t l) e) (cases_eq u t))
      (mutexes_shown fits y ∙ length-set s.mutexes m (record (library_at s m) { count = n }) ∙ sym c)
      (λ j. mutex_seen fits y j ∙ all j (cases_eq j m)) variables waiters signals time
    where
      each : (u : ℕ) → u < length s.lines → (u ≡ t) ⊎ (u ≢ t) → thread_shown v y u ≡ thread_at w u
      each u i (inl q) = subst (λ i. thread_shown v y i ≡ thread_at w i) (sym q) here
      each u i (inr d) = there u i d

      all : (j : ℕ) → (j ≡ m) ⊎ (j ≢ m) → mutex_shown v j ≡ mutex_at w j
      all j (inl q) = subst (λ i. mutex_shown v i ≡ mutex_at w i) (sym q) (mutex_here ∙ it)
      all j (inr d) = mutex_there j d ∙ others j d

  -- the world in which m is as it was written and the kernel's waiters wait
  abbrev pub rewritten : HistoryVariables → World
  rewritten y = record (with_mutex m (mutex_of (cell_written m x a n k s)) (world_of s y)) { waiters = k.waiters }

  -- the kernel knows the same of all other threads, and their calls have come as far
  module _ (others : (u : ℕ) → u ≢ t → seat_at k u ≡ seat_at s.kernel u)
      (calls : (u : ℕ) → u ≢ t → call_at (health_at v) (uses_of s) (line_at s u) (status_at s u) ≡ call_shown s u) where
    -- if t's base priority and life stay, that world is shown with another call of t
    pub world_shown : (y : HistoryVariables) (c : Option Call) → IsShaped v → ((u : ℕ) → is_living k u ≡ is_living s.kernel u)
        → (seat_at k t).base ≡ (seat_at s.kernel t).base
        → call_at (health_at v) (uses_of s) l (seat_at k t).status ≡ c
        → world_of v y ≡ with_thread t (record (thread_at (rewritten y) t) { call = c }) (rewritten y)
    world_shown y c fits living base call =
        let w : World = rewritten y in
        let tw : t < length w.threads = subst (λ j. t < j) (sym (threads_shown shape y)) tl in
        let mw : m < length (world_of s y).mutexes = subst (λ j. m < j) (sym (mutexes_shown shape y)) ml in
        let z : Mutex = mutex_of (cell_written m x a n k s) in
        let q : Thread = record (thread_at w t) { call = c } in
        shows y (with_thread t q w) fits (length-set w.threads t q ∙ threads_shown shape y)
        (length-set (world_of s y).mutexes m z ∙ mutexes_shown shape y) refl
        (thread_here y
        ∙ (λ i. record { base = base i; living = living t i; call = call i; timer = timer_at s t; memory = memory_at y t })
        ∙ sym (get_or-set_same w.threads t q nobody tw ∙ (λ i. record (thread_seen shape y t tl i) { call = c })))
        (λ u e d. thread_there y u d
        ∙ (λ i. record {
          base = (others u d i).base;
          living = living u i;
          call = call_at (health_at v) (uses_of s) (line_at s u) (others u d i).status;
          timer = timer_at s u;
          memory = memory_at y u;
        })
        ∙ (λ i. record {
          base = (seat_at s.kernel u).base;
          living = is_living s.kernel u;
          call = calls u d i;
          timer = timer_at s u;
          memory = memory_at y u;
        })
        ∙ sym (get_or-set_other w.threads t u q nobody d ∙ thread_seen shape y u e))
        (sym (get_or-set_same (world_of s y).mutexes m z no_mutex mw))
        (λ j d. sym (get_or-set_other (world_of s y).mutexes m j z no_mutex d ∙ mutex_seen shape y j)) refl refl refl

    -- if t is blocked as it was, who was found blocked stays so
    pub frames_written : Follows (line_at s t) l → (may_enlist (line_at s t) ≡ false → WasBlockedIn s v t) → Frames s v
    frames_written follows here = frames_by s v t (length-set s.lines t l) line_there
        (λ u d. was_same s v u (call_same u d) (ap (λ (y : Seat). y.status) (others u d)))
        (subst (Follows (line_at s t)) (sym line_here) follows) here
      where
        call_same : (u : ℕ) → u ≢ t → call_shown v u ≡ call_shown s u
        call_same u d =
            (λ i. call_at (health_at v) (uses_of s) (line_there u d i) (others u d i).status) ∙ calls u d

    -- t's call then
    pub call_here : call_shown v t ≡ call_at (health_at v) (uses_of s) l (seat_at k t).status
    call_here = ap (λ b. call_at (health_at v) (uses_of s) b (seat_at k t).status) line_here
