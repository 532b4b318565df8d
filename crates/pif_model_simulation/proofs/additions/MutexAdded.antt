-- One mutex more: the table stays sound, and the POSIX machine gets the same mutex.
use Rattle.std.proofs.Common.{Bool, ◌<◌, ne_eqb, ◌≡◌, ◌≢◌, ◌⊎◌, inl, inr, eqb-true, ℕ, ◌+◌, true, false, ◌==◌, nat_lt, [], ◌∷◌, ◌++◌, length, get_or, refl, sym, ap, ◌∙◌, subst, arith, if◌then◌else◌}
use Rattle.std.proofs.lemmas.Bool.{cases_eq, true≢false}
use Rattle.std.proofs.lemmas.List.{length_push, get_or_push}
use Rattle.pif_types.specs.declared.requests.Kind.{Kind}
use Rattle.pif_types.specs.declared.requests.Kind.TheVariants.{Normal}
use Rattle.pif_model.specs.declared.events.Entry.TheVariants.{Mutex as AddMutex}
use Rattle.pif_model.specs.Graph.{has_waiter}
use Rattle.pif_model.specs.Word.{Word, free_word, word_at, health_word_at}
use Rattle.pif_model.specs.declared.lines.Line.{Line}
use Rattle.pif_model.specs.declared.lines.Line.TheVariants.{Idle, At}
use Rattle.pif_model.specs.declared.lines.Place.{Place}
use Rattle.pif_model.specs.Posix.{Mutex, no_mutex, named_by}
use Rattle.pif_model.specs.World.Health.{Fine}
use Rattle.pif_model.specs.Posix.Step.{mutex_added as mutex_rule}
use Rattle.pif_model.specs.PiKernel.{state_at, is_living}
use Rattle.pif_model.specs.Table.{Table, LibraryMutex, new_mutex, has_thread, has_mutex, has_cond, bound_to, line_at, library_at, cell_at, has_mutex_room, mutex_added}
use Rattle.pif_model.specs.Projection.{HistoryVariables, mutex_shown, world_of}
use Rattle.pif_model.specs.Soundness.{CellIsSound, LineIsSound, ThreadIsSound, IsShaped, IsSound, mutex_by, is_pending, is_half_linked, is_unlinked, is_unsettled, holds_robust}
use Rattle.pif_model_lemmas.proofs.Numbers.{above_0, below}
use Rattle.pif_model_lemmas.proofs.kernel.Facts.{living-added}
use Rattle.pif_model_lemmas.proofs.Waiting.{by_test}
use Rattle.pif_model_simulation.proofs.Kept.{Spares, unwritten, unused, line_spared, held_once}
use Rattle.pif_model_simulation.proofs.Named.{named_added}
use Rattle.pif_model_simulation.proofs.WeakenedInvariant.{cell_spared, each_thread, each_absent}
use Rattle.pif_model_simulation.proofs.Shown.{mutexes_shown, mutex_seen, same_world}
use Rattle.pif_model_simulation.proofs.Written.{mutex_of}
use Rattle.pif_model_simulation.proofs.Steps.{Keeps}
use Rattle.pif_model_simulation.proofs.Agreement.{frames_alike, framed}
use Rattle.pif_model_simulation.proofs.additions.Additions.{pushed_else, more-else, room}

-- numbers that differ
zero_not_one : (a : ℕ) → a ≡ 0 → a ≢ 1
zero_not_one a e f = absurd (omega arith)

less_not_same : (a b : ℕ) → a < b → a ≢ b
less_not_same a b l e = absurd (omega arith)

module _ (s : Table) (kind : Kind) (r : Bool) (h : IsSound s) (free : has_mutex_room s ≡ true) where
  abbrev k : ℕ
  k = length s.mutexes

  abbrev v : Table
  v = mutex_added kind r s

  -- what the library knows of the others, and of the new one
  library_else : (j : ℕ) → j ≢ k → library_at v j ≡ library_at s j
  library_else j d = pushed_else s.mutexes (new_mutex kind r) (new_mutex Normal false) j d

  library_new : library_at v k ≡ new_mutex kind r
  library_new = get_or_push s.mutexes (new_mutex kind r) (new_mutex Normal false) k refl

  cell_else : (j : ℕ) → j ≢ k → cell_at v j ≡ cell_at s j
  cell_else j d = λ i. record {
    kind = (library_else j d i).kind;
    robust = (library_else j d i).robust;
    count = (library_else j d i).count;
    word = word_at s.words j;
    health = health_word_at s.words j;
    state_owner = state_at s.kernel j;
  }

  -- of the new one the word is free, and nobody waits for it
  unmade : (word_at s.words k ≡ free_word) × (health_word_at s.words k ≡ 0) × (has_waiter s.kernel.waiters k ≡ false)
  unmade = h.all.shape.unmade k (omega arith)

  state_none : state_at s.kernel k ≡ 0
  state_none = eqb-true (state_at s.kernel k) 0 (h.kernel.states k ∙ ap (λ b. if b then false else true) unmade.2)

  cell_new : cell_at v k ≡ record { kind = kind; robust = r; count = 1; word = free_word; health = 0; state_owner = 0 }
  cell_new = λ i. record {
    kind = (library_new i).kind;
    robust = (library_new i).robust;
    count = (library_new i).count;
    word = unmade.0 i;
    health = unmade.1 i;
    state_owner = state_none i;
  }

  -- the same mutexes are there
  still : (j : ℕ) → j ≢ k → has_mutex v j ≡ has_mutex s j
  still j d = ap (λ a. if j == 0 then false else nat_lt j a) (length_push s.mutexes (new_mutex kind r))
      ∙ more-else j k d

  -- each mutex is sound
  mutex_more : (j : ℕ) → has_mutex v j ≡ true → (j ≡ k) ⊎ (j ≢ k)
      → CellIsSound (has_thread v) (has_waiter v.kernel.waiters j) (cell_at v j)
  mutex_more j e (inl q) = subst (λ a. CellIsSound (has_thread v) (has_waiter v.kernel.waiters a) (cell_at v a)) (sym q)
      (subst (CellIsSound (has_thread v) (has_waiter v.kernel.waiters k)) (sym cell_new) (record {
        count = held_once kind 0 1 refl;
        stalled = λ e. (refl, refl);
        owner = λ z. absurd (z refl);
        free = λ z. unmade.2;
        clean = λ z e. (refl, λ f. absurd (zero_not_one 0 refl f));
        state = sym (ap (λ b. if b then 0 else 0) unmade.2);
        contended = λ w. absurd (true≢false (sym w ∙ unmade.2));
      }))
  mutex_more j e (inr d) = cell_spared (has_thread s) (has_thread v) (has_waiter s.kernel.waiters j)
      (has_waiter s.kernel.waiters j) (cell_at s j) (cell_at v j) (λ u i. i) refl (cell_else j d)
      (h.all.mutexes j (sym (still j d) ∙ e))

  -- those that were added are still there
  known_more : (j : ℕ) → has_mutex s j ≡ true → has_mutex v j ≡ true
  known_more j e = still j (λ q. omega (arith, below j k e, q)) ∙ e

  -- those that were added are still there, and spare everybody
  spares_more : (u j : ℕ) → has_mutex s j ≡ true → (has_mutex v j ≡ true) × Spares (is_living s.kernel)
      (is_living v.kernel) u (cell_at s j) (cell_at v j)
  spares_more u j e =
      let d : j ≢ k = (λ q. omega (arith, below j k e, q)) in
      (still j d ∙ e, unwritten (is_living s.kernel) u (cell_at s j) (cell_at v j) (cell_else j d))

  -- the parts fit together
  shape_more : IsShaped v
  shape_more =
      let b = h.all.shape in
      let long = length_push s.mutexes (new_mutex kind r) in
      record {
        limits = b.limits;
        within = b.within;
        lines = b.lines;
        timers = b.timers;
        nobody = b.nobody;
        lists = b.lists;
        some_mutex = omega (arith, long);
        few_mutexes = (let r = room k s.limits.mutexes free in omega (arith, long, r));
        no_mutex = library_else 0 (λ e. omega (arith, b.some_mutex, e)) ∙ b.no_mutex;
        words = b.words;
        healths = b.healths;
        no_word = b.no_word;
        no_health = b.no_health;
        unmade = λ j e. b.unmade j (omega (arith, e, long));
        some_cond = b.some_cond;
        few_conds = b.few_conds;
        no_cond = b.no_cond;
        cond_words = b.cond_words;
        no_cond_word = b.no_cond_word;
        unmade_conds = b.unmade_conds;
      }

  -- a mutex that a line names is another
  known_in_line : (u : ℕ) (l : Line) → LineIsSound s u l → (test : Place → Bool) → mutex_by test l ≢ k
  known_in_line u Idle b test e = absurd (less_not_same 0 k h.all.shape.some_mutex e)
  known_in_line u (At q p) b test e = by_test (λ x. (if x then named_by q else 0) ≡ k → ⊥) (test p)
      (λ _ f. less_not_same (named_by q) k (below (named_by q) k (named_added (has_mutex s) (has_cond s) q b.named
      (λ none. less_not_same 0 k h.all.shape.some_mutex (sym none ∙ f)))) f)
      (λ _ f. less_not_same 0 k h.all.shape.some_mutex f) e

  -- the kinds of the others stay
  robust_else : (j : ℕ) → j ≢ k → (library_at v j).robust ≡ (library_at s j).robust
  robust_else j d = ap (λ (x : LibraryMutex). x.robust) (library_else j d)

  -- nobody owns the new one
  new_free : (u : ℕ) → is_living s.kernel u ≡ true → (word_at s.words k).number ≢ u
  new_free u e o = above_0 u (length s.kernel.seats) (living-added s.kernel u e)
      (sym o ∙ ap (λ (w : Word). w.number) unmade.0)

  -- each thread holds the same robust mutexes
  holds_same : (u : ℕ) → is_living s.kernel u ≡ true → (j : ℕ) → (j ≡ k) ⊎ (j ≢ k)
      → holds_robust v u j ≡ holds_robust s u j
  holds_same u e j (inl q) = subst (λ i. holds_robust v u i ≡ holds_robust s u i) (sym q)
      (none v (new_free u e) ∙ sym (none s (new_free u e)))
    where
      none : (x : Table) → (word_at x.words k).number ≢ u → holds_robust x u k ≡ false
      none x d = ap (λ b. if has_mutex x k then (if (library_at x k).robust then b else false) else false)
          (ne_eqb (word_at x.words k).number u d)
          ∙ ap (λ b. if has_mutex x k then b else false) (either (library_at x k).robust) ∙ either (has_mutex x k)
        where
          either : (b : Bool) → (if b then false else false) ≡ false
          either true = refl
          either false = refl
  holds_same u e j (inr d) = λ i. if still j d i then (if robust_else j d i then (word_at s.words j).number == u
      else false) else false

  -- who owns a robust mutex lives
  alive_more : (j : ℕ) → has_mutex v j ≡ true → (library_at v j).robust ≡ true → (word_at s.words j).number ≢ 0
      → (j ≡ k) ⊎ (j ≢ k) → is_living s.kernel (word_at s.words j).number ≡ true
  alive_more j e b z (inl q) = absurd (z (ap (λ i. (word_at s.words i).number) q
      ∙ ap (λ (w : Word). w.number) unmade.0))
  alive_more j e b z (inr d) = h.all.alive j (sym (still j d) ∙ e) (sym (robust_else j d) ∙ b) z (λ x. x)

  -- what a thread owns is in order
  settled_more : (u : ℕ) → is_living s.kernel u ≡ true → ThreadIsSound s u → (j : ℕ) → has_mutex v j ≡ true
      → (word_at s.words j).number ≡ u → j ≢ mutex_by is_unsettled (line_at s u)
      → (j ≡ k) ⊎ (j ≢ k) → ((word_at s.words j).died ≡ false) × (health_word_at s.words j ≢ 2)
  settled_more u e b j i o away (inl q) = absurd (new_free u e (ap (λ x. (word_at s.words x).number) (sym q) ∙ o))
  settled_more u e b j i o away (inr d) = b.settled j (sym (still j d) ∙ i) o away

  -- the table is sound
  pub mutex_added_sound : IsSound v
  mutex_added_sound = record {
    all = record {
      shape = shape_more;
      mutexes = λ j e. mutex_more j e (cases_eq j k);
      conds = λ c e. (let b = h.all.conds c e in record { bound = known_more (bound_to s c) b.bound; uses = b.uses });
      targets = h.all.targets;
      alive = λ j e b z out. alive_more j e b z (cases_eq j k);
      threads = λ u e out. (let b = each_thread h u e in record {
        line = line_spared s v u refl (unused s v refl refl refl) (λ j i. spares_more u j i) (line_at s u) b.line;
        queue = b.queue;
        parked = b.parked;
        list = record {
          pending = b.list.pending ∙ sym (ap (λ x. if x then mutex_by is_pending (line_at s u) else 0)
              (robust_else (mutex_by is_pending (line_at s u)) (known_in_line u (line_at s u) b.line is_pending)));
          half_linked = b.list.half_linked ∙ sym (ap (λ x. if x then mutex_by is_half_linked (line_at s u) else 0)
              (robust_else (mutex_by is_half_linked (line_at s u))
              (known_in_line u (line_at s u) b.line is_half_linked)));
          listed = λ j. b.list.listed j ∙ sym (ap (λ x.
              if x then (if j == mutex_by is_unlinked (line_at s u) then false else true) else false)
              (holds_same u e j (cases_eq j k)));
        };
        settled = λ j i o away. settled_more u e b j i o away (cases_eq j k);
      });
      absent = λ u e out. (let b = each_absent h u e in record { line = b.line; list = b.list });
    };
    kernel = h.kernel;
  }

  -- the world with one mutex more
  abbrev new_one : Mutex
  new_one = record { kind = kind; robust = r; owner = 0; count = 1; health = Fine }

  pub mutex_added_seen : (y : HistoryVariables) → world_of v y ≡ record (world_of s y)
      { mutexes = (world_of s y).mutexes ++ new_one ∷ [] }
  mutex_added_seen y = same_world (world_of v y) (record
      (world_of s y) { mutexes = (world_of s y).mutexes ++ new_one ∷ [] }) refl (λ u i. refl)
      (mutexes_shown shape_more y ∙ length_push s.mutexes (new_mutex kind r)
      ∙ sym (length_push (world_of s y).mutexes new_one ∙ ap (λ j. j + 1) long))
      (λ j. mutex_seen shape_more y j ∙ each j (cases_eq j k)) refl refl refl refl
    where
      long : length (world_of s y).mutexes ≡ k
      long = mutexes_shown h.all.shape y

      each : (j : ℕ) → (j ≡ k) ⊎ (j ≢ k) → mutex_shown v j ≡ get_or ((world_of s y).mutexes ++ new_one ∷ []) j no_mutex
      each j (inl e) = subst (λ a. mutex_shown v a ≡ get_or ((world_of s y).mutexes ++ new_one ∷ []) a no_mutex) (sym e)
          (ap mutex_of cell_new ∙ sym (get_or_push (world_of s y).mutexes new_one no_mutex k long))
      each j (inr d) = ap mutex_of (cell_else j d) ∙ sym
          (pushed_else (world_of s y).mutexes new_one no_mutex j (λ e. d (e ∙ long)) ∙ mutex_seen h.all.shape y j)

  -- to add a mutex is an entry of the POSIX machine, and keeps the invariant
  pub mutex_added_kept : Keeps s (AddMutex k kind r) v
  mutex_added_kept = record {
    sound = mutex_added_sound;
    limits = refl;
    shows = λ y a. (
      y,
      framed (frames_alike s v refl (λ u. refl) (λ u. refl) (λ u. refl)) y a,
      mutex_rule k kind r refl (sym (mutexes_shown h.all.shape y))
          (room k s.limits.mutexes free) (mutex_added_seen y),
    );
  }
