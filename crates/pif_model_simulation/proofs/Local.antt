-- Local lines: a step that writes one thread's line and robust list, and one mutex, and makes no kernel call. What such
-- a line has to show is of these alone; one lemma makes it an entry of the POSIX machine that keeps the invariant.
use Rattle.std.proofs.Common.{◌≡◌, ◌≢◌, ℕ, ◌<◌, Bool, true, false, ◌==◌, length, Option, Some, None, refl, sym, ap, ap₂, ◌∙◌, subst, arith, if◌then◌else◌, ◌⊎◌, inl, inr, true≢false, ne_eqb}
use Rattle.std.proofs.lemmas.Bool.{cases_eq}
use Rattle.pif_types.specs.Bounds.{Bounds}
use Rattle.pif_types.specs.declared.requests.Request.{Request}
use Rattle.pif_model.specs.declared.events.Seen.{Seen}
use Rattle.pif_model.specs.declared.events.Seen.TheVariants.{Begun, Went, Waits, Answered, Ended as SeenEnded, Ticked, Refused}
use Rattle.pif_model.specs.declared.lines.Line.{Line}
use Rattle.pif_model.specs.declared.lines.Line.TheVariants.{Idle, At}
use Rattle.pif_model.specs.declared.lines.Place.{Place}
use Rattle.pif_model.specs.declared.lines.Status.{Status}
use Rattle.pif_model.specs.declared.lines.Status.TheVariants.{Queued, Parked}
use Rattle.pif_model.specs.Graph.{has_waiter}
use Rattle.pif_model.specs.Word.{Word, word_at, health_word_at}
use Rattle.pif_model.specs.Posix.{Health, Progress, Call, World, Effects, is_blocked, is_call_blocked, named_by, variable_of, names_known, thread_at, with_thread, with_mutex, with_progress, at_progress}
use Rattle.pif_model.specs.World.Progress.{Has}
use Rattle.pif_model.specs.PiKernel.{is_ready, is_living}
use Rattle.pif_model.specs.RobustList.{RobustRow, has_entry, robust_at, is_listed}
use Rattle.pif_model.specs.Table.{Table, Cell, has_thread, has_mutex, bound_to, uses_of, status_at, line_at, library_at, cell_at}
use Rattle.pif_model.specs.Projection.{HistoryVariables, may_enlist, call_shown as shown_call, call_at, progress_at, health_of, health_at, world_of}
use Rattle.pif_model.specs.Soundness.{use_at, MeetsAll, needs, belongs, LineIsSound, CellIsSound, ListIsSound, ThreadIsSound, IsSound, mutex_by, robust_by, is_pending, is_half_linked, is_unlinked, is_unsettled, holds_robust}
use Rattle.pif_model_lemmas.proofs.Numbers.{above_0, below}
use Rattle.pif_model_lemmas.proofs.kernel.Facts.{living-added}
use Rattle.pif_model_lemmas.proofs.Waiting.{by_test}
use Rattle.pif_model_simulation.proofs.Kept.{Spares}
use Rattle.pif_model_simulation.proofs.WeakenedInvariant.{Changes, change_kept, exempt_one, admit_last, each_thread, each_absent}
use Rattle.pif_model_simulation.proofs.Shown.{mutex_seen, closed_progressed, call_progressed}
use Rattle.pif_model_simulation.proofs.Written.{written, cell_written, mutex_of, no_call, changes, cell_here, line_here, list_here, call_there, world_shown, frames_written}
use Rattle.pif_model_simulation.proofs.Agreement.{Frames, Follows, WasBlockedIn}
use Rattle.pif_model_lemmas.proofs.kernel.Statuses.{ready-unparked}
use Rattle.pif_model_simulation.proofs.Does.{Does, does_seen}
use Rattle.pif_model_simulation.proofs.Steps.{KeepsGo, Going, progress_of, going_named as going_known, going_called, going_below, going_lined, goes_with, answers_with}

-- WHAT A LINE DOES

-- its answer, its thread's line and robust list, and the word, the health word and the count of its mutex
pub record Move : Type 0 where
  pub seen : Seen
  pub line : Line
  pub row : RobustRow
  pub word : Word
  pub health : ℕ
  pub count : ℕ

-- the table after a move of t on m
abbrev pub moved : ℕ → ℕ → Move → Table → Table
moved t m o s = written t m o.line o.row o.word o.health o.count s.kernel s

-- the mutex that a move leaves
abbrev pub cell_left : ℕ → Move → Table → Cell
cell_left m o s = cell_written m o.word o.health o.count s.kernel s

-- WHAT A LOCAL LINE HAS TO SHOW

-- what t knows in its call q at the line to which it has gone, of the one mutex as it is then
abbrev pub KnowsAfter : Table → ℕ → Request → Cell → Line → Type 0
KnowsAfter s t q c Idle = is_ready (status_at s t) ≡ true
KnowsAfter s t q c (At r p) = (r ≡ q) × (belongs q p ≡ true) × MeetsAll (is_living s.kernel) t
    (status_at s t) c (use_at s q) (needs p)

-- what the answer says of the call q, which has come as far as a, if its mutex m has the health h then: it went and
-- is open, or it has a result and is closed
abbrev pub Shows : Table → ℕ → ℕ → Health → Request → Progress → Seen → Line → Type 0
Shows s t m h q a Went l =
    (p : Place) × (l ≡ At q p) × (progress_at q p (status_at s t) h (uses_of s (variable_of q)) ≡ a)
Shows s t m h q a (Answered n) l = (a ≡ Has n) × (l ≡ Idle)
Shows s t m h q a Begun l = ⊥
Shows s t m h q a Waits l = ⊥
Shows s t m h q a SeenEnded l = ⊥
Shows s t m h q a Ticked l = ⊥
Shows s t m h q a (Refused r) l = ⊥

-- what is on the robust list of t after a line that goes to l and leaves m as the cell c: pending field and half-linked
-- mutex are the place's, the other mutexes stay on the list or off it, and m is there if t owns it, save at an
-- unlinked place; and t, if it owns m, finds it in order, save at an unsettled place
pub record ListsAfter (s : Table) (t m : ℕ) (c : Cell) (l : Line) (r : RobustRow) : Type 0 where
  pub pending : r.pending ≡ robust_by is_pending s l
  pub half_linked : r.half_linked ≡ robust_by is_half_linked s l
  pub others : (j : ℕ) → j ≢ m → has_entry r.listed j ≡ is_listed s.lists t j
  pub own : has_entry r.listed m ≡ (if (if c.robust then c.word.number == t else false)
      then (if m == mutex_by is_unlinked l then false else true) else false)
  pub settled : c.word.number ≡ t → m ≢ mutex_by is_unsettled l → (c.word.died ≡ false) × (c.health ≢ 2)

-- a move of t in its call q on m from the place p, by which the call has come as far as a: it changes what t alone may
-- change
pub record IsLocal (s : Table) (t m : ℕ) (q : Request) (p : Place) (a : Progress) (o : Move) : Type 0 where
  pub ready : is_ready (status_at s t) ≡ true
  -- t knows what it has to, there
  pub knows : KnowsAfter s t q (cell_left m o s) o.line
  pub lists : ListsAfter s t m (cell_left m o s) o.line o.row
  -- the mutex is sound, and spares the others; who owns it lives
  pub cell : CellIsSound (has_thread s) (has_waiter s.kernel.waiters m) (cell_left m o s)
  pub alive : (library_at s m).robust ≡ true → o.word.number ≢ 0 → o.word.number ≢ t
      → is_living s.kernel o.word.number ≡ true
  pub spares : (u : ℕ) → u ≢ t → u ≢ 0 → Spares (is_living s.kernel) (is_living s.kernel) u (cell_at s m)
      (cell_left m o s)
  -- its health stays, or t owned it
  pub health : (health_of o.health o.word.died ≡ health_at s m) ⊎ ((word_at s.words m).number ≡ t)
  pub shows : Shows s t m (health_of o.health o.word.died) q a o.seen o.line
  -- who was found blocked stays so
  pub follows : Follows (At q p) o.line
  pub blocked : may_enlist (At q p) ≡ false → is_blocked a ≡ true → is_blocked (progress_of s t q p) ≡ true

-- who may run is queued on nothing
pub ready-not_queued : (x : Status) (m : ℕ) → is_ready x ≡ true → x ≡ Queued m → ⊥
ready-not_queued x m h e = true≢false (sym h ∙ ap is_ready e)

-- who may run is parked on nothing
pub ready-not_parked : (x : Status) (c : ℕ) → is_ready x ≡ true → x ≡ Parked c → ⊥
ready-not_parked x c h e = true≢false (sym h ∙ ap is_ready e)

-- who is blocked on a variable then was so before, if it was blocked
pub blocked_before : (x y b : Bool) → (if x then b else false) ≡ true → (x ≡ true → y ≡ true)
    → (if y then b else false) ≡ true
blocked_before true y b e f = ap (λ z. if z then b else false) (f refl) ∙ e
blocked_before false y b e f = absurd (true≢false (sym e))

-- what a request names exists still
pub known_still : {f f' g g' : ℕ → Bool} → ((m : ℕ) → f' m ≡ f m) → ((c : ℕ) → g' c ≡ g c) → (q : Request)
    → names_known f g q ≡ true → names_known f' g' q ≡ true
known_still a b q e = (λ i. names_known (λ m. a m i) (λ c. b c i) q) ∙ e

-- the only mutex that a line names
abbrev pub NamesOnly : ℕ → Line → Type 0
NamesOnly m Idle = Unit {0}
NamesOnly m (At q p) = named_by q ≡ m

-- another mutex is not the one of a line, whatever its place
pub apart : (test : Place → Bool) (l : Line) (m j : ℕ) → NamesOnly m l → j ≢ m → j ≢ 0 → j ≢ mutex_by test l
apart test Idle m j k d z e = z e
apart test (At q p) m j k d z e = by_test (λ b. j ≡ (if b then named_by q else 0) → ⊥) (test p) (λ _ x. d (x ∙ k))
    (λ _ x. z x) e

-- a line at which a thread knows one mutex names only that
pub knows-names : (s : Table) (t : ℕ) (q : Request) (c : Cell) (l : Line) → KnowsAfter s t q c l → NamesOnly (named_by q) l
knows-names s t q c Idle k = tt
knows-names s t q c (At r p) k = ap named_by k.0

-- a robust list after a change of one mutex, that of its thread's line before and after
pub lists_after : (s v : Table) (t m : ℕ) (l l' : Line) → NamesOnly m l → NamesOnly m l' → has_mutex s m ≡ true
    → ((j : ℕ) → has_mutex v j ≡ has_mutex s j) → ((j : ℕ) → (library_at v j).robust ≡ (library_at s j).robust)
    → ((j : ℕ) → j ≢ m → cell_at v j ≡ cell_at s j)
    → ListIsSound s t l → ListsAfter s t m (cell_at v m) l' (robust_at v.lists t) → ListIsSound v t l'
lists_after s v t m l l' k k' known mutexes robust cells b a = record {
  pending = a.pending ∙ sym (ap (λ x. if x then mutex_by is_pending l' else 0) (robust (mutex_by is_pending l')));
  half_linked = a.half_linked ∙ sym (ap (λ x. if x then mutex_by is_half_linked l' else 0)
      (robust (mutex_by is_half_linked l')));
  listed = λ j. go j (cases_eq j m);
}
  where
    elsewhere : (j : ℕ) → j ≢ m → j ≢ 0 → (x : Line) → NamesOnly m x
        → (if j == mutex_by is_unlinked x then false else true) ≡ true
    elsewhere j d z x n = ap (λ y. if y then false else true)
        (ne_eqb j (mutex_by is_unlinked x) (apart is_unlinked x m j n d z))

    other : (j : ℕ) → j ≢ m → (j ≡ 0) ⊎ (j ≢ 0) → is_listed v.lists t j
        ≡ (if holds_robust v t j then (if j == mutex_by is_unlinked l' then false else true) else false)
    other j d z = a.others j d ∙ b.listed j ∙ same z
      where
        held : holds_robust v t j ≡ holds_robust s t j
        held = ap (λ x. if x then (if (library_at v j).robust then (word_at v.words j).number == t else false)
            else false) (mutexes j)
            ∙ ap (λ (c : Cell). if has_mutex s j then (if c.robust then c.word.number == t else false) else false)
            (cells j d)

        none : j ≡ 0 → (x : Table) → holds_robust x t j ≡ false
        none e x = ap (λ i. holds_robust x t i) e

        same : (j ≡ 0) ⊎ (j ≢ 0) → (if holds_robust s t j then (if j == mutex_by is_unlinked l then false else true)
            else false) ≡ (if holds_robust v t j then (if j == mutex_by is_unlinked l' then false else true) else false)
        same (inl e) = ap (λ y. if y then (if j == mutex_by is_unlinked l then false else true) else false) (none e s)
            ∙ sym (ap (λ y. if y then (if j == mutex_by is_unlinked l' then false else true) else false) (none e v))
        same (inr e) = ap₂ (λ x y. if x then y else false) (sym held)
            (elsewhere j d e l k ∙ sym (elsewhere j d e l' k'))

    go : (j : ℕ) → (j ≡ m) ⊎ (j ≢ m) → is_listed v.lists t j
        ≡ (if holds_robust v t j then (if j == mutex_by is_unlinked l' then false else true) else false)
    go j (inl e) = subst (λ i. is_listed v.lists t i ≡ (if holds_robust v t i
        then (if i == mutex_by is_unlinked l' then false else true) else false)) (sym e)
        (a.own ∙ ap (λ x. if (if x then (if (library_at v m).robust then (word_at v.words m).number == t else false)
        else false) then (if m == mutex_by is_unlinked l' then false else true) else false)
        (sym (mutexes m ∙ known)))
    go j (inr d) = other j d (cases_eq j 0)

-- what its thread owns is in order after such a change
pub settled_after : (s v : Table) (t m : ℕ) (l l' : Line) → NamesOnly m l → ((j : ℕ) → has_mutex v j ≡ has_mutex s j)
    → ((j : ℕ) → j ≢ m → cell_at v j ≡ cell_at s j)
    → ((j : ℕ) → has_mutex s j ≡ true → (word_at s.words j).number ≡ t → j ≢ mutex_by is_unsettled l
    → ((word_at s.words j).died ≡ false) × (health_word_at s.words j ≢ 2))
    → ((cell_at v m).word.number ≡ t → m ≢ mutex_by is_unsettled l'
    → ((cell_at v m).word.died ≡ false) × ((cell_at v m).health ≢ 2))
    → (j : ℕ) → has_mutex v j ≡ true → (word_at v.words j).number ≡ t → j ≢ mutex_by is_unsettled l'
    → ((word_at v.words j).died ≡ false) × (health_word_at v.words j ≢ 2)
settled_after s v t m l l' k mutexes cells b own j e o away = go (cases_eq j m)
  where
    go : (j ≡ m) ⊎ (j ≢ m) → ((word_at v.words j).died ≡ false) × (health_word_at v.words j ≢ 2)
    go (inl q) = subst (λ i. (word_at v.words i).number ≡ t → i ≢ mutex_by is_unsettled l'
        → ((word_at v.words i).died ≡ false) × (health_word_at v.words i ≢ 2)) (sym q) own o away
    go (inr d) =
        let c = cells j d in
        let known : has_mutex s j ≡ true = sym (mutexes j) ∙ e in
        subst (λ (x : Cell). (x.word.died ≡ false) × (x.health ≢ 2)) (sym c)
        (b j known (sym (ap (λ (x : Cell). x.word.number) c) ∙ o)
        (apart is_unsettled l m j k d (above_0 j (length s.mutexes) known)))

module _ {s : Table} {t : ℕ} {q : Request} {p : Place} (g : Going s t q p)
    (named : has_mutex s (named_by q) ≡ true) where
  abbrev m : ℕ
  m = named_by q

  -- t was added
  pub going_added : has_thread s t ≡ true
  going_added = living-added s.kernel t g.known

  -- both are there
  t0 : t ≢ 0
  t0 = above_0 t (length s.kernel.seats) going_added

  ml : m < length s.mutexes
  ml = below m (length s.mutexes) named

  -- t has a robust list
  pub going_row : t < length s.lists.threads
  going_row = omega (
    arith,
    below t (length s.kernel.seats) going_added,
    g.sound.kernel.shape.few,
    g.sound.all.shape.lists,
    ap (λ (b : Bounds). b.threads) g.sound.all.shape.limits,
  )

  -- the mutex of t's call is sound
  pub going_cell : CellIsSound (has_thread s) (has_waiter s.kernel.waiters m) (cell_at s m)
  going_cell = g.sound.all.mutexes m named

  -- what holds of t
  pub going_thread : ThreadIsSound s t
  going_thread = each_thread g.sound t g.known

  -- its robust list
  pub going_list : ListIsSound s t (At q p)
  going_list = subst (ListIsSound s t) g.line going_thread.list

  -- what it owns is in order
  pub going_settled : (j : ℕ) → has_mutex s j ≡ true → (word_at s.words j).number ≡ t
      → j ≢ mutex_by is_unsettled (At q p) → ((word_at s.words j).died ≡ false) × (health_word_at s.words j ≢ 2)
  going_settled j e o away = going_thread.settled j e o (λ x. away (x ∙ ap (mutex_by is_unsettled) g.line))

  module _ (a : Progress) (o : Move) (l : IsLocal s t m q p a o) where
    abbrev v : Table
    v = moved t m o s

    -- the change that the move is
    change : Changes (λ u. u ≡ t) s v m
    change = changes s t m o.line o.row o.word o.health o.count s.kernel t0
        (going_lined g) going_row ml g.sound.all.shape refl (no_call (λ u. u ≡ t) (bound_to s) s.kernel m)
        (λ e. absurd (above_0 m (length s.mutexes) named e)) (λ e. l.cell) (λ e r z n. l.alive r z n)
        (λ u z n. l.spares u n z)

    -- t's line and robust list after it
    here : line_at v t ≡ o.line
    here = line_here s t m o.line o.row o.word o.health o.count s.kernel t0
        (going_lined g) going_row ml g.sound.all.shape

    row_here : robust_at v.lists t ≡ o.row
    row_here = list_here s t m o.line o.row o.word o.health o.count s.kernel t0
        (going_lined g) going_row ml g.sound.all.shape

    -- the mutex
    cell_m : cell_at v m ≡ cell_left m o s
    cell_m = cell_here s t m o.line o.row o.word o.health o.count s.kernel t0
        (going_lined g) going_row ml g.sound.all.shape

    -- what t knows then
    after : (k : Line) → KnowsAfter s t q (cell_left m o s) k → LineIsSound v t k
    after Idle h = h
    after (At r b) h = subst (λ j. LineIsSound v t (At j b)) (sym h.0) (record {
      named = known_still change.mutexes (λ c. refl) q (going_known g);
      belongs = h.1;
      needs = subst (λ c. MeetsAll (is_living s.kernel) t (status_at s t) c (use_at s q) (needs b)) (sym cell_m) h.2;
    })

    -- the table is sound after the move
    pub move_sound : IsSound v
    move_sound = record {
      all = admit_last (change_kept (exempt_one g.sound t) change) g.known (record {
        line = subst (LineIsSound v t) (sym here) (after o.line l.knows);
        queue = λ n e. absurd (ready-not_queued (status_at s t) n l.ready e);
        parked = λ n e. absurd (ready-not_parked (status_at s t) n l.ready e);
        list = subst (ListIsSound v t) (sym here) (lists_after s v t m (At q p) o.line refl
            (knows-names s t q (cell_left m o s) o.line l.knows) named change.mutexes change.robust change.cells
            going_list
            (subst (λ c. ListsAfter s t m c o.line (robust_at v.lists t)) (sym cell_m)
            (subst (ListsAfter s t m (cell_left m o s) o.line) (sym row_here) l.lists)));
        settled = subst (λ k. (j : ℕ) → has_mutex v j ≡ true → (word_at v.words j).number ≡ t
            → j ≢ mutex_by is_unsettled k → ((word_at v.words j).died ≡ false) × (health_word_at v.words j ≢ 2))
            (sym here)
            (settled_after s v t m (At q p) o.line refl change.mutexes change.cells going_settled
            (subst (λ (c : Cell). c.word.number ≡ t → m ≢ mutex_by is_unsettled o.line
            → (c.word.died ≡ false) × (c.health ≢ 2)) (sym cell_m) l.lists.settled));
      });
      kernel = g.sound.kernel;
    }

    -- the world with the mutex that the move leaves
    abbrev left : HistoryVariables → World
    left y = with_mutex m (mutex_of (cell_left m o s)) (world_of s y)

    -- another thread's call has come as far as before
    calls : (u : ℕ) → u ≢ t → call_at (health_at v) (uses_of s) (line_at s u) (status_at s u) ≡ shown_call s u
    calls u d = by_test (λ b. is_living s.kernel u ≡ b → call_at (health_at v) (uses_of s) (line_at s u)
        (status_at s u) ≡ shown_call s u) (is_living s.kernel u)
        (λ e _. call_there s t m o.line o.row o.word o.health o.count s.kernel t0
        (going_lined g) going_row ml g.sound.all.shape u (why l.health) (each_thread g.sound u e))
        (λ e _. subst (λ k. call_at (health_at v) (uses_of s) k (status_at s u)
        ≡ call_at (health_at s) (uses_of s) k (status_at s u))
        (sym (each_absent g.sound u e).line) refl) refl
      where
        why : (health_of o.health o.word.died ≡ health_at s m) ⊎ ((word_at s.words m).number ≡ t)
            → (health_of o.health o.word.died ≡ health_at s m) ⊎ ((word_at s.words m).number ≢ u)
        why (inl e) = inl e
        why (inr e) = inr (λ x. d (sym x ∙ e))

    -- the world that the move shows, with this call of t
    shown : (y : HistoryVariables) (c : Option Call) → call_at (health_at v) (uses_of s) o.line (status_at s t) ≡ c
        → world_of v y ≡ with_thread t (record (thread_at (left y) t) { call = c }) (left y)
    shown y c e = world_shown s t m o.line o.row o.word o.health o.count s.kernel t0
        (going_lined g) going_row ml g.sound.all.shape (λ u d. refl) calls y c move_sound.all.shape (λ u. refl) refl e

    -- how far the call has come at its place then
    at_place : (b : Place) → o.line ≡ At q b
        → progress_at q b (status_at s t) (health_of o.health o.word.died) (uses_of s (variable_of q)) ≡ a
        → call_at (health_at v) (uses_of s) o.line (status_at s t) ≡ Some (record { request = q; progress = a })
    at_place b e f = ap (λ k. call_at (health_at v) (uses_of s) k (status_at s t)) e
        ∙ ap (λ (c : Cell). Some (record {
          request = q;
          progress = progress_at q b (status_at s t) (health_of c.health c.word.died) (uses_of s (variable_of q));
        })) cell_m
        ∙ ap (λ x. Some (record { request = q; progress = x })) f

    -- t is blocked then only if it was
    was : (seen : Seen) → Shows s t m (health_of o.health o.word.died) q a seen o.line
        → may_enlist (line_at s t) ≡ false → WasBlockedIn s v t
    was seen e j c b unparked = (by_seen seen e, ready-unparked (status_at s t) l.ready)
      where
        -- t's call then is blocked, and so it was
        opened : Some (record { request = q; progress = a }) ≡ shown_call v t → is_call_blocked c (shown_call s t) ≡ true
        opened x = ap (is_call_blocked c) (ap (λ k. call_at (health_at s) (uses_of s) k (status_at s t)) g.line)
            ∙ blocked_before (is_blocked a) (is_blocked (progress_of s t q p)) (variable_of q == c)
            (ap (is_call_blocked c) x ∙ b) (l.blocked (sym (ap may_enlist g.line) ∙ j))

        call_is : shown_call v t ≡ call_at (health_at v) (uses_of s) o.line (status_at s t)
        call_is = ap (λ k. call_at (health_at v) (uses_of s) k (status_at s t)) here

        by_seen : (seen : Seen) → Shows s t m (health_of o.health o.word.died) q a seen o.line
            → is_call_blocked c (shown_call s t) ≡ true
        by_seen Went e = opened (sym (call_is ∙ at_place e.0 e.1 e.2))
        by_seen (Answered n) e = absurd (true≢false (sym b ∙ ap (is_call_blocked c)
            (call_is ∙ ap (λ k. call_at (health_at v) (uses_of s) k (status_at s t)) e.1)))
        by_seen Begun e = absurd e
        by_seen Waits e = absurd e
        by_seen SeenEnded e = absurd e
        by_seen Ticked e = absurd e
        by_seen (Refused r) e = absurd e

    -- who was found blocked stays so
    frames : Frames s v
    frames = frames_written s t m o.line o.row o.word o.health o.count s.kernel t0
        (going_lined g) going_row ml g.sound.all.shape (λ u d. refl) calls
        (subst (λ k. Follows k o.line) (sym g.line) l.follows) (was o.seen l.shows)

    -- the move is an entry of the POSIX machine, by its answer
    by_answer : (seen : Seen) → Shows s t m (health_of o.health o.word.died) q a seen o.line
        → ((y : HistoryVariables) → Effects t (world_of s y) (world_of s y) (with_progress t a (left y)))
        → KeepsGo s t seen v
    by_answer Went e effects = goes_with g v move_sound refl g.known l.ready frames
        (λ y. subst (Effects t (world_of s y) (world_of s y))
        (sym (shown y (at_progress a (thread_at (left y) t).call)
        (at_place e.0 e.1 e.2 ∙ sym (ap (at_progress a) (going_called g y))))) (effects y))
    by_answer (Answered n) e effects = answers_with g v n
        (λ y. with_progress t a (left y)) move_sound refl g.known l.ready frames effects
        (λ y. call_progressed (left y) t a _ (going_below g y) (going_called g y)
        ∙ (λ i. Some (record { request = q; progress = e.0 i })))
        (λ y. shown y None (ap (λ k. call_at (health_at v) (uses_of s) k (status_at s t)) e.1)
        ∙ sym (closed_progressed (left y) t a (going_below g y)))
    by_answer Begun e effects = absurd e
    by_answer Waits e effects = absurd e
    by_answer SeenEnded e effects = absurd e
    by_answer Ticked e effects = absurd e
    by_answer (Refused r) e effects = absurd e

    -- a local move with such effects is an entry of the POSIX machine, and keeps the invariant
    pub local_by : ((y : HistoryVariables) → Effects t (world_of s y) (world_of s y) (with_progress t a (left y)))
        → KeepsGo s t o.seen v
    local_by effects = by_answer o.seen l.shows effects

    -- and so is one with effects on the call and its mutex alone
    pub local_kept : Does t m (has_waiter s.kernel.waiters m) q (progress_of s t q p)
        (mutex_of (cell_at s m)) a (mutex_of (cell_left m o s))
        → KeepsGo s t o.seen v
    local_kept does = local_by (λ y. does_seen (world_of s y) t m (going_called g y) (world_of s y)
        (mutex_seen g.sound.all.shape y m) does)
