-- The end of a thread: an entry of the POSIX machine that keeps the invariant. The thread leaves all, and then its
-- robust mutexes pass on, one after another.
use Rattle.std.proofs.Common.{◌≡◌, ◌≢◌, ◌⊎◌, inl, inr, ℕ, ◌<◌, ◌≤◌, ◌||◌, Bool, true, false, ◌==◌, List, [], ◌∷◌, length, get_or, set, None, refl, sym, ap, ◌∙◌, subst, arith, if◌then◌else◌, eqb-true, eq-eqb, ne_eqb}
use Rattle.std.proofs.lemmas.Bool.{cases_eq, cases_lt, true≢false}
use Rattle.std.proofs.lemmas.List.{length-set, get_or_past, set-get_or}
use Rattle.pif_types.specs.declared.requests.Kind.TheVariants.{Normal}
use Rattle.pif_model.specs.declared.events.Event.TheVariants.{End}
use Rattle.pif_model.specs.declared.events.Seen.TheVariants.{Ended as SeenEnded}
use Rattle.pif_model.specs.declared.events.Entry.TheVariants.{Step as Happened}
use Rattle.pif_model.specs.declared.lines.Line.{Line}
use Rattle.pif_model.specs.declared.lines.Line.TheVariants.{Idle, At}
use Rattle.pif_model.specs.declared.lines.Place.{Place}
use Rattle.pif_model.specs.declared.lines.Place.TheVariants.{StayQueued, Take, Link, Give, StayParked}
use Rattle.pif_model.specs.declared.lines.GiveStep.{GiveStep}
use Rattle.pif_model.specs.declared.lines.GiveStep.TheVariants.{Release, CallUnlock}
use Rattle.pif_model.specs.Graph.{has_waiter}
use Rattle.pif_model.specs.Word.{word_at, has_word}
use Rattle.pif_model.specs.Posix.{Mutex, Releases, mutex_at, named_by}
use Rattle.pif_model.specs.Posix.Releases.{none_left, one_more}
use Rattle.pif_model.specs.Posix.Step.{ended as ended_rule}
use Rattle.pif_model.specs.declared.lines.Status.TheVariants.{Ended}
use Rattle.pif_model.specs.PiKernel.{System, state_at, is_living, kernel_after_leaving, after_death, after_deaths}
use Rattle.pif_model.specs.RobustList.{RobustRow, no_robust_row, robust_at, has_entry, walk_of}
use Rattle.pif_model.specs.Table.{Table, Cell, LibraryMutex, new_mutex, has_thread, has_mutex, has_cond, line_at, library_at, cell_at}
use Rattle.pif_model.specs.Lines.{table_refusal, ended_table, library_after_end}
use Rattle.pif_model.specs.Projection.{HistoryVariables, Agrees, world_of}
use Rattle.pif_model.specs.Soundness.{mutex_by, is_pending, is_unlinked, is_last, is_named_giving, holds_robust, LineIsSound, ListIsSound, CellIsSound, IsShaped, IsSound}
use Rattle.pif_model_lemmas.proofs.kernel.Left.{status-left_same, living-left_same}
use Rattle.pif_model_lemmas.proofs.kernel.Exit.{death-other_number, death-orphaned, death-inherited, orphaned, inherited}
use Rattle.pif_model_lemmas.proofs.kernel.Facts.{living-added}
use Rattle.pif_model_lemmas.proofs.Numbers.{above_0, below, from_within}
use Rattle.pif_model_lemmas.proofs.Waiting.{by_test}
use Rattle.pif_model_simulation.proofs.WeakenedInvariant.{admit, each_thread}
use Rattle.pif_model_simulation.proofs.WeakenedInvariant.MayBeAdmitted.{gone as may_be_gone}
use Rattle.pif_model_simulation.proofs.Shown.{mutex_seen, refusal_seen}
use Rattle.pif_model_simulation.proofs.Steps.{Keeps}
use Rattle.pif_model_simulation.proofs.Named.{named_added}
use Rattle.pif_model_simulation.proofs.Agreement.{framed}
use Rattle.pif_model_simulation.proofs.Entries.{walks-pending, walks-listed, walked}
use Rattle.pif_model_simulation.proofs.Lined.{tl, tr}
use Rattle.pif_model_simulation.proofs.ends.Ended.{gone, t_some, line_gone, list_gone, gone_sound, gone_kernel, gone_frames, gone_shown}
use Rattle.pif_model_simulation.proofs.ends.Dying.{IsDead, HasPassed, passes_to_nobody, passes_to_next}

-- a conjunction that holds
if_true : (a b : Bool) → (if a then b else false) ≡ true → (a ≡ true) × (b ≡ true)
if_true true b e = (refl, e)
if_true false b e = absurd (true≢false (sym e))

-- a number that is this one or none
if_some : (r : Bool) (j n : ℕ) → n ≡ (if r then j else 0) → n ≢ 0 → (r ≡ true) × (n ≡ j)
if_some true j n e z = (refl, e)
if_some false j n e z = absurd (z e)

-- a robust mutex was added
robust-added : {s : Table} → IsShaped s → (m : ℕ) → (library_at s m).robust ≡ true → has_mutex s m ≡ true
robust-added {s} shape m r = go (cases_eq m 0) (cases_lt m (length s.mutexes))
  where
    go : (m ≡ 0) ⊎ (m ≢ 0) → (m < length s.mutexes) ⊎ (length s.mutexes ≤ m) → has_mutex s m ≡ true
    go (inl z) l = absurd (true≢false (sym r ∙ ap (λ j. (library_at s j).robust) z
        ∙ ap (λ (x : LibraryMutex). x.robust) shape.no_mutex))
    go (inr z) (inl l) = from_within m (length s.mutexes) z l
    go (inr z) (inr k) = absurd (true≢false (sym r ∙ ap (λ (x : LibraryMutex). x.robust)
        (get_or_past s.mutexes m (new_mutex Normal false) k)))

-- at the last steps of giving a mutex up the pending field names it
last-named : (x : GiveStep) → is_last x ≡ true → is_named_giving x ≡ true
last-named Release e = refl
last-named CallUnlock e = refl
last-named _ e = absurd (true≢false (sym e))

-- at an unlinked place the pending field names the mutex
unlinked-pending : (p : Place) → is_unlinked p ≡ true → is_pending p ≡ true
unlinked-pending StayQueued e = refl
unlinked-pending (Take x) e = refl
unlinked-pending (Link x a) e = refl
unlinked-pending (Give x y) e = last-named x e
unlinked-pending StayParked e = refl
unlinked-pending _ e = absurd (true≢false (sym e))

pending_line : (l : Line) → mutex_by is_unlinked l ≢ 0 → mutex_by is_pending l ≡ mutex_by is_unlinked l
pending_line Idle z = refl
pending_line (At q p) z = by_test (λ b. is_unlinked p ≡ b
    → (if is_pending p then named_by q else 0) ≡ (if is_unlinked p then named_by q else 0)) (is_unlinked p)
    (λ e _. (λ i. if (unlinked-pending p e ∙ sym e) i then named_by q else 0))
    (λ e _. absurd (z (ap (λ b. if b then named_by q else 0) e))) refl

-- a mutex that a line names was added
line_named : (s : Table) (t : ℕ) (l : Line) → LineIsSound s t l → (test : Place → Bool) → mutex_by test l ≢ 0
    → has_mutex s (mutex_by test l) ≡ true
line_named s t Idle h test z = absurd (z refl)
line_named s t (At q p) h test z = by_test (λ b. (if b then named_by q else 0) ≢ 0
    → has_mutex s (if b then named_by q else 0) ≡ true) (test p)
    (λ _ n. named_added (has_mutex s) (has_cond s) q h.named n) (λ _ n. absurd (n refl)) z

module _ (s : Table) (t : ℕ) (h : IsSound s) (known : is_living s.kernel t ≡ true) where
  abbrev row : RobustRow
  row = robust_at s.lists t

  -- t's robust list is that of its line
  list : ListIsSound s t (line_at s t)
  list = (each_thread h t known).list

  -- the walk goes through robust mutexes
  walk_robust : (m : ℕ) → has_entry (walk_of row) m ≡ true → (has_mutex s m ≡ true) × ((library_at s m).robust ≡ true)
  walk_robust m e = go (walked row m e)
    where
      go : (has_entry row.listed m ≡ true) ⊎ ((m ≡ row.pending) × (row.pending ≢ 0))
          → (has_mutex s m ≡ true) × ((library_at s m).robust ≡ true)
      go (inl l) =
          let a = if_true (holds_robust s t m) (if m == mutex_by is_unlinked (line_at s t) then false else true)
          (sym (list.listed m) ∙ l) in
          let b = if_true (has_mutex s m) (if (library_at s m).robust then (word_at s.words m).number == t else false)
          a.0 in
          (b.0, (if_true (library_at s m).robust ((word_at s.words m).number == t) b.1).0)
      go (inr p) =
          let j : ℕ = mutex_by is_pending (line_at s t) in
          let a = if_some (library_at s j).robust j row.pending list.pending p.1 in
          let e : m ≡ j = p.0 ∙ a.1 in (
            ap (has_mutex s) e ∙ line_named s t (line_at s t) (each_thread h t known).line is_pending
                (λ z. p.1 (a.1 ∙ z)),
            ap (λ i. (library_at s i).robust) e ∙ a.0,
          )

  -- and through all that t owns
  walk_covers : (m : ℕ) → has_mutex s m ≡ true → (library_at s m).robust ≡ true → (word_at s.words m).number ≡ t
      → has_entry (walk_of row) m ≡ true
  walk_covers m e r o = go (cases_eq m (mutex_by is_unlinked (line_at s t)))
    where
      z : m ≢ 0
      z = above_0 m (length s.mutexes) e

      holds : holds_robust s t m ≡ true
      holds = rw (e, r, eq-eqb (word_at s.words m).number t o) refl

      go : (m ≡ mutex_by is_unlinked (line_at s t)) ⊎ (m ≢ mutex_by is_unlinked (line_at s t))
          → has_entry (walk_of row) m ≡ true
      go (inl q) = walks-pending row m (sym (list.pending
          ∙ ap (λ j. if (library_at s j).robust then j else 0) (pending_line (line_at s t) (λ y. z (q ∙ y)) ∙ sym q)
          ∙ ap (λ b. if b then m else 0) r)) z
      go (inr d) = walks-listed row m z (list.listed m ∙ ap
          (λ b. if b then (if m == mutex_by is_unlinked (line_at s t) then false else true) else false) holds
          ∙ ap (λ b. if b then false else true) (ne_eqb m (mutex_by is_unlinked (line_at s t)) d))

  -- the table with these words, this kernel and this library
  abbrev at_system : System → List LibraryMutex → Table
  at_system x ls = record (gone s t h known) { words = x.words; kernel = x.kernel; mutexes = ls }

  -- what holds before these mutexes pass on
  record Walks (x : System) (ls : List LibraryMutex) (ms : List ℕ) : Type 0 where
    dead : IsDead (at_system x ls) t
    entries : (m : ℕ) → has_entry ms m ≡ true → (has_mutex (at_system x ls) m ≡ true)
        × ((library_at (at_system x ls) m).robust ≡ true)
    covers : (m : ℕ) → has_mutex (at_system x ls) m ≡ true → (library_at (at_system x ls) m).robust ≡ true
        → (word_at x.words m).number ≡ t → has_entry ms m ≡ true
    owned : (m : ℕ) → (word_at x.words m).number ≡ t → (word_at s.words m).number ≡ t
    once : (m : ℕ) → (word_at s.words m).number ≡ t → (word_at x.words m).number ≢ t
        → (library_at (at_system x ls) m).count ≡ 1

  -- what holds after
  record Walked (x : System) (ls : List LibraryMutex) (x' : System) (ls' : List LibraryMutex) : Type 0 where
    dead : IsDead (at_system x' ls') t
    none : (m : ℕ) → has_mutex (at_system x' ls') m ≡ true → (library_at (at_system x' ls') m).robust ≡ true
        → (word_at x'.words m).number ≡ t → ⊥
    releases : (y : HistoryVariables) → Releases t (world_of (at_system x ls) y) (world_of (at_system x' ls') y)
    agrees : (y : HistoryVariables) → Agrees (at_system x ls) y → Agrees (at_system x' ls') y

  -- another than the first
  entry_rest : (m j : ℕ) (ms : List ℕ) → j ≢ m → has_entry (m ∷ ms) j ≡ true → has_entry ms j ≡ true
  entry_rest m j ms d e = sym (ap (λ b. b || has_entry ms j) (ne_eqb j m d)) ∙ e

  entry_more : (m j : ℕ) (ms : List ℕ) → has_entry ms j ≡ true → has_entry (m ∷ ms) j ≡ true
  entry_more m j ms e = by_test (λ b. (b || has_entry ms j) ≡ true) (j == m) (λ _. refl) (λ _. e)

  entry_first : (m : ℕ) (ms : List ℕ) → has_entry (m ∷ ms) m ≡ true
  entry_first m ms = ap (λ b. b || has_entry ms m) (eq-eqb m m refl)

  module _ (m : ℕ) (ms : List ℕ) (x : System) (ls : List LibraryMutex) (w : Walks x ls (m ∷ ms)) where
    -- if m has passed on, what holds before the rest
    walks_on : (x1 : System) (ls1 : List LibraryMutex) → (word_at x.words m).number ≡ t
        → HasPassed (at_system x ls) (at_system x1 ls1) t m → Walks x1 ls1 ms
    walks_on x1 ls1 own p = record {
      dead = p.dead;
      entries = λ j e. (let a = w.entries j (entry_more m j ms e) in (p.mutexes j ∙ a.0, p.robust j ∙ a.1));
      covers = λ j e r o. (
          let d : j ≢ m = (λ q. p.number (ap (λ i. (word_at x1.words i).number) (sym q) ∙ o)) in
          entry_rest m j ms d (w.covers j (sym (p.mutexes j) ∙ e) (sym (p.robust j) ∙ r)
          (sym (ap (λ (c : Cell). c.word.number) (p.cells j d)) ∙ o))
          );
      owned = λ j o. (
          let d : j ≢ m = (λ q. p.number (ap (λ i. (word_at x1.words i).number) (sym q) ∙ o)) in
          w.owned j (sym (ap (λ (c : Cell). c.word.number) (p.cells j d)) ∙ o)
          );
      once = λ j o n. by_mutex j o n (cases_eq j m);
    }
      where
        by_mutex : (j : ℕ) → (word_at s.words j).number ≡ t → (word_at x1.words j).number ≢ t → (j ≡ m) ⊎ (j ≢ m)
            → (library_at (at_system x1 ls1) j).count ≡ 1
        by_mutex j o n (inl q) = ap (λ i. (library_at (at_system x1 ls1) i).count) q ∙ p.count
        by_mutex j o n (inr d) = ap (λ (c : Cell). c.count) (p.cells j d)
            ∙ w.once j o (λ z. n (ap (λ (c : Cell). c.word.number) (p.cells j d) ∙ z))

    -- and what holds after the rest
    walked_on : (x1 : System) (ls1 : List LibraryMutex) {x' : System} {ls' : List LibraryMutex}
        → (word_at x.words m).number ≡ t
        → HasPassed (at_system x ls) (at_system x1 ls1) t m → Walked x1 ls1 x' ls' → Walked x ls x' ls'
    walked_on x1 ls1 own p a = record {
      dead = a.dead;
      none = a.none;
      releases = λ y. one_more m (ap (λ (z : Mutex). z.owner) (mutex_seen w.dead.sound.shape y m) ∙ own)
          (ap (λ (z : Mutex). z.robust) (mutex_seen w.dead.sound.shape y m) ∙ (w.entries m (entry_first m ms)).1)
          (p.passes y) (a.releases y);
      agrees = λ y f. a.agrees y (framed p.frames y f);
    }

    -- if m is not t's, nothing changes
    walks_past : (word_at x.words m).number ≢ t → Walks x ls ms
    walks_past n = record {
      dead = w.dead;
      entries = λ j e. w.entries j (entry_more m j ms e);
      covers = λ j e r o. entry_rest m j ms (λ q. n (ap (λ i. (word_at x.words i).number) (sym q) ∙ o))
          (w.covers j e r o);
      owned = w.owned;
      once = w.once;
    }

    -- m is there, and has a word
    word_there : has_word x.words m ≡ true
    word_there =
        let e = (w.entries m (entry_first m ms)).0 in
        from_within m (length x.words.mutexes) (above_0 m (length ls) e)
        (omega (arith, below m (length ls) e, w.dead.sound.shape.words, w.dead.sound.shape.few_mutexes))

  -- what none of these owns of t passes on
  walks_none : (x : System) (ls : List LibraryMutex) → Walks x ls [] → Walked x ls x ls
  walks_none x ls w = record {
    dead = w.dead;
    none = λ m e r o. true≢false (sym (w.covers m e r o));
    releases = λ y. none_left (λ m o. stalled m y o) refl;
    agrees = λ y f. f;
  }
    where
      stalled : (m : ℕ) (y : HistoryVariables) → (mutex_at (world_of (at_system x ls) y) m).owner ≡ t
          → (mutex_at (world_of (at_system x ls) y) m).robust ≡ false
      stalled m y o = ap (λ (z : Mutex). z.robust) (mutex_seen w.dead.sound.shape y m)
          ∙ by_test (λ b. (library_at (at_system x ls) m).robust ≡ b → b ≡ false) (library_at (at_system x ls) m).robust
          (λ _ r. absurd (true≢false (sym (w.covers m (robust-added w.dead.sound.shape m r) r
          (sym (ap (λ (z : Mutex). z.owner) (mutex_seen w.dead.sound.shape y m)) ∙ o)))))
          (λ _ _. refl) refl

  -- one passes on, and then the rest
  walk_step : (m : ℕ) (ms : List ℕ) (x : System) (ls : List LibraryMutex) → Walks x ls (m ∷ ms)
      → ((x1 : System) (ls1 : List LibraryMutex) → Walks x1 ls1 ms
      → Walked x1 ls1 (after_deaths t ms x1) (library_after_end t ms s.words ls1))
      → Walked x ls (after_deaths t ms (after_death t m x))
      (library_after_end t ms s.words (if (word_at s.words m).number == t then set ls m
      (record (get_or ls m (new_mutex Normal false)) { count = 1 }) else ls))
  walk_step m ms x ls w rest = go (cases_eq (word_at x.words m).number t)
    where
      named : has_mutex (at_system x ls) m ≡ true
      named = (w.entries m (entry_first m ms)).0

      robust : (library_at (at_system x ls) m).robust ≡ true
      robust = (w.entries m (entry_first m ms)).1

      c : CellIsSound (has_thread (at_system x ls)) (has_waiter x.kernel.waiters m) (cell_at (at_system x ls) m)
      c = w.dead.sound.mutexes m named

      nobody : (word_at x.words m).number ≡ t → has_waiter x.kernel.waiters m ≡ false
          → Walked x ls (after_deaths t ms (after_death t m x))
          (library_after_end t ms s.words (set ls m (record (get_or ls m (new_mutex Normal false)) { count = 1 })))
      nobody own alone =
          let p = passes_to_nobody (at_system x ls) t m w.dead named robust own alone in
          let l : List LibraryMutex = set ls m (record (get_or ls m (new_mutex Normal false)) { count = 1 }) in
          subst (λ z. Walked x ls (after_deaths t ms z) (library_after_end t ms s.words l))
          (sym (death-orphaned t m x (word_there m ms x ls w) own
          (c.state ∙ ap (λ b. if b then (word_at x.words m).number else 0) alone)))
          (walked_on m ms x ls w (orphaned t m x) l own p
          (rest (orphaned t m x) l (walks_on m ms x ls w (orphaned t m x) l own p)))

      next : (word_at x.words m).number ≡ t → has_waiter x.kernel.waiters m ≡ true
          → Walked x ls (after_deaths t ms (after_death t m x))
          (library_after_end t ms s.words (set ls m (record (get_or ls m (new_mutex Normal false)) { count = 1 })))
      next own waited =
          let e : state_at x.kernel m ≡ t = c.state ∙ ap (λ b. if b then (word_at x.words m).number else 0) waited
          ∙ own in
          let some : state_at x.kernel m ≢ 0 = (λ z. w.dead.somebody (sym e ∙ z)) in
          let p = passes_to_next (at_system x ls) t m w.dead named robust own some in
          let l : List LibraryMutex = set ls m (record (get_or ls m (new_mutex Normal false)) { count = 1 }) in
          subst (λ z. Walked x ls (after_deaths t ms z) (library_after_end t ms s.words l))
          (sym (death-inherited t m x (word_there m ms x ls w) own some e))
          (walked_on m ms x ls w (inherited t m x) l own p
          (rest (inherited t m x) l (walks_on m ms x ls w (inherited t m x) l own p)))

      -- of a mutex that is not t's any more, the library has this already
      library_same : (word_at x.words m).number ≢ t → (if (word_at s.words m).number == t then set ls m
          (record (get_or ls m (new_mutex Normal false)) { count = 1 }) else ls) ≡ ls
      library_same n = by_test (λ b. ((word_at s.words m).number == t) ≡ b
          → (if b then set ls m (record (get_or ls m (new_mutex Normal false)) { count = 1 }) else ls) ≡ ls)
          ((word_at s.words m).number == t)
          (λ e _. subst (λ a. set ls m (record (get_or ls m (new_mutex Normal false)) { count = a }) ≡ ls)
          (w.once m (eqb-true (word_at s.words m).number t e) n) (set-get_or ls m (new_mutex Normal false)))
          (λ _ _. refl) refl

      go : ((word_at x.words m).number ≡ t) ⊎ ((word_at x.words m).number ≢ t)
          → Walked x ls (after_deaths t ms (after_death t m x))
          (library_after_end t ms s.words (if (word_at s.words m).number == t then set ls m
          (record (get_or ls m (new_mutex Normal false)) { count = 1 }) else ls))
      go (inl own) = subst (λ b. Walked x ls (after_deaths t ms (after_death t m x))
          (library_after_end t ms s.words (if b then set ls m
          (record (get_or ls m (new_mutex Normal false)) { count = 1 }) else ls)))
          (sym (eq-eqb (word_at s.words m).number t (w.owned m own)))
          (by_test (λ b. has_waiter x.kernel.waiters m ≡ b
          → Walked x ls (after_deaths t ms (after_death t m x))
          (library_after_end t ms s.words (set ls m (record (get_or ls m (new_mutex Normal false)) { count = 1 }))))
          (has_waiter x.kernel.waiters m) (λ e _. next own e) (λ e _. nobody own e) refl)
      go (inr n) = subst (λ z. Walked x ls (after_deaths t ms z)
          (library_after_end t ms s.words (if (word_at s.words m).number == t then set ls m
          (record (get_or ls m (new_mutex Normal false)) { count = 1 }) else ls)))
          (sym (death-other_number t m x n))
          (subst (λ l. Walked x ls (after_deaths t ms x) (library_after_end t ms s.words l)) (sym (library_same n))
          (rest x ls (walks_past m ms x ls w n)))

  -- they all pass on
  walks : (ms : List ℕ) (x : System) (ls : List LibraryMutex) → Walks x ls ms
      → Walked x ls (after_deaths t ms x) (library_after_end t ms s.words ls)
  unfolding after_deaths library_after_end
  walks [] x ls w = walks_none x ls w
  walks (m ∷ ms) x ls w = walk_step m ms x ls w (λ x1 ls1 w1. walks ms x1 ls1 w1)

  -- THE END

  added : has_thread s t ≡ true
  added = living-added s.kernel t known

  -- words and kernel before anything has passed on
  abbrev start : System
  start = record { words = s.words; kernel = kernel_after_leaving t s.kernel }

  -- what holds then
  walks_first : Walks start s.mutexes (walk_of row)
  walks_first = record {
    dead = record {
      sound = gone_sound s t h known;
      kernel = gone_kernel s t h known;
      somebody = t_some s t h known;
      lined = subst (λ n. t < n) (sym (length-set s.lines t Idle)) (tl s t Idle h known);
      row = subst (λ n. t < n) (sym (length-set s.lists.threads t no_robust_row)) (tr s t Idle h known);
      line = line_gone s t h known;
      list = list_gone s t h known;
      status = status-left_same Ended t s.kernel added;
      gone = living-left_same Ended t s.kernel added;
    };
    entries = walk_robust;
    covers = walk_covers;
    owned = λ m o. o;
    once = λ m o n. absurd (n o);
  }

  last : Walked start s.mutexes (after_deaths t (walk_of row) start)
      (library_after_end t (walk_of row) s.words s.mutexes)
  last = walks (walk_of row) start s.mutexes walks_first

  -- the table then
  abbrev finish : Table
  finish = at_system (after_deaths t (walk_of row) start) (library_after_end t (walk_of row) s.words s.mutexes)

  finish_sound : IsSound finish
  finish_sound = record {
    all = admit (λ u. ⊥) t (λ u e. inl e)
        (may_be_gone last.dead.gone (λ m e r z o. last.none m e r o)
        (record { line = last.dead.line; list = last.dead.list }))
        last.dead.sound;
    kernel = last.dead.kernel;
  }

  -- the end of a thread is an entry of the POSIX machine, and keeps the invariant
  pub end_kept : table_refusal s (End t) ≡ None → Keeps s (Happened (End t) SeenEnded) (ended_table t s)
  unfolding ended_table
  end_kept e = record {
    sound = finish_sound;
    limits = refl;
    shows = λ y a. (
      y,
      last.agrees y (framed (gone_frames s t h known) y a),
      ended_rule t refl (record {
        allowed = refusal_seen h.all.shape y (End t) ∙ e;
        releases = subst (λ w. Releases t w (world_of finish y)) (gone_shown s t h known y) (last.releases y);
      }),
    );
  }
