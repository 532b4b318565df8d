-- What a local line has to show of its thread's robust list, by its place; and the local lines that leave their mutex
-- as it is: the call goes on, or is answered.
use Rattle.std.proofs.Common.{◌≡◌, ◌≢◌, ℕ, Bool, true, false, ◌==◌, length, set, inl, refl, true≢false, sym, ap, ap₂, ◌∙◌, subst, arith, if◌then◌else◌, eq-eqb, ne_eqb}
use Rattle.std.proofs.lemmas.List.{set-get_or}
use Rattle.pif_types.specs.declared.requests.Request.{Request}
use Rattle.pif_model.specs.declared.events.Seen.{Seen}
use Rattle.pif_model.specs.declared.events.Seen.TheVariants.{Went, Answered}
use Rattle.pif_model.specs.declared.lines.Line.{Line}
use Rattle.pif_model.specs.declared.lines.Line.TheVariants.{Idle, At}
use Rattle.pif_model.specs.declared.lines.Place.{Place}
use Rattle.pif_model.specs.Graph.{has_waiter}
use Rattle.pif_model.specs.Word.{word_at, health_word_at}
use Rattle.pif_model.specs.Posix.{Effect, Effects, Progress, is_blocked, no_mutex, named_by, with_mutex, with_progress}
use Rattle.pif_model.specs.World.Progress.{Has}
use Rattle.pif_model.specs.Posix.Effects.{none, then as first}
use Rattle.pif_model.specs.PiKernel.{is_ready, is_living}
use Rattle.pif_model.specs.RobustList.{RobustRow, has_entry, robust_at, is_listed, with_robust}
use Rattle.pif_model.specs.Table.{Table, Cell, has_mutex, status_at, library_at, cell_at}
use Rattle.pif_model.specs.Lines.{goes_to, answers, with_pending_field, clears}
use Rattle.pif_model.specs.Projection.{HistoryVariables, world_of, may_enlist}
use Rattle.pif_model.specs.Soundness.{use_at, MeetsAll, needs, belongs, CellIsSound, mutex_by, robust_by, is_pending, is_half_linked, is_unlinked, is_unsettled}
use Rattle.pif_model_lemmas.proofs.Numbers.{above_0}
use Rattle.pif_model_lemmas.proofs.Waiting.{by_test}
use Rattle.pif_model_simulation.proofs.Kept.{Spares, unwritten}
use Rattle.pif_model_simulation.proofs.Shown.{mutex_seen}
use Rattle.pif_model_simulation.proofs.Written.{mutex_of, written_is, same_word, same_health, same_library, same_list}
use Rattle.pif_model_simulation.proofs.Does.{Does}
use Rattle.pif_model_simulation.proofs.Does.Does.{nothing}
use Rattle.pif_model_simulation.proofs.Steps.{KeepsGo, GoKeeps, Going, progress_of}
use Rattle.pif_model_simulation.proofs.Agreement.{Follows, quiet}
use Rattle.pif_model_simulation.proofs.Local.{Move, moved, IsLocal, ListsAfter, NamesOnly, going_cell, going_list, going_settled, local_kept, local_by}

-- whether a line is at a place that passes this test
abbrev pub at_line : (Place → Bool) → Line → Bool
at_line test Idle = false
at_line test (At q p) = test p

-- the same either way
either : (b : Bool) (n : ℕ) → (if b then n else n) ≡ n
either true n = refl
either false n = refl

-- what has to be shown of the robust list of t after a line that goes to l and leaves the robust mutex m as the cell c
pub record RowAfter (s : Table) (t m : ℕ) (c : Cell) (l : Line) (r : RobustRow) : Type 0 where
  pub pending : r.pending ≡ (if at_line is_pending l then m else 0)
  pub half_linked : r.half_linked ≡ (if at_line is_half_linked l then m else 0)
  pub others : (j : ℕ) → j ≢ m → has_entry r.listed j ≡ is_listed s.lists t j
  pub own : has_entry r.listed m ≡ (if c.word.number == t then (if at_line is_unlinked l then false else true)
      else false)
  pub settled : c.word.number ≡ t → at_line is_unsettled l ≡ false → (c.word.died ≡ false) × (c.health ≢ 2)

module _ {s : Table} {t : ℕ} {q : Request} {p : Place} (g : Going s t q p)
    (named : has_mutex s (named_by q) ≡ true) where
  abbrev m : ℕ
  m = named_by q

  m0 : m ≢ 0
  m0 = above_0 m (length s.mutexes) named

  -- THE ROBUST LIST

  -- the mutex of a line that names only m
  mutex_of_line : (test : Place → Bool) (l : Line) → NamesOnly m l → mutex_by test l ≡ (if at_line test l then m else 0)
  mutex_of_line test Idle n = refl
  mutex_of_line test (At r b) n = ap (λ j. if test b then j else 0) n

  -- what it is if m is robust
  robust_of_line : (test : Place → Bool) (l : Line) → NamesOnly m l → (library_at s m).robust ≡ true
      → robust_by test s l ≡ (if at_line test l then m else 0)
  robust_of_line test l n r =
      ap (λ j. if (library_at s j).robust then j else 0) (mutex_of_line test l n)
      ∙ by_test (λ b. (if (library_at s (if b then m else 0)).robust then (if b then m else 0) else 0)
      ≡ (if b then m else 0))
      (at_line test l) (λ _. ap (λ b. if b then m else 0) r) (λ _. either (library_at s 0).robust 0)

  -- and if it is stalled
  stalled_of_line : (test : Place → Bool) (l : Line) → NamesOnly m l → (library_at s m).robust ≡ false
      → robust_by test s l ≡ 0
  stalled_of_line test l n r =
      ap (λ j. if (library_at s j).robust then j else 0) (mutex_of_line test l n)
      ∙ by_test (λ b. (if (library_at s (if b then m else 0)).robust then (if b then m else 0) else 0) ≡ 0)
      (at_line test l) (λ _. ap (λ b. if b then m else 0) r) (λ _. either (library_at s 0).robust 0)

  -- whether m is not the mutex of a line
  not_of_line : (test : Place → Bool) (l : Line) → NamesOnly m l
      → (if m == mutex_by test l then false else true) ≡ (if at_line test l then false else true)
  not_of_line test l n =
      ap (λ j. if m == j then false else true) (mutex_of_line test l n)
      ∙ by_test (λ b. (if m == (if b then m else 0) then false else true) ≡ (if b then false else true))
      (at_line test l)
      (λ _. ap (λ x. if x then false else true) (eq-eqb m m refl))
      (λ _. ap (λ x. if x then false else true) (ne_eqb m 0 m0))

  -- t's robust list now, if m is robust
  pub row_pending : (library_at s m).robust ≡ true → (robust_at s.lists t).pending ≡ (if is_pending p then m else 0)
  row_pending r = (going_list g named).pending ∙ robust_of_line is_pending (At q p) refl r

  pub row_half_linked : (library_at s m).robust ≡ true
      → (robust_at s.lists t).half_linked ≡ (if is_half_linked p then m else 0)
  row_half_linked r = (going_list g named).half_linked ∙ robust_of_line is_half_linked (At q p) refl r

  pub row_own : (library_at s m).robust ≡ true → has_entry (robust_at s.lists t).listed m
      ≡ (if (word_at s.words m).number == t then (if is_unlinked p then false else true) else false)
  row_own r =
      (going_list g named).listed m
      ∙ ap₂ (λ x y. if (if x then (if y then (word_at s.words m).number == t else false) else false)
      then (if m == mutex_by is_unlinked (At q p) then false else true) else false) named r
      ∙ ap (λ x. if (word_at s.words m).number == t then x else false) (not_of_line is_unlinked (At q p) refl)

  -- m is not on it, if it is another's
  pub row_unowned : (library_at s m).robust ≡ true → (word_at s.words m).number ≢ t
      → has_entry (robust_at s.lists t).listed m ≡ false
  row_unowned r d = row_own r ∙ ap (λ b. if b then (if is_unlinked p then false else true) else false)
      (ne_eqb (word_at s.words m).number t d)

  -- and is if it is t's as the place has it
  pub row_owned : (library_at s m).robust ≡ true → (word_at s.words m).number ≡ t
      → has_entry (robust_at s.lists t).listed m ≡ (if is_unlinked p then false else true)
  row_owned r o = row_own r ∙ ap (λ b. if b then (if is_unlinked p then false else true) else false)
      (eq-eqb (word_at s.words m).number t o)

  -- what t owns is in order so far
  pub settled_so_far : is_unsettled p ≡ false → (word_at s.words m).number ≡ t
      → ((word_at s.words m).died ≡ false) × (health_word_at s.words m ≢ 2)
  settled_so_far u own = going_settled g named m named own (λ e. m0 (e ∙ ap (λ b. if b then m else 0) u))

  -- after a line, if m is robust
  pub robust_lists : {c : Cell} {l : Line} {r : RobustRow} → NamesOnly m l → (library_at s m).robust ≡ true
      → c.robust ≡ true → RowAfter s t m c l r → ListsAfter s t m c l r
  robust_lists {c} {l} {r} n e f a = record {
    pending = a.pending ∙ sym (robust_of_line is_pending l n e);
    half_linked = a.half_linked ∙ sym (robust_of_line is_half_linked l n e);
    others = a.others;
    own = a.own ∙ sym (ap₂ (λ x y. if (if x then c.word.number == t else false) then y else false) f
        (not_of_line is_unlinked l n));
    settled = λ o d. a.settled o (by_test (λ b. at_line is_unsettled l ≡ b → b ≡ false) (at_line is_unsettled l)
        (λ _ x. absurd (d (sym (mutex_of_line is_unsettled l n ∙ ap (λ b. if b then m else 0) x)))) (λ _ _. refl) refl);
  }

  -- and if it is stalled
  pub stalled_lists : {c : Cell} {l : Line} → NamesOnly m l → (library_at s m).robust ≡ false → c.robust ≡ false
      → (c.word.died ≡ false) × (c.health ≡ 0) → ListsAfter s t m c l (robust_at s.lists t)
  stalled_lists {c} {l} n e f d = record {
    pending = (going_list g named).pending ∙ stalled_of_line is_pending (At q p) refl e
        ∙ sym (stalled_of_line is_pending l n e);
    half_linked = (going_list g named).half_linked ∙ stalled_of_line is_half_linked (At q p) refl e
        ∙ sym (stalled_of_line is_half_linked l n e);
    others = λ j x. refl;
    own = (going_list g named).listed m
        ∙ ap₂ (λ x y. if (if x then (if y then (word_at s.words m).number == t else false) else false)
        then (if m == mutex_by is_unlinked (At q p) then false else true) else false) named e
        ∙ sym (ap (λ x. if (if x then c.word.number == t else false)
        then (if m == mutex_by is_unlinked l then false else true) else false) f);
    settled = λ o x. (d.0, λ y. two d.1 y);
  }
    where
      two : c.health ≡ 0 → c.health ≡ 2 → ⊥
      two a b = omega arith

  -- after a line that leaves the list as it is, and leaves a sound mutex, by whether it is robust
  pub lists_by : {added : ℕ → Bool} {waited : Bool} {c : Cell} {l : Line} → NamesOnly m l
      → c.robust ≡ (library_at s m).robust
      → CellIsSound added waited c → ((library_at s m).robust ≡ true → RowAfter s t m c l (robust_at s.lists t))
      → ListsAfter s t m c l (robust_at s.lists t)
  lists_by {c = c} {l = l} n same sound row = by_test (λ b. (library_at s m).robust ≡ b
      → ListsAfter s t m c l (robust_at s.lists t))
      (library_at s m).robust (λ _ e. robust_lists n e (same ∙ e) (row e))
      (λ _ e. stalled_lists n e (same ∙ e) (sound.stalled (same ∙ e))) refl

  -- the list stays as it is if the places before and after have the same of it, whatever OWNER_DIED and the health
  -- word are then
  pub row_stated : {l : Line} (b : Bool) (h : ℕ) → (library_at s m).robust ≡ true → at_line is_pending l ≡ is_pending p
      → at_line is_half_linked l ≡ is_half_linked p → at_line is_unlinked l ≡ is_unlinked p
      → ((word_at s.words m).number ≡ t → at_line is_unsettled l ≡ false → (b ≡ false) × (h ≢ 2))
      → RowAfter s t m (record (cell_at s m) { word = record (word_at s.words m) { died = b }; health = h }) l
      (robust_at s.lists t)
  row_stated b h r pending half unlinked settled = record {
    pending = row_pending r ∙ sym (ap (λ x. if x then m else 0) pending);
    half_linked = row_half_linked r ∙ sym (ap (λ x. if x then m else 0) half);
    others = λ j x. refl;
    own = row_own r ∙ sym (ap (λ x. if (word_at s.words m).number == t then (if x then false else true) else false)
        unlinked);
    settled = settled;
  }

  -- and with the mutex as it is
  pub row_same : {l : Line} → (library_at s m).robust ≡ true → at_line is_pending l ≡ is_pending p
      → at_line is_half_linked l ≡ is_half_linked p → at_line is_unlinked l ≡ is_unlinked p
      → ((word_at s.words m).number ≡ t → at_line is_unsettled l ≡ false
      → ((word_at s.words m).died ≡ false) × (health_word_at s.words m ≢ 2))
      → RowAfter s t m (cell_at s m) l (robust_at s.lists t)
  row_same = row_stated (word_at s.words m).died (health_word_at s.words m)

  -- and if t has given m up that was not on it
  pub row_given : {c : Cell} {l : Line} → (library_at s m).robust ≡ true → at_line is_pending l ≡ is_pending p
      → at_line is_half_linked l ≡ is_half_linked p → is_unlinked p ≡ true → (word_at s.words m).number ≡ t
      → c.word.number ≢ t
      → RowAfter s t m c l (robust_at s.lists t)
  row_given {c} {l} r a b u o e = record {
    pending = row_pending r ∙ sym (ap (λ x. if x then m else 0) a);
    half_linked = row_half_linked r ∙ sym (ap (λ x. if x then m else 0) b);
    others = λ j x. refl;
    own = row_owned r o ∙ ap (λ x. if x then false else true) u
        ∙ sym (ap (λ x. if x then (if at_line is_unlinked l then false else true) else false)
        (ne_eqb c.word.number t e));
    settled = λ o. absurd (e o);
  }

  -- and if t owns m neither before nor after
  pub row_other : {c : Cell} {l : Line} → (library_at s m).robust ≡ true → at_line is_pending l ≡ is_pending p
      → at_line is_half_linked l ≡ is_half_linked p → (word_at s.words m).number ≢ t → c.word.number ≢ t
      → RowAfter s t m c l (robust_at s.lists t)
  row_other {c} {l} r a b d e = record {
    pending = row_pending r ∙ sym (ap (λ x. if x then m else 0) a);
    half_linked = row_half_linked r ∙ sym (ap (λ x. if x then m else 0) b);
    others = λ j x. refl;
    own = row_unowned r d
        ∙ sym (ap (λ x. if x then (if at_line is_unlinked l then false else true) else false)
        (ne_eqb c.word.number t e));
    settled = λ o. absurd (e o);
  }

  -- LINES THAT LEAVE THEIR MUTEX

  -- a move that leaves the mutex as it was
  abbrev still : Seen → Line → RobustRow → Move
  still seen l r = record {
    seen = seen;
    line = l;
    row = r;
    word = word_at s.words m;
    health = health_word_at s.words m;
    count = (library_at s m).count;
  }

  -- leaves all but t's line and list
  still_table : (seen : Seen) (l : Line) (r : RobustRow)
      → moved t m (still seen l r) s ≡ record s { lists = with_robust t r s.lists; lines = set s.lines t l }
  still_table seen l r = written_is t m l r (word_at s.words m) (health_word_at s.words m)
      (library_at s m).count s.kernel s
      (same_word s m) (same_health s m) refl (same_library s m)

  -- and all but t's line, if the list stays
  still_line : (seen : Seen) (l : Line)
      → moved t m (still seen l (robust_at s.lists t)) s ≡ record s { lines = set s.lines t l }
  still_line seen l = written_is t m l (robust_at s.lists t) (word_at s.words m) (health_word_at s.words m)
      (library_at s m).count s.kernel s (same_word s m) (same_health s m) (same_list s t) (same_library s m)

  -- nobody is touched then
  spares_still : (u : ℕ) → u ≢ t → u ≢ 0 → Spares (is_living s.kernel) (is_living s.kernel) u (cell_at s m)
      (cell_at s m)
  spares_still u d z = unwritten (is_living s.kernel) u (cell_at s m) (cell_at s m) refl

  -- going on is local
  goes_is_local : (b : Place) → Follows (At q p) (At q b) → (r : RobustRow) → is_ready (status_at s t) ≡ true → belongs q b ≡ true
      → progress_of s t q b ≡ progress_of s t q p
      → MeetsAll (is_living s.kernel) t (status_at s t) (cell_at s m) (use_at s q) (needs b)
      → ListsAfter s t m (cell_at s m) (At q b) r
      → IsLocal s t m q p (progress_of s t q p) (still Went (At q b) r)
  goes_is_local b follows r ready ours same met lists = record {
    ready = ready;
    knows = (refl, ours, met);
    lists = lists;
    cell = going_cell g named;
    alive = λ e z n. g.sound.all.alive m named e z (λ x. x);
    spares = spares_still;
    health = inl refl;
    shows = (b, refl, same);
    follows = follows;
    blocked = λ j e. e;
  }

  -- to go on at a place if all that the call rests on is met, with no effect and with this robust list
  pub goes_listed : (b : Place) → Follows (At q p) (At q b) → (r : RobustRow) → is_ready (status_at s t) ≡ true → belongs q b ≡ true
      → progress_of s t q b ≡ progress_of s t q p
      → MeetsAll (is_living s.kernel) t (status_at s t) (cell_at s m) (use_at s q) (needs b)
      → ListsAfter s t m (cell_at s m) (At q b) r
      → KeepsGo s t Went (record s { lists = with_robust t r s.lists; lines = set s.lines t (At q b) })
  goes_listed b follows r ready ours same met lists = subst (KeepsGo s t Went) (still_table Went (At q b) r)
      (local_kept g named (progress_of s t q p) (still Went (At q b) r)
      (goes_is_local b follows r ready ours same met lists) (nothing refl refl))

  -- and with the same one
  pub goes : (b : Place) → Follows (At q p) (At q b) → is_ready (status_at s t) ≡ true → belongs q b ≡ true
      → progress_of s t q b ≡ progress_of s t q p
      → MeetsAll (is_living s.kernel) t (status_at s t) (cell_at s m) (use_at s q) (needs b)
      → ((library_at s m).robust ≡ true → RowAfter s t m (cell_at s m) (At q b) (robust_at s.lists t))
      → GoKeeps s t (goes_to t q b s)
  goes b follows ready ours same met row = subst (KeepsGo s t Went) (still_line Went (At q b))
      (local_kept g named (progress_of s t q p) (still Went (At q b) (robust_at s.lists t))
      (goes_is_local b follows (robust_at s.lists t) ready ours same met (lists_by refl refl (going_cell g named) row))
      (nothing refl refl))

  -- answering is local
  answer_is_local : (n : ℕ) (r : RobustRow) → is_ready (status_at s t) ≡ true → ListsAfter s t m (cell_at s m) Idle r
      → IsLocal s t m q p (Has n) (still (Answered n) Idle r)
  answer_is_local n r ready lists = record {
    ready = ready;
    knows = ready;
    lists = lists;
    cell = going_cell g named;
    alive = λ e z n. g.sound.all.alive m named e z (λ x. x);
    spares = spares_still;
    health = inl refl;
    shows = (refl, refl);
    follows = quiet refl refl;
    blocked = λ j e. absurd (true≢false (sym e));
  }

  -- to answer with an effect on the call alone, which is one of those on a call and its mutex, and with this robust
  -- list
  pub answers_listed : (n : ℕ) (r : RobustRow) → is_ready (status_at s t) ≡ true
      → Does t m (has_waiter s.kernel.waiters m) q (progress_of s t q p)
      (mutex_of (cell_at s m)) (Has n) (mutex_of (cell_at s m))
      → ListsAfter s t m (cell_at s m) Idle r
      → KeepsGo s t (Answered n) (record s
      { lists = with_robust t r s.lists; lines = set s.lines t Idle })
  answers_listed n r ready does lists = subst (KeepsGo s t (Answered n)) (still_table (Answered n) Idle r)
      (local_kept g named (Has n) (still (Answered n) Idle r) (answer_is_local n r ready lists) does)

  -- and with the same one
  pub answers_local : (n : ℕ) → is_ready (status_at s t) ≡ true
      → Does t m (has_waiter s.kernel.waiters m) q (progress_of s t q p)
      (mutex_of (cell_at s m)) (Has n) (mutex_of (cell_at s m))
      → ((library_at s m).robust ≡ true → RowAfter s t m (cell_at s m) Idle (robust_at s.lists t))
      → GoKeeps s t (answers t n s)
  answers_local n ready does row = subst (KeepsGo s t (Answered n)) (still_line (Answered n) Idle)
      (local_kept g named (Has n) (still (Answered n) Idle (robust_at s.lists t))
      (answer_is_local n (robust_at s.lists t) ready (lists_by tt refl (going_cell g named) row)) does)

  -- a mutex is put where it stays
  pub mutex_stays : (y : HistoryVariables) → with_mutex m (mutex_of (cell_at s m)) (world_of s y) ≡ world_of s y
  mutex_stays y =
      ap (λ z. with_mutex m z (world_of s y)) (sym (mutex_seen g.sound.all.shape y m))
      ∙ (λ i. record (world_of s y) { mutexes = set-get_or (world_of s y).mutexes m no_mutex i })

  -- to answer with an effect of another kind on the call alone
  pub answers_alone : (n : ℕ) → is_ready (status_at s t) ≡ true
      → ((y : HistoryVariables) → Effect t (world_of s y) (with_progress t (Has n) (world_of s y)))
      → ((library_at s m).robust ≡ true → RowAfter s t m (cell_at s m) Idle (robust_at s.lists t))
      → GoKeeps s t (answers t n s)
  answers_alone n ready effect row = subst (KeepsGo s t (Answered n)) (still_line (Answered n) Idle)
      (local_by g named (Has n) (still (Answered n) Idle (robust_at s.lists t))
      (answer_is_local n (robust_at s.lists t) ready (lists_by tt refl (going_cell g named) row))
      (λ y. subst (λ x. Effects t (world_of s y) (world_of s y) (with_progress t (Has n) x)) (sym (mutex_stays y))
      (first (effect y) (none refl))))

  -- to go on with an effect of another kind on the call alone, after which it has come as far as a
  pub goes_alone : (a : Progress) (b : Place) → Follows (At q p) (At q b)
      → (may_enlist (At q p) ≡ false → is_blocked a ≡ true → is_blocked (progress_of s t q p) ≡ true)
      → is_ready (status_at s t) ≡ true → belongs q b ≡ true → progress_of s t q b ≡ a
      → MeetsAll (is_living s.kernel) t (status_at s t) (cell_at s m) (use_at s q) (needs b)
      → ((y : HistoryVariables) → Effect t (world_of s y) (with_progress t a (world_of s y)))
      → ((library_at s m).robust ≡ true → RowAfter s t m (cell_at s m) (At q b) (robust_at s.lists t))
      → GoKeeps s t (goes_to t q b s)
  goes_alone a b follows blocked ready ours has met effect row = subst (KeepsGo s t Went)
      (still_line Went (At q b))
      (local_by g named a (still Went (At q b) (robust_at s.lists t))
      (record {
        ready = ready;
        knows = (refl, ours, met);
        lists = lists_by refl refl (going_cell g named) row;
        cell = going_cell g named;
        alive = λ e z n. g.sound.all.alive m named e z (λ x. x);
        spares = spares_still;
        health = inl refl;
        shows = (b, refl, has);
        follows = follows;
        blocked = blocked;
      })
      (λ y. subst (λ x. Effects t (world_of s y) (world_of s y) (with_progress t a x)) (sym (mutex_stays y))
      (first (effect y) (none refl))))

  -- THE PENDING FIELD

  -- m is named in the pending field
  pub pending_kept : (b : Place) → Follows (At q p) (At q b) → is_ready (status_at s t) ≡ true → (library_at s m).robust ≡ true → belongs q b ≡ true
      → progress_of s t q b ≡ progress_of s t q p
      → MeetsAll (is_living s.kernel) t (status_at s t) (cell_at s m) (use_at s q) (needs b)
      → is_pending b ≡ true → is_half_linked p ≡ false → is_half_linked b ≡ false → is_unlinked b ≡ is_unlinked p
      → is_unsettled p ≡ false → GoKeeps s t (goes_to t q b (with_pending_field t m s))
  pending_kept b follows ready robust ours same met bp ph bh unlinked settled =
      goes_listed b follows (record (robust_at s.lists t) { pending = m }) ready ours same met
      (robust_lists refl robust robust (record {
        pending = sym (ap (λ x. if x then m else 0) bp);
        half_linked = row_half_linked robust ∙ ap (λ x. if x then m else 0) (ph ∙ sym bh);
        others = λ j x. refl;
        own = row_own robust ∙ sym (ap (λ x. if (word_at s.words m).number == t then (if x then false else true)
            else false) unlinked);
        settled = λ o u. settled_so_far settled o;
      }))

  -- the pending field is cleared, and the call answered
  pub clears_kept : (a : ℕ) → is_ready (status_at s t) ≡ true → (library_at s m).robust ≡ true
      → progress_of s t q p ≡ Has a → is_half_linked p ≡ false → is_unlinked p ≡ false
      → is_unsettled p ≡ false → GoKeeps s t (clears a t s)
  unfolding clears
  clears_kept a ready robust has ph unlinked settled =
      answers_listed a (record (robust_at s.lists t) { pending = 0 }) ready (nothing (sym has) refl)
      (robust_lists tt robust robust (record {
        pending = refl;
        half_linked = row_half_linked robust ∙ ap (λ x. if x then m else 0) ph;
        others = λ j x. refl;
        own = row_own robust ∙ ap (λ x. if (word_at s.words m).number == t then (if x then false else true)
            else false) unlinked;
        settled = λ o u. settled_so_far settled o;
      }))
