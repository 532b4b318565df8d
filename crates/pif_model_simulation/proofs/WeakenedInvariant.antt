-- The weakened invariant: one change of a table, of one mutex and of exempt threads, keeps it save for these. Every
-- step of the table is such a change, after which the exempt threads are admitted again.
use Rattle.std.proofs.Common.{◌≡◌, ◌≢◌, ◌≤◌, ℕ, nat_lt, length, get_or, Bool, true, false, ◌==◌, refl, sym, ap, ◌∙◌, subst, if◌then◌else◌, ◌⊎◌, inl, inr, true≢false, eq-eqb, ne_eqb}
use Rattle.std.specs.List.{list_any}
use Rattle.std.proofs.lemmas.Bool.{cases_eq}
use Rattle.pif_model.specs.Graph.{has_waiter}
use Rattle.pif_model.specs.Word.{word_at, health_word_at}
use Rattle.pif_model.specs.PiKernel.{Kernel, Parking, is_living}
use Rattle.pif_model.specs.RobustList.{RobustRow, robust_at, has_entry}
use Rattle.pif_model.specs.Table.{Table, Cell, has_thread, has_mutex, has_cond, bound_to, uses_of, status_at, line_at, library_at, cell_at}
use Rattle.pif_model.specs.Soundness.{LineIsSound, IsQueuedLine, IsParkedLine, CellIsSound, CondIsSound, ListIsSound, ThreadIsSound, AbsentIsSound, IsShaped, SoundExcept, IsSound, mutex_by, is_pending, is_half_linked, is_unlinked, is_unsettled, holds_robust}
use Rattle.pif_model_lemmas.proofs.Waiting.{by_test}
use Rattle.pif_model_simulation.proofs.Kept.{Spares, Uses, unwritten, line_spared}

-- whether a thread that is parked on c is to get m
abbrev pub aims : Kernel → ℕ → ℕ → Bool
aims k c m = list_any (λ (p : Parking). if p.cond == c then p.target == m else false) k.parked

-- the table v in place of s, if m alone may be another mutex, and other threads than the exempt ones stay
pub record Changes (Exempt : ℕ → Type 0) (s v : Table) (m : ℕ) : Type 0 where
  pub shape : IsShaped v
  -- both have the same threads and mutexes, and of each mutex the same kind
  pub threads : (u : ℕ) → has_thread v u ≡ has_thread s u
  pub mutexes : (n : ℕ) → has_mutex v n ≡ has_mutex s n
  pub robust : (n : ℕ) → (library_at v n).robust ≡ (library_at s n).robust
  -- the other mutexes, and who waits for them, stay
  pub cells : (n : ℕ) → n ≢ m → cell_at v n ≡ cell_at s n
  pub waited : (n : ℕ) → n ≢ m → has_waiter v.kernel.waiters n ≡ has_waiter s.kernel.waiters n
  -- m is sound, if it was added, and who owns it lives, if it is robust
  pub cell : has_mutex s m ≡ true → CellIsSound (has_thread s) (has_waiter v.kernel.waiters m) (cell_at v m)
  pub alive : has_mutex s m ≡ true → (cell_at v m).robust ≡ true → (cell_at v m).word.number ≢ 0
      → (Exempt (cell_at v m).word.number → ⊥)
      → is_living s.kernel (cell_at v m).word.number ≡ true
  -- a thread that is not exempt lives as it did, and keeps its status, its line and its robust list; what its line
  -- knows of m outlives the change
  pub living : (u : ℕ) → (Exempt u → ⊥) → is_living v.kernel u ≡ is_living s.kernel u
  pub status : (u : ℕ) → (Exempt u → ⊥) → status_at v u ≡ status_at s u
  pub line : (u : ℕ) → (Exempt u → ⊥) → line_at v u ≡ line_at s u
  pub list : (u : ℕ) → (Exempt u → ⊥) → robust_at v.lists u ≡ robust_at s.lists u
  pub spares : (u : ℕ) → u ≢ 0 → (Exempt u → ⊥) → Spares (is_living s.kernel) (is_living v.kernel) u (cell_at s m)
      (cell_at v m)
  -- who has ended stays so
  pub ended : (u : ℕ) → has_thread s u ≡ true → is_living s.kernel u ≡ false → is_living v.kernel u ≡ false
  -- the variables are there that were, and used at least as often, within the limit
  pub conds : v.conds ≡ s.conds
  pub used : Uses s v
  pub few_uses : (c : ℕ) → uses_of s c ≤ s.limits.signals → uses_of v c ≤ s.limits.signals
  -- who is parked then was, or is to get the mutex to which the variable is bound
  pub targets : (c n : ℕ) → aims v.kernel c n ≡ true → (aims s.kernel c n ≡ true) ⊎ (bound_to s c ≡ n)

-- a sound mutex stays so if all threads that were added still are
pub cell_spared : (added added' : ℕ → Bool) (waited waited' : Bool) (c d : Cell)
    → ((u : ℕ) → added u ≡ true → added' u ≡ true) → waited' ≡ waited → d ≡ c → CellIsSound added waited c
    → CellIsSound added' waited' d
cell_spared added added' waited waited' c d more w e h = subst (λ b. CellIsSound added' b d) (sym w)
    (subst (CellIsSound added' waited) (sym e) (record {
      count = h.count;
      stalled = h.stalled;
      owner = λ n. more c.word.number (h.owner n);
      free = h.free;
      clean = h.clean;
      state = h.state;
      contended = h.contended;
    }))

module _ {Exempt : ℕ → Type 0} {s v : Table} {m : ℕ} (h : SoundExcept Exempt s) (c : Changes Exempt s v m) where
  -- a mutex is m or another
  each_cell : (n : ℕ) → has_mutex v n ≡ true → (n ≡ m) ⊎ (n ≢ m)
      → CellIsSound (has_thread v) (has_waiter v.kernel.waiters n) (cell_at v n)
  each_cell n e (inl q) = subst (λ k. CellIsSound (has_thread v) (has_waiter v.kernel.waiters k) (cell_at v k)) (sym q)
      (cell_spared (has_thread s) (has_thread v) (has_waiter v.kernel.waiters m) (has_waiter v.kernel.waiters m)
      (cell_at v m) (cell_at v m)
      (λ u i. c.threads u ∙ i) refl refl (c.cell (sym (c.mutexes m) ∙ ap (has_mutex v) (sym q) ∙ e)))
  each_cell n e (inr d) = cell_spared (has_thread s) (has_thread v) (has_waiter s.kernel.waiters n)
      (has_waiter v.kernel.waiters n) (cell_at s n) (cell_at v n)
      (λ u i. c.threads u ∙ i) (c.waited n d) (c.cells n d) (h.mutexes n (sym (c.mutexes n) ∙ e))

  -- who owns a robust mutex lives
  each_alive : (n : ℕ) → has_mutex v n ≡ true → (n ≡ m) ⊎ (n ≢ m) → (cell_at v n).robust ≡ true
      → (cell_at v n).word.number ≢ 0 → (Exempt (cell_at v n).word.number → ⊥)
      → is_living v.kernel (cell_at v n).word.number ≡ true
  each_alive n e (inl q) r z out =
      c.living (cell_at v n).word.number out
      ∙ subst (λ k. (cell_at v k).robust ≡ true → (cell_at v k).word.number ≢ 0
      → (Exempt (cell_at v k).word.number → ⊥) → is_living s.kernel (cell_at v k).word.number ≡ true) (sym q)
      (c.alive (sym (c.mutexes m) ∙ ap (has_mutex v) (sym q) ∙ e)) r z out
  each_alive n e (inr d) r z out =
      c.living (cell_at v n).word.number out
      ∙ subst (λ k. k.robust ≡ true → k.word.number ≢ 0 → (Exempt k.word.number → ⊥)
      → is_living s.kernel k.word.number ≡ true) (sym (c.cells n d))
      (h.alive n (sym (c.mutexes n) ∙ e)) r z out

  -- each mutex spares a thread that is not exempt
  each_spares : (u : ℕ) → u ≢ 0 → (Exempt u → ⊥) → (n : ℕ) → has_mutex s n ≡ true → (n ≡ m) ⊎ (n ≢ m)
      → Spares (is_living s.kernel) (is_living v.kernel) u (cell_at s n) (cell_at v n)
  each_spares u k out n e (inl q) = subst (λ j. Spares (is_living s.kernel) (is_living v.kernel) u (cell_at s j)
      (cell_at v j)) (sym q) (c.spares u k out)
  each_spares u k out n e (inr d) =
      let a = unwritten (is_living s.kernel) u (cell_at s n) (cell_at v n) (c.cells n d) in
      record {
        kind = a.kind;
        robust = a.robust;
        owner = a.owner;
        other = a.other;
        same = a.same;
        ended = λ r z l. ((a.ended r z l).0, c.ended (cell_at s n).word.number ((h.mutexes n e).owner z) l);
      }

  -- who owns a mutex is the same, to a thread that is not exempt
  number_same : (u : ℕ) → u ≢ 0 → (Exempt u → ⊥) → (n : ℕ) → has_mutex s n ≡ true
      → ((word_at v.words n).number == u) ≡ ((word_at s.words n).number == u)
  number_same u k out n e = go (cases_eq (word_at s.words n).number u)
    where
      a : Spares (is_living s.kernel) (is_living v.kernel) u (cell_at s n) (cell_at v n)
      a = each_spares u k out n e (cases_eq n m)

      go : ((word_at s.words n).number ≡ u) ⊎ ((word_at s.words n).number ≢ u)
          → ((word_at v.words n).number == u) ≡ ((word_at s.words n).number == u)
      go (inl x) = eq-eqb (word_at v.words n).number u (a.owner x) ∙ sym (eq-eqb (word_at s.words n).number u x)
      go (inr x) = ne_eqb (word_at v.words n).number u (a.other x) ∙ sym (ne_eqb (word_at s.words n).number u x)

  -- which robust mutexes it holds is the same
  holds_same : (u : ℕ) → u ≢ 0 → (Exempt u → ⊥) → (n : ℕ) → holds_robust v u n ≡ holds_robust s u n
  holds_same u k out n =
      ap (λ b. if b then (if (library_at v n).robust then (word_at v.words n).number == u else false) else false)
      (c.mutexes n)
      ∙ ap (λ b. if has_mutex s n then (if b then (word_at v.words n).number == u else false) else false) (c.robust n)
      ∙ by_test (λ b. has_mutex s n ≡ b → (if b then (if
      (library_at s n).robust then (word_at v.words n).number == u else false) else false)
      ≡ (if b then (if (library_at s n).robust then (word_at s.words n).number == u else false) else false))
      (has_mutex s n) (λ e _. ap (λ b. if (library_at s n).robust then b else false) (number_same u k out n e))
      (λ _ _. refl) refl

  -- a robust list of a thread that is not exempt stays sound
  pub list_kept : (u : ℕ) → u ≢ 0 → (Exempt u → ⊥) → ListIsSound s u (line_at s u) → ListIsSound v u (line_at s u)
  list_kept u k out b = record {
    pending = ap (λ (r : RobustRow). r.pending) (c.list u out) ∙ b.pending
        ∙ sym (ap (λ a. if a then mutex_by is_pending (line_at s u) else 0)
        (c.robust (mutex_by is_pending (line_at s u))));
    half_linked = ap (λ (r : RobustRow). r.half_linked) (c.list u out) ∙ b.half_linked
        ∙ sym (ap (λ a. if a then mutex_by is_half_linked (line_at s u) else 0)
        (c.robust (mutex_by is_half_linked (line_at s u))));
    listed = λ n. ap (λ (r : RobustRow). has_entry r.listed n) (c.list u out) ∙ b.listed n
        ∙ sym (ap (λ a. if a then (if n == mutex_by is_unlinked (line_at s u) then false else true) else false)
        (holds_same u k out n));
  }

  -- what it owns stays in order
  settled_kept : (u : ℕ) → u ≢ 0 → (Exempt u → ⊥) → ThreadIsSound s u → (n : ℕ) → has_mutex v n ≡ true
      → (word_at v.words n).number ≡ u → n ≢ mutex_by is_unsettled (line_at s u)
      → ((word_at v.words n).died ≡ false) × (health_word_at v.words n ≢ 2)
  settled_kept u k out b n e own away =
      let e' : has_mutex s n ≡ true = sym (c.mutexes n) ∙ e in
      let a = each_spares u k out n e' (cases_eq n m) in
      go a e' (cases_eq (word_at s.words n).number u)
    where
      go : Spares (is_living s.kernel) (is_living v.kernel) u (cell_at s n) (cell_at v n) → has_mutex s n ≡ true
          → ((word_at s.words n).number ≡ u) ⊎ ((word_at s.words n).number ≢ u)
          → ((word_at v.words n).died ≡ false) × (health_word_at v.words n ≢ 2)
      go a e' (inl x) = let f = b.settled n e' x away in ((a.same x).1 ∙ f.0, λ y. f.1 (sym (a.same x).2 ∙ y))
      go a e' (inr x) = absurd (a.other x own)

  -- a living thread is somebody
  somebody : (u : ℕ) → is_living s.kernel u ≡ true → u ≢ 0
  somebody u l z = true≢false (sym l ∙ ap (is_living s.kernel) z)

  -- a variable is bound to the mutex to which it was
  bound_same : (i : ℕ) → bound_to v i ≡ bound_to s i
  bound_same i = ap (λ cs. get_or cs i 0) c.conds

  -- it is sound
  cond_sound : (i : ℕ) → has_cond v i ≡ true → CondIsSound v i
  cond_sound i e =
      let b = h.conds i (sym (ap (λ cs. if i == 0 then false else nat_lt i (length cs)) c.conds) ∙ e) in
      record {
        bound = ap (has_mutex v) (bound_same i) ∙ c.mutexes (bound_to s i) ∙ b.bound;
        uses = subst (λ n. uses_of v i ≤ n) (sym c.used.signals) (c.few_uses i b.uses);
      }

  -- who is parked is to get the mutex to which the variable is bound
  aimed : (i n : ℕ) → (aims s.kernel i n ≡ true) ⊎ (bound_to s i ≡ n) → bound_to v i ≡ n
  aimed i n (inl e) = bound_same i ∙ h.targets i n e
  aimed i n (inr e) = bound_same i ∙ e

  -- such a change keeps the invariant, save for the exempt threads
  pub change_kept : SoundExcept Exempt v
  change_kept = record {
    shape = c.shape;
    mutexes = λ n e. each_cell n e (cases_eq n m);
    conds = cond_sound;
    targets = λ i n e. aimed i n (c.targets i n e);
    alive = λ n e r z out. each_alive n e (cases_eq n m) r z out;
    threads = λ u e out. (
        let l : is_living s.kernel u ≡ true = sym (c.living u out) ∙ e in
        let k = somebody u l in
        let b = h.threads u l out in
        record {
          line = subst (LineIsSound v u) (sym (c.line u out))
              (line_spared s v u (c.status u out) c.used (λ n i. (c.mutexes n ∙ i, each_spares u k out n i (cases_eq n m)))
              (line_at s u) b.line);
          queue = λ n q. subst (IsQueuedLine n) (sym (c.line u out)) (b.queue n (sym (c.status u out) ∙ q));
          parked = λ n q. subst (IsParkedLine n) (sym (c.line u out)) (b.parked n (sym (c.status u out) ∙ q));
          list = subst (ListIsSound v u) (sym (c.line u out)) (list_kept u k out b.list);
          settled = λ n e own away. settled_kept u k out b n e own
              (λ x. away (x ∙ sym (ap (mutex_by is_unsettled) (c.line u out))));
        }
        );
    absent = λ u e out. (
        let b = h.absent u (sym (c.living u out) ∙ e) out in
        record { line = c.line u out ∙ b.line; list = c.list u out ∙ b.list }
        );
  }

-- more threads may be exempt
pub exempt_all : {Exempt : ℕ → Type 0} {s : Table} (More : ℕ → Type 0) → ((u : ℕ) → Exempt u → More u)
    → SoundExcept Exempt s → SoundExcept More s
exempt_all More f h = record {
  shape = h.shape;
  mutexes = h.mutexes;
  conds = h.conds;
  targets = h.targets;
  alive = λ m e r z out. h.alive m e r z (λ x. out (f _ x));
  threads = λ u k out. h.threads u k (λ e. out (f u e));
  absent = λ u k out. h.absent u k (λ e. out (f u e));
}

-- what an exempt number has to show to be exempt no more: it is a living thread and sound, or it is none, owns no
-- robust mutex and is sound
pub data MayBeAdmitted (s : Table) (t : ℕ) : Type 0 where
  lives : is_living s.kernel t ≡ true → ThreadIsSound s t → MayBeAdmitted s t
  gone : is_living s.kernel t ≡ false → ((m : ℕ) → has_mutex s m ≡ true → (library_at s m).robust ≡ true
      → (word_at s.words m).number ≢ 0 → (word_at s.words m).number ≡ t → ⊥)
      → AbsentIsSound s t → MayBeAdmitted s t

-- an exempt number that may be admitted is exempt no more
pub admit : {Exempt : ℕ → Type 0} {s : Table} (Fewer : ℕ → Type 0) (t : ℕ)
    → ((u : ℕ) → Exempt u → (u ≡ t) ⊎ Fewer u) → MayBeAdmitted s t → SoundExcept Exempt s → SoundExcept Fewer s
admit {Exempt} {s} Fewer t f sound h = record {
  shape = h.shape;
  mutexes = h.mutexes;
  conds = h.conds;
  targets = h.targets;
  alive = λ m e r z out. owner m e r z out (cases_eq (word_at s.words m).number t) sound;
  threads = λ u k out. thread u k out (cases_eq u t) sound;
  absent = λ u k out. none u k out (cases_eq u t) sound;
}
  where
    still : (u : ℕ) → (Fewer u → ⊥) → u ≢ t → (u ≡ t) ⊎ Fewer u → ⊥
    still u n d (inl e) = d e
    still u n d (inr e) = n e

    owner : (m : ℕ) → has_mutex s m ≡ true → (library_at s m).robust ≡ true → (word_at s.words m).number ≢ 0
        → (Fewer (word_at s.words m).number → ⊥)
        → ((word_at s.words m).number ≡ t) ⊎ ((word_at s.words m).number ≢ t) → MayBeAdmitted s t
        → is_living s.kernel (word_at s.words m).number ≡ true
    owner m e r z n (inl q) (lives l b) = ap (is_living s.kernel) q ∙ l
    owner m e r z n (inl q) (gone l owns b) = absurd (owns m e r z q)
    owner m e r z n (inr d) a = h.alive m e r z (λ x. still (word_at s.words m).number n d
        (f (word_at s.words m).number x))

    thread : (u : ℕ) → is_living s.kernel u ≡ true → (Fewer u → ⊥) → (u ≡ t) ⊎ (u ≢ t) → MayBeAdmitted s t
        → ThreadIsSound s u
    thread u k n (inl q) (lives l b) = subst (ThreadIsSound s) (sym q) b
    thread u k n (inl q) (gone l owns b) = absurd (true≢false (sym k ∙ ap (is_living s.kernel) q ∙ l))
    thread u k n (inr d) a = h.threads u k (λ e. still u n d (f u e))

    none : (u : ℕ) → is_living s.kernel u ≡ false → (Fewer u → ⊥) → (u ≡ t) ⊎ (u ≢ t) → MayBeAdmitted s t
        → AbsentIsSound s u
    none u k n (inl q) (lives l b) = absurd (true≢false (sym l ∙ ap (is_living s.kernel) (sym q) ∙ k))
    none u k n (inl q) (gone l owns b) = subst (AbsentIsSound s) (sym q) b
    none u k n (inr d) a = h.absent u k (λ e. still u n d (f u e))

-- in a sound table one thread may be exempt
pub exempt_one : {s : Table} → IsSound s → (t : ℕ) → SoundExcept (λ u. u ≡ t) s
exempt_one h t = exempt_all (λ u. u ≡ t) (λ u e. absurd e) h.all

-- the last exempt thread that lives and is sound is exempt no more
pub admit_last : {s : Table} {t : ℕ} → SoundExcept (λ u. u ≡ t) s → is_living s.kernel t ≡ true → ThreadIsSound s t
    → SoundExcept (λ u. ⊥) s
admit_last {s} {t} h l sound = admit (λ u. ⊥) t (λ u e. inl e) (lives l sound) h

-- what holds of each living thread of a sound table
pub each_thread : {s : Table} → IsSound s → (t : ℕ) → is_living s.kernel t ≡ true → ThreadIsSound s t
each_thread h t k = h.all.threads t k (λ e. e)

-- and of each number that is no living thread's
pub each_absent : {s : Table} → IsSound s → (t : ℕ) → is_living s.kernel t ≡ false → AbsentIsSound s t
each_absent h t k = h.all.absent t k (λ e. e)
