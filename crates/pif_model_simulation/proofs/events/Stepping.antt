-- What the soundness of a table gives to the next step of an open call.
use Rattle.std.proofs.Common.{◌≡◌, ◌≢◌, ◌⊎◌, inl, inr, ℕ, Bool, true, false, ◌==◌, length, if◌then◌else◌, refl, sym, ap, ◌∙◌, subst, eq-eqb, ne_eqb}
use Rattle.std.proofs.lemmas.Bool.{true≢false, cases_eq}
use Rattle.pif_types.specs.declared.requests.Request.{Request}
use Rattle.pif_types.specs.declared.requests.Request.TheVariants.{Lock, Wait}
use Rattle.pif_model.specs.declared.lines.Line.{Line}
use Rattle.pif_model.specs.declared.lines.Line.TheVariants.{Idle, At}
use Rattle.pif_model.specs.declared.lines.Place.{Place}
use Rattle.pif_model.specs.declared.lines.Place.TheVariants.{StayQueued, StayStopped, Link, Give, StayParked}
use Rattle.pif_model.specs.declared.lines.LinkStep.TheVariants.{WriteNext, WriteHead}
use Rattle.pif_model.specs.declared.lines.GiveStep.TheVariants.{Unlink}
use Rattle.pif_model.specs.declared.lines.Purpose.TheVariants.{ToUnlock, ToPark, ToLeave}
use Rattle.pif_model.specs.declared.lines.Status.{Status}
use Rattle.pif_model.specs.declared.lines.Status.TheVariants.{Parked, Stopped}
use Rattle.pif_model.specs.PiKernel.{is_ready, is_parked, is_living}
use Rattle.pif_model.specs.Posix.{named_by, names_known}
use Rattle.pif_model.specs.RobustList.{RobustRow, robust_at, has_entry, is_listed, IsUnlisted, IsHalfLinkedByNoOther}
use Rattle.pif_model.specs.Table.{Table, Cell, LibraryMutex, has_mutex, has_cond, status_at, line_at, library_at, cell_at}
use Rattle.pif_model.specs.Lines.{counts_at}
use Rattle.pif_model.specs.Word.{word_at}
use Rattle.pif_model.specs.Soundness.{Use, MeetsAll, needs, CallIsSound, LineIsSound, ListIsSound, ThreadIsSound, IsSound, use_at, is_half_linked, is_unlinked, mutex_by, robust_by, holds_robust}
use Rattle.pif_model_lemmas.proofs.Numbers.{above_0}
use Rattle.pif_model_lemmas.proofs.Waiting.{by_test}
use Rattle.pif_model_simulation.proofs.Facts.{call_own, call_robust, call_stopped}
use Rattle.pif_model_simulation.proofs.WeakenedInvariant.{each_thread, each_absent}
use Rattle.pif_model_simulation.proofs.Named.{named_added}
use Rattle.pif_model_simulation.specs.Steppable.{may_wait_at, is_link_next, is_unlink, CallMayStep}

-- at each place where its thread doesn't wait, a call rests on that the thread may run
rests_on_ready : (living : ℕ → Bool) (t : ℕ) (x : Status) (c : Cell) (z : Use) (p : Place)
    → MeetsAll living t x c z (needs p) → may_wait_at p ≡ false → is_ready x ≡ true
rests_on_ready living t x c z StayQueued h e = absurd (true≢false e)
rests_on_ready living t x c z StayStopped h e = absurd (true≢false e)
rests_on_ready living t x c z StayParked h e = absurd (true≢false e)
rests_on_ready living t x c z _ h e = h.0

-- a thread whose deadline counts may not run: it is queued, or parked, or has stopped
counts_at_rest : (q : Request) (p : Place) (x : Status) → (p ≡ StayStopped → x ≡ Stopped) → counts_at q p x ≡ true
    → is_ready x ≡ false
counts_at_rest (Lock m) StayQueued x h e = by_ready (is_ready x) e
  where
    by_ready : (b : Bool) → (if b then false else true) ≡ true → b ≡ false
    by_ready true e = sym e
    by_ready false e = refl
counts_at_rest (Lock m) StayStopped x h e = ap is_ready (h refl)
counts_at_rest (Wait c m) StayParked x h e = by_status x e
  where
    by_status : (x : Status) → is_parked x ≡ true → is_ready x ≡ false
    by_status (Parked c) e = refl
    by_status _ e = absurd (true≢false (sym e))
counts_at_rest _ _ x h e = absurd (true≢false (sym e))

-- a robust mutex that a call names was added: at place 0 there is none
robust_added : (s : Table) (q : Request) → IsSound s → names_known (has_mutex s) (has_cond s) q ≡ true
    → (cell_at s (named_by q)).robust ≡ true → has_mutex s (named_by q) ≡ true
robust_added s q h named robust = named_added (has_mutex s) (has_cond s) q named
    (λ none. true≢false (sym robust ∙ ap (λ m. (library_at s m).robust) none
    ∙ ap (λ (x : LibraryMutex). x.robust) h.all.shape.no_mutex))

-- A MUTEX THAT IS LINKED

-- only its owner holds a robust mutex
holds_not : (s : Table) (u m : ℕ) → (word_at s.words m).number ≢ u → holds_robust s u m ≡ false
holds_not s u m other =
    rw (ne_eqb (word_at s.words m).number u other) (either (has_mutex s m) (library_at s m).robust)
  where
    either : (a b : Bool) → (if a then (if b then false else false) else false) ≡ false
    either true true = refl
    either true false = refl
    either false b = refl

-- a mutex is on no list but its owner's, and not there if the owner's line has it off the list
unlisted_by : (s : Table) (u m : ℕ) (l : Line) → ListIsSound s u l
    → ((word_at s.words m).number ≡ u → m ≡ mutex_by is_unlinked l) → is_listed s.lists u m ≡ false
unlisted_by s u m l h off = h.listed m ∙ by_owner (cases_eq (word_at s.words m).number u)
  where
    none : (a : Bool) → (if a then false else false) ≡ false
    none true = refl
    none false = refl

    by_owner : ((word_at s.words m).number ≡ u) ⊎ ((word_at s.words m).number ≢ u)
        → (if holds_robust s u m then (if m == mutex_by is_unlinked l then false else true) else false) ≡ false
    by_owner (inl own) = rw (eq-eqb m (mutex_by is_unlinked l) (off own)) (none (holds_robust s u m))
    by_owner (inr other) = rw (holds_not s u m other) refl

-- who has a mutex half-linked is about to make it the head of its list, and owns it
half_linked_owned : (s : Table) (u m : ℕ) (l : Line) → m ≢ 0 → LineIsSound s u l → robust_by is_half_linked s l ≡ m
    → (word_at s.words m).number ≡ u
half_linked_owned s u m l some h e = by_robust (library_at s (mutex_by is_half_linked l)).robust refl
  where
    by_line : (l : Line) → LineIsSound s u l → mutex_by is_half_linked l ≡ m → (word_at s.words m).number ≡ u
    by_line Idle h e = absurd (some (sym e))
    by_line (At q (Link WriteHead a)) h e = ap (λ n. (word_at s.words n).number) (sym e) ∙ call_own h
    by_line (At q _) h e = absurd (some (sym e))

    by_robust : (b : Bool) → (library_at s (mutex_by is_half_linked l)).robust ≡ b → (word_at s.words m).number ≡ u
    by_robust true r = by_line l h (sym (ap (λ b. if b then mutex_by is_half_linked l else 0) r) ∙ e)
    by_robust false r = absurd (some (sym e ∙ ap (λ b. if b then mutex_by is_half_linked l else 0) r))

-- the same over all numbers of a sound table: who is no living thread has nothing on a list
module _ {s : Table} (h : IsSound s) where
  -- a mutex that the place of its owner's call takes off its list is on no list
  unlisted_at : (t : ℕ) (q : Request) (p : Place) → line_at s t ≡ At q p → is_unlinked p ≡ true
      → (word_at s.words (named_by q)).number ≡ t → IsUnlisted s.lists (named_by q)
  unlisted_at t q p e off own u = by_test (λ b. is_living s.kernel u ≡ b → is_listed s.lists u (named_by q) ≡ false)
      (is_living s.kernel u) (λ _ l. living l)
      (λ _ l. ap (λ (r : RobustRow). has_entry r.listed (named_by q)) (each_absent h u l).list) refl
    where
      at_place : (l : Line) → l ≡ At q p → named_by q ≡ mutex_by is_unlinked l
      at_place l e = sym (ap (mutex_by is_unlinked) e ∙ ap (λ b. if b then named_by q else 0) off)

      living : is_living s.kernel u ≡ true → is_listed s.lists u (named_by q) ≡ false
      living l = unlisted_by s u (named_by q) (line_at s u) (each_thread h u l).list
          (λ own_u. at_place (line_at s u) (ap (line_at s) (sym own_u ∙ own) ∙ e))

  -- a mutex is half-linked by its owner alone
  half_linked_by : (t m : ℕ) → m ≢ 0 → (word_at s.words m).number ≡ t → IsHalfLinkedByNoOther s.lists t m
  half_linked_by t m some own u e = by_test (λ b. is_living s.kernel u ≡ b → u ≡ t) (is_living s.kernel u)
      (λ _ l. sym (half_linked_owned s u m (line_at s u) some (each_thread h u l).line
      (sym (each_thread h u l).list.half_linked ∙ e)) ∙ own)
      (λ _ l. absurd (some (sym e ∙ ap (λ (r : RobustRow). r.half_linked) (each_absent h u l).list))) refl

-- A CALL

-- what the step of a call of a living thread rests on at its place
pub may_step : (s : Table) (t : ℕ) (q : Request) (p : Place) → IsSound s → is_living s.kernel t ≡ true
    → line_at s t ≡ At q p → CallMayStep s t q p
may_step s t q p h k e = record {
  named = call.named;
  ready = rests_on_ready (is_living s.kernel) t (status_at s t) (cell_at s (named_by q)) (use_at s q) p call.needs;
  unready = counts_at_rest q p (status_at s t) (λ is. call_stopped (subst (CallIsSound s t q) is call));
  unlisted = unlisted p e call;
  half = half p call;
  linked = linked p call list;
  listed = listed p call e;
}
  where
    thread : ThreadIsSound s t
    thread = each_thread h t k

    call : CallIsSound s t q p
    call = subst (LineIsSound s t) e thread.line

    list : ListIsSound s t (At q p)
    list = subst (ListIsSound s t) e thread.list

    unlisted : (p : Place) → line_at s t ≡ At q p → CallIsSound s t q p → is_link_next p ≡ true
        → IsUnlisted s.lists (named_by q)
    unlisted (Link WriteNext a) e c i = unlisted_at h t q (Link WriteNext a) e refl (call_own c)
    unlisted _ e c i = absurd (true≢false (sym i))

    half : (p : Place) → CallIsSound s t q p → is_link_next p ≡ true → IsHalfLinkedByNoOther s.lists t (named_by q)
    half (Link WriteNext a) c i = half_linked_by h t (named_by q)
        (above_0 (named_by q) (length s.mutexes) (robust_added s q h c.named (call_robust c))) (call_own c)
    half _ c i = absurd (true≢false (sym i))

    linked : (p : Place) → CallIsSound s t q p → ListIsSound s t (At q p) → is_half_linked p ≡ true
        → (robust_at s.lists t).half_linked ≡ named_by q
    linked (Link WriteHead a) c l i = l.half_linked ∙ ap (λ b. if b then named_by q else 0) (call_robust c)
    linked _ c l i = absurd (true≢false (sym i))

    on_list : (word_at s.words (named_by q)).number ≡ t → (cell_at s (named_by q)).robust ≡ true
        → mutex_by is_unlinked (line_at s t) ≡ 0 → is_listed s.lists t (named_by q) ≡ true
    on_list own robust none =
        let known = robust_added s q h call.named robust in
        thread.list.listed (named_by q)
        ∙ rw (
          known,
          robust,
          eq-eqb (word_at s.words (named_by q)).number t own,
          none,
          ne_eqb (named_by q) 0 (above_0 (named_by q) (length s.mutexes) known),
        ) refl

    listed : (p : Place) → CallIsSound s t q p → line_at s t ≡ At q p → is_unlink p ≡ true
        → is_listed s.lists t (named_by q) ≡ true
    listed (Give Unlink ToUnlock) c e i = on_list (call_own c) (call_robust c) (ap (mutex_by is_unlinked) e)
    listed (Give Unlink (ToPark v)) c e i = on_list (call_own c) (call_robust c) (ap (mutex_by is_unlinked) e)
    listed (Give Unlink ToLeave) c e i = on_list (call_own c) (call_robust c) (ap (mutex_by is_unlinked) e)
    listed _ c e i = absurd (true≢false (sym i))
