-- What calls have in common: a free mutex is taken by its word or in the kernel, a mutex for which nobody waits is
-- given up, and the owner of a RECURSIVE mutex holds it more or less often.
use Rattle.std.proofs.Common.{◌≡◌, ◌≢◌, ◌<◌, ◌≤◌, ℕ, ◌+◌, ◌-◌, Bool, true, false, length, inl, inr, refl, sym, ap, ◌∙◌, subst, if◌then◌else◌, arith, eq-eqb, ne_eqb}
use Rattle.std.proofs.lemmas.Bool.{true≢false}
use Rattle.pif_model.specs.declared.lines.Relock.TheVariants.{Counts}
use Rattle.pif_model.specs.Kinds.{relock_of}
use Rattle.pif_types.specs.declared.requests.Request.{Request}
use Rattle.pif_types.specs.declared.requests.Request.TheVariants.{Unlock}
use Rattle.pif_model.specs.declared.events.Seen.{Seen}
use Rattle.pif_model.specs.declared.events.Seen.TheVariants.{Went, Answered}
use Rattle.pif_model.specs.declared.lines.Line.{Line}
use Rattle.pif_model.specs.declared.lines.Line.TheVariants.{Idle, At}
use Rattle.pif_model.specs.declared.lines.Place.{Place}
use Rattle.pif_model.specs.declared.lines.Place.TheVariants.{CallKernel, Take}
use Rattle.pif_model.specs.declared.lines.TakeStep.TheVariants.{LoadWord, LoadHealth}
use Rattle.pif_model.specs.Graph.{has_waiter}
use Rattle.pif_model.specs.Word.{Word, held_by, free_word, taken_word, word_at, health_word_at}
use Rattle.pif_model.specs.Posix.{Progress, is_blocked, named_by, on_taking}
use Rattle.pif_model.specs.World.Progress.{Has}
use Rattle.pif_model.specs.PiKernel.{is_ready, is_living}
use Rattle.pif_model.specs.RobustList.{robust_at}
use Rattle.pif_model.specs.Table.{Table, Cell, cell_at, has_thread, has_mutex, status_at, library_at, with_line, with_word, with_health_word, with_count}
use Rattle.pif_model.specs.Lines.{goes_to, answers, relocks, own_exchange}
use Rattle.pif_model.specs.Projection.{before_lock, may_enlist, health_of, health_at}
use Rattle.pif_model.specs.Soundness.{CellIsSound, CountIsSound, use_at, MeetsAll, needs, belongs, is_pending, is_half_linked, is_unlinked, is_unsettled}
use Rattle.pif_model_lemmas.proofs.kernel.LineCases.{locked_again_cases, own_exchange_cases}
use Rattle.pif_model_lemmas.proofs.Numbers.{above_0}
use Rattle.pif_model_simulation.proofs.Kept.{Spares}
use Rattle.pif_model_simulation.proofs.Written.{mutex_of, written_is, same_word, same_health, same_library, same_list}
use Rattle.pif_model_simulation.proofs.Steps.{KeepsGo, GoKeeps, Going, progress_of}
use Rattle.pif_model_simulation.proofs.Agreement.{Follows, quiet, taking_unblocked}
use Rattle.pif_model_simulation.proofs.Does.{Does, IsLocking}
use Rattle.pif_model_simulation.proofs.Does.Does.{locks_free, locks_again, locks_at_limit, unlocks_one}
use Rattle.pif_model_simulation.proofs.Local.{Move, moved, KnowsAfter, Shows, going_cell, going_added, local_kept, knows-names}
use Rattle.pif_model_simulation.proofs.LocalLines.{at_line, RowAfter, lists_by, answers_local, row_pending, row_half_linked, row_unowned, row_owned}
use Rattle.pif_model_simulation.proofs.Owning.{reworded, rehealthed, recounted, stalled_in_order}

module _ {s : Table} {t : ℕ} {q : Request} {p : Place} (g : Going s t q p) (named : has_mutex s (named_by q) ≡ true)
    (ready : is_ready (status_at s t) ≡ true) where
  abbrev m : ℕ
  m = named_by q

  c : CellIsSound (has_thread s) (has_waiter s.kernel.waiters m) (cell_at s m)
  c = going_cell g named

  t0 : t ≢ 0
  t0 = above_0 t (length s.kernel.seats) (going_added g named)

  -- A WORD, A HEALTH WORD OR A COUNT IS WRITTEN

  -- a move that leaves the robust list
  abbrev pub writes : Seen → Line → Word → ℕ → ℕ → Move
  writes seen l x h n = record { seen = seen; line = l; row = robust_at s.lists t; word = x; health = h; count = n }

  -- the word alone
  pub word_table : (seen : Seen) (l : Line) (x : Word)
      → moved t m (writes seen l x (health_word_at s.words m) (library_at s m).count) s ≡ with_line t l
      (with_word m x s)
  word_table seen l x = written_is t m l (robust_at s.lists t) x (health_word_at s.words m)
      (library_at s m).count s.kernel s
      refl (same_health s m) (same_list s t) (same_library s m)

  -- the health word alone
  pub health_table : (seen : Seen) (l : Line) (h : ℕ)
      → moved t m (writes seen l (word_at s.words m) h (library_at s m).count) s ≡ with_line t l
      (with_health_word m h s)
  health_table seen l h = written_is t m l (robust_at s.lists t) (word_at s.words m) h (library_at s m).count s.kernel s
      (same_word s m) refl (same_list s t) (same_library s m)

  -- the count alone
  count_table : (seen : Seen) (l : Line) (n : ℕ)
      → moved t m (writes seen l (word_at s.words m) (health_word_at s.words m) n) s ≡ with_line t l (with_count m n s)
  count_table seen l n = written_is t m l (robust_at s.lists t) (word_at s.words m)
      (health_word_at s.words m) n s.kernel s
      (same_word s m) (same_health s m) (same_list s t) refl

  -- what t writes of a mutex that it owns, and goes on owning, touches nobody
  spares_own : (b : Bool) (h n : ℕ) → (word_at s.words m).number ≡ t → (u : ℕ) → u ≢ t → u ≢ 0
      → Spares (is_living s.kernel) (is_living s.kernel) u (cell_at s m)
      (record (cell_at s m) { word = record (word_at s.words m) { died = b }; health = h; count = n })
  spares_own b h n own u d z = record {
    kind = refl;
    robust = refl;
    owner = λ e. e;
    other = λ e. e;
    same = λ e. absurd (d (sym e ∙ own));
    ended = λ r n e. (refl, e);
  }

  -- t owns it
  owned : (word_at s.words m).number ≡ t → (word_at s.words m).number ≢ 0
  owned own e = t0 (sym own ∙ e)

  -- to write OWNER_DIED and the health word of one's own robust mutex is local, if the list stays
  pub states : (seen : Seen) (l : Line) → Follows (At q p) l → (b : Bool) (h : ℕ) (a : Progress)
      → (may_enlist (At q p) ≡ false → is_blocked a ≡ true → is_blocked (progress_of s t q p) ≡ true)
      → (word_at s.words m).number ≡ t → (library_at s m).robust ≡ true
      → KnowsAfter s t q (record (cell_at s m) { word = record (word_at s.words m) { died = b }; health = h }) l
      → Shows s t m (health_of h b) q a seen l
      → RowAfter s t m (record (cell_at s m) { word = record (word_at s.words m) { died = b }; health = h }) l
      (robust_at s.lists t)
      → Does t m (has_waiter s.kernel.waiters m) q (progress_of s t q p)
      (mutex_of (cell_at s m)) a
      (mutex_of (record (cell_at s m) { word = record (word_at s.words m) { died = b }; health = h }))
      → KeepsGo s t seen (moved t m (writes seen l (record (word_at s.words m) { died = b }) h
      (library_at s m).count) s)
  states seen l follows b h a blocked own robust knows shows row does =
      local_kept g named a (writes seen l (record (word_at s.words m) { died = b }) h (library_at s m).count)
      (record {
        ready = ready;
        knows = knows;
        lists = lists_by g named (knows-names s t q _ l knows) refl sound (λ e. row);
        cell = sound;
        alive = λ r z n. absurd (n own);
        spares = spares_own b h (library_at s m).count own;
        health = inr own;
        shows = shows;
        follows = follows;
        blocked = blocked;
      }) does
    where
      sound : CellIsSound (has_thread s) (has_waiter s.kernel.waiters m)
          (record (cell_at s m) { word = record (word_at s.words m) { died = b }; health = h })
      sound = rehealthed c b h robust (owned own)

  -- TAKING

  module _ (fresh : progress_of s t q p ≡ before_lock q) (zero : (word_at s.words m).number ≡ 0) where
    -- the word that is written, and the mutex then
    abbrev mine : Word
    mine = taken_word t (word_at s.words m)

    abbrev taken : Cell
    taken = record (cell_at s m) { word = mine }

    taken_sound : CellIsSound (has_thread s) (has_waiter s.kernel.waiters m) taken
    taken_sound = reworded c mine (health_word_at s.words m) (c.count.unowned zero) (c.free zero) c.stalled
        (λ n. going_added g named) (λ e. absurd (t0 e))

    taken_spares : (u : ℕ) → u ≢ t → u ≢ 0 → Spares (is_living s.kernel) (is_living s.kernel) u (cell_at s m) taken
    taken_spares u d z = record {
      kind = refl;
      robust = refl;
      owner = λ e. absurd (z (sym e ∙ zero));
      other = λ e q. d (sym q);
      same = λ e. absurd (z (sym e ∙ zero));
      ended = λ r n. absurd (n zero);
    }

    -- taking is an effect on the call and its mutex
    taken_does : IsLocking m q → (a : Progress) → a ≡ on_taking (health_at s m)
        → Does t m (has_waiter s.kernel.waiters m) q (progress_of s t q p)
        (mutex_of (cell_at s m)) a (mutex_of taken)
    taken_does l a e = subst (λ b. Does t m (has_waiter s.kernel.waiters m) q b (mutex_of (cell_at s m)) a
        (mutex_of taken)) (sym fresh)
        (locks_free l refl (λ o. t0 (sym o ∙ zero)) zero e
        (λ i. record (mutex_of (cell_at s m)) { owner = t; count = c.count.unowned zero i }))

    -- a free mutex that is behind has OWNER_DIED
    behind : health_word_at s.words m ≡ 1 → (word_at s.words m).died ≡ true
    behind e = go (word_at s.words m).died refl
      where
        go : (b : Bool) → (word_at s.words m).died ≡ b → (word_at s.words m).died ≡ true
        go true d = d
        go false d = absurd ((c.clean zero d).1 e)

    -- t takes a stalled mutex
    pub takes_stalled : IsLocking m q → (library_at s m).robust ≡ false → GoKeeps s t (answers t 0 (with_word m mine s))
    takes_stalled l stalled = subst (KeepsGo s t (Answered 0)) (word_table (Answered 0) Idle mine)
        (local_kept g named (Has 0) (writes (Answered 0) Idle mine (health_word_at s.words m) (library_at s m).count)
        (record {
          ready = ready;
          knows = ready;
          lists = lists_by g named tt refl taken_sound (λ e. absurd (true≢false (sym e ∙ stalled)));
          cell = taken_sound;
          alive = λ e z n. absurd (n refl);
          spares = taken_spares;
          health = inl refl;
          shows = (refl, refl);
          follows = quiet refl refl;
          blocked = λ j e. absurd (true≢false (sym e));
        }) (taken_does l (Has 0) (sym (ap on_taking (stalled_in_order c stalled)))))

    -- t takes a robust mutex, at a place where it takes it over
    pub takes_robust : IsLocking m q → (library_at s m).robust ≡ true → (b : Place) → Follows (At q p) (At q b)
        → belongs q b ≡ true → progress_of s t q b ≡ on_taking (health_at s m)
        → MeetsAll (is_living s.kernel) t (status_at s t) taken (use_at s q) (needs b)
        → is_pending p ≡ true → is_half_linked p ≡ false
        → is_pending b ≡ true → is_half_linked b ≡ false → is_unlinked b ≡ true → is_unsettled b ≡ true
        → GoKeeps s t (goes_to t q b (with_word m mine s))
    takes_robust l robust b follows ours progress met pp ph bp bh bu bs =
        subst (KeepsGo s t Went) (word_table Went (At q b) mine)
        (local_kept g named (on_taking (health_at s m))
        (writes Went (At q b) mine (health_word_at s.words m) (library_at s m).count)
        (record {
          ready = ready;
          knows = (refl, ours, met);
          lists = lists_by g named refl refl taken_sound (λ e. record {
            pending = row_pending g named robust ∙ ap (λ x. if x then m else 0) (pp ∙ sym bp);
            half_linked = row_half_linked g named robust ∙ ap (λ x. if x then m else 0) (ph ∙ sym bh);
            others = λ j d. refl;
            own = row_unowned g named robust (λ o. t0 (sym o ∙ zero))
                ∙ sym (ap (λ x. if x then (if is_unlinked b then false else true) else false) (eq-eqb t t refl)
                ∙ ap (λ x. if x then false else true) bu);
            settled = λ o u. absurd (true≢false (sym bs ∙ u));
          });
          cell = taken_sound;
          alive = λ e z n. absurd (n refl);
          spares = taken_spares;
          health = inl refl;
          shows = (b, refl, progress);
          follows = follows;
          blocked = λ j e. absurd (true≢false (sym e ∙ taking_unblocked (health_at s m)));
        }) (taken_does l (on_taking (health_at s m)) refl))

    -- if t goes to load the word
    pub takes_to_load : IsLocking m q → (library_at s m).robust ≡ true → belongs q (Take LoadWord) ≡ true
        → is_pending p ≡ true → is_half_linked p ≡ false → GoKeeps s t (goes_to t q (Take LoadWord) (with_word m mine s))
    takes_to_load l robust ours pp ph = takes_robust l robust (Take LoadWord) (quiet refl refl) ours refl
        (ready, (refl, ((λ e. c.count.unowned zero), (robust, ((λ e. behind), tt))))) pp ph refl refl refl refl

    -- if t goes to load the health word, since it has seen no OWNER_DIED
    pub takes_to_health : IsLocking m q → (library_at s m).robust ≡ true → belongs q (Take (LoadHealth false)) ≡ true
        → (word_at s.words m).died ≡ false → is_pending p ≡ true → is_half_linked p ≡ false
        → GoKeeps s t (goes_to t q (Take (LoadHealth false)) (with_word m mine s))
    takes_to_health l robust ours d pp ph = takes_robust l robust (Take (LoadHealth false)) (quiet refl refl) ours refl
        (ready, (refl, ((λ e. c.count.unowned zero), (robust, ((λ e. behind), ((λ e. d), tt)))))) pp ph refl refl refl
        refl

    -- a word without OWNER_DIED is t's number alone then
    bare_word : (word_at s.words m).died ≡ false → mine ≡ held_by t
    bare_word d = λ i. record { number = t; waiters = false; died = d i }

  -- compare-exchange from 0 to t; if it fails, the kernel call is next
  pub own_exchange_kept : progress_of s t q p ≡ before_lock q → IsLocking m q
      → belongs q (Take (LoadHealth false)) ≡ true
      → is_pending p ≡ true → is_half_linked p ≡ false → GoKeeps s t (goes_to t q CallKernel s)
      → GoKeeps s t (own_exchange q t m s)
  own_exchange_kept fresh l ours pp ph fails = own_exchange_cases (GoKeeps s t) q t m s
      (λ d zero r. subst (λ w. GoKeeps s t (goes_to t q (Take (LoadHealth false)) (with_word m w s))) (bare_word fresh zero d)
      (takes_to_health fresh zero l r ours d pp ph))
      (λ d zero r. subst (λ w. GoKeeps s t (answers t 0 (with_word m w s))) (bare_word fresh zero d)
      (takes_stalled fresh zero l r))
      fails

  -- GIVING UP

  module _ (own : (word_at s.words m).number ≡ t) (once : (library_at s m).count ≡ 1)
      (alone : has_waiter s.kernel.waiters m ≡ false)
      (order : health_word_at s.words m ≢ 1) where
    -- the mutex then
    abbrev freed : Cell
    freed = record (cell_at s m) { word = free_word }

    freed_sound : CellIsSound (has_thread s) (has_waiter s.kernel.waiters m) freed
    freed_sound = reworded c free_word (health_word_at s.words m) once alone (λ r. (refl, (c.stalled r).1))
        (λ n. absurd (n refl))
        (λ e d. (refl, order))

    -- a mutex that t gives up, and for which nobody waits, by its word
    pub frees : (seen : Seen) (l : Line) (a : Progress) → Follows (At q p) l
        → (may_enlist (At q p) ≡ false → is_blocked a ≡ true → is_blocked (progress_of s t q p) ≡ true)
        → KnowsAfter s t q freed l
        → Shows s t m (health_of (health_word_at s.words m) false) q a seen l
        → ((library_at s m).robust ≡ true → at_line is_pending l ≡ is_pending p)
        → ((library_at s m).robust ≡ true → at_line is_half_linked l ≡ is_half_linked p)
        → ((library_at s m).robust ≡ true → is_unlinked p ≡ true)
        → Does t m (has_waiter s.kernel.waiters m) q (progress_of s t q p)
        (mutex_of (cell_at s m)) a (mutex_of freed)
        → KeepsGo s t seen (with_line t l (with_word m free_word s))
    frees seen l a follows blocked knows shows pending half unlinked does = subst (KeepsGo s t seen)
        (word_table seen l free_word)
        (local_kept g named a (writes seen l free_word (health_word_at s.words m) (library_at s m).count)
        (record {
          ready = ready;
          knows = knows;
          lists = lists_by g named (knows-names s t q _ l knows) refl freed_sound (λ e. record {
            pending = row_pending g named e ∙ sym (ap (λ x. if x then m else 0) (pending e));
            half_linked = row_half_linked g named e ∙ sym (ap (λ x. if x then m else 0) (half e));
            others = λ j d. refl;
            own = row_owned g named e own ∙ ap (λ x. if x then false else true) (unlinked e)
                ∙ sym (ap (λ x. if x then (if at_line is_unlinked l then false else true) else false)
                (ne_eqb 0 t (λ z. t0 (sym z))));
            settled = λ o. absurd (t0 (sym o));
          });
          cell = freed_sound;
          alive = λ e z n. absurd (z refl);
          spares = λ u d z. record {
            kind = refl;
            robust = refl;
            owner = λ e. absurd (d (sym e ∙ own));
            other = λ e q. z (sym q);
            same = λ e. absurd (d (sym e ∙ own));
            ended = λ r n e. absurd (true≢false (sym g.known ∙ ap (is_living s.kernel) (sym own) ∙ e));
          };
          health = inr own;
          shows = shows;
          follows = follows;
          blocked = blocked;
        }) does)

  -- HOLDING MORE OR LESS OFTEN

  module _ (fresh : progress_of s t q p ≡ before_lock q) (own : (word_at s.words m).number ≡ t)
      (row : (library_at s m).robust ≡ true → RowAfter s t m (cell_at s m) Idle (robust_at s.lists t)) where
    -- the owner holds its mutex this often from now on, and the result is 0
    counts : (n : ℕ) → CountIsSound (cell_at s m).kind (cell_at s m).word.number n
        → Does t m (has_waiter s.kernel.waiters m) q (before_lock q) (mutex_of (cell_at s m)) (Has 0)
        (record (mutex_of (cell_at s m)) { count = n })
        → GoKeeps s t (answers t 0 (with_count m n s))
    counts n sound does = subst (KeepsGo s t (Answered 0)) (count_table (Answered 0) Idle n)
        (local_kept g named (Has 0) (writes (Answered 0) Idle (word_at s.words m) (health_word_at s.words m) n)
        (record {
          ready = ready;
          knows = ready;
          lists = lists_by g named tt refl (recounted c n sound) (λ e. record {
            pending = (row e).pending;
            half_linked = (row e).half_linked;
            others = (row e).others;
            own = (row e).own;
            settled = (row e).settled;
          });
          cell = recounted c n sound;
          alive = λ e z n. absurd (n own);
          spares = spares_own (word_at s.words m).died (health_word_at s.words m) n own;
          health = inr own;
          shows = (refl, refl);
          follows = quiet refl refl;
          blocked = λ j e. absurd (true≢false (sym e));
        })
        (subst (λ a. Does t m (has_waiter s.kernel.waiters m) q a (mutex_of (cell_at s m)) (Has 0)
        (record (mutex_of (cell_at s m)) { count = n })) (sym fresh) does))

    -- by a lock or a trylock the owner of a RECURSIVE mutex holds it once more, or the result is EAGAIN
    pub locked_again_kept : IsLocking m q → relock_of (cell_at s m).kind ≡ Counts → GoKeeps s t (relocks t m s)
    locked_again_kept l kind = locked_again_cases (GoKeeps s t) t m s
        (λ e. counts ((cell_at s m).count + 1) (more e) (locks_again l refl own kind e refl refl))
        (λ e. answers_local g named 11 ready
        (subst (λ a. Does t m (has_waiter s.kernel.waiters m) q a (mutex_of (cell_at s m)) (Has 11)
        (mutex_of (cell_at s m))) (sym fresh)
        (locks_at_limit l refl own kind (limit e) refl refl)) row)
      where
        more : (cell_at s m).count < 255 → CountIsSound (cell_at s m).kind (cell_at s m).word.number
            ((cell_at s m).count + 1)
        more e = record {
          some = omega arith;
          few = omega arith;
          unowned = λ z. absurd (owned own z);
          single = λ z.
              absurd (z kind);
        }

        limit : 255 ≤ (cell_at s m).count → (cell_at s m).count ≡ 255
        limit e = omega (arith, c.count.few)

    -- by an unlock it is held once less, if it was held more than once
    pub unlocks_one_kept : q ≡ Unlock m → 1 < (cell_at s m).count
        → GoKeeps s t (answers t 0 (with_count m ((cell_at s m).count - 1) s))
    unlocks_one_kept r more = counts ((cell_at s m).count - 1)
        (record {
          some = omega arith;
          few = omega (arith, c.count.few);
          unowned = λ z. absurd (owned own z);
          single = λ z. omega (arith, c.count.single z);
        })
        (unlocks_one r (ap before_lock r) own more refl refl)
