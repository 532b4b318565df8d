-- The steps by which a call gives up a mutex that it holds once. An unlock or a wait names it in the pending field,
-- loads its health word, stores that it is unusable if it was inconsistent, and takes it off its list; then it
-- exchanges its word, or calls the kernel, and so does who leaves an unusable mutex. Each step is an entry of the POSIX
-- machine and keeps the invariant.
use Rattle.std.proofs.Common.{◌≡◌, ◌≢◌, ℕ, Bool, true, false, ◌==◌, Some, List, [], ◌∷◌, ◌++◌, length, refl, sym, ap, ◌∙◌, subst, if◌then◌else◌}
use Rattle.std.proofs.lemmas.Bool.{true≢false}
use Rattle.pif_types.specs.declared.requests.Request.{Request}
use Rattle.pif_model.specs.declared.events.Seen.{Seen}
use Rattle.pif_model.specs.declared.events.Seen.TheVariants.{Went}
use Rattle.pif_model.specs.declared.lines.Line.{Line}
use Rattle.pif_model.specs.declared.lines.Line.TheVariants.{Idle, At}
use Rattle.pif_model.specs.declared.lines.Place.{Place}
use Rattle.pif_model.specs.declared.lines.Place.TheVariants.{Give}
use Rattle.pif_model.specs.declared.lines.GiveStep.{GiveStep}
use Rattle.pif_model.specs.declared.lines.GiveStep.TheVariants.{SetPending, SeeHealth, StoreUnusable, Unlink, Release, CallUnlock}
use Rattle.pif_model.specs.declared.lines.Purpose.{Purpose}
use Rattle.pif_model.specs.Graph.{has_waiter}
use Rattle.pif_model.specs.Word.{free_word, hand_word, set_word, word_at, health_word_at}
use Rattle.pif_model.specs.Posix.{Health, Progress, Mutex, World, Passes, Effect, is_blocked, named_by, names_known, thread_at, mutex_at, variable_of, with_progress}
use Rattle.pif_model.specs.World.Health.{Inconsistent, Unusable}
use Rattle.pif_model.specs.World.Progress.{Has}
use Rattle.pif_model.specs.PiKernel.{is_living, is_ready, state_at, next_in, kernel_after_hand_over}
use Rattle.pif_model.specs.RobustList.{robust_at, without_entry, without_listed}
use Rattle.pif_model.specs.Table.{Table, Cell, cell_at, has_mutex, has_cond, uses_of, library_at, status_at, with_word, with_line, with_health_word, with_lists, with_kernel}
use Rattle.pif_model.specs.Lines.{goes_to, answers, with_pending_field, given_up, give_health, give_exchange, give_line, gives_up}
use Rattle.pif_model.specs.Projection.{HistoryVariables, progress_giving, progress_at, may_enlist, chooses_on, health_of, health_at, world_of}
use Rattle.pif_model.specs.Soundness.{Need, use_at, MeetsAll, give_needs, needs, belongs, is_last, is_named_giving, is_loose_giving, is_pending, is_half_linked}
use Rattle.pif_model_lemmas.proofs.kernel.LineCases.{give_health_cases, give_exchange_cases}
use Rattle.pif_model_lemmas.proofs.Numbers.{above_0}
use Rattle.pif_model_simulation.proofs.Shown.{mutex_seen}
use Rattle.pif_model_simulation.proofs.Written.{mutex_of}
use Rattle.pif_model_simulation.proofs.Agreement.{quiet}
use Rattle.pif_model_simulation.proofs.Steps.{KeepsGo, GoKeeps, Going, going_named, going_met, going_called, going_once, going_own, going_ready}
use Rattle.pif_model_simulation.proofs.Facts.{Fact, fact}
use Rattle.pif_model_simulation.proofs.Does.{Does}
use Rattle.pif_model_simulation.proofs.Entries.{has_entry-without_other, has_entry-without_same}
use Rattle.pif_model_simulation.proofs.Healths.{health-unusable, health-inconsistent, inconsistent-word}
use Rattle.pif_model_simulation.proofs.Local.{Shows, going_cell, going_added}
use Rattle.pif_model_simulation.proofs.LocalLines.{goes, goes_listed, pending_kept, robust_lists, row_same, row_stated, row_pending, settled_so_far}
use Rattle.pif_model_simulation.proofs.Owning.{none_from_flag}
use Rattle.pif_model_simulation.proofs.mutexes.TakingLines.{states, frees, health_table}
use Rattle.pif_model_simulation.proofs.mutexes.TakingOver.{two_not_one}
use Rattle.pif_model_simulation.proofs.mutexes.GivingUp.{GivesUp, GivesUpTo, handed_goes, handed_answers, hands, gives_up_cases}
use Rattle.pif_model_simulation.proofs.mutexes.HandOver.{handed}

-- the last steps are among those at which the pending field names the mutex, and at which it may be unusable
last_named : (x : GiveStep) → is_last x ≡ true → is_named_giving x ≡ true
last_named Release e = refl
last_named CallUnlock e = refl
last_named _ e = absurd (true≢false (sym e))

-- how far a call has come that gives its mutex up
abbrev pub before : Table → Request → Purpose → Progress
before s q y = progress_giving y (uses_of s (variable_of q))

-- what a cell of the mutex meets of these needs of a call
abbrev pub MeetsOf : Table → ℕ → Request → Cell → List Need → Type 0
MeetsOf s t q c ns = MeetsAll (is_living s.kernel) t (status_at s t) c (use_at s q) ns

-- the fact of these that passes a test
pub met_by : (test : Need → Bool) (s : Table) (t : ℕ) (q : Request) (c : Cell) (ns : List Need) → MeetsOf s t q c ns
    → Fact test (is_living s.kernel) t (status_at s t) c (use_at s q) ns
met_by test s t q c ns h = fact test (is_living s.kernel) t (status_at s t) c (use_at s q) ns h

-- and those behind the first ones
pub met_behind : (s : Table) (t : ℕ) (q : Request) (c : Cell) (ns more : List Need) → MeetsOf s t q c (ns ++ more)
    → MeetsOf s t q c more
met_behind s t q c [] more h = h
met_behind s t q c (n ∷ ns) more h = met_behind s t q c ns more h.1

-- the call q gives up its mutex for y by the last steps, the exchange or the kernel call
pub record GivesLast (s : Table) (t : ℕ) (q : Request) (y : Purpose) : Type 0 where
  -- how far it has come when it has given the mutex up
  pub after : Progress
  pub named : names_known (has_mutex s) (has_cond s) q ≡ true → has_mutex s (named_by q) ≡ true
  -- if the exchange fails, the kernel call is next
  pub calls : belongs q (Give CallUnlock y) ≡ true
  pub rests : needs (Give Release y) ≡ needs (Give CallUnlock y)
  pub blocked : is_blocked after ≡ true → is_blocked (before s q y) ≡ true
  -- it knows that the mutex is not inconsistent, and that its health word says its health
  pub order : (x : GiveStep) → is_last x ≡ true → Going s t q (Give x y)
      → (health_word_at s.words (named_by q) ≢ 1)
      × (health_of (health_word_at s.words (named_by q)) false ≡ health_at s (named_by q))
  -- the mutex is released, or passes on
  pub releases : (waited : Bool) (w z : Mutex) → w.owner ≡ t → w.count ≡ 1 → w.health ≢ Inconsistent → waited ≡ false
      → z ≡ record w { owner = 0; count = 1 } → Does t (named_by q) waited q (before s q y) w after z
  pub passes : (w v : World) → (thread_at w t).call ≡ Some (record { request = q; progress = before s q y })
      → (mutex_at w (named_by q)).owner ≡ t → (mutex_at w (named_by q)).count ≡ 1
      → (mutex_at w (named_by q)).health ≢ Inconsistent → Passes (named_by q) (with_progress t after w) v → Effect t w v

-- and by all steps
pub record GivesUpBy (s : Table) (t : ℕ) (q : Request) (y : Purpose) : Type 0 where
  pub ours : (x : GiveStep) → belongs q (Give x y) ≡ true
  pub last : GivesLast s t q y
  -- what it rests on at a step is that step's needs, and what it knows besides
  pub step : (x : GiveStep) (c : Cell) → MeetsOf s t q c (needs (Give x y)) → MeetsOf s t q c (give_needs x)
  pub whole : (x z : GiveStep) (c d : Cell) → MeetsOf s t q c (needs (Give x y)) → d.word.number ≡ t → d.count ≡ 1
      → MeetsOf s t q d (give_needs z) → MeetsOf s t q d (needs (Give z y))
  -- an inconsistent mutex becomes unusable
  pub spoils : (waited : Bool) (w z : Mutex) → w.owner ≡ t → w.count ≡ 1 → w.health ≡ Inconsistent
      → z ≡ record w { health = Unusable } → Does t (named_by q) waited q (before s q y) w (before s q y) z

module _ {s : Table} {t : ℕ} {q : Request} {y : Purpose} (r : GivesUpBy s t q y) where
  abbrev m : ℕ
  m = named_by q

  module _ {x : GiveStep} (g : Going s t q (Give x y)) where
    -- the mutex exists, and t holds it once
    known : has_mutex s m ≡ true
    known = r.last.named (going_named g)

    ready : is_ready (status_at s t) ≡ true
    ready = going_ready g

    own : (word_at s.words m).number ≡ t
    own = going_own g

    once : (library_at s m).count ≡ 1
    once = going_once g own

    -- what it rests on at this step, and what it is to rest on at that one
    here : MeetsOf s t q (cell_at s m) (give_needs x)
    here = r.step x (cell_at s m) (going_met g)

    there : (z : GiveStep) → MeetsOf s t q (cell_at s m) (give_needs z) → MeetsOf s t q (cell_at s m) (needs (Give z y))
    there z k = r.whole x z (cell_at s m) (cell_at s m) (going_met g) own once k

    -- the call goes on at another step with the same of the list, with no effect
    goes_on : (z : GiveStep) → is_named_giving x ≡ is_named_giving z → is_last x ≡ is_last z
        → MeetsOf s t q (cell_at s m) (give_needs z)
        → ((word_at s.words m).number ≡ t → is_loose_giving z ≡ false
        → ((word_at s.words m).died ≡ false) × (health_word_at s.words m ≢ 2))
        → GoKeeps s t (goes_to t q (Give z y) s)
    goes_on z a b k settled =
        goes g known (Give z y) (quiet refl refl) ready (r.ours z) refl (there z k)
        (λ e. row_same g known e (sym a) refl (sym b) settled)

  -- name the mutex in the pending field
  names_kept : Going s t q (Give SetPending y) → GoKeeps s t (goes_to t q (Give SeeHealth y) (with_pending_field t m s))
  names_kept g =
      pending_kept g (known g) (Give SeeHealth y) (quiet refl refl) (ready g) (here g).0 (r.ours SeeHealth) refl
      (there g SeeHealth (here g)) refl refl refl refl refl

  -- load the health word
  loads_kept : Going s t q (Give SeeHealth y) → GoKeeps s t (give_health q y t m s)
  loads_kept g = give_health_cases (GoKeeps s t) q y t m s
      (λ e. goes_on g StoreUnusable refl refl ((here g).0, ((λ o. e), tt)) (λ o u. settled_so_far g (known g) refl o))
      (λ e. goes_on g Unlink refl refl
      ((here g).0, ((λ o. e), ((λ o. (settled_so_far g (known g) refl o).0), tt))) (λ o u. absurd (true≢false u)))

  -- the mutex is given up inconsistent: it is unusable
  stores_kept : Going s t q (Give StoreUnusable y) → GoKeeps s t (goes_to t q (Give Unlink y) (with_health_word m 2 s))
  stores_kept g =
      let h = here g in
      let d : Bool = (word_at s.words m).died in
      let unusable : Cell = record (cell_at s m) { health = 2 } in
      let died : (word_at s.words m).number ≡ t → (word_at s.words m).died ≡ false =
      λ o. (settled_so_far g (known g) refl o).0 in
      subst (KeepsGo s t Went) (health_table g (known g) (ready g) Went (At q (Give Unlink y)) 2)
      (states g (known g) (ready g) Went (At q (Give Unlink y)) (quiet refl refl) d 2 (before s q y)
      (λ j e. e) (own g) h.0 (
        refl,
        r.ours Unlink,
        r.whole StoreUnusable Unlink (cell_at s m) unusable (going_met g) (own g) (once g)
            (h.0, ((λ o. two_not_one 2 refl), (died, tt))),
      )
      (Give Unlink y, refl, refl)
      (row_stated g (known g) d 2 h.0 refl refl refl (λ o u. absurd (true≢false u)))
      (r.spoils (has_waiter s.kernel.waiters m) (mutex_of (cell_at s m)) (mutex_of unusable) (own g) (once g)
      (health-inconsistent (health_word_at s.words m) d (h.1.0 (own g)))
      (ap (λ z. record (mutex_of (cell_at s m)) { health = z }) (health-unusable 2 d refl))))

  -- take the mutex off the list
  unlinks_kept : Going s t q (Give Unlink y)
      → GoKeeps s t (goes_to t q (Give Release y) (with_lists (without_listed t m s.lists) s))
  unlinks_kept g =
      let h = here g in
      let mine : Bool = (word_at s.words m).number == t in
      goes_listed g (known g) (Give Release y) (quiet refl refl)
      (record (robust_at s.lists t) { listed = without_entry (robust_at s.lists t).listed m; half_linked = 0 })
      (ready g) (r.ours Release) refl (there g Release h.1)
      (robust_lists g (known g) refl h.0 h.0 (record {
        pending = row_pending g (known g) h.0;
        half_linked = refl;
        others = λ j d. has_entry-without_other (robust_at s.lists t).listed m j d;
        own = has_entry-without_same (robust_at s.lists t).listed m ∙ sym (either mine);
        settled = λ o u. absurd (true≢false u);
      }))
    where
      either : (b : Bool) → (if b then false else false) ≡ false
      either true = refl
      either false = refl

-- GIVING IT UP

-- the table after the kernel handed a mutex to its next waiter
abbrev pub handed_over : Table → ℕ → Table
handed_over s m = with_kernel (set_word s.words m (hand_word (next_in s.kernel m)))
    (kernel_after_hand_over (next_in s.kernel m) m s.kernel) s

-- what comes after, if nobody waits for the mutex, and if the kernel hands it on
pub record GoesAfter (s : Table) (t : ℕ) (q : Request) (y : Purpose) : Type 0 where
  pub freed : (x : GiveStep) → is_last x ≡ true → Going s t q (Give x y)
      → has_waiter s.kernel.waiters (named_by q) ≡ false
      → GoKeeps s t (given_up q y t (named_by q) (with_word (named_by q) free_word s))
  pub handed : (x : GiveStep) → is_last x ≡ true → Going s t q (Give x y) → state_at s.kernel (named_by q) ≢ 0
      → GoKeeps s t (given_up q y t (named_by q) (handed_over s (named_by q)))

module _ {s : Table} {t : ℕ} {q : Request} {y : Purpose} (r : GivesLast s t q y) where
  abbrev mutex : ℕ
  mutex = named_by q

  -- the exchange fails
  exchange_fails : Going s t q (Give Release y) → GoKeeps s t (goes_to t q (Give CallUnlock y) s)
  exchange_fails g =
      goes g (r.named (going_named g)) (Give CallUnlock y) (quiet refl refl) (going_ready g) r.calls refl
      (subst (MeetsOf s t q (cell_at s mutex)) r.rests (going_met g))
      (λ e. row_same g (r.named (going_named g)) e refl refl refl (λ o u. absurd (true≢false u)))

  module _ {x : GiveStep} (last : is_last x ≡ true) (g : Going s t q (Give x y)) where
    exists : has_mutex s mutex ≡ true
    exists = r.named (going_named g)

    owned : (word_at s.words mutex).number ≡ t
    owned = going_own g

    held_once : (library_at s mutex).count ≡ 1
    held_once = going_once g owned

    order : health_word_at s.words mutex ≢ 1
    order = (r.order x last g).0

    health : health_of (health_word_at s.words mutex) false ≡ health_at s mutex
    health = (r.order x last g).1

    -- if no thread waits, by the word
    pub alone : (cell_at s mutex).word.waiters ≡ false → has_waiter s.kernel.waiters mutex ≡ false
    alone w = none_from_flag (going_cell g exists) w

    -- what it gives up is in order, or unusable
    not_inconsistent : health_at s mutex ≢ Inconsistent
    not_inconsistent e = order (inconsistent-word (health_word_at s.words mutex) false refl (health ∙ e))

    pub given : GivesUp s t q (Give x y)
    given = record {
      going = g;
      named = exists;
      ready = going_ready g;
      own = owned;
      once = held_once;
      order = order;
      health = health;
      unlinked = λ e. last;
    }

    -- the call goes on at a place if all that it rests on is met of a mutex that another has, or nobody
    pub gives_to : (b : Place) → belongs q b ≡ true → is_pending b ≡ true → is_half_linked b ≡ false
        → may_enlist (At q b) ≡ false → chooses_on (At q b) ≡ 0
        → ((c : Cell) → c.word.number ≢ t → c.robust ≡ (library_at s mutex).robust → MeetsOf s t q c (needs b))
        → GivesUpTo s t q (Give x y) (At q b)
    gives_to b ours names half joins chooses knows = record {
      names = refl;
      pending = λ e. names ∙ sym (last_named x last);
      half_linked = λ e. half;
      knows = λ c d e. (refl, ours, knows c d e);
      follows = quiet joins chooses;
    }

    -- nobody waits for the mutex: its word is free
    pub frees_kept : (seen : Seen) (l : Line) → GivesUpTo s t q (Give x y) l
        → Shows s t mutex (health_of (health_word_at s.words mutex) false) q r.after seen l
        → has_waiter s.kernel.waiters mutex ≡ false
        → KeepsGo s t seen (with_line t l (with_word mutex free_word s))
    frees_kept seen l to shows none =
        frees g exists (going_ready g) owned held_once none order seen l r.after to.follows (λ j e. r.blocked e)
        (to.knows (record (cell_at s mutex) { word = free_word }) nobody refl) shows to.pending to.half_linked
        given.unlinked
        (r.releases (has_waiter s.kernel.waiters mutex) (mutex_of (cell_at s mutex))
        (mutex_of (record (cell_at s mutex) { word = free_word })) owned held_once not_inconsistent none
        (λ i. record (mutex_of (cell_at s mutex)) { owner = 0; count = held_once i; health = health i }))
      where
        nobody : 0 ≢ t
        nobody e = above_0 t (length s.kernel.seats) (going_added g exists) (sym e)

    -- the mutex passes on
    passes_on : (w : HistoryVariables) (v : World) → Passes mutex (with_progress t r.after (world_of s w)) v
        → Effect t (world_of s w) v
    passes_on w v p = r.passes (world_of s w) v (going_called g w) (ap (λ (z : Mutex). z.owner) seen ∙ owned)
        (ap (λ (z : Mutex). z.count) seen ∙ held_once)
        (λ e. not_inconsistent (sym (ap (λ (z : Mutex). z.health) seen) ∙ e)) p
      where
        seen : mutex_at (world_of s w) mutex ≡ mutex_of (cell_at s mutex)
        seen = mutex_seen g.sound.all.shape w mutex

    -- the kernel hands it on, and the call goes on
    pub hands_kept : (b : Place) → GivesUpTo s t q (Give x y) (At q b)
        → ((h : Health) → progress_at q b (status_at s t) h (uses_of s (variable_of q)) ≡ r.after)
        → state_at s.kernel mutex ≢ 0 → GoKeeps s t (goes_to t q b (handed_over s mutex))
    hands_kept b to shows state = handed_goes given (At q b) to state r.after
        (λ j e. r.blocked e)
        (λ w. ap (λ a. Some (record { request = q; progress = a }))
        (shows (health_at (handed (hands given (At q b) to state)) mutex)))
        passes_on

    -- or is answered
    pub hands_answered : (a : ℕ) → r.after ≡ Has a → GivesUpTo s t q (Give x y) Idle → state_at s.kernel mutex ≢ 0
        → GoKeeps s t (answers t a (handed_over s mutex))
    hands_answered a e to state = handed_answers given Idle to state a refl
        (λ w v p. passes_on w v (subst (λ b. Passes mutex (with_progress t b (world_of s w)) v) (sym e) p))

  -- compare-exchange from t to 0
  pub exchange_kept : GoesAfter s t q y → Going s t q (Give Release y) → GoKeeps s t (give_exchange q y t mutex s)
  exchange_kept to g = give_exchange_cases (GoKeeps s t) q y t mutex s
      (λ w. to.freed Release refl g (alone refl g w)) (exchange_fails g)

  -- the kernel call unlock_pi
  pub call_kept : GoesAfter s t q y → Going s t q (Give CallUnlock y) → GoKeeps s t (gives_up t mutex (given_up q y t mutex) s)
  call_kept to g = gives_up_cases (given refl g) (GoKeeps s t) (given_up q y t mutex) (to.freed CallUnlock refl g)
      (to.handed CallUnlock refl g)

-- each step of giving a mutex up
pub gives_kept : {s : Table} {t : ℕ} {q : Request} {y : Purpose} (r : GivesUpBy s t q y) → GoesAfter s t q y
    → (x : GiveStep) → Going s t q (Give x y) → GoKeeps s t (give_line q x y t (named_by q) s)
unfolding give_line
gives_kept r to SetPending g = names_kept r g
gives_kept r to SeeHealth g = loads_kept r g
gives_kept r to StoreUnusable g = stores_kept r g
gives_kept r to Unlink g = unlinks_kept r g
gives_kept r to Release g = exchange_kept r.last to g
gives_kept r to CallUnlock g = call_kept r.last to g

-- each step of leaving
pub leaves_kept : {s : Table} {t : ℕ} {q : Request} {y : Purpose} (r : GivesLast s t q y) → GoesAfter s t q y
    → (x : GiveStep) → is_last x ≡ true → Going s t q (Give x y) → GoKeeps s t (give_line q x y t (named_by q) s)
unfolding give_line
leaves_kept r to Release e g = exchange_kept r to g
leaves_kept r to CallUnlock e g = call_kept r to g
leaves_kept r to _ e g = absurd (true≢false (sym e))
