-- Where lines are quiet, the state of each run that shows them is the one in which they rest, but for what no step
-- sees.
use Rattle.std.proofs.Common.{ℕ, zero, suc, ◌≡◌, ◌≢◌, ◌⊎◌, ◌∙◌, ◌==◌, true, false, List, [], ◌∷◌, length, get_or, map, Option, Some, None, refl, sym, ap, inl, inr, arith, if◌then◌else◌}
use Rattle.std.proofs.lemmas.Bool.{cases_eq, true≢false}
use Rattle.std.proofs.lemmas.List.{ext_get_or, length-map}
use Rattle.std.proofs.lemmas.List.Sums.{sum_by-cons}
use Rattle.pif_types.specs.Bounds.{Bounds}
use Rattle.pif_types.specs.declared.requests.Request.{Request}
use Rattle.pif_types.specs.declared.requests.Request.TheVariants.{Signal, Broadcast, SetPrio}
use Rattle.pif_model.specs.Posix.{World, Thread, Call, nobody, no_mutex, no_variable, no_memory, thread_at, mutex_at, variable_at, new_thread}
use Rattle.pif_model_lemmas.proofs.Among.{is_among as waits_among, is_among_here}
use Rattle.pif_model_lemmas.proofs.Places.{mapped_at, kept_at}
use Rattle.pif_model_lemmas.proofs.Waiting.{by_test}
use Rattle.pif_model_simulation.proofs.runs.Worlds.{call_of, owner_of, push_same}
use Rattle.pif_posix_steps.specs.Alike.{timer_while_open, bare_of, looks}
use Rattle.pif_history_model.specs.declared.lines.Line.{Line}
use Rattle.pif_history_model.specs.declared.lines.Line.TheVariants.{Thread as AThread, Mutex as AMutex, Cond, Answer, End, Tick}
use Rattle.pif_history_model.specs.Lines.{is_among}
use Rattle.pif_history_model.specs.Forgetting.{StandsFor}
use Rattle.pif_history_model.proofs.Completeness.{at}
use Rattle.pif_parts_model.specs.Quiet.{call_by, IsQuiet}
use Rattle.pif_parts_model.specs.Resting.{after_success, after_answer, world_by, rest_by}
use Rattle.pif_parts_model.proofs.Ledgers.{Tag, call_mark, tag_of, free_of, ledger_of}
use Rattle.pif_parts_model.proofs.Ledgers.Mark.{NoMark}
use Rattle.pif_parts_model.proofs.Agreeing.{no_tag, tag_at, users, times_used}
use Rattle.pif_parts_model.proofs.Reading.{no_mark_set}
use Rattle.pif_parts_model.proofs.Accounting.{Accounted, held, idle_call, owns_none, mark_is}

-- WHERE LINES REST

-- nobody has a call open there
success_calls : (q : Request) (w : World) (t : ℕ) → call_of (after_success q w) t ≡ call_of w t
success_calls (SetPrio u p) w t = kept_at (λ (x : Thread). x.call) w.threads u (record (thread_at w u) { base = p }) nobody refl t
success_calls (Signal c) w t = refl
success_calls (Broadcast c) w t = refl
success_calls _ w t = refl

answer_calls : (a : ℕ) (o : Option Request) (w : World) (t : ℕ) → call_of (after_answer a o w) t ≡ call_of w t
answer_calls a None w t = refl
answer_calls a (Some q) w t =
    by_test (λ b. call_of (if b then after_success q w else w) t ≡ call_of w t) (a == 0) (λ _. success_calls q w t) (λ _. refl)

rest_calls : (l : Bounds) (lines : List Line) (t : ℕ) → call_of (world_by l lines) t ≡ None
rest_calls l [] zero = refl
rest_calls l [] (suc t) = refl
rest_calls l (AThread p ∷ xs) t =
    push_same (λ (x : Thread). x.call) (world_by l xs).threads (new_thread p) nobody t refl ∙ rest_calls l xs t
rest_calls l (AMutex k r y ∷ xs) t = rest_calls l xs t
rest_calls l (Cond m ∷ xs) t = rest_calls l xs t
rest_calls l (Answer u a ∷ xs) t = answer_calls a (call_by xs u) (world_by l xs) t ∙ rest_calls l xs t
rest_calls l (End u ∷ xs) t =
    kept_at (λ (x : Thread). x.call) (world_by l xs).threads u (record (thread_at (world_by l xs) u) { living = false }) nobody refl t
    ∙ rest_calls l xs t
rest_calls l (Tick n ∷ xs) t = rest_calls l xs t
rest_calls l (_ ∷ xs) t = rest_calls l xs t

-- and nobody waits
success_waiters : (q : Request) (w : World) → (after_success q w).waiters ≡ w.waiters
success_waiters (SetPrio u p) w = refl
success_waiters (Signal c) w = refl
success_waiters (Broadcast c) w = refl
success_waiters _ w = refl

answer_waiters : (a : ℕ) (o : Option Request) (w : World) → (after_answer a o w).waiters ≡ w.waiters
answer_waiters a None w = refl
answer_waiters a (Some q) w =
    by_test (λ b. (if b then after_success q w else w).waiters ≡ w.waiters) (a == 0) (λ _. success_waiters q w) (λ _. refl)

rest_waiters : (l : Bounds) (lines : List Line) → (world_by l lines).waiters ≡ []
rest_waiters l [] = refl
rest_waiters l (AThread p ∷ xs) = rest_waiters l xs
rest_waiters l (AMutex k r y ∷ xs) = rest_waiters l xs
rest_waiters l (Cond m ∷ xs) = rest_waiters l xs
rest_waiters l (Answer u a ∷ xs) = answer_waiters a (call_by xs u) (world_by l xs) ∙ rest_waiters l xs
rest_waiters l (End u ∷ xs) = rest_waiters l xs
rest_waiters l (Tick n ∷ xs) = rest_waiters l xs
rest_waiters l (_ ∷ xs) = rest_waiters l xs

-- LISTS

-- what a function leaves each place of a list as it is
pub map_same : {A : Type 0} (f : A → A) (l : List A) (d : A) → ((k : ℕ) → f (get_or l k d) ≡ get_or l k d) → map f l ≡ l
map_same f [] d h = refl
map_same f (x ∷ xs) d h = λ j. h zero j ∷ map_same f xs d (λ k. h (suc k)) j

-- nobody has used a variable
no_users : (c : ℕ) (xs : List Tag) → ((t : ℕ) → (get_or xs t no_tag).mark ≡ NoMark) → users c xs ≡ 0
no_users c [] h = refl
no_users c (x ∷ xs) h =
    let first : times_used c x.mark ≡ 0 = ap (times_used c) (h zero) in
    omega (arith, first, no_users c xs (λ t. h (suc t)), sum_by-cons (λ (y : Tag). times_used c y.mark) x xs)

-- no pair is among none
no_waiters : (ws : List (ℕ × ℕ)) → ((u m : ℕ) → waits_among ws u m ≡ true → ⊥) → ws ≡ []
no_waiters [] h = refl
no_waiters (p ∷ ps) h = absurd (h p.0 p.1 (is_among_here p ps p.0 p.1 refl refl))

-- A QUIET STATE

module _ (l : Bounds) (lines : List Line) (w : World) (us : List ℕ) (x : Accounted l lines (at w us)) (q : IsQuiet lines) where
  calls_closed : (t : ℕ) → call_of w t ≡ None
  calls_closed t = idle_call l lines w us x t (q.idle t)

  -- no mutex is owned
  unowned : (m : ℕ) → owner_of w m ≡ 0
  unowned m = go (cases_eq (owner_of w m) 0)
    where
      go : (owner_of w m ≡ 0) ⊎ (owner_of w m ≢ 0) → owner_of w m ≡ 0
      go (inl e) = e
      go (inr d) = absurd (owns_none l lines w us x (owner_of w m) (q.idle (owner_of w m)) (x.sound.owners m d) m refl)

  mutex_free : (m : ℕ) → free_of (mutex_at w m) ≡ mutex_at w m
  mutex_free m = λ j. record {
    kind = (mutex_at w m).kind;
    robust = (mutex_at w m).robust;
    owner = sym (unowned m) j;
    count = sym ((x.sound.whole m).once (unowned m)) j;
    health = sym (x.sound.whole m).fine j;
  }

  mutexes_same : w.mutexes ≡ (world_by l lines).mutexes
  mutexes_same = sym (map_same free_of w.mutexes no_mutex mutex_free) ∙ x.agrees.mutexes

  unmarked : (t : ℕ) → (tag_at (ledger_of w) t).mark ≡ NoMark
  unmarked t = mark_is l lines w us x t ∙ ap call_mark (calls_closed t)

  variables_same : w.variables ≡ (world_by l lines).variables
  variables_same = ext_get_or no_variable w.variables (world_by l lines).variables x.agrees.count
      (λ c _ j. record { mutex = x.agrees.bound c j; uses = uses_same c j })
    where
      uses_same : (c : ℕ) → (get_or w.variables c no_variable).uses ≡ (variable_at (world_by l lines) c).uses
      uses_same c = omega (arith, x.agrees.used c, no_users c (ledger_of w).threads unmarked)

  waiters_none : w.waiters ≡ []
  waiters_none = no_waiters w.waiters (λ u m e.
      let i = (held l lines w us x).each u in
      let some : call_of w u ≡ Some _ = (i.waiting m e).call in
      let none : call_of w u ≡ None = calls_closed u in
      absurd (cc))

  tag_is : (t : ℕ) → tag_at (ledger_of w) t ≡ tag_of (thread_at w t)
  tag_is t = mapped_at tag_of w.threads t nobody

  base_same : (t : ℕ) → (thread_at w t).base ≡ (thread_at (world_by l lines) t).base
  base_same t =
      sym (ap (λ (y : Tag). y.base) (tag_is t))
      ∙ x.agrees.base t (λ u p e. no_mark_set t p (sym (unmarked u) ∙ e))

  living_same : (t : ℕ) → (thread_at w t).living ≡ (thread_at (world_by l lines) t).living
  living_same t =
      sym (ap (λ (y : Tag). y.living) (tag_is t))
      ∙ x.agrees.living t (ap (λ (zs : List ℕ). is_among zs t) (x.dying ∙ q.nobody_dying))

  bare_same : (t : ℕ) → bare_of (thread_at w t) ≡ bare_of (thread_at (world_by l lines) t)
  bare_same t = λ j. record {
    base = base_same t j;
    living = living_same t j;
    call = (calls_closed t ∙ sym (rest_calls l lines t)) j;
    timer =
        (ap (λ (o : Option Call). timer_while_open o (thread_at w t).timer) (calls_closed t)
        ∙ sym (ap (λ (o : Option Call). timer_while_open o (thread_at (world_by l lines) t).timer) (rest_calls l lines t))) j;
    memory = no_memory;
  }

  count_same : length w.threads ≡ length (world_by l lines).threads
  count_same = sym (length-map w.threads tag_of) ∙ x.agrees.threads

  bare_threads : map bare_of w.threads ≡ map bare_of (world_by l lines).threads
  bare_threads =
      ext_get_or (bare_of nobody) (map bare_of w.threads) (map bare_of (world_by l lines).threads)
      (length-map w.threads bare_of ∙ count_same ∙ sym (length-map (world_by l lines).threads bare_of))
      (λ t _. mapped_at bare_of w.threads t nobody ∙ bare_same t ∙ sym (mapped_at bare_of (world_by l lines).threads t nobody))

  pub rests_there : StandsFor (at w us) (rest_by l lines)
  rests_there = record {
    dying = x.dying ∙ q.nobody_dying;
    world = record {
      others = λ j. record {
        threads = (world_by l lines).threads;
        mutexes = sym mutexes_same j;
        variables = sym variables_same j;
        waiters = (rest_waiters l lines ∙ sym waiters_none) j;
        signals = sym x.agrees.signals j;
        time = sym x.agrees.time j;
      };
      threads = record {
        bare = bare_threads;
        found = λ t looking u ahead. absurd (true≢false (sym looking ∙ ap looks (calls_closed t)));
      };
    };
  }
