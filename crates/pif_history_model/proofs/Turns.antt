-- Which threads may fail at once, and whose turn it is then. These are the same in a state that stands for another one.
-- Once a trylock has failed, the others stay the same.
use Rattle.std.proofs.Common.{ℕ, zero, suc, ◌≡◌, ◌≢◌, ◌⊎◌, ◌<◌, ◌≤◌, ◌==◌, ◌∙◌, Bool, true, false, List, length, get_or, set, nat_lt, not, Option, Some, None, refl, sym, ap, inl, inr, arith, if◌then◌else◌}
use Rattle.std.proofs.lemmas.Bool.{true≢false, cases_eq, eqb-true, eqb-false, not-true, false_from_ne_true}
use Rattle.std.proofs.lemmas.List.{get_or-set_other, length-set}
use Rattle.pif_types.specs.declared.requests.Request.{Request}
use Rattle.pif_types.specs.declared.requests.Request.TheVariants.{TryLock}
use Rattle.pif_model.specs.NamedNumbers.{EBUSY}
use Rattle.pif_model.specs.Posix.{World, Thread, Call, Progress, nobody, thread_at, mutex_at, is_thread, is_living, with_progress, at_progress, HasCome, IsCalling, IsOwned, IsNotOwner}
use Rattle.pif_model.specs.World.Progress.{Fresh, Has}
use Rattle.pif_model_lemmas.proofs.Numbers.{below}
use Rattle.pif_model_simulation.proofs.runs.Worlds.{call_of, call-with_progress}
use Rattle.pif_model_simulation.proofs.runs.Holding.{same_progress}
use Rattle.pif_posix_steps.proofs.AlikeMoves.{other}
use Rattle.pif_posix_steps.proofs.AlikeThreads.{alike_call, alike_living, alike_length}
use Rattle.pif_history_model.specs.declared.lines.Line.{Line}
use Rattle.pif_history_model.specs.Lines.{is_among}
use Rattle.pif_history_model.specs.Plain.{PlainConfiguration}
use Rattle.pif_history_model.specs.Forgetting.{StandsFor}
use Rattle.pif_history_model.specs.Known.{known_answer}
use Rattle.pif_history_model.specs.AtOnce.{meets_another, is_busy, fails_if_open, may_go, fails_now, failing_below, failing}
use Rattle.pif_history_model.proofs.Testing.{both}

-- TESTS

-- a test that fails before another one is made
first_fails : (a b : Bool) → (if a then false else b) ≡ true → (a ≡ false) × (b ≡ true)
first_fails true b e = absurd (true≢false (sym e))
first_fails false b e = (refl, e)

busy_is : (o : Option ℕ) → is_busy o ≡ true → o ≡ Some EBUSY
busy_is None e = absurd (true≢false (sym e))
busy_is (Some a) e = ap Some (eqb-true a EBUSY e)

-- WHO MAY FAIL

-- t's open call is a trylock that has had no effect yet, of a mutex that another thread owns
pub record MeetsAnother (w : World) (t : ℕ) : Type 0 where
  pub mutex : ℕ
  pub call : IsCalling w t (TryLock mutex)
  pub owned : IsOwned w mutex
  pub not_own : IsNotOwner w t mutex

module _ (w : World) (t : ℕ) where
  meets_at : (q : Request) (p : Progress) → HasCome w t q p → meets_another w t q p ≡ true → MeetsAnother w t
  meets_at (TryLock m) Fresh come e =
      let owner : ℕ = (mutex_at w m).owner in
      let h = first_fails (owner == 0) (not (owner == t)) e in
      record {
        mutex = m;
        call = come;
        owned = eqb-false owner 0 h.0;
        not_own = eqb-false owner t (not-true (owner == t) h.1);
      }
  meets_at q p come e = absurd (true≢false (sym e))

  meets_if_open : (c : Option Call) (known : Option ℕ) → (thread_at w t).call ≡ c → fails_if_open w t c known ≡ true
      → MeetsAnother w t × (known ≡ Some EBUSY)
  meets_if_open None known is e = absurd (true≢false (sym e))
  meets_if_open (Some c) known is e =
      let h = both (meets_another w t c.request c.progress) (is_busy known) e in
      (meets_at c.request c.progress is h.0, busy_is known h.1)

-- t may fail at once, if these lines are still to come
pub record MayFail (rest : List Line) (s : PlainConfiguration) (t : ℕ) : Type 0 where
  pub apart : is_among s.dying t ≡ false
  pub thread : is_thread s.world t ≡ true
  pub living : is_living s.world t ≡ true
  pub meets : MeetsAnother s.world t
  pub known : known_answer t rest ≡ Some EBUSY

module _ (rest : List Line) (s : PlainConfiguration) (t : ℕ) where
  pub may_fail : fails_now rest s t ≡ true → MayFail rest s t
  may_fail e =
      let open_call : Bool = fails_if_open s.world t (thread_at s.world t).call (known_answer t rest) in
      let a = first_fails (is_among s.dying t) (if may_go s.world t then open_call else false) e in
      let b = both (may_go s.world t) open_call a.1 in
      let c = both (is_thread s.world t) (is_living s.world t) b.0 in
      let d = meets_if_open s.world t (thread_at s.world t).call (known_answer t rest) refl b.1 in
      record { apart = a.0; thread = c.0; living = c.1; meets = d.0; known = d.1 }

  -- t is the number of a thread then
  pub fails_within : fails_now rest s t ≡ true → t < length s.world.threads
  fails_within e = below t (length s.world.threads) (may_fail e).thread

  pub none_past : length s.world.threads ≤ t → fails_now rest s t ≡ false
  none_past h =
      false_from_ne_true (fails_now rest s t)
      (λ e. let lt : t < length s.world.threads = fails_within e in omega (arith, h, lt))

-- OTHER THREADS, THE SAME MUTEXES

same_meets : (w : World) (ys : List Thread) (t : ℕ) (q : Request) (p : Progress)
    → meets_another (other ys w) t q p ≡ meets_another w t q p
same_meets w ys t (TryLock m) Fresh = refl
same_meets w ys t q p = refl

same_if_open : (w : World) (ys : List Thread) (t : ℕ) (c : Option Call) (known : Option ℕ)
    → fails_if_open (other ys w) t c known ≡ fails_if_open w t c known
same_if_open w ys t None known = refl
same_if_open w ys t (Some c) known = λ i. if same_meets w ys t c.request c.progress i then is_busy known else false

-- a thread that lives as before, and has the same call open, may fail as before
same_fails : (rest : List Line) (s : PlainConfiguration) (ys : List Thread) → length ys ≡ length s.world.threads → (t : ℕ)
    → (get_or ys t nobody).living ≡ is_living s.world t → (get_or ys t nobody).call ≡ (thread_at s.world t).call
    → fails_now rest (record s { world = other ys s.world }) t ≡ fails_now rest s t
same_fails rest s ys long t living call =
    let called : fails_if_open (other ys s.world) t (get_or ys t nobody).call (known_answer t rest)
    ≡ fails_if_open s.world t (thread_at s.world t).call (known_answer t rest) =
    ap (λ (o : Option Call). fails_if_open (other ys s.world) t o (known_answer t rest)) call
    ∙ same_if_open s.world ys t (thread_at s.world t).call (known_answer t rest) in
    λ i. if is_among s.dying t then false
    else (if (if (if t == 0 then false else nat_lt t (long i)) then living i else false) then called i else false)

-- STATES THAT STAND FOR OTHERS

module _ (rest : List Line) (s n : PlainConfiguration) (a : StandsFor s n) where
  abbrev its : List Thread
  its = n.world.threads

  fails_alike : (t : ℕ) → fails_now rest n t ≡ fails_now rest s t
  fails_alike t =
      let is : record s { world = other its s.world } ≡ n =
      (λ i. record { world = sym a.world.others i; dying = a.dying i }) in
      ap (λ (z : PlainConfiguration). fails_now rest z t) (sym is)
      ∙ same_fails rest s its (sym (alike_length s.world.threads its a.world.threads)) t
      (sym (alike_living s.world.threads its a.world.threads t))
      (sym (alike_call s.world.threads its a.world.threads t))

  fails_below_alike : (k : ℕ) → failing_below rest n k ≡ failing_below rest s k
  fails_below_alike zero = refl
  fails_below_alike (suc k) =
      let ih = fails_below_alike k in
      λ i. if fails_alike k i then Some k else ih i

  -- it is the turn of the same thread
  pub same_failing : failing rest n ≡ failing rest s
  same_failing =
      ap (failing_below rest n) (sym (alike_length s.world.threads its a.world.threads))
      ∙ fails_below_alike (length s.world.threads)

-- A TRYLOCK THAT HAS FAILED

-- the state in which t has failed
abbrev pub failed : ℕ → PlainConfiguration → PlainConfiguration
failed t s = record s { world = with_progress t (Has EBUSY) s.world }

-- a call with its result isn't one without effects
has_result : (o : Option Call) (a : ℕ) (q : Request)
    → at_progress (Has a) o ≡ Some (record { request = q; progress = Fresh }) → ⊥
has_result None a q e = absurd (cc)
has_result (Some c) a q e = absurd (let wrong : Fresh ≡ Has a = same_progress e refl in cc)

module _ (rest : List Line) (s : PlainConfiguration) (t : ℕ) where
  -- t fails no more
  pub fails_no_more : fails_now rest (failed t s) t ≡ false
  fails_no_more =
      false_from_ne_true (fails_now rest (failed t s) t) (λ e.
      let m = may_fail rest (failed t s) t e in
      has_result (call_of s.world t) EBUSY (TryLock m.meets.mutex)
      (sym (call-with_progress s.world t (Has EBUSY)) ∙ m.meets.call))

  -- others may fail as before
  pub others_fail : (u : ℕ) → u ≢ t → fails_now rest (failed t s) u ≡ fails_now rest s u
  others_fail u ne =
      let new : Thread = record (thread_at s.world t) { call = at_progress (Has EBUSY) (thread_at s.world t).call } in
      let same : get_or (set s.world.threads t new) u nobody ≡ thread_at s.world u =
      get_or-set_other s.world.threads t u new nobody ne in
      same_fails rest s (set s.world.threads t new) (length-set s.world.threads t new) u
      (ap (λ (x : Thread). x.living) same) (ap (λ (x : Thread). x.call) same)

-- WHOSE TURN IT IS

module _ (rest : List Line) (s : PlainConfiguration) where
  -- if no thread may fail at once, it is nobody's turn
  pub nobody_fails : ((t : ℕ) → fails_now rest s t ≡ false) → (n : ℕ) → failing_below rest s n ≡ None
  nobody_fails h zero = refl
  nobody_fails h (suc n) =
      let ih = nobody_fails h n in
      λ i. if h n i then Some n else ih i

  -- else it is the turn of the greatest thread that may
  pub greatest_fails : (k : ℕ) → fails_now rest s k ≡ true → ((t : ℕ) → suc k ≤ t → fails_now rest s t ≡ false)
      → (n : ℕ) → k < n → failing_below rest s n ≡ Some k
  greatest_fails k e h zero lt = absurd (omega (arith, lt))
  greatest_fails k e h (suc n) lt = go (cases_eq k n) (greatest_fails k e h n)
    where
      go : (k ≡ n) ⊎ (k ≡ n → ⊥) → (k < n → failing_below rest s n ≡ Some k) → failing_below rest s (suc n) ≡ Some k
      go (inl is) ih =
          let here : fails_now rest s n ≡ true = ap (fails_now rest s) (sym is) ∙ e in
          (λ i. if here i then Some n else failing_below rest s n) ∙ ap Some (sym is)
      go (inr d) ih =
          let above : suc k ≤ n = omega (arith, lt, d) in
          let past : fails_now rest s n ≡ false = h n above in
          let before : failing_below rest s n ≡ Some k = ih above in
          λ i. if past i then Some n else before i
