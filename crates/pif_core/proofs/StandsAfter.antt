-- What a core that stands shows, and that it stands after each call.
use Rattle.std.proofs.Common.{◌≡◌, ◌≢◌, ℕ, ◌≤◌, ◌==◌, Bool, true, false, List, ◌∷◌, length, Option, Some, None, IfSome, unwrap_or, refl, sym, ap, ap₂, ◌∙◌, subst, eqb-true, if◌then◌else◌}
use Rattle.std.specs.Option.{is_some}
use Rattle.std.proofs.lemmas.Bool.{eqb-false}
use Rattle.pif_model_lemmas.proofs.kernel.Facts.{living-added}
use Rattle.pif_model_lemmas.proofs.Waiting.{by_test}
use Rattle.pif_types.specs.declared.requests.Kind.{Kind}
use Rattle.pif_types.specs.declared.requests.Health.{Health}
use Rattle.pif_types.specs.declared.requests.Health.TheVariants.{Fine, Inconsistent, Unusable}
use Rattle.pif_model.specs.declared.events.Event.{Event}
use Rattle.pif_model.specs.declared.events.Seen.{Seen}
use Rattle.pif_model.specs.declared.events.Entry.{Entry}
use Rattle.pif_model.specs.declared.events.Entry.TheVariants.{Thread as AddThread, Mutex as AddMutex, Cond as AddCond, Step as Happened}
use Rattle.pif_model.specs.Posix.{World, IsLegal, is_thread, is_mutex, is_variable, is_due, thread_at, mutex_at, rests, effective_of}
use Rattle.pif_model.specs.World.Health.{Inconsistent as WasInconsistent}
use Rattle.pif_model.specs.Posix.{is_living as lives}
use Rattle.pif_model.specs.History.{AlwaysOneHolder}
use Rattle.pif_model.specs.PiKernel.{is_living, is_ready, effective_in, pick_in}
use Rattle.pif_model.specs.Table.{Table, cell_at, line_at, status_at, has_thread, has_mutex, has_cond, uses_of, thread_added, mutex_added, cond_added}
use Rattle.pif_model.specs.Calls.{effective_answer, word_answer, health_answer, cond_word_answer, pick_answer, waiting_answer}
use Rattle.pif_model.specs.Word.{word_of, bits_of, health_in, health_word}
use Rattle.pif_model.specs.Lines.{is_open, is_due_in, event_outcome}
use Rattle.pif_model.specs.Standing.{Stands, HasEffective, IsPick, IsPossible, IsPossibleHealth, IsPossibleUses, ArePossible}
use Rattle.pif_model_simulation.proofs.StandingLaws.{event_stands, thread_added_stands, mutex_added_stands, cond_added_stands}
use Rattle.pif_model_simulation.proofs.runs.Holders.{one_holder}
use Rattle.pif_model_simulation.proofs.Shown.{threads_shown, is_thread_seen, is_mutex_seen, is_variable_seen, living_seen, busy_seen}
use Rattle.pif_model_simulation.proofs.deadlines.Due.{due_seen}
use Rattle.pif_model_simulation.proofs.Steps.{rests_ready, rests_not_ready}
use Rattle.pif_model_simulation.proofs.Effective.{effective_seen}
use Rattle.pif_model_simulation.proofs.Picks.{pick_runs, word_is_possible, health_is_possible, died_behind_inconsistent, uses_are_possible}
use Rattle.pif_model_simulation.proofs.runs.Priority.{effective_is_greatest}
use Rattle.pif_core.proofs.Rooms.{thread_room, mutex_room, cond_room, priority}

-- AFTER A CALL

-- after an event
pub step_stands : (s v : Table) (e : Event) (seen : Seen) → seen ≡ (event_outcome e s).seen
    → v ≡ (event_outcome e s).after → (h : List Entry) (r : List World) (w : World) → Stands s h r w
    → (u : World) × Stands v (Happened e seen ∷ h) (w ∷ r) u
step_stands s v e seen a b h r w st = rw (a, b) (event_stands s e h r w st)

-- the history is legal
pub stands_legal : (s : Table) (h : List Entry) (r : List World) (w : World) → Stands s h r w → IsLegal s.limits h
stands_legal s h r w st = record { states = r; last = w; run = st.run }

-- no mutex has ever two holders
pub stands_one_holder : (s : Table) (h : List Entry) (r : List World) (w : World) → Stands s h r w → AlwaysOneHolder h
stands_one_holder s h r w st = one_holder s.limits h r w st.run

-- after an addition of a thread
pub thread_stands : (s v : Table) (t p base : ℕ) → v ≡ thread_added base s → t ≡ length s.lines → base ≡ p
    → length s.lines ≤ s.limits.threads → 1 ≤ base → base ≤ 99
    → (h : List Entry) (r : List World) (w : World) → Stands s h r w
    → (u : World) × Stands v (AddThread t p ∷ h) (w ∷ r) u
thread_stands s v t p base after is same le low high h r w st =
    rw (after, is, ← same) (thread_added_stands s base h r w st (thread_room s le) (priority base low high))

-- after an addition of a mutex
pub mutex_stands : (s v : Table) (m : ℕ) (k : Kind) (robust : Bool) → v ≡ mutex_added k robust s → m ≡ length s.mutexes
    → length s.mutexes ≤ s.limits.mutexes → (h : List Entry) (r : List World) (w : World)
    → Stands s h r w → (u : World) × Stands v (AddMutex m k robust ∷ h) (w ∷ r) u
mutex_stands s v m k robust after is le h r w st =
    rw (after, is) (mutex_added_stands s k robust h r w st (mutex_room s le))

-- after an addition of a condition variable
pub cond_stands : (s v : Table) (c m : ℕ) → v ≡ cond_added m s → c ≡ length s.conds → has_mutex s m ≡ true
    → length s.conds ≤ s.limits.conds → (h : List Entry) (r : List World) (w : World)
    → Stands s h r w → (u : World) × Stands v (AddCond c m ∷ h) (w ∷ r) u
cond_stands s v c m after is named le h r w st =
    rw (after, is) (cond_added_stands s m h r w st named (cond_room s le))

module _ (s : Table) (h : List Entry) (r : List World) (w : World) (st : Stands s h r w) where
  -- WHAT A READER SHOWS

  -- as many threads as lines
  pub threads_are : length w.threads ≡ length s.lines
  threads_are = ap (λ (u : World). length u.threads) st.shows ∙ threads_shown st.sound.all.shape st.history_variables

  -- the effective priority in the kernel is that of the subject
  effective_stands : (t : ℕ) → is_living s.kernel t ≡ true → HasEffective w t (effective_in s.kernel t)
  effective_stands t living =
      let known = ap (λ (u : World). is_thread u t) st.shows ∙ is_thread_seen st.sound.all.shape st.history_variables t
      ∙ living-added s.kernel t living in
      let same = ap (λ (f : ℕ → ℕ). f t) (effective_seen st.sound st.history_variables)
      ∙ ap (λ (u : World). effective_of u t) (sym st.shows) in
      subst (λ (p : ℕ). HasEffective w t p) (sym same) (effective_is_greatest s.limits h r w st.run t known)

  -- the kernel's pick is that of the subject
  pub pick_stands : IsPick w (pick_in s.kernel)
  pick_stands = subst (λ u. IsPick u (pick_in s.kernel)) (sym st.shows) (pick_runs st.sound st.history_variables)

  -- a mutex's health word is possible, and OWNER_DIED if it doesn't say that the mutex is inconsistent
  health_stands : (m : ℕ) → has_mutex s m ≡ true → IsPossibleHealth w m (cell_at s m).health
  health_stands m known =
      subst (λ u. IsPossibleHealth u m (cell_at s m).health) (sym st.shows)
      (health_is_possible st.sound st.history_variables m known)

  died_stands : (m : ℕ) → has_mutex s m ≡ true → (mutex_at w m).health ≡ WasInconsistent → (cell_at s m).health ≢ 1
      → (cell_at s m).word.died ≡ true
  died_stands m known e n =
      died_behind_inconsistent st.sound st.history_variables m known
      (ap (λ (u : World). (mutex_at u m).health) (sym st.shows) ∙ e) n

  -- a mutex's word is possible
  word_stands : (m : ℕ) → has_mutex s m ≡ true → IsPossible w m (cell_at s m).word
  word_stands m known =
      subst (λ u. IsPossible u m (cell_at s m).word) (sym st.shows) (word_is_possible st.sound st.history_variables m known)

  -- a condition word is how often its variable was used
  uses_stand : (c : ℕ) → IsPossibleUses w c (uses_of s c)
  uses_stand c = subst (λ u. IsPossibleUses u c (uses_of s c)) (sym st.shows) (uses_are_possible st.sound st.history_variables c)

-- WHAT AN OPTION HOLDS

-- what a fact says of an option that holds something
pub from_some : (o : Option ℕ) (x y : ℕ) → IfSome o (λ (z : ℕ). z ≡ y) → o ≡ Some x → x ≡ y
from_some o x y h e =
    let P : Option ℕ → Type 0 = λ p. IfSome p (λ (z : ℕ). z ≡ y) in
    subst P e h

-- an answer that is there by a test
there_by : {A : Type 0} (b : Bool) (x : A) → is_some (if b then Some x else None) ≡ b
there_by true x = refl
there_by false x = refl

-- what holds of an answer that is there by a test
pub said_by : {A : Type 0} (P : A → Type 0) (b : Bool) (x : A) (o : Option A) → o ≡ (if b then Some x else None)
    → (b ≡ true → P x) → IfSome o P
said_by {A} P b x o e f = subst (λ (y : Option A). IfSome y P) (sym e) (go b f)
  where
    go : (a : Bool) → (a ≡ true → P x) → IfSome (if a then Some x else None) P
    go true g = g refl
    go false g = tt

module _ {A : Type 0} (s : Table) (x : A) (o : Option A) (h : List Entry) (r : List World) (w : World)
    (st : Stands s h r w) where
  -- a reader answers for the threads that were added
  pub thread_is_some : (t : ℕ) → o ≡ (if has_thread s t then Some x else None) → is_some o ≡ is_thread w t
  thread_is_some t e = ap is_some e ∙ there_by (has_thread s t) x
      ∙ sym (ap (λ (u : World). is_thread u t) st.shows ∙ is_thread_seen st.sound.all.shape st.history_variables t)

  -- or for the living ones
  pub living_is_some : (t : ℕ) → o ≡ (if is_living s.kernel t then Some x else None) → is_some o ≡ lives w t
  living_is_some t e = ap is_some e ∙ there_by (is_living s.kernel t) x
      ∙ sym (ap (λ (u : World). lives u t) st.shows ∙ living_seen s st.history_variables t st.sound.all.shape)

  -- or for the mutexes that were added
  pub mutex_is_some : (m : ℕ) → o ≡ (if has_mutex s m then Some x else None) → is_some o ≡ is_mutex w m
  mutex_is_some m e = ap is_some e ∙ there_by (has_mutex s m) x
      ∙ sym (ap (λ (u : World). is_mutex u m) st.shows ∙ is_mutex_seen st.sound.all.shape st.history_variables m)

  -- or for the variables
  pub variable_is_some : (c : ℕ) → o ≡ (if has_cond s c then Some x else None) → is_some o ≡ is_variable w c
  variable_is_some c e = ap is_some e ∙ there_by (has_cond s c) x
      ∙ sym (ap (λ (u : World). is_variable u c) st.shows ∙ is_variable_seen st.sound.all.shape st.history_variables c)

-- the answer of the reader of effective priorities
pub effective_answered : (s : Table) (t : ℕ) (o : Option ℕ) (h : List Entry) (r : List World) (w : World)
    → Stands s h r w → o ≡ effective_answer t s → IfSome o (λ p. HasEffective w t p)
effective_answered s t o h r w st e =
    said_by (λ p. HasEffective w t p) (is_living s.kernel t) (effective_in s.kernel t) o e
    (effective_stands s h r w st t)

-- the answer of the reader of the pick
pub pick_answered : (s : Table) (o : Option ℕ) (h : List Entry) (r : List World) (w : World) → Stands s h r w
    → o ≡ pick_answer s → IsPick w (unwrap_or o 0)
pick_answered s o h r w st e =
    subst (λ (x : Option ℕ). IsPick w (unwrap_or x 0)) (sym e) (by_test (pick_in s.kernel == 0) refl)
  where
    by_test : (b : Bool) → (pick_in s.kernel == 0) ≡ b
        → IsPick w (unwrap_or (if b then None else Some (pick_in s.kernel)) 0)
    by_test true none = subst (IsPick w) (eqb-true (pick_in s.kernel) 0 none) (pick_stands s h r w st)
    by_test false some = pick_stands s h r w st

-- the answer of the reader of words
pub word_answered : (s : Table) (m : ℕ) (o : Option ℕ) (h : List Entry) (r : List World) (w : World) → Stands s h r w
    → o ≡ word_answer m s → IfSome o (λ bits. word_of bits ≡ (cell_at s m).word)
    → IfSome o (λ bits. IsPossible w m (word_of bits))
word_answered s m o h r w st e =
    let P : Option ℕ → Type 0 = λ x. IfSome x (λ bits. word_of bits ≡ (cell_at s m).word)
    → IfSome x (λ bits. IsPossible w m (word_of bits)) in
    subst P (sym e) (by_test (has_mutex s m) refl)
  where
    by_test : (b : Bool) → has_mutex s m ≡ b
        → IfSome (if b then Some (bits_of (cell_at s m).word) else None) (λ bits. word_of bits ≡ (cell_at s m).word)
        → IfSome (if b then Some (bits_of (cell_at s m).word) else None) (λ bits. IsPossible w m (word_of bits))
    by_test true known same = subst (IsPossible w m) (sym same) (word_stands s h r w st m known)
    by_test false known same = tt

-- the answer of the reader of condition words
pub cond_word_answered : (s : Table) (c : ℕ) (o : Option ℕ) (h : List Entry) (r : List World) (w : World)
    → Stands s h r w → o ≡ cond_word_answer c s → IfSome o (λ n. IsPossibleUses w c n)
cond_word_answered s c o h r w st e =
    said_by (λ n. IsPossibleUses w c n) (has_cond s c) (uses_of s c) o e (λ _. uses_stand s h r w st c)

-- a fact of a number holds of the one that a health word's health has, if it holds of 2, of 1 or of 0 for any other
by_health : (P : ℕ → Type 0) (n : ℕ) → (n ≡ 2 → P 2) → (n ≡ 1 → P 1) → (n ≢ 2 → n ≢ 1 → P 0)
    → P (health_word (health_in n))
by_health P n two one other =
    by_test (λ b. P (health_word (if b then Unusable else (if n == 1 then Inconsistent else Fine)))) (n == 2)
    (λ e. two (eqb-true n 2 e))
    (λ e. by_test (λ b. P (health_word (if b then Inconsistent else Fine))) (n == 1)
    (λ d. one (eqb-true n 1 d)) (λ d. other (eqb-false n 2 e) (eqb-false n 1 d)))

module _ (s : Table) (m : ℕ) (h : List Entry) (r : List World) (w : World) (st : Stands s h r w)
    (known : has_mutex s m ≡ true) where
  -- the health that a reader answers is possible
  health_said : IsPossibleHealth w m (health_word (health_in (cell_at s m).health))
  health_said =
      let is : IsPossibleHealth w m (cell_at s m).health = health_stands s h r w st m known in
      by_health (IsPossibleHealth w m) (cell_at s m).health
      (λ e. subst (IsPossibleHealth w m) e is) (λ e. subst (IsPossibleHealth w m) e is)
      (λ n k. record {
        unusable = λ e. cc;
        given_up = λ e. absurd (n (is.given_up e));
        inconsistent = λ e. cc;
      })

  -- and with the mutex's word
  both_said : ArePossible w m (cell_at s m).word (health_word (health_in (cell_at s m).health))
  both_said = by_health (ArePossible w m (cell_at s m).word) (cell_at s m).health
      (λ e d z. cc) (λ e d z. cc) (λ n k d z. died_stands s h r w st m known d k)

-- the answer of the reader of health words, by itself and with the mutex's word
pub health_answered : (s : Table) (m : ℕ) (o : Option Health) (h : List Entry) (r : List World) (w : World)
    → Stands s h r w → o ≡ health_answer m s → IfSome o (λ x. IsPossibleHealth w m (health_word x))
health_answered s m o h r w st e =
    said_by (λ x. IsPossibleHealth w m (health_word x)) (has_mutex s m) (health_in (cell_at s m).health) o e
    (health_said s m h r w st)

pub both_answered : (s : Table) (m : ℕ) (o : Option Health) (h : List Entry) (r : List World) (w : World)
    → Stands s h r w → o ≡ health_answer m s → IfSome o (λ x. ArePossible w m (cell_at s m).word (health_word x))
both_answered s m o h r w st e =
    said_by (λ x. ArePossible w m (cell_at s m).word (health_word x)) (has_mutex s m) (health_in (cell_at s m).health)
    o e (both_said s m h r w st)

-- WHO RESTS

-- a living thread rests if it may not run
rests_said : (s : Table) (t : ℕ) (h : List Entry) (r : List World) (w : World) → Stands s h r w
    → is_living s.kernel t ≡ true → (if is_ready (status_at s t) then false else true) ≡ rests w t
rests_said s t h r w st k =
    by_test (λ b. (if b then false else true) ≡ rests w t) (is_ready (status_at s t))
    (λ e. sym (ap (λ (u : World). rests u t) st.shows ∙ rests_ready st.sound st.history_variables t k e))
    (λ e. sym (ap (λ (u : World). rests u t) st.shows ∙ rests_not_ready st.sound st.history_variables t k e))

-- whether a thread rests on at its next step: it rests, and its call is not due
abbrev rests_on : World → ℕ → Bool
rests_on w t = if rests w t then (if is_due w t then false else true) else false

-- a living thread rests on if it may not run and its call is not due
rests_on_said : (s : Table) (t : ℕ) (h : List Entry) (r : List World) (w : World) → Stands s h r w
    → is_living s.kernel t ≡ true
    → (if is_ready (status_at s t) then false else (if is_due_in s t then false else true)) ≡ rests_on w t
rests_on_said s t h r w st k =
    both (is_ready (status_at s t)) (is_due_in s t) (rests w t) (is_due w t) (rests_said s t h r w st k)
    (ap (λ (u : World). is_due u t) st.shows ∙ due_seen st.sound st.history_variables t k)
  where
    both : (ready due resting now : Bool) → (if ready then false else true) ≡ resting → now ≡ due
        → (if ready then false else (if due then false else true))
        ≡ (if resting then (if now then false else true) else false)
    both true due resting now e f = ap (λ b. if b then (if now then false else true) else false) e
    both false due resting now e f =
        ap (λ b. if b then false else true) (sym f)
        ∙ ap (λ b. if b then (if now then false else true) else false) e

-- the reader of who rests
pub waiting_answered : (s : Table) (t : ℕ) (o : Option Bool) (h : List Entry) (r : List World) (w : World)
    → Stands s h r w → o ≡ waiting_answer t s
    → IfSome o (λ b. b ≡ (if rests w t then (if is_due w t then false else true) else false))
waiting_answered s t o h r w st e =
    subst (λ (x : Option Bool). IfSome x (λ b. b ≡ rests_on w t)) (sym e)
    (by_tests (is_living s.kernel t) (is_open (line_at s t))
    (if is_ready (status_at s t) then false else (if is_due_in s t then false else true))
    (rests_on_said s t h r w st))
  where
    by_tests : (living called said : Bool) → (living ≡ true → said ≡ rests_on w t)
        → IfSome (if living then (if called then Some said else None) else None) (λ b. b ≡ rests_on w t)
    by_tests true true said f = f refl
    by_tests true false said f = tt
    by_tests false called said f = tt

-- the reader of who rests answers for living threads with a call open
pub waiting_is_some : (s : Table) (t : ℕ) (o : Option Bool) (h : List Entry) (r : List World) (w : World)
    → Stands s h r w → o ≡ waiting_answer t s
    → is_some o ≡ (if lives w t then is_some (thread_at w t).call else false)
waiting_is_some s t o h r w st e =
    ap is_some e
    ∙ there (is_living s.kernel t) (is_open (line_at s t))
    (if is_ready (status_at s t) then false else (if is_due_in s t then false else true))
    ∙ sym (ap₂ (λ a b. if a then b else false) living busy)
  where
    there : (living called said : Bool) → is_some (if living then (if called then Some said else None) else None)
        ≡ (if living then called else false)
    there true true said = refl
    there true false said = refl
    there false called said = refl

    living : lives w t ≡ is_living s.kernel t
    living = ap (λ (u : World). lives u t) st.shows ∙ living_seen s st.history_variables t st.sound.all.shape

    busy : is_some (thread_at w t).call ≡ is_open (line_at s t)
    busy = ap (λ (u : World). is_some (thread_at u t).call) st.shows ∙ busy_seen st.sound.all.shape st.history_variables t
