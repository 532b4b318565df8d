-- What a core that stands shows a person who looks at it, in the words of the POSIX machine.
use Rattle.std.proofs.Common.{◌≡◌, ◌==◌, ◌||◌, ℕ, Bool, true, false, List, [], ◌∷◌, length, Option, Some, None, IfSome, unwrap_or, refl, sym, ap, ◌∙◌, subst, eqb-true, eq-eqb, true≢false, arith, if◌then◌else◌}
use Rattle.std.specs.List.{slice_get}
use Rattle.std.proofs.lemmas.Option.{unwrap_or-slice_get}
use Rattle.pif_types.specs.declared.requests.Request.{Request}
use Rattle.pif_types.specs.declared.requests.Kind.{Kind}
use Rattle.pif_model.specs.declared.events.Entry.{Entry}
use Rattle.pif_model.specs.declared.lines.Status.{Status}
use Rattle.pif_model.specs.Posix.{Mutex, Variable, World, is_blocked_on, thread_at, mutex_at, variable_at, rests}
use Rattle.pif_model.specs.Posix.{is_living as lives}
use Rattle.pif_model.specs.PiKernel.{is_living, is_ready, has_seat, seat_at, is_among, level_at, effective_in, ready_in}
use Rattle.pif_model.specs.Table.{Table, cell_at, has_thread, has_mutex, has_cond, status_at, bound_to}
use Rattle.pif_model.specs.Calls.{base_answer, status_answer, open_call_answer, owner_answer, kind_answer, bound_answer, waiter_answer, parked_answer, ready_answer, IsPathAnswer}
use Rattle.pif_model.specs.Standing.{Stands, IsDoing, IsPick, call_of, owner_of, waiters_of, IsPathFrom}
use Rattle.pif_model_simulation.proofs.Shown.{mutexes_shown, variables_shown, base_seen, mutex_seen, variable_seen}
use Rattle.pif_model_simulation.proofs.Looks.{doing_seen, open_seen, owner_seen, waiters_seen, parked_seen, ready_seen, path_seen}
use Rattle.pif_model_lemmas.proofs.kernel.Settled.{effective_range}
use Rattle.pif_model_lemmas.proofs.kernel.Orders.{first-levels_below}
use Rattle.pif_core.proofs.StandsAfter.{said_by, pick_stands}

-- what holds of whatever an option holds
if_some : (P : ℕ → Type 0) (o : Option ℕ) → ((x : ℕ) → o ≡ Some x → P x) → IfSome o P
if_some P None f = tt
if_some P (Some x) f = f x refl

module _ (s : Table) (h : List Entry) (r : List World) (w : World) (st : Stands s h r w) where
  -- as many mutexes as the library knows
  pub mutexes_are : length w.mutexes ≡ length s.mutexes
  mutexes_are = ap (λ (u : World). length u.mutexes) st.shows ∙ mutexes_shown st.sound.all.shape st.history_variables

  -- and as many variables
  pub variables_are : length w.variables ≡ length s.conds
  variables_are = ap (λ (u : World). length u.variables) st.shows ∙ variables_shown st.sound.all.shape st.history_variables

  -- the base priority is the thread's
  pub base_answered : (t : ℕ) (o : Option ℕ) → o ≡ base_answer t s → IfSome o (λ p. p ≡ (thread_at w t).base)
  base_answered t o e =
      said_by (λ p. p ≡ (thread_at w t).base) (is_living s.kernel t) (seat_at s.kernel t).base o e
      (λ _. sym (ap (λ (u : World). (thread_at u t).base) st.shows ∙ base_seen st.sound.all.shape st.history_variables t))

  -- a thread does what its status says
  pub status_answered : (t : ℕ) (o : Option Status) → o ≡ status_answer t s → IfSome o (λ x. IsDoing w t x)
  status_answered t o e =
      said_by (λ x. IsDoing w t x) (has_thread s t) (status_at s t) o e
      (λ known. subst (λ u. IsDoing u t (status_at s t)) (sym st.shows) (doing_seen st.sound st.history_variables t known))

  -- the time is the machine's
  pub time_answered : (n : ℕ) → n ≡ s.time → n ≡ w.time
  time_answered n e = e ∙ sym (ap (λ (u : World). u.time) st.shows)

  -- the open call is the thread's
  pub open_answered : (t : ℕ) (o : Option Request) → o ≡ open_call_answer t s → o ≡ call_of w t
  open_answered t o e = e ∙ open_seen st.sound st.history_variables t ∙ ap (λ u. call_of u t) (sym st.shows)

  -- the owner is the mutex's
  pub owner_answered : (m : ℕ) (o : Option (ℕ × ℕ)) → o ≡ owner_answer m s → o ≡ owner_of w m
  owner_answered m o e = e ∙ owner_seen st.sound st.history_variables m ∙ ap (λ u. owner_of u m) (sym st.shows)

  -- so are its kind and its robustness
  pub kind_answered : (m : ℕ) (o : Option (Kind × Bool)) → o ≡ kind_answer m s
      → IfSome o (λ x. x ≡ ((mutex_at w m).kind, (mutex_at w m).robust))
  kind_answered m o e =
      said_by (λ x. x ≡ ((mutex_at w m).kind, (mutex_at w m).robust)) (has_mutex s m)
      ((cell_at s m).kind, (cell_at s m).robust) o e
      (λ _. ap (λ (x : Mutex). (x.kind, x.robust))
      (sym (ap (λ (u : World). mutex_at u m) st.shows ∙ mutex_seen st.sound.all.shape st.history_variables m)))

  -- the mutex to which a variable is bound is the variable's
  pub bound_answered : (c : ℕ) (o : Option ℕ) → o ≡ bound_answer c s → IfSome o (λ m. m ≡ (variable_at w c).mutex)
  bound_answered c o e =
      said_by (λ m. m ≡ (variable_at w c).mutex) (has_cond s c) (bound_to s c) o e
      (λ _. ap (λ (x : Variable). x.mutex)
      (sym (ap (λ (u : World). variable_at u c) st.shows ∙ variable_seen st.sound.all.shape st.history_variables c)))

  -- the waiters of a mutex stand in their order
  pub waiter_answered : (m n : ℕ) (o : Option ℕ) → o ≡ waiter_answer m n s → o ≡ slice_get (waiters_of w m) n
  waiter_answered m n o e =
      e ∙ ap (λ us. slice_get us n) (waiters_seen st.sound st.history_variables m)
      ∙ ap (λ u. slice_get (waiters_of u m) n) (sym st.shows)

  -- who is parked on a variable is blocked on it
  pub parked_answered : (c n : ℕ) (o : Option ℕ) → o ≡ parked_answer c n s
      → IfSome o (λ t. is_blocked_on w c t ≡ true)
  parked_answered c n o e = if_some (λ t. is_blocked_on w c t ≡ true) o
      (λ t q. subst (λ u. is_blocked_on u c t ≡ true) (sym st.shows)
      (parked_seen st.sound st.history_variables c n t (sym e ∙ q)))

  -- who is ready lives, and doesn't rest
  pub ready_answered : (n : ℕ) (o : Option ℕ) → o ≡ ready_answer n s
      → IfSome o (λ t. (lives w t ≡ true) × (rests w t ≡ false))
  ready_answered n o e = if_some (λ t. (lives w t ≡ true) × (rests w t ≡ false)) o
      (λ t q. subst (λ u. (lives u t ≡ true) × (rests u t ≡ false)) (sym st.shows)
      (ready_seen st.sound st.history_variables n t (sym e ∙ q)))

  -- the path of a thread is its own
  pub path_answered : (t : ℕ) (us : List ℕ) → IsPathAnswer t s us → IsPathFrom w t us
  path_answered t us p = subst (λ u. IsPathFrom u t us) (sym st.shows) (path_seen st.sound st.history_variables t us p)

  -- no thread stands on level 0, since an effective priority is 1 at least
  level_zero : level_at s.kernel.levels 0 ≡ []
  level_zero = go (level_at s.kernel.levels 0) refl
    where
      stands : (t : ℕ) (a b : Bool) → has_seat s.kernel t ≡ a
          → (if a then (if b then effective_in s.kernel t == 0 else false) else false) ≡ true → ⊥
      stands t true true k e = absurd (let least = (effective_range s.kernel st.sound.kernel.shape t k).0 in
          let none = eqb-true (effective_in s.kernel t) 0 e in omega (arith, least, none))
      stands t true false k e = true≢false (sym e)
      stands t false b k e = true≢false (sym e)

      go : (ts : List ℕ) → level_at s.kernel.levels 0 ≡ ts → ts ≡ []
      go [] e = refl
      go (t ∷ ts) e = absurd (stands t (has_seat s.kernel t) (is_ready (status_at s t)) refl
          (sym (st.sound.kernel.level t 0) ∙ ap (λ us. is_among us t) e
          ∙ ap (λ b. b || is_among ts t) (eq-eqb t t refl)))

  -- the ready thread at place 0 runs next
  pub first_answered : (n : ℕ) (o : Option ℕ) → o ≡ ready_answer n s → n ≡ 0 → IsPick w (unwrap_or o 0)
  first_answered n o e z =
      subst (IsPick w)
      (sym (ap (λ x. unwrap_or x 0) (e ∙ ap (slice_get (ready_in s.kernel)) z)
      ∙ unwrap_or-slice_get (ready_in s.kernel) 0 0 ∙ first-levels_below s.kernel.levels 99 level_zero))
      (pick_stands s h r w st)
