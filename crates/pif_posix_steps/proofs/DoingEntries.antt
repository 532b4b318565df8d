-- The entries of a history that a line shows, as functions, are the rules.
use Rattle.std.proofs.Common.{ℕ, zero, suc, ◌≡◌, ◌<◌, ◌≤◌, ◌⊎◌, ◌∙◌, ◌++◌, ◌==◌, Bool, true, false, [], ◌∷◌, length, Option, Some, None, refl, sym, ap, subst, inl, inr, arith, Contains, nat_le, nat_lt}
use Rattle.std.proofs.lemmas.Bool.{eqb-true, eq-eqb, ne_eqb, le-leb, leb-true, lt-ltb, ltb-true, cases_eq, both_ways}
use Rattle.pif_types.specs.Bounds.{Bounds}
use Rattle.pif_types.specs.declared.requests.Kind.{Kind}
use Rattle.pif_types.specs.declared.requests.Request.{Request}
use Rattle.pif_model.specs.declared.events.Event.{Event}
use Rattle.pif_model.specs.declared.events.Event.TheVariants.{Begin, Go, End, Tick}
use Rattle.pif_model.specs.declared.events.Seen.{Seen}
use Rattle.pif_model.specs.declared.events.Seen.TheVariants.{Begun, Answered, Ended, Ticked}
use Rattle.pif_model.specs.declared.events.Entry.{Entry}
use Rattle.pif_model.specs.declared.events.Entry.TheVariants.{Thread as AddThread, Mutex as AddMutex, Cond as AddCond, Step as Happened}
use Rattle.pif_model.specs.Graph.{is_priority}
use Rattle.pif_model.specs.Deadlines.{reported_result}
use Rattle.pif_model.specs.World.Progress.{Fresh, Waiting, Stuck, Leaving, Has, Checked, Enlisted, Blocked, Reacquiring, Used}
use Rattle.pif_model.specs.Posix.{World, Call, Progress, thread_at, is_mutex, rests, with_thread, begun_thread, new_thread, new_mutex, new_variable, IsAllowed, Step}
use Rattle.pif_model.specs.Posix.Step.{thread_added as adds_thread, mutex_added as adds_mutex, cond_added as adds_variable, refused, begun as begins, went, waits, answered as answers, ended as ends, ticked as ticks}
use Rattle.pif_posix_steps.specs.Once.{Answers as IsAnswer, Enters, is_go, is_refused}
use Rattle.pif_posix_steps.specs.Once.Enters.{answered as by_answer, other}
use Rattle.pif_posix_steps.specs.Doing.{is_allowed, thread_added, mutex_added, variable_added, begun, ticked, has_answer, is_answered, closed, answered, happened, entered}
use Rattle.pif_posix_steps.proofs.DoingCases.{choose_then, choose_else, some_is, then_this, then_to, else_this, else_to}
use Rattle.pif_posix_steps.proofs.DoingLists.{not_in_none, in_option, in_option_from}
use Rattle.pif_posix_steps.proofs.DoingMoves.{allowed_from, allowed_to}
use Rattle.pif_posix_steps.proofs.DoingEnds.{ended_from, ended_to}

-- ADDITIONS

pub priority_from : (p : ℕ) → 1 ≤ p → p ≤ 99 → is_priority p ≡ true
priority_from p l k =
    choose_else (p == 0) false (nat_lt p 100) (ne_eqb p 0 (λ z. omega (arith, z, l))) ∙ lt-ltb p 100 (omega (arith, k))

at_least_one : (p : ℕ) → (p ≡ 0 → ⊥) → 1 ≤ p
at_least_one zero n = absurd (n refl)
at_least_one (suc p) n = omega arith

pub priority_to : (p : ℕ) → is_priority p ≡ true → (1 ≤ p) × (p ≤ 99)
priority_to p e = by_zero (cases_eq p 0)
  where
    by_zero : (p ≡ 0) ⊎ (p ≡ 0 → ⊥) → (1 ≤ p) × (p ≤ 99)
    by_zero (inl z) = absurd (both_ways (is_priority p) (choose_then (p == 0) false (nat_lt p 100) (eq-eqb p 0 z)) e)
    by_zero (inr n) =
        let l : p < 100 = ltb-true p 100 (sym (choose_else (p == 0) false (nat_lt p 100) (ne_eqb p 0 n)) ∙ e) in
        let k : 1 ≤ p = at_least_one p n in
        (k, omega (arith, l))

module _ (l : Bounds) (w : World) where
  pub thread_added_from : (t p : ℕ) (v : World) → t ≡ length w.threads → t ≤ l.threads → 1 ≤ p → p ≤ 99
      → v ≡ record w { threads = w.threads ++ new_thread p ∷ [] } → thread_added l t p w ≡ Some v
  thread_added_from t p v e k a b x =
      then_this (t == length w.threads) _ v (eq-eqb t (length w.threads) e)
      (then_this (nat_le t l.threads) _ v (le-leb t l.threads k)
      (then_this (is_priority p) _ v (priority_from p a b) (ap Some (sym x))))

  pub thread_added_to : (t p : ℕ) (v : World) → thread_added l t p w ≡ Some v → Step l w (AddThread t p) v
  thread_added_to t p v e =
      let a = then_to (t == length w.threads) _ v e in
      let b = then_to (nat_le t l.threads) _ v a.1 in
      let c = then_to (is_priority p) _ v b.1 in
      let d = priority_to p c.0 in
      adds_thread t p refl (eqb-true t (length w.threads) a.0) (leb-true t l.threads b.0) d.0 d.1 (some_is refl c.1)

  pub mutex_added_from : (m : ℕ) (k : Kind) (r : Bool) (v : World) → m ≡ length w.mutexes → m ≤ l.mutexes
      → v ≡ record w { mutexes = w.mutexes ++ new_mutex k r ∷ [] } → mutex_added l m k r w ≡ Some v
  mutex_added_from m k r v e a x =
      then_this (m == length w.mutexes) _ v (eq-eqb m (length w.mutexes) e)
      (then_this (nat_le m l.mutexes) _ v (le-leb m l.mutexes a) (ap Some (sym x)))

  pub mutex_added_to : (m : ℕ) (k : Kind) (r : Bool) (v : World) → mutex_added l m k r w ≡ Some v → Step l w (AddMutex m k r) v
  mutex_added_to m k r v e =
      let a = then_to (m == length w.mutexes) _ v e in
      let b = then_to (nat_le m l.mutexes) _ v a.1 in
      adds_mutex m k r refl (eqb-true m (length w.mutexes) a.0) (leb-true m l.mutexes b.0) (some_is refl b.1)

  pub variable_added_from : (c m : ℕ) (v : World) → is_mutex w m ≡ true → c ≡ length w.variables → c ≤ l.conds
      → v ≡ record w { variables = w.variables ++ new_variable m ∷ [] } → variable_added l c m w ≡ Some v
  variable_added_from c m v k e a x =
      then_this (is_mutex w m) _ v k
      (then_this (c == length w.variables) _ v (eq-eqb c (length w.variables) e)
      (then_this (nat_le c l.conds) _ v (le-leb c l.conds a) (ap Some (sym x))))

  pub variable_added_to : (c m : ℕ) (v : World) → variable_added l c m w ≡ Some v → Step l w (AddCond c m) v
  variable_added_to c m v e =
      let a = then_to (is_mutex w m) _ v e in
      let b = then_to (c == length w.variables) _ v a.1 in
      let d = then_to (nat_le c l.conds) _ v b.1 in
      adds_variable c m refl a.0 (eqb-true c (length w.variables) b.0) (leb-true c l.conds d.0) (some_is refl d.1)

-- BEGINS AND TICKS

module _ (w : World) where
  pub begun_from : (t : ℕ) (q : Request) (v : World) → IsAllowed w (Begin t q)
      → v ≡ with_thread t (begun_thread w q (thread_at w t)) w → begun t q w ≡ Some v
  begun_from t q v a x = then_this (is_allowed w (Begin t q)) _ v (allowed_from w (Begin t q) a) (ap Some (sym x))

  pub begun_to : (t : ℕ) (q : Request) (v : World) → begun t q w ≡ Some v
      → IsAllowed w (Begin t q) × (v ≡ with_thread t (begun_thread w q (thread_at w t)) w)
  begun_to t q v e =
      let a = then_to (is_allowed w (Begin t q)) _ v e in
      (allowed_to w (Begin t q) a.0, some_is refl a.1)

  pub ticked_from : (n : ℕ) (v : World) → IsAllowed w (Tick n) → v ≡ record w { time = n } → ticked n w ≡ Some v
  ticked_from n v a x = then_this (is_allowed w (Tick n)) _ v (allowed_from w (Tick n) a) (ap Some (sym x))

  pub ticked_to : (n : ℕ) (v : World) → ticked n w ≡ Some v → IsAllowed w (Tick n) × (v ≡ record w { time = n })
  ticked_to n v e =
      let a = then_to (is_allowed w (Tick n)) _ v e in
      (allowed_to w (Tick n) a.0, some_is refl a.1)

-- ANSWERS

module _ (t a : ℕ) (w : World) where
  pub answered_from : (v : World) → IsAnswer t a w v → answered t a w ≡ Some v
  answered_from v x =
      let told : is_answered (thread_at w t).call (thread_at w t).timer.expired a ≡ true =
      ap (λ (o : Option Call). is_answered o (thread_at w t).timer.expired a) x.call
      ∙ eq-eqb a (reported_result x.request (thread_at w t).timer.expired x.result) x.told in
      let goes_on : rests (closed t w) t ≡ false = ap (λ (u : World). rests u t) (sym x.closes) ∙ x.goes_on in
      then_this (is_answered (thread_at w t).call (thread_at w t).timer.expired a) _ v told
      (then_this (is_allowed w (Go t)) _ v (allowed_from w (Go t) x.allowed)
      (else_this (rests (closed t w) t) _ v goes_on (ap Some (sym x.closes))))

  -- a call that is answered a has a result that comes to it
  result_to : (p : Progress) (q : Request) (expired : Bool) → has_answer p q expired a ≡ true
      → (r : ℕ) × (p ≡ Has r) × (a ≡ reported_result q expired r)
  result_to (Has r) q expired e = (r, refl, eqb-true a (reported_result q expired r) e)
  result_to _ q expired e = absurd (both_ways false refl e)

  pub answered_to : (v : World) → answered t a w ≡ Some v → IsAnswer t a w v
  answered_to v e =
      let b = then_to (is_answered (thread_at w t).call (thread_at w t).timer.expired a) _ v e in
      let c = then_to (is_allowed w (Go t)) _ v b.1 in
      let d = else_to (rests (closed t w) t) _ v c.1 in
      by_call (thread_at w t).call refl b.0 (allowed_to w (Go t) c.0) d.0 (some_is refl d.1)
    where
      by_call : (o : Option Call) → (thread_at w t).call ≡ o → is_answered o (thread_at w t).timer.expired a ≡ true
          → IsAllowed w (Go t) → rests (closed t w) t ≡ false → v ≡ closed t w → IsAnswer t a w v
      by_call None h b c d x = absurd (both_ways false refl b)
      by_call (Some y) h b c d x =
          let r = result_to y.progress y.request (thread_at w t).timer.expired b in
          record {
            request = y.request;
            result = r.0;
            call = h ∙ ap (λ (p : Progress). Some (record { request = y.request; progress = p })) r.1;
            told = r.2;
            allowed = c;
            goes_on = ap (λ (u : World). rests u t) x ∙ d;
            closes = x;
          }

-- ENTRIES

module _ (l : Bounds) (w : World) where
  -- the results of this entry
  in_entry : (e f : Entry) (v : World) → e ≡ f → Contains (entered l w f) v → Contains (entered l w e) v
  in_entry e f v x k = subst (λ (i : Entry). Contains (entered l w i) v) (sym x) k

  -- an entry that is no Go and isn't refused
  step_from : (e : Entry) (v : World) → is_go e ≡ false → is_refused e ≡ false → Step l w e v → Contains (entered l w e) v
  step_from e v g r (adds_thread t p x i k a b y) =
      in_entry e (AddThread t p) v x (in_option_from (thread_added l t p w) v (thread_added_from l w t p v i k a b y))
  step_from e v g r (adds_mutex m k b x i n y) =
      in_entry e (AddMutex m k b) v x (in_option_from (mutex_added l m k b w) v (mutex_added_from l w m k b v i n y))
  step_from e v g r (adds_variable c m x k i n y) =
      in_entry e (AddCond c m) v x (in_option_from (variable_added l c m w) v (variable_added_from l w c m v k i n y))
  step_from e v g r (refused y f x i z) = absurd (both_ways (is_refused e) r (ap is_refused x))
  step_from e v g r (begins t q x a y) =
      in_entry e (Happened (Begin t q) Begun) v x (in_option_from (begun t q w) v (begun_from w t q v a y))
  step_from e v g r (went t x y z) = absurd (both_ways (is_go e) g (ap is_go x))
  step_from e v g r (waits t u x y z i) = absurd (both_ways (is_go e) g (ap is_go x))
  step_from e v g r (answers t a q u x y z i k) = absurd (both_ways (is_go e) g (ap is_go x))
  step_from e v g r (ends t x y) = in_entry e (Happened (End t) Ended) v x (ended_from t w v y)
  step_from e v g r (ticks n x a y) =
      in_entry e (Happened (Tick n) Ticked) v x (in_option_from (ticked n w) v (ticked_from w n v a y))

  pub entered_from : (e : Entry) (v : World) → Enters l w e v → Contains (entered l w e) v
  entered_from e v (by_answer t a x y) =
      in_entry e (Happened (Go t) (Answered a)) v x (in_option_from (answered t a w) v (answered_from t a w v y))
  entered_from e v (other g r x) = step_from e v g r x

  happened_to : (x : Event) (seen : Seen) (v : World) → Contains (happened x seen w) v → Enters l w (Happened x seen) v
  happened_to (Begin t q) Begun v k =
      let c = begun_to w t q v (in_option (begun t q w) v k) in
      other refl refl (begins t q refl c.0 c.1)
  happened_to (Go t) (Answered a) v k = by_answer t a refl (answered_to t a w v (in_option (answered t a w) v k))
  happened_to (End t) Ended v k = other refl refl (ends t refl (ended_to t w v k))
  happened_to (Tick n) Ticked v k =
      let c = ticked_to w n v (in_option (ticked n w) v k) in
      other refl refl (ticks n refl c.0 c.1)
  happened_to x seen v k = absurd (not_in_none v k)

  pub entered_to : (e : Entry) (v : World) → Contains (entered l w e) v → Enters l w e v
  entered_to (AddThread t p) v k = other refl refl (thread_added_to l w t p v (in_option (thread_added l t p w) v k))
  entered_to (AddMutex m i r) v k = other refl refl (mutex_added_to l w m i r v (in_option (mutex_added l m i r w) v k))
  entered_to (AddCond c m) v k = other refl refl (variable_added_to l w c m v (in_option (variable_added l c m w) v k))
  entered_to (Happened x seen) v k = happened_to x seen v k
