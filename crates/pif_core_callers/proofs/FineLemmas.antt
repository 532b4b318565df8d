-- A mutex that was made consistent is fine.
use Rattle.std.proofs.Common.{◌≡◌, ◌≢◌, ℕ, ◌==◌, zero, suc, nat_lt, true, false, List, [], ◌∷◌, length, get_or, set, Option, Some, None, refl, sym, ap, ◌∙◌, subst, arith, if◌then◌else◌}
use Rattle.std.proofs.lemmas.Bool.{true≢false}
use Rattle.std.proofs.lemmas.List.{get_or-set_same}
use Rattle.pif_types.specs.declared.errors.Refusal.{Refusal}
use Rattle.pif_types.specs.declared.requests.Request.{Request}
use Rattle.pif_types.specs.declared.requests.Request.TheVariants.{Consistent}
use Rattle.pif_model.specs.declared.events.Event.TheVariants.{Begin, Go}
use Rattle.pif_model.specs.declared.events.Seen.TheVariants.{Begun, Went, Answered}
use Rattle.pif_model.specs.declared.lines.Line.TheVariants.{At, Idle}
use Rattle.pif_model.specs.declared.lines.Place.{Place}
use Rattle.pif_model.specs.declared.lines.Place.TheVariants.{Load, Repair}
use Rattle.pif_model.specs.declared.lines.RepairStep.TheVariants.{CheckHealth, StoreFine}
use Rattle.pif_model.specs.Deadlines.{plain}
use Rattle.pif_model.specs.PiKernel.{is_living}
use Rattle.pif_model.specs.Posix.{Mutex, World, mutex_at, names_known}
use Rattle.pif_model.specs.World.Health.{Fine}
use Rattle.pif_model.specs.Table.{Table, has_cond, has_mutex, has_thread, line_at}
use Rattle.pif_model.specs.Word.{word_at}
use Rattle.pif_model.specs.Lines.{Outcome, accepted_outcome, answers, by_refusal, event_outcome, first_place, go_outcome, goes_on, goes_to, is_open, line_of, repair_line, table_refusal}
use Rattle.pif_model.specs.Projection.{health_at, health_of}
use Rattle.pif_model.specs.Soundness.{CallIsSound, IsSound, LineIsSound, ThreadIsSound, is_unsettled, mutex_by}
use Rattle.pif_model_lemmas.proofs.kernel.LineCases.{consistent_load_cases, consistent_health_cases}
use Rattle.pif_model_simulation.proofs.Facts.{call_own}
use Rattle.pif_model_simulation.proofs.Lined.{tl}
use Rattle.pif_model_simulation.proofs.Shown.{begin_allowed, go_allowed, mutex_seen}
use Rattle.pif_model_simulation.proofs.Simulation.{event_kept}
use Rattle.pif_model_simulation.specs.Calls.{call_outcome}
use Rattle.pif_core_callers.specs.Holding.{IsFineIn}
use Rattle.pif_model_simulation.proofs.CallLemmas.{call_other, goes_on-other, goes_on-went, goes_on-zero}
use Rattle.pif_core_callers.proofs.GoCases.{go_cases}
use Rattle.pif_core_callers.proofs.HoldLemmas.{allowed, begun, rest}

-- a health word of 0 that was written
zero_set : (xs : List ℕ) (m : ℕ) → get_or (set xs m 0) m 0 ≡ 0
zero_set [] m = refl
zero_set (x ∷ xs) zero = refl
zero_set (x ∷ xs) (suc m) = zero_set xs m

-- who has a number that was added
some_mutex : (m n : ℕ) → (if m == 0 then false else nat_lt m n) ≡ true → m ≢ 0
some_mutex zero n e = absurd cc
some_mutex (suc m) n e = λ d. omega (arith, d)

-- what a step of t's call consistent of m leaves: the call is open still, it is answered otherwise than 0, or m is fine
data Leads (t m : ℕ) (o : Outcome) : Type 0 where
  goes : o.seen ≡ Went → (p : Place) → line_at o.after t ≡ At (Consistent m) p → Leads t m o
  other : (o.seen ≡ Went → ⊥) → (o.seen ≡ Answered 0 → ⊥) → Leads t m o
  fine : (o.seen ≡ Went → ⊥) → health_at o.after m ≡ Fine → Leads t m o

module _ (t m : ℕ) (s : Table) (k : IsSound s) (known : is_living s.kernel t ≡ true) where
  -- it goes on
  leads_on : (p : Place) → Leads t m (goes_to t (Consistent m) p s)
  leads_on p = goes refl p (get_or-set_same s.lines t (At (Consistent m) p) Idle (tl s t Idle k known))

  -- it is answered otherwise
  leads_away : (a : ℕ) → a ≢ 0 → Leads t m (answers t a s)
  leads_away a n = other (λ e. cc) (λ e. n (number_same a 0 e))
    where
      number_same : (a b : ℕ) → Answered a ≡ Answered b → a ≡ b
      number_same a b e = cc

  -- the last step: the thread owns the mutex, and what it owns is in order, save for the health word, which is written
  store_fine : (line_at s t ≡ At (Consistent m) (Repair StoreFine)) → Leads t m (line_of (Consistent m) (Repair StoreFine) t s)
  unfolding line_of repair_line
  store_fine e =
      let sound : ThreadIsSound s t = k.all.threads t known (λ x. x) in
      let call : CallIsSound s t (Consistent m) (Repair StoreFine) = subst (LineIsSound s t) e sound.line in
      let apart : m ≢ mutex_by is_unsettled (line_at s t) =
      subst (λ l. m ≢ mutex_by is_unsettled l) (sym e) (some_mutex m (length s.mutexes) call.named) in
      let order = sound.settled m call.named (call_own call) apart in
      fine (λ d. cc) (ap (λ h. health_of h (word_at s.words m).died) (zero_set s.words.healths m)
      ∙ ap (health_of 0) order.0)

  -- each step
  line_leads : (p : Place) → line_at s t ≡ At (Consistent m) p → Leads t m (line_of (Consistent m) p t s)
  unfolding line_of repair_line
  line_leads Load e =
      consistent_load_cases (Leads t m) t m s (λ r own. leads_on (Repair CheckHealth))
      (λ r away. leads_away 1 (λ d. omega (arith, d))) (λ r. leads_away 22 (λ d. omega (arith, d)))
  line_leads (Repair CheckHealth) e =
      consistent_health_cases (Leads t m) t m s (λ h. leads_on (Repair StoreFine)) (λ h. leads_away 22 (λ d. omega (arith, d)))
  line_leads (Repair StoreFine) e = store_fine e
  line_leads p e = leads_away 22 (λ d. omega (arith, d))

-- a step, refused or not
event_leads : (t m : ℕ) (s : Table) (p : Place) → IsSound s → line_at s t ≡ At (Consistent m) p
    → Leads t m (event_outcome (Go t) s)
unfolding event_outcome accepted_outcome
event_leads t m s p k e = by_refusal_of (table_refusal s (Go t)) refl
  where
    by_refusal_of : (r : Option Refusal) → table_refusal s (Go t) ≡ r → Leads t m (by_refusal r (Go t) s)
    by_refusal_of None f =
        let living = go_allowed (has_thread s t) (is_living s.kernel t) (is_open (line_at s t)) f in
        subst (λ l. Leads t m (go_outcome l t s)) (sym e)
        (go_cases (Leads t m) (Consistent m) p t s (λ x a. refl) (λ due. absurd (true≢false (sym due)))
        (line_leads t m s k living.0 p e))
    by_refusal_of (Some r) f = other (λ d. cc) (λ d. cc)

-- one step is the last, and is answered 0
last_fine : (t m : ℕ) (s : Table) (n : ℕ) (o : Outcome) → Leads t m o → goes_on n t s ≡ o → (o.seen ≡ Went → ⊥)
    → (goes_on n t s).seen ≡ Answered 0 → health_at (goes_on n t s).after m ≡ Fine
last_fine t m s n o (goes w p l) same still e = absurd (still w)
last_fine t m s n o (other w z) same still e = absurd (z (ap (λ (x : Outcome). x.seen) (sym same) ∙ e))
last_fine t m s n o (fine w f) same still e = subst (λ (x : Outcome). health_at x.after m ≡ Fine) (sym same) f

-- a call consistent that goes on to the answer 0
going_fine : (n t m : ℕ) (s : Table) (p : Place) → IsSound s → line_at s t ≡ At (Consistent m) p
    → (goes_on n t s).seen ≡ Answered 0 → health_at (goes_on n t s).after m ≡ Fine
going_fine zero t m s p k l e =
    last_fine t m s 0 (event_outcome (Go t) s) (event_leads t m s p k l) (goes_on-zero t s)
    (λ w. went_not_answered (sym w ∙ ap (λ (x : Outcome). x.seen) (sym (goes_on-zero t s)) ∙ e)) e
  where
    went_not_answered : Went ≡ Answered 0 → ⊥
    went_not_answered d = cc
going_fine (suc n) t m s p k l e =
    let o = event_outcome (Go t) s in
    elim (event_leads t m s p k l) [
      | goes w x y ↦
          let same = goes_on-went n t s w in
          subst (λ (z : Outcome). health_at z.after m ≡ Fine) (sym same)
          (going_fine n t m o.after x (event_kept s (Go t) k).sound y (ap (λ (z : Outcome). z.seen) (sym same) ∙ e))
      | other w z ↦ last_fine t m s (suc n) o (other w z) (goes_on-other (suc n) t s w) w e
      | fine w f ↦ last_fine t m s (suc n) o (fine w f) (goes_on-other (suc n) t s w) w e
    ]

-- where a call begins
pub begin_line : (t : ℕ) (q : Request) (s : Table) → IsSound s → (event_outcome (Begin t q) s).seen ≡ Begun
    → line_at (event_outcome (Begin t q) s).after t ≡ At (plain q) (first_place q)
unfolding event_outcome accepted_outcome
begin_line t q s k e = by_refusal_of (table_refusal s (Begin t q)) refl e
  where
    by_refusal_of : (r : Option Refusal) → table_refusal s (Begin t q) ≡ r → (by_refusal r (Begin t q) s).seen ≡ Begun
        → line_at (by_refusal r (Begin t q) s).after t ≡ At (plain q) (first_place q)
    by_refusal_of None f d =
        let living = begin_allowed (has_thread s t) (is_living s.kernel t) (is_open (line_at s t))
        (names_known (has_mutex s) (has_cond s) q) f in
        get_or-set_same s.lines t (At (plain q) (first_place q)) Idle (tl s t Idle k living.0)
    by_refusal_of (Some r) f d = absurd cc

-- a whole call consistent that is answered 0
call_fine : (s : Table) (t m : ℕ) → IsSound s → (call_outcome t (Consistent m) s).seen ≡ Answered 0
    → health_at (call_outcome t (Consistent m) s).after m ≡ Fine
call_fine s t m k e =
    let q = Consistent m in
    let o = event_outcome (Begin t q) s in
    let fine = going_fine 23 t m o.after Load (event_kept s (Begin t q) k).sound
    (begin_line t q s k (begun t 0 q s [] e)) (rest t 0 q s [] e) in
    subst (λ (x : Outcome). health_at x.after m ≡ Fine) (sym (call_other t q s (allowed t 0 q s [] e))) fine

-- what a table shows as fine is fine in each state in which a core with it stands
pub shown_fine : (v : Table) (m : ℕ) → health_at v m ≡ Fine → IsFineIn m v
shown_fine v m is = λ h r w st.
    ap (λ (x : World). (mutex_at x m).health) st.shows
    ∙ ap (λ (x : Mutex). x.health) (mutex_seen st.sound.all.shape st.history_variables m) ∙ is

-- so it is of a mutex that was made consistent
pub consistent_fine : (s v : Table) (t m : ℕ) → IsSound s → (call_outcome t (Consistent m) s).seen ≡ Answered 0
    → v ≡ (call_outcome t (Consistent m) s).after → IsFineIn m v
consistent_fine s v t m k e after =
    shown_fine v m (subst (λ u. health_at u m ≡ Fine) (sym after) (call_fine s t m k e))
