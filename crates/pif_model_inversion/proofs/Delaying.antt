-- Who runs while a thread is delayed: at each turn the owner at the end of its chain, and nobody but those that were
-- engaged when the delay began.
use Rattle.std.proofs.Common.{◌≡◌, ◌≢◌, ◌⊎◌, ◌<◌, ◌≤◌, ℕ, Bool, true, false, ◌==◌, ◌||◌, List, [], ◌∷◌, length, refl, sym, ap, ◌∙◌, subst, inl, inr, arith, eq-eqb}
use Rattle.std.specs.List.{sum_by, AllByRecursion}
use Rattle.std.proofs.lemmas.Bool.{true≢false, cases_eq, cases_lt, cases_Bool, ne_eqb, ltb-true, lt-ltb}
use Rattle.std.proofs.lemmas.List.{get_or_past}
use Rattle.std.proofs.lemmas.List.Folds.{list_any_at}
use Rattle.pif_types.specs.Bounds.{Bounds}
use Rattle.pif_model.specs.declared.events.Entry.{Entry}
use Rattle.pif_model.specs.Graph.{Reaches}
use Rattle.pif_model.specs.Graph.Reaches.{here, hop}
use Rattle.pif_model.specs.Posix.{Mutex, World, WaitsFor, IsRun, no_mutex, thread_at, rests}
use Rattle.pif_model.specs.Posix.IsRun.{next}
use Rattle.pif_model.specs.Standing.{IsPick}
use Rattle.pif_model_simulation.proofs.runs.Worlds.{owner_of}
use Rattle.pif_model_inversion.specs.Inversion.{RunsNoLower}
use Rattle.pif_model_inversion.specs.Delays.{has_run, owns_any, times_owning, is_high, ran_high, lower_turns, AreAllLowerEngaged, IsEngaged, IsHeldUp, IsAlwaysHighestAwake, AreOnItsChain, IsDelay}
use Rattle.pif_model_inversion.specs.Delays.IsDelayBy.{starts, runs, beside}
use Rattle.pif_model_inversion.proofs.Chains.{end_runs, own_priority, reaching_is_thread, runs_no_lower, awake_sleeps_not}
use Rattle.pif_model_inversion.proofs.Confined.{Any, Confined, confined_entry, confined_beside, confined_more, engaged_confine}
use Rattle.pif_model_inversion.proofs.Counting.{is_low, counted_below, all_lower}

-- the end of a chain is its beginning, or somebody waits for it
last_hop : {W : ℕ → ℕ → Type 0} {u t : ℕ} → Reaches W u t → (u ≡ t) ⊎ ((x : ℕ) × W x t)
last_hop (here e) = inl e
last_hop {W} {t = t} (hop {u = u} {v = v} a r) = go (last_hop r)
  where
    go : (v ≡ t) ⊎ ((x : ℕ) × W x t) → (u ≡ t) ⊎ ((x : ℕ) × W x t)
    go (inl e) = inr (u, subst (W u) e a)
    go (inr y) = inr y

-- the owner of a mutex owns one
owns_any-from_owner : (w : World) (m t : ℕ) → t ≢ 0 → owner_of w m ≡ t → owns_any w t ≡ true
owns_any-from_owner w m t some own = by_room (cases_lt m (length w.mutexes))
  where
    by_room : (m < length w.mutexes) ⊎ (length w.mutexes ≤ m) → owns_any w t ≡ true
    by_room (inl l) = list_any_at (λ (y : Mutex). y.owner == t) w.mutexes m no_mutex l (eq-eqb (owner_of w m) t own)
    by_room (inr l) = absurd (some (sym own ∙ ap (λ (y : Mutex). y.owner) (get_or_past w.mutexes m no_mutex l)))

-- who is at the end of a chain from another owns a mutex
end_owns : {w : World} {u t : ℕ} → Reaches (WaitsFor w) u t → u ≢ t → (m : ℕ) × (owner_of w m ≡ t) × (t ≢ 0)
end_owns {w} {u} {t} r other = go (last_hop r)
  where
    go : (u ≡ t) ⊎ ((x : ℕ) × WaitsFor w x t) → (m : ℕ) × (owner_of w m ≡ t) × (t ≢ 0)
    go (inl e) = absurd (other e)
    go (inr k) = (k.1.mutex, k.1.owned, k.1.somebody)

-- t was engaged in w, or ran with the base priority of h or more
abbrev EngagedOrHigh : World → ℕ → List (ℕ × World) → ℕ → Type 0
EngagedOrHigh w h turns t = IsEngaged w t ⊎ (ran_high h turns t ≡ true)

-- whether a turn was one of t with that base priority or more
is_high_now : (h : ℕ) (x : ℕ × World) → is_low h x ≡ false → is_high h x.0 x ≡ true
is_high_now h x e = rw (eq-eqb x.0 x.0 refl, e) refl

is_low_now : (h t : ℕ) (x : ℕ × World) → x.0 ≡ t → is_low h x ≡ true → is_high h t x ≡ false
is_low_now h t x e low = subst (λ u. is_high h u x ≡ false) e (rw (eq-eqb x.0 x.0 refl, low) refl)

is_no_step_of : (h t : ℕ) (x : ℕ × World) → x.0 ≢ t → is_high h t x ≡ false
is_no_step_of h t x d = rw (ne_eqb x.0 t d) refl

-- one more turn, with this base priority or more
high_now : (h : ℕ) (turns : List (ℕ × World)) (x : ℕ × World) → is_low h x ≡ false → ran_high h (x ∷ turns) x.0 ≡ true
high_now h turns x e = ap (λ b. b || ran_high h turns x.0) (is_high_now h x e)

-- or any
more_high : (w : World) (h : ℕ) (turns : List (ℕ × World)) (x : ℕ × World) (t : ℕ) → EngagedOrHigh w h turns t
    → EngagedOrHigh w h (x ∷ turns) t
more_high w h turns x t (inl y) = inl y
more_high w h turns x t (inr y) = inr (go (is_high h t x))
  where
    go : (b : Bool) → (b || ran_high h turns t) ≡ true
    go true = refl
    go false = y

module _ (l : Bounds) (h : List Entry) (r : List World) (w : World) (run : IsRun l h r w) (high : ℕ) where
  -- while a thread is held up the run goes on
  run_goes_on : {turns : List (ℕ × World)} {v : World} → IsDelay l high w turns v
      → (hs : List Entry) × (rs : List World) × IsRun l hs rs v
  run_goes_on (starts e) = (h, r, subst (IsRun l h r) (sym e) run)
  run_goes_on (runs {v = v} p e d held picked entry may step) = let k = run_goes_on d in (e ∷ k.0, v ∷ k.1, next k.2 step)
  run_goes_on (beside {v = v} e d o may step) = let k = run_goes_on d in (e ∷ k.0, v ∷ k.1, next k.2 step)

  -- who runs with less than its base priority owns a mutex, for which the lender of its priority waits
  runner_owns : {turns : List (ℕ × World)} {v : World} → IsDelay l high w turns v → IsHeldUp v high → (p : ℕ) → IsPick v p
      → is_low high (p, v) ≡ true → (m : ℕ) × (owner_of v m ≡ p) × (p ≢ 0)
  runner_owns {v = v} turns d p picked low = end_owns f.lends other
    where
      f : RunsNoLower v high p
      f = let k = run_goes_on turns in runs_no_lower l k.0 k.1 v k.2 high d.end p d.chain d.ready picked

      other : f.lender ≢ p
      other e = absurd (omega (
        arith,
        f.by,
        (let k = run_goes_on turns in own_priority l k.0 k.1 v k.2 high (reaching_is_thread l k.0 k.1 v k.2 high d.end d.ready.living d.chain)),
        ap (λ u. (thread_at v u).base) e,
        ltb-true (thread_at v p).base (thread_at v high).base low,
      ))

  -- so who runs was engaged or runs with that base priority, if all that are engaged then were engaged or ran so
  runner_is_known : {turns : List (ℕ × World)} {v : World} → IsDelay l high w turns v → Confined Any (EngagedOrHigh w high turns) v
      → IsHeldUp v high → (p : ℕ) → IsPick v p → EngagedOrHigh w high ((p, v) ∷ turns) p
  runner_is_known {turns = turns} {v = v} d c held p picked = go (cases_Bool (is_low high (p, v)))
    where
      go : (is_low high (p, v) ≡ true) ⊎ (is_low high (p, v) ≡ false) → EngagedOrHigh w high ((p, v) ∷ turns) p
      go (inl low) =
          let k = runner_owns d held p picked low in
          more_high w high turns (p, v) p (subst (EngagedOrHigh w high turns) k.1 (c.owners k.0 tt (λ z. k.2 (sym k.1 ∙ z))))
      go (inr n) = inr (high_now high turns (p, v) n)

  -- all that own a mutex, wait for one or are held in their calls then were engaged or ran so
  delay_confines : {turns : List (ℕ × World)} {v : World} → IsDelay l high w turns v → Confined Any (EngagedOrHigh w high turns) v
  delay_confines (starts e) = rw e (confined_more Any (IsEngaged w) (EngagedOrHigh w high []) (λ t. inl) (engaged_confine w))
  delay_confines (runs {turns = turns} {v = v} p e d held picked entry may step) =
      let c = delay_confines d in
      confined_entry Any (EngagedOrHigh w high ((p, v) ∷ turns)) l e
      (confined_more Any (EngagedOrHigh w high turns) (EngagedOrHigh w high ((p, v) ∷ turns)) (more_high w high turns (p, v)) c) p
      (runner_is_known d c held p picked) entry step
  delay_confines (beside {turns = turns} e d o may step) = confined_beside Any (EngagedOrHigh w high turns) l e (delay_confines d) o step

  -- and so was who ran
  ran_known : {turns : List (ℕ × World)} {v : World} → IsDelay l high w turns v → (p : ℕ) → has_run turns p ≡ true → EngagedOrHigh w high turns p
  ran_known (starts e) p ran = absurd (true≢false (sym ran))
  ran_known (runs {turns = turns} {v = v} q e d held picked entry may step) p ran = go (cases_eq q p) (ran_known d p)
    where
      go : (q ≡ p) ⊎ (q ≡ p → ⊥) → (has_run turns p ≡ true → EngagedOrHigh w high turns p) → EngagedOrHigh w high ((q, v) ∷ turns) p
      go (inl same) before =
          subst (EngagedOrHigh w high ((q, v) ∷ turns)) same (runner_is_known d (delay_confines d) held q picked)
      go (inr other) before = more_high w high turns (q, v) p (before (rw (ne_eqb q p other) at ran))
  ran_known (beside e d o may step) p ran = ran_known d p ran

  pub ran_engaged : (turns : List (ℕ × World)) (v : World) → IsDelay l high w turns v → (p : ℕ) → has_run turns p ≡ true
      → ran_high high turns p ≡ false → IsEngaged w p
  ran_engaged turns v d p ran low = go (ran_known d p ran)
    where
      go : EngagedOrHigh w high turns p → IsEngaged w p
      go (inl y) = y
      go (inr y) = absurd (true≢false (sym y ∙ low))

  -- who ran with less owned a mutex
  ran_owning : {turns : List (ℕ × World)} {v : World} → IsDelay l high w turns v
      → AllByRecursion (λ x. is_low high x ≡ true → owns_any x.1 x.0 ≡ true) turns
  ran_owning (starts e) = tt
  ran_owning (runs {v = v} p e d held picked entry may step) =
      ((λ low. let k = runner_owns d held p picked low in owns_any-from_owner v k.0 p k.2 k.1), ran_owning d)
  ran_owning (beside e d o may step) = ran_owning d

  -- so lower threads had no more turns than those that were engaged had together while they owned a mutex
  pub delay_bounded : (turns : List (ℕ × World)) (v : World) → IsDelay l high w turns v → (engaged : List ℕ)
      → AreAllLowerEngaged w high turns engaged → lower_turns high turns ≤ sum_by (times_owning turns) engaged
  delay_bounded turns v d engaged all =
      counted_below high turns engaged (ran_owning d) (λ p ran low. all p (ran_engaged turns v d p ran low) low)

  -- IF IT IS ABOVE ALL OTHERS

  -- each was on the chain when it ran
  pub ran_on_the_chain : {turns : List (ℕ × World)} {v : World} → IsDelay l high w turns v → IsAlwaysHighestAwake high turns → AreOnItsChain high turns
  ran_on_the_chain (starts e) above = tt
  ran_on_the_chain (runs {v = v} p e d held picked entry may step) above =
      let k = run_goes_on d in (
        subst (Reaches (WaitsFor v) high) (sym (end_runs l k.0 k.1 v k.2 high held.end p held.chain held.ready above.0 picked)) held.chain,
        ran_on_the_chain d above.1,
      )
  ran_on_the_chain (beside e d o may step) above = ran_on_the_chain d above

  -- and with a lower base priority
  pub ran_lower : {turns : List (ℕ × World)} {v : World} → IsDelay l high w turns v → IsAlwaysHighestAwake high turns → (t : ℕ)
      → ran_high high turns t ≡ false
  ran_lower (starts e) above t = refl
  ran_lower (runs {turns = turns} {v = v} p e d held picked entry may step) above t =
      by_thread (cases_eq p t) (ran_lower d above.1 t)
    where
      some : p ≢ 0
      some = (picked.greatest held.end held.ready.living held.ready.awake).0

      awake : rests v p ≡ false
      awake = (picked.runs some).1

      other : p ≢ high
      other e = true≢false (sym held.rests ∙ ap (rests v) (sym e) ∙ awake)

      low : is_low high (p, v) ≡ true
      low =
          let k = run_goes_on d in
          lt-ltb (thread_at v p).base (thread_at v high).base
          (above.0 p (picked.runs some).0 (awake_sleeps_not l k.0 k.1 v k.2 p awake) other)

      by_thread : (p ≡ t) ⊎ (p ≡ t → ⊥) → ran_high high turns t ≡ false → ran_high high ((p, v) ∷ turns) t ≡ false
      by_thread (inl e) before = ap (λ b. b || ran_high high turns t) (is_low_now high t (p, v) e low) ∙ before
      by_thread (inr n) before = ap (λ b. b || ran_high high turns t) (is_no_step_of high t (p, v) n) ∙ before
  ran_lower (beside e d o may step) above t = ran_lower d above t

  -- so the whole delay has no more
  pub delay_bounded_above : (turns : List (ℕ × World)) (v : World) → IsDelay l high w turns v → IsAlwaysHighestAwake high turns → (engaged : List ℕ)
      → AreAllLowerEngaged w high turns engaged → length turns ≤ sum_by (times_owning turns) engaged
  delay_bounded_above turns v d above engaged all =
      omega (arith, delay_bounded turns v d engaged all, all_lower high turns (ran_lower d above))
