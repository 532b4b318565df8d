-- A wait gives its mutex up, from naming it in the pending field on: each step is an entry of the POSIX machine and
-- keeps the invariant.
use Rattle.std.proofs.Common.{◌≡◌, ◌≢◌, ℕ, Bool, true, false, ◌==◌, [], ◌∷◌, refl, sym, ap}
use Rattle.std.proofs.lemmas.Bool.{true≢false}
use Rattle.pif_types.specs.declared.requests.Request.TheVariants.{Wait}
use Rattle.pif_model.specs.declared.events.Seen.TheVariants.{Went}
use Rattle.pif_model.specs.declared.lines.Line.TheVariants.{At}
use Rattle.pif_model.specs.declared.lines.Place.TheVariants.{Give, Park}
use Rattle.pif_model.specs.declared.lines.GiveStep.{GiveStep}
use Rattle.pif_model.specs.declared.lines.GiveStep.TheVariants.{Release, CallUnlock}
use Rattle.pif_model.specs.declared.lines.Purpose.TheVariants.{ToPark}
use Rattle.pif_model.specs.Word.{health_word_at}
use Rattle.pif_model.specs.Posix.{is_blocked, on_release}
use Rattle.pif_model.specs.World.Progress.{Enlisted}
use Rattle.pif_model.specs.Posix.Effect.{give_up}
use Rattle.pif_model.specs.Posix.GivesUp.{released}
use Rattle.pif_model.specs.PiKernel.{is_living}
use Rattle.pif_model.specs.Table.{Table, Cell, has_mutex, has_cond, status_at, uses_of}
use Rattle.pif_model.specs.Lines.{give_line}
use Rattle.pif_model.specs.Projection.{health_of, health_at}
use Rattle.pif_model.specs.Soundness.{Need, use_at, give_needs, needs, is_last}
use Rattle.pif_model.specs.Soundness.Need.{MayRun, Owns, HoldsOnce, IsBound, UsedAtLeast}
use Rattle.pif_model_simulation.proofs.Named.{second}
use Rattle.pif_model_simulation.proofs.Facts.{Fact, is_ready_need, is_bound_need, is_used_need}
use Rattle.pif_model_simulation.proofs.Steps.{GoKeeps, Going, going_own, going_health, going_died, going_ready, going_bound, going_used}
use Rattle.pif_model_simulation.proofs.Does.Does.{waits_inconsistent, waits_own}
use Rattle.pif_model_simulation.proofs.mutexes.GivingUp.{GivesUpTo}
use Rattle.pif_model_simulation.proofs.mutexes.GivingSteps.{GivesLast, GivesUpBy, MeetsOf, met_by, met_behind, gives_to, frees_kept, hands_kept, gives_kept}

-- a wait that gave its mutex up is blocked only if it was
release_blocked : (b : Bool) → is_blocked (on_release b) ≡ true → is_blocked (Enlisted b) ≡ true
release_blocked true e = refl
release_blocked false e = e

module _ (s : Table) (t c m v : ℕ) where
  -- whether it is still blocked
  abbrev still : Bool
  still = v == uses_of s c

  -- at the last steps it knows that the mutex isn't inconsistent, and that its health word says its health
  in_order : (x : GiveStep) → is_last x ≡ true → Going s t (Wait c m) (Give x (ToPark v))
      → (health_word_at s.words m ≢ 1) × (health_of (health_word_at s.words m) false ≡ health_at s m)
  in_order Release e g = let own = going_own g in
      (going_health g own, ap (health_of (health_word_at s.words m)) (sym (going_died g own)))
  in_order CallUnlock e g = let own = going_own g in
      (going_health g own, ap (health_of (health_word_at s.words m)) (sym (going_died g own)))
  in_order _ e g = absurd (true≢false (sym e))

  -- it gives the mutex up
  abbrev last_wait : GivesLast s t (Wait c m) (ToPark v)
  last_wait = record {
    after = on_release still;
    named = second (has_cond s c) (has_mutex s m);
    calls = refl;
    rests = refl;
    blocked = release_blocked still;
    order = in_order;
    releases = λ waited w z o n i u e. waits_own c still refl refl o i u refl e;
    passes = λ w u call o n i p. give_up c m still call (released o i p);
  }

  -- what a need of a step says that passes a test
  known : (test : Need → Bool) (x : GiveStep) (d : Cell) → MeetsOf s t (Wait c m) d (needs (Give x (ToPark v)))
      → Fact test (is_living s.kernel) t (status_at s t) d (use_at s (Wait c m)) (needs (Give x (ToPark v)))
  known test x d h = met_by test s t (Wait c m) d (needs (Give x (ToPark v))) h

  abbrev by_wait : GivesUpBy s t (Wait c m) (ToPark v)
  by_wait = record {
    ours = λ x. refl;
    last = last_wait;
    step = λ x d h.
        met_behind s t (Wait c m) d (MayRun ∷ Owns ∷ HoldsOnce ∷ IsBound ∷ UsedAtLeast v ∷ []) (give_needs x) h;
    whole = λ x z d e h o n k. (
      known is_ready_need x d h,
      (o, ((λ i. n), (known is_bound_need x d h, (known is_used_need x d h, k)))),
    );
    spoils = λ waited w z o n i e. waits_inconsistent c still refl refl o i refl e;
  }

  module _ {x : GiveStep} (last : is_last x ≡ true) (g : Going s t (Wait c m) (Give x (ToPark v))) where
    -- once the mutex is given up, the wait parks
    to_park : GivesUpTo s t (Wait c m) (Give x (ToPark v)) (At (Wait c m) (Park v))
    to_park = gives_to last_wait last g (Park v) refl refl refl refl refl
        (λ d other e. (going_ready g, (other, (going_bound g, (going_used g, tt)))))

  -- each step of giving it up
  pub wait_gives_kept : (x : GiveStep) → Going s t (Wait c m) (Give x (ToPark v))
      → GoKeeps s t (give_line (Wait c m) x (ToPark v) t m s)
  wait_gives_kept = gives_kept by_wait (record {
    freed = λ x last g. frees_kept last_wait last g Went (At (Wait c m) (Park v)) (to_park last g) (Park v, refl, refl);
    handed = λ x last g. hands_kept last_wait last g (Park v) (to_park last g) (λ h. refl);
  })
