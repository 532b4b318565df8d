-- Who is parked on a variable, and for which mutex.
use Rattle.std.proofs.Common.{◌≡◌, ◌⊎◌, inl, inr, eqb-true, ◌++◌, ℕ, Bool, true, false, ◌==◌, ◌||◌, cond, List, [], ◌∷◌, refl, sym, ap, ◌∙◌, subst, if◌then◌else◌, true≢false}
use Rattle.std.specs.List.{list_any}
use Rattle.pif_types.specs.declared.requests.Request.TheVariants.{Wait}
use Rattle.pif_model.specs.declared.lines.Place.TheVariants.{StayParked}
use Rattle.pif_model.specs.declared.lines.Status.TheVariants.{Parked}
use Rattle.pif_model.specs.Graph.{has_waiter}
use Rattle.pif_model.specs.PiKernel.{Parking, is_living, has_ended, has_parked, top_parked, parked_pairs, parkings_without}
use Rattle.pif_model.specs.Table.{Table, has_mutex, has_cond, status_at, line_at}
use Rattle.pif_model.specs.Soundness.{CallIsSound, LineIsSound, IsParkedLine, IsSound}
use Rattle.pif_model_lemmas.proofs.Waiting.{by_test, or_true, or_false}
use Rattle.pif_model_lemmas.proofs.kernel.Facts.{living-from_added}
use Rattle.pif_model_lemmas.proofs.kernel.Woken.{top-parked, top-added}
use Rattle.pif_model_simulation.proofs.Named.{first}
use Rattle.pif_model_simulation.proofs.WeakenedInvariant.{each_thread}

-- whether one of these is parked on c for m
abbrev aims_in : List Parking → ℕ → ℕ → Bool
aims_in ps c m = list_any (λ (p : Parking). if p.cond == c then p.target == m else false) ps

-- one of a disjunction holds
either_holds : (a b c : Bool) → (b ≡ true → c ≡ true) → (a || b) ≡ true → (a || c) ≡ true
either_holds true b c f e = refl
either_holds false b c f e = f e

-- if somebody is parked on c for m, somebody is parked on c
pub parked-from_aim : (ps : List Parking) (c m : ℕ) → aims_in ps c m ≡ true → has_waiter (parked_pairs ps) c ≡ true
parked-from_aim [] c m e = absurd (true≢false (sym e))
parked-from_aim (p ∷ ps) c m e = by_test (λ b. ((if b then p.target == m else false) || aims_in ps c m) ≡ true
    → (b || has_waiter (parked_pairs ps) c) ≡ true) (p.cond == c)
    (λ _ _. refl) (λ _ x. parked-from_aim ps c m x) e

-- and if some have left, those that are parked were
pub aims-unparked : (ps : List Parking) (u c m : ℕ) → aims_in (parkings_without ps u) c m ≡ true → aims_in ps c m ≡ true
aims-unparked [] u c m e = e
aims-unparked (p ∷ ps) u c m e = by_test (λ b. aims_in (cond (cond b false true) (p ∷ parkings_without ps u) (parkings_without ps u)) c m
    ≡ true → aims_in (p ∷ ps) c m ≡ true) (p.thread == u)
    (λ _ x. either_holds (if p.cond == c then p.target == m else false) true (aims_in ps c m)
    (λ _. aims-unparked ps u c m x) (or_true (if p.cond == c then p.target == m else false)))
    (λ _ x. either_holds (if p.cond == c then p.target == m else false) (aims_in (parkings_without ps u) c m) (aims_in ps c m)
    (aims-unparked ps u c m) x) e

-- one more is parked
pub aims-push : (ps : List Parking) (t c m i n : ℕ)
    → aims_in (ps ++ record { thread = t; cond = c; target = m } ∷ []) i n ≡ true
    → (aims_in ps i n ≡ true) ⊎ ((c ≡ i) × (m ≡ n))
aims-push [] t c m i n e = by_test (λ b. (c == i) ≡ b → ((if b then m == n else false) || false) ≡ true
    → (aims_in [] i n ≡ true) ⊎ ((c ≡ i) × (m ≡ n))) (c == i)
    (λ f _ x. inr (eqb-true c i f, eqb-true m n (sym (or_false (m == n)) ∙ x)))
    (λ f _ x. absurd (true≢false (sym x))) refl e
aims-push (p ∷ ps) t c m i n e = by_test (λ b. (b || aims_in (ps ++ record { thread = t; cond = c; target = m } ∷ []) i n)
    ≡ true → ((b || aims_in ps i n) ≡ true) ⊎ ((c ≡ i) × (m ≡ n))) (if p.cond == i then p.target == n else false)
    (λ _ _. inl refl) (λ _ x. aims-push ps t c m i n x) e

-- a variable on which a thread is parked was added
pub cond-from_parked : {s : Table} → IsSound s → (c : ℕ) → has_parked s.kernel c ≡ true → has_cond s c ≡ true
cond-from_parked {s} h c e = first (has_cond s c) (has_mutex s l.mutex) call.named
  where
    u : ℕ
    u = top_parked s.kernel c

    was : status_at s u ≡ Parked c
    was = top-parked s.kernel h.kernel c e

    lives : is_living s.kernel u ≡ true
    lives = living-from_added s.kernel u (top-added s.kernel h.kernel c e) (ap has_ended was)

    l : IsParkedLine c (line_at s u)
    l = (each_thread h u lives).parked c was

    call : CallIsSound s u (Wait c l.mutex) StayParked
    call = subst (LineIsSound s u) l.line (each_thread h u lives).line
