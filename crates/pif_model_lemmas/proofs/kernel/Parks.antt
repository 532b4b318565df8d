-- Who is parked on which variable, once a thread has changed its status, was parked, or has left its variable.
use Rattle.std.proofs.Common.{◌≡◌, ◌≢◌, ◌⊎◌, ℕ, true, false, ◌||◌, ◌==◌, List, [], ◌∷◌, ◌++◌, cond, refl, sym, ap, ◌∙◌, subst, if◌then◌else◌, eq-eqb, inl, inr}
use Rattle.std.proofs.lemmas.Bool.{cases_eq, false_from_ne_true}
use Rattle.std.proofs.lemmas.List.{map-append}
use Rattle.pif_model.specs.declared.lines.Status.TheVariants.{Parked}
use Rattle.pif_model.specs.Graph.{without}
use Rattle.pif_model.specs.PiKernel.{Kernel, Parking, ParksAsTold, seat_at, is_parked, parked_pairs, parkings_without}
use Rattle.pif_model_lemmas.proofs.Among.{is_among-without, is_among_push}
use Rattle.pif_model_lemmas.proofs.Waiting.{by_test, names, pairs, Once, once_push, once_without, pair-from_named, or_true}
use Rattle.pif_model_lemmas.proofs.kernel.Queues.{pairs-push, pairs-without_other}
use Rattle.pif_model_lemmas.proofs.kernel.Statuses.{not_parked, parked_on}

-- PAIRS

-- one more is parked
pub parked_pairs-push : (ps : List Parking) (p : Parking)
    → parked_pairs (ps ++ p ∷ []) ≡ parked_pairs ps ++ (p.thread, p.cond) ∷ []
parked_pairs-push ps p = map-append (λ (p : Parking). (p.thread, p.cond)) ps (p ∷ [])

-- one has left
pub parked_pairs-without : (ps : List Parking) (u : ℕ) → parked_pairs (parkings_without ps u) ≡ without (parked_pairs ps) u
parked_pairs-without [] u = refl
parked_pairs-without (p ∷ ps) u =
    by_test (λ b. parked_pairs (cond (cond b false true) (p ∷ parkings_without ps u) (parkings_without ps u))
    ≡ cond (cond b false true) ((p.thread, p.cond) ∷ without (parked_pairs ps) u) (without (parked_pairs ps) u))
    (p.thread == u)
    (λ e. parked_pairs-without ps u) (λ e. ap (λ ws. (p.thread, p.cond) ∷ ws) (parked_pairs-without ps u))

-- WHO IS PARKED

-- each has the status that it had
pub parks_same : (k now : Kernel) → now.parked ≡ k.parked
    → ((u : ℕ) → (seat_at now u).status ≡ (seat_at k u).status) → ParksAsTold k → ParksAsTold now
parks_same k now e same h = record {
  status = λ u c x. same u ∙ h.status u c (sym (ap (λ ps. pairs u c (parked_pairs ps)) e) ∙ x);
  parked = λ u c x. ap (λ ps. pairs u c (parked_pairs ps)) e ∙ h.parked u c (sym (same u) ∙ x);
  once = subst (λ ps. Once (parked_pairs ps)) (sym e) h.once;
}

-- all but t have the statuses that they had
module _ (k now : Kernel) (t : ℕ) (same : (u : ℕ) → u ≢ t → (seat_at now u).status ≡ (seat_at k u).status)
    (h : ParksAsTold k) where
  -- who is not parked doesn't stand among the parked
  unpaired : is_parked (seat_at k t).status ≡ false → (c : ℕ) → pairs t c (parked_pairs k.parked) ≡ true → ⊥
  unpaired was c x = not_parked (seat_at k t).status c was (h.status t c x)

  -- t was not parked, and is not
  pub parks_kept : now.parked ≡ k.parked → is_parked (seat_at k t).status ≡ false
      → is_parked (seat_at now t).status ≡ false → ParksAsTold now
  parks_kept e was is = record {
    status = λ u c x. status u c (cases_eq u t) (sym (ap (λ ps. pairs u c (parked_pairs ps)) e) ∙ x);
    parked = λ u c x. ap (λ ps. pairs u c (parked_pairs ps)) e ∙ parked u c (cases_eq u t) x;
    once = subst (λ ps. Once (parked_pairs ps)) (sym e) h.once;
  }
    where
      status : (u c : ℕ) → (u ≡ t) ⊎ (u ≢ t) → pairs u c (parked_pairs k.parked) ≡ true
          → (seat_at now u).status ≡ Parked c
      status u c (inl y) x =
          absurd (not_parked (seat_at k t).status c was
          (ap (λ v. (seat_at k v).status) (sym y) ∙ h.status u c x))
      status u c (inr d) x = same u d ∙ h.status u c x

      parked : (u c : ℕ) → (u ≡ t) ⊎ (u ≢ t) → (seat_at now u).status ≡ Parked c
          → pairs u c (parked_pairs k.parked) ≡ true
      parked u c (inl y) x =
          absurd (not_parked (seat_at now t).status c is (ap (λ v. (seat_at now v).status) (sym y) ∙ x))
      parked u c (inr d) x = h.parked u c (sym (same u d) ∙ x)

  -- t is not parked any more, if it was
  pub parks_left : now.parked ≡ parkings_without k.parked t → is_parked (seat_at now t).status ≡ false → ParksAsTold now
  parks_left e is = record {
    status = λ u c x. status u c (is_among-without (parked_pairs k.parked) t u c (sym (listed u c) ∙ x));
    parked = λ u c x. listed u c ∙ parked u c (cases_eq u t) x;
    once = subst Once (sym pairs_are) (once_without (parked_pairs k.parked) t h.once);
  }
    where
      pairs_are : parked_pairs now.parked ≡ without (parked_pairs k.parked) t
      pairs_are = ap parked_pairs e ∙ parked_pairs-without k.parked t

      listed : (u c : ℕ) → pairs u c (parked_pairs now.parked) ≡ pairs u c (without (parked_pairs k.parked) t)
      listed u c = ap (pairs u c) pairs_are

      status : (u c : ℕ) → (pairs u c (parked_pairs k.parked) ≡ true) × (u ≢ t) → (seat_at now u).status ≡ Parked c
      status u c r = same u r.1 ∙ h.status u c r.0

      parked : (u c : ℕ) → (u ≡ t) ⊎ (u ≢ t) → (seat_at now u).status ≡ Parked c
          → pairs u c (without (parked_pairs k.parked) t) ≡ true
      parked u c (inl y) x =
          absurd (not_parked (seat_at now t).status c is (ap (λ v. (seat_at now v).status) (sym y) ∙ x))
      parked u c (inr d) x =
          pairs-without_other (parked_pairs k.parked) t u c d ∙ h.parked u c (sym (same u d) ∙ x)

  -- t was not parked, and is
  pub parks_joined : (c m : ℕ) → now.parked ≡ k.parked ++ record { thread = t; cond = c; target = m } ∷ []
      → is_parked (seat_at k t).status ≡ false → (seat_at now t).status ≡ Parked c → ParksAsTold now
  parks_joined c m e was is = record {
    status = λ u d x. status u d (cases_eq u t)
        (is_among_push (parked_pairs k.parked) t c u d (sym (listed u d) ∙ x));
    parked = λ u d x. listed u d ∙ pairs-push (parked_pairs k.parked) t c u d ∙ parked u d (cases_eq u t) x;
    once = subst Once (sym pairs_are) (once_push (parked_pairs k.parked) (t, c) unnamed h.once);
  }
    where
      pairs_are : parked_pairs now.parked ≡ parked_pairs k.parked ++ (t, c) ∷ []
      pairs_are = ap parked_pairs e ∙ parked_pairs-push k.parked (record { thread = t; cond = c; target = m })

      listed : (u d : ℕ) → pairs u d (parked_pairs now.parked) ≡ pairs u d (parked_pairs k.parked ++ (t, c) ∷ [])
      listed u d = ap (pairs u d) pairs_are

      unnamed : names t (parked_pairs k.parked) ≡ false
      unnamed = false_from_ne_true (names t (parked_pairs k.parked)) (λ x.
          let r = pair-from_named (parked_pairs k.parked) t x in unpaired was r.0 r.1)

      status : (u d : ℕ) → (u ≡ t) ⊎ (u ≢ t) → (pairs u d (parked_pairs k.parked) ≡ true) ⊎ ((t ≡ u) × (c ≡ d))
          → (seat_at now u).status ≡ Parked d
      status u d y (inr r) = ap (λ v. (seat_at now v).status) (sym r.0) ∙ is ∙ ap Parked r.1
      status u d (inl y) (inl x) =
          absurd (unpaired was d (subst (λ v. pairs v d (parked_pairs k.parked) ≡ true) y x))
      status u d (inr n) (inl x) = same u n ∙ h.status u d x

      parked : (u d : ℕ) → (u ≡ t) ⊎ (u ≢ t) → (seat_at now u).status ≡ Parked d
          → (pairs u d (parked_pairs k.parked) || (if t == u then c == d else false)) ≡ true
      parked u d (inl y) x =
          let told : Parked c ≡ Parked d = sym is ∙ ap (λ v. (seat_at now v).status) (sym y) ∙ x in
          ap (λ b. pairs u d (parked_pairs k.parked) || b) (rw (eq-eqb t u (sym y)) (eq-eqb c d (ap parked_on told)))
          ∙ or_true (pairs u d (parked_pairs k.parked))
      parked u d (inr n) x =
          ap (λ b. b || (if t == u then c == d else false)) (h.parked u d (sym (same u n) ∙ x))
