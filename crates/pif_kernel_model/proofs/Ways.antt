-- A way along one chain of waiting: no thread comes twice on it, so that there are more threads than it has passed. A
-- path is what is passed on the way from a thread to the one that waits for nobody.
use Rattle.std.proofs.Common.{◌≡◌, ◌≢◌, ◌⊎◌, ℕ, ◌<◌, ◌≤◌, ◌+◌, true, false, eqb, List, [], ◌∷◌, ◌++◌, length, Option, Some, None, refl, sym, ap, ◌∙◌, subst, inl, inr, arith}
use Rattle.std.specs.Prelude.{option_and_then, unwrap_or}
use Rattle.std.specs.List.{list_any, IsDistinct}
use Rattle.std.proofs.lemmas.Bool.{cases_eq, cases_lt, eqb-true, or_cases, false_from_ne_true}
use Rattle.std.proofs.lemmas.List.{append_assoc, append-nil, length-append}
use Rattle.std.proofs.lemmas.Map.Keys.{IsDistinct-cons}
use Rattle.std.proofs.lemmas.Map.Steps.{length-le_from_distinct_below}
use Rattle.pif_model.specs.Graph.{Reaches, IsPath}
use Rattle.pif_model.specs.Graph.Reaches.{here}
use Rattle.pif_model_lemmas.proofs.Following.{all_apart, no_repeats}
use Rattle.pif_model_lemmas.proofs.Hops.{Reaches-then}
use Rattle.pif_kernel_model.specs.Owners.{Owners, owner_at, waits_on, waits_for, WaitsFor, AreSoundOwners}
use Rattle.pif_kernel_model.specs.Boosts.{IsThread}
use Rattle.pif_kernel_model.proofs.Greatest.{nobody_waits, out_waits}

-- x is reached from t over one hop or more
abbrev IsAhead : Owners → ℕ → ℕ → Type 0
IsAhead v x at = (y : ℕ) × WaitsFor v x y × Reaches (WaitsFor v) y at

-- a walk has passed so many threads, each of which waits for the one at which it stands over one hop or more
pub record IsOnWay (v : Owners) (passed : List ℕ) (at : ℕ) : Type 0 where
  pub distinct : IsDistinct eqb passed
  pub threads : (x : ℕ) → list_any (eqb x) passed ≡ true → IsThread v x
  pub ahead : (x : ℕ) → list_any (eqb x) passed ≡ true → IsAhead v x at
  pub thread : IsThread v at

pub onway-start : (v : Owners) (at : ℕ) → IsThread v at → IsOnWay v [] at
onway-start v at th =
    record {
      distinct = no_repeats;
      threads = λ x h. absurd (no_member h);
      ahead = λ x h. absurd (no_member h);
      thread = th;
    }
  where
    no_member : false ≡ true → ⊥
    no_member h = cc

module _ (v : Owners) (sound : AreSoundOwners v) (passed : List ℕ) (at : ℕ) (o : IsOnWay v passed at) where
  -- it stands at none of them
  pub onway-apart : list_any (eqb at) passed ≡ false
  onway-apart = false_from_ne_true (list_any (eqb at) passed) (λ h. let c = o.ahead at h in sound.acyclic at c.0 c.1 c.2)

  distinct_more : IsDistinct eqb (at ∷ passed)
  distinct_more = IsDistinct-cons eqb at passed (all_apart at passed onway-apart) o.distinct

  thread_more : (x : ℕ) → list_any (eqb x) (at ∷ passed) ≡ true → IsThread v x
  thread_more x h = by_place (or_cases (eqb x at) (list_any (eqb x) passed) h)
    where
      by_place : ((eqb x at ≡ true) ⊎ (list_any (eqb x) passed ≡ true)) → IsThread v x
      by_place (inl e) = subst (IsThread v) (sym (eqb-true x at e)) o.thread
      by_place (inr m) = o.threads x m

  -- a hop to the thread for which it waits
  pub onway-hop : (u : ℕ) → WaitsFor v at u → IsThread v u → IsOnWay v (at ∷ passed) u
  onway-hop u a th =
      record {
        distinct = distinct_more;
        threads = thread_more;
        ahead = λ x h. by_place x (or_cases (eqb x at) (list_any (eqb x) passed) h);
        thread = th;
      }
    where
      by_place : (x : ℕ) → ((eqb x at ≡ true) ⊎ (list_any (eqb x) passed ≡ true)) → IsAhead v x u
      by_place x (inl e) = (u, subst (λ (y : ℕ). WaitsFor v y u) (sym (eqb-true x at e)) a, here refl)
      by_place x (inr m) = let c = o.ahead x m in (c.0, c.1, Reaches-then c.2 a)

  -- there are more threads than were passed
  pub onway-few : length passed + 2 ≤ length v.seats
  onway-few =
      omega (
        arith,
        length-le_from_distinct_below (0 ∷ at ∷ passed) (length v.seats)
            (IsDistinct-cons eqb 0 (at ∷ passed) (all_apart 0 (at ∷ passed) no_zero) distinct_more)
            (λ x h. by_place x (or_cases (eqb x 0) (list_any (eqb x) (at ∷ passed)) h)),
      )
    where
      no_zero : list_any (eqb 0) (at ∷ passed) ≡ false
      no_zero = false_from_ne_true (list_any (eqb 0) (at ∷ passed)) (λ h. let th = thread_more 0 h in absurd (omega (arith, th.0)))

      by_place : (x : ℕ) → ((eqb x 0 ≡ true) ⊎ (list_any (eqb x) (at ∷ passed) ≡ true)) → x < length v.seats
      by_place x (inl e) = omega (arith, eqb-true x 0 e, sound.least)
      by_place x (inr m) = (thread_more x m).1

-- THE PATH

-- what was passed on the way from a thread, and the one at which it stands, 0 if it has come to its end
pub record IsPathing (v : Owners) (start : ℕ) (passed : List ℕ) (at : ℕ) : Type 0 where
  -- with the path from there it is the path from the start
  pub whole : (us : List ℕ) → IsPath (waits_for v) at us → IsPath (waits_for v) start (passed ++ us)
  -- only the first and the last may have no row
  pub way : (at ≡ 0) ⊎ ((passed ≡ []) ⊎ ((ahead : List ℕ) × (length ahead ≡ length passed) × IsOnWay v ahead at))

pub pathing-start : (v : Owners) (start : ℕ) → IsPathing v start [] start
pathing-start v start = record { whole = λ us p. p; way = inr (inl refl) }

-- at the end it is the path
pub pathing-end : (v : Owners) (start : ℕ) (passed : List ℕ) → IsPathing v start passed 0 → IsPath (waits_for v) start passed
pathing-end v start passed c = subst (IsPath (waits_for v) start) (append-nil passed) (c.whole [] refl)

module _ (v : Owners) (sound : AreSoundOwners v) (start : ℕ) (passed : List ℕ) (at : ℕ) (c : IsPathing v start passed at)
    (some : at ≢ 0) where
  -- there are fewer than 1,024 before one at which it stands
  pub pathing-few : length passed < 1024
  pathing-few = by_way c.way
    where
      by_way : (at ≡ 0) ⊎ ((passed ≡ []) ⊎ ((ahead : List ℕ) × (length ahead ≡ length passed) × IsOnWay v ahead at))
          → length passed < 1024
      by_way (inl z) = absurd (some z)
      by_way (inr (inl e)) = omega (arith, ap length e)
      by_way (inr (inr w)) = omega (arith, w.1, onway-few v sound w.0 at w.2, sound.most)

  -- it goes on to the one for which that one waits, which has a row
  pub pathing-hop : (u : ℕ) → u ≡ waits_for v at → u < length v.seats → IsPathing v start (passed ++ at ∷ []) u
  pathing-hop u e row =
      record {
        whole = λ us p. subst (IsPath (waits_for v) start) (sym (append_assoc passed (at ∷ []) us))
            (c.whole (at ∷ us) (refl, some, subst (λ (y : ℕ). IsPath (waits_for v) y us) e p));
        way = by_next (cases_eq u 0);
      }
    where
      at_thread : u ≢ 0 → IsThread v at
      at_thread ne = (omega (arith, some), below (cases_lt at (length v.seats)))
        where
          below : ((at < length v.seats) ⊎ (length v.seats ≤ at)) → at < length v.seats
          below (inl l) = l
          below (inr l) = absurd (ne (e ∙ out_waits v at l))

      long : length (passed ++ at ∷ []) ≡ length passed + 1
      long = length-append passed (at ∷ [])

      by_way : u ≢ 0
          → (at ≡ 0) ⊎ ((passed ≡ []) ⊎ ((ahead : List ℕ) × (length ahead ≡ length passed) × IsOnWay v ahead at))
          → (ahead : List ℕ) × (length ahead ≡ length (passed ++ at ∷ [])) × IsOnWay v ahead u
      by_way ne (inl z) = absurd (some z)
      by_way ne (inr (inl z)) = (
        (at ∷ []),
        omega (arith, ap length z, long),
        onway-hop v sound [] at (onway-start v at (at_thread ne)) u (sym e, ne) (omega (arith, ne), row),
      )
      by_way ne (inr (inr w)) =
          ((at ∷ w.0), omega (arith, w.1, long), onway-hop v sound w.0 at w.2 u (sym e, ne) (omega (arith, ne), row))

      by_next : (u ≡ 0) ⊎ (u ≡ 0 → ⊥)
          → (u ≡ 0) ⊎ ((passed ++ at ∷ [] ≡ []) ⊎ ((ahead : List ℕ) × (length ahead ≡ length (passed ++ at ∷ [])) × IsOnWay v ahead u))
      by_next (inl z) = inl z
      by_next (inr ne) = inr (inr (by_way ne c.way))
