-- How many threads a walk has passed: each of them has another effective priority than before, and no other thread has.
use Rattle.std.proofs.Common.{◌≡◌, ◌≢◌, ◌⊎◌, ℕ, ◌<◌, ◌+◌, ◌-◌, true, false, eqb, List, [], ◌∷◌, length, refl, sym, ap, ◌∙◌, subst, inl, inr, arith}
use Rattle.std.specs.List.{list_any}
use Rattle.std.proofs.lemmas.Bool.{cases_eq, eqb-true, eq-eqb, or_cases, or_left, or_right, false_from_ne_true, true≢false}
use Rattle.pif_kernel_model.specs.Owners.{Owners, waits_for, AreSoundOwners}
use Rattle.pif_kernel_model.specs.Boosts.{local_of, greatest_base}
use Rattle.pif_boost.specs.Hops.{after_hops, IsHopCount}
use Rattle.pif_kernel_model.proofs.Ways.{IsOnWay, onway-apart}
use Rattle.pif_boost.proofs.Hops.{IsWalked, walked-local}

-- a walk from `start` has passed these threads, the last one first, and stands at the next
pub record IsCounted (v now : Owners) (start : ℕ) (passed : List ℕ) (at : ℕ) : Type 0 where
  pub place : after_hops (waits_for v) start (length passed) ≡ at
  pub among : (i : ℕ) → i < length passed → list_any (eqb (after_hops (waits_for v) start i)) passed ≡ true
  pub changed : (x : ℕ) → list_any (eqb x) passed ≡ true → local_of now x ≢ local_of v x
  pub kept : (x : ℕ) → list_any (eqb x) passed ≡ false → local_of now x ≡ local_of v x

-- before the first hop
pub counted-start : (v : Owners) (start : ℕ) → IsCounted v v start [] start
unfolding after_hops
counted-start v start =
    record {
      place = refl;
      among = λ i l. absurd (omega (arith, l));
      changed = λ x h. absurd (no_member h);
      kept = λ x h. refl;
    }
  where
    no_member : false ≡ true → ⊥
    no_member h = cc

module _ (v now : Owners) (start : ℕ) (passed : List ℕ) (at : ℕ) (sound : AreSoundOwners v)
    (way : IsOnWay v passed at) (c : IsCounted v now start passed at) where
  -- the thread at which it stands has the effective priority that it had
  pub counted-here : local_of now at ≡ local_of v at
  counted-here = c.kept at (onway-apart v sound passed at way)

  -- one hop: this thread got another one, all others kept theirs, and the walk stands at the one for which it waits
  pub counted-hop : (then : Owners) (u : ℕ) → waits_for v at ≡ u → local_of then at ≢ local_of now at
      → ((x : ℕ) → x ≢ at → local_of then x ≡ local_of now x) → IsCounted v then start (at ∷ passed) u
  unfolding after_hops
  counted-hop then u for other same =
      record {
        place = ap (waits_for v) c.place ∙ for;
        among = λ i l. member i l (cases_eq i (length passed));
        changed = λ x h. differs x (or_cases (eqb x at) (list_any (eqb x) passed) h);
        kept = λ x h. keeps x h (cases_eq x at);
      }
    where
      member : (i : ℕ) → i < length (at ∷ passed) → ((i ≡ length passed) ⊎ (i ≡ length passed → ⊥))
          → list_any (eqb (after_hops (waits_for v) start i)) (at ∷ passed) ≡ true
      member i l (inl e) =
          or_left (eqb (after_hops (waits_for v) start i) at) (list_any (eqb (after_hops (waits_for v) start i)) passed)
          (eq-eqb (after_hops (waits_for v) start i) at (ap (after_hops (waits_for v) start) e ∙ c.place))
      member i l (inr ne) =
          or_right (eqb (after_hops (waits_for v) start i) at) (list_any (eqb (after_hops (waits_for v) start i)) passed)
          (c.among i (omega (arith, l, ne)))

      -- a passed thread is another one than this
      apart : (x : ℕ) → list_any (eqb x) passed ≡ true → x ≢ at
      apart x m e =
          true≢false (sym m ∙ ap (λ (y : ℕ). list_any (eqb y) passed) e ∙ onway-apart v sound passed at way)

      differs : (x : ℕ) → ((eqb x at ≡ true) ⊎ (list_any (eqb x) passed ≡ true)) → local_of then x ≢ local_of v x
      differs x (inl e) s =
          let is : x ≡ at = eqb-true x at e in
          other (ap (local_of then) (sym is) ∙ s ∙ ap (local_of v) is ∙ sym counted-here)
      differs x (inr m) s = c.changed x m (sym (same x (apart x m)) ∙ s)

      keeps : (x : ℕ) → list_any (eqb x) (at ∷ passed) ≡ false → ((x ≡ at) ⊎ (x ≡ at → ⊥))
          → local_of then x ≡ local_of v x
      keeps x h (inl e) =
          absurd (true≢false (sym (or_left (eqb x at) (list_any (eqb x) passed) (eq-eqb x at e)) ∙ h))
      keeps x h (inr ne) =
          same x ne
          ∙ c.kept x (false_from_ne_true (list_any (eqb x) passed)
          (λ m. true≢false (sym (or_right (eqb x at) (list_any (eqb x) passed) m) ∙ h)))

  -- it ends here: at most this thread gets another one still
  pub counted-done : (final : Owners) → AreSoundOwners final → IsWalked v final 0
      → ((x : ℕ) → x ≢ at → local_of final x ≡ local_of now x)
      → ((greatest_base v at ≡ local_of v at) ⊎ (waits_for v at ≡ 0)) → IsHopCount v start (length passed + 1)
  counted-done final ends walked same stops =
      record {
        some = omega arith;
        changed = λ i l. other i (omega (arith, l));
        waits = λ i l z. (let a = way.ahead (reached i) (c.among i (omega (arith, l))) in a.1.1 (sym a.1.0 ∙ z));
        last = subst (λ (x : ℕ). (greatest_base v x ≡ local_of v x) ⊎ (waits_for v x ≡ 0)) (sym here) stops;
      }
    where
      reached : ℕ → ℕ
      reached i = after_hops (waits_for v) start i

      here : after_hops (waits_for v) start (length passed + 1 - 1) ≡ at
      here =
          let e : length passed + 1 - 1 ≡ length passed = omega arith in
          ap (after_hops (waits_for v) start) e ∙ c.place

      other : (i : ℕ) → i < length passed → greatest_base v (reached i) ≢ local_of v (reached i)
      other i l s =
          let m : list_any (eqb (reached i)) passed ≡ true = c.among i l in
          let apart : reached i ≢ at =
          λ e. true≢false (sym m ∙ ap (λ (y : ℕ). list_any (eqb y) passed) e ∙ onway-apart v sound passed at way) in
          c.changed (reached i) m
          (sym (same (reached i) apart) ∙ walked-local v final sound ends walked (reached i) (way.threads (reached i) m).1 ∙ s)
