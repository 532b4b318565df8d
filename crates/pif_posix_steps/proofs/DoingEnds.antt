-- The end of a thread, as a list of results, is what the rules allow.
use Rattle.std.proofs.Common.{ℕ, zero, suc, ◌≡◌, ◌≢◌, ◌<◌, ◌≤◌, ◌⊎◌, ◌∙◌, ◌==◌, Bool, true, false, List, [], ◌∷◌, length, length-set, get_or, set, refl, sym, ap, subst, inl, inr, arith, if◌then◌else◌, Contains, get_or-set_other, get_or-set_same}
use Rattle.std.proofs.lemmas.Bool.{eqb-true, eq-eqb, and_from, and_parts, cases_Bool, cases_eq, cases_lt, both_ways, false_from_ne_true}
use Rattle.std.proofs.lemmas.List.{get_or_past, nil_from_length}
use Rattle.pif_model.specs.declared.events.Event.TheVariants.{End}
use Rattle.std.specs.List.{list_all}
use Rattle.pif_model.specs.Graph.{without, waited_by}
use Rattle.pif_model.specs.Posix.{World, Mutex, no_mutex, mutex_at, next_of, effective_of, after_end, after_owner_death, on_death, IsOwner, IsNotStalled, IsAllowed, OwnsNoneRobust, Releases, Ends}
use Rattle.pif_model.specs.Posix.Releases.{none_left, one_more}
use Rattle.pif_model_lemmas.proofs.Among.{is_among, is_among_cons, is_among_here, is_among_there, next_is_among}
use Rattle.pif_model_lemmas.proofs.Waiting.{names, named-from_pair, named-without_other, named-without_same}
use Rattle.pif_posix_steps.specs.Doing.{passing, owns_robust, robust_of, passed_on_by_death, inherited, inherited_below, is_orderly, all_inherited, is_allowed, ended}
use Rattle.pif_posix_steps.proofs.DoingCases.{choose_then, choose_else}
use Rattle.pif_posix_steps.proofs.DoingLists.{not_in_none, in_one, in_one_from, in_then, in_then_from, in_flat_map, in_flat_map_from, passing_to, passing_from, passing-none, passing-one_less}
use Rattle.pif_posix_steps.proofs.DoingReleases.{passed-nobody, passed-next, passed_from, passed_to}
use Rattle.pif_posix_steps.proofs.DoingMoves.{allowed_from, allowed_to, end_is_of_somebody}
use Rattle.pif_posix_steps.proofs.Reaching.{waited-from_single}
use Rattle.pif_posix_steps.proofs.Ending.{HasLeft, one_release}

-- ROBUST MUTEXES

module _ (w : World) (t : ℕ) where
  pub owns_robust_to : (m : ℕ) → owns_robust w t m ≡ true → IsNotStalled w m × IsOwner w t m
  owns_robust_to m e = by_robustness (cases_Bool (mutex_at w m).robust)
    where
      by_robustness : ((mutex_at w m).robust ≡ true) ⊎ ((mutex_at w m).robust ≡ false) → IsNotStalled w m × IsOwner w t m
      by_robustness (inl r) =
          (r, eqb-true (mutex_at w m).owner t (sym (choose_then (mutex_at w m).robust ((mutex_at w m).owner == t) false r) ∙ e))
      by_robustness (inr r) =
          absurd (both_ways (owns_robust w t m) (choose_else (mutex_at w m).robust ((mutex_at w m).owner == t) false r) e)

  pub owns_robust_from : (m : ℕ) → IsNotStalled w m → IsOwner w t m → owns_robust w t m ≡ true
  owns_robust_from m r o =
      choose_then (mutex_at w m).robust ((mutex_at w m).owner == t) false r ∙ eq-eqb (mutex_at w m).owner t o

  -- a robust mutex was added
  robust_is_added : (m : ℕ) → IsNotStalled w m → m < length w.mutexes
  robust_is_added m r = by_length (cases_lt m (length w.mutexes))
    where
      by_length : (m < length w.mutexes) ⊎ (length w.mutexes ≤ m) → m < length w.mutexes
      by_length (inl l) = l
      by_length (inr l) =
          absurd (both_ways (mutex_at w m).robust (ap (λ (x : Mutex). x.robust) (get_or_past w.mutexes m no_mutex l)) r)

  pub robust_of_to : (m : ℕ) → Contains (robust_of w t) m → IsNotStalled w m × IsOwner w t m
  robust_of_to m k = owns_robust_to m (passing_to (owns_robust w t) (length w.mutexes) m k).1

  pub robust_of_from : (m : ℕ) → IsNotStalled w m → IsOwner w t m → Contains (robust_of w t) m
  robust_of_from m r o = passing_from (owns_robust w t) (length w.mutexes) m (robust_is_added m r) (owns_robust_from m r o)

  pub owns_none_to : length (robust_of w t) ≡ 0 → OwnsNoneRobust w t
  owns_none_to e m o =
      false_from_ne_true (mutex_at w m).robust
      (λ r. not_in_none m (subst (λ (xs : List ℕ). Contains xs m) (nil_from_length (robust_of w t) e) (robust_of_from m r o)))

  pub owns_none_from : OwnsNoneRobust w t → length (robust_of w t) ≡ 0
  owns_none_from h = ap length (passing-none (owns_robust w t) (length w.mutexes) (λ i l. none i))
    where
      none : (i : ℕ) → owns_robust w t i ≡ false
      none i =
          false_from_ne_true (owns_robust w t i)
          (λ e. let x = owns_robust_to i e in both_ways (mutex_at w i).robust (h i x.1) x.0)

-- PASSING ON BY A DEATH

-- who is no waiter is none without u
pub unnamed-without : (ws : List (ℕ × ℕ)) (u v : ℕ) → names v ws ≡ false → names v (without ws u) ≡ false
unnamed-without ws u v h = by_case (cases_eq v u)
  where
    by_case : (v ≡ u) ⊎ (v ≡ u → ⊥) → names v (without ws u) ≡ false
    by_case (inl e) = subst (λ (x : ℕ). names x (without ws u) ≡ false) (sym e) (named-without_same ws u)
    by_case (inr n) = named-without_other ws u v n ∙ h

module _ (t m : ℕ) (w : World) where
  -- who is no waiter stays none
  pub stays_unnamed : names t w.waiters ≡ false → names t (passed_on_by_death m w).waiters ≡ false
  stays_unnamed h = by_next (cases_eq (next_of (after_owner_death m w) m) 0)
    where
      by_next : (next_of (after_owner_death m w) m ≡ 0) ⊎ (next_of (after_owner_death m w) m ≡ 0 → ⊥)
          → names t (passed_on_by_death m w).waiters ≡ false
      by_next (inl z) = ap (λ (x : World). names t x.waiters) (passed-nobody m (after_owner_death m w) z) ∙ h
      by_next (inr k) =
          ap (λ (x : World). names t x.waiters) (passed-next m (after_owner_death m w) k)
          ∙ unnamed-without w.waiters (next_of (after_owner_death m w) m) t h

  -- the next owner is another than t, who is no waiter
  pub next_is_another : names t w.waiters ≡ false → next_of (after_owner_death m w) m ≢ 0 → next_of (after_owner_death m w) m ≢ t
  next_is_another h k e =
      let u : ℕ = next_of (after_owner_death m w) m in
      let among : is_among w.waiters u m ≡ true = next_is_among (effective_of (after_owner_death m w)) w.waiters m u refl k in
      both_ways (names t w.waiters) h (subst (λ (x : ℕ). names x w.waiters ≡ true) e (named-from_pair w.waiters u m among))

  -- m as it is afterwards, and the others as they were
  pub new_owner : t ≢ 0 → names t w.waiters ≡ false
      → (x : ℕ) × (x ≢ t)
      × ((passed_on_by_death m w).mutexes ≡ set (after_owner_death m w).mutexes m (record (mutex_at (after_owner_death m w) m) { owner = x; count = 1 }))
  new_owner n h = by_next (cases_eq (next_of (after_owner_death m w) m) 0)
    where
      by_next : (next_of (after_owner_death m w) m ≡ 0) ⊎ (next_of (after_owner_death m w) m ≡ 0 → ⊥)
          → (x : ℕ) × (x ≢ t)
          × ((passed_on_by_death m w).mutexes ≡ set (after_owner_death m w).mutexes m (record (mutex_at (after_owner_death m w) m) { owner = x; count = 1 }))
      by_next (inl z) = (0, λ e. n (sym e), ap (λ (x : World). x.mutexes) (passed-nobody m (after_owner_death m w) z))
      by_next (inr k) =
          (next_of (after_owner_death m w) m, next_is_another h k, ap (λ (x : World). x.mutexes) (passed-next m (after_owner_death m w) k))

-- m is written twice, at last with an owner who isn't t
module _ (t m : ℕ) (w v : World) (y z : Mutex) (e : v.mutexes ≡ set (set w.mutexes m y) m z) where
  as_many : length v.mutexes ≡ length w.mutexes
  as_many = ap length e ∙ length-set (set w.mutexes m y) m z ∙ length-set w.mutexes m y

  others_same : (i : ℕ) → (i ≡ m → ⊥) → owns_robust w t i ≡ owns_robust v t i
  others_same i n =
      let same : mutex_at v i ≡ mutex_at w i =
      ap (λ (ms : List Mutex). get_or ms i no_mutex) e ∙ get_or-set_other (set w.mutexes m y) m i z no_mutex n
      ∙ get_or-set_other w.mutexes m i y no_mutex n in
      ap (λ (x : Mutex). if x.robust then x.owner == t else false) (sym same)

  orphaned_it : m < length w.mutexes → z.owner ≢ t → owns_robust v t m ≡ false
  orphaned_it l n =
      let long : m < length (set w.mutexes m y) = subst (λ (k : ℕ). m < k) (sym (length-set w.mutexes m y)) l in
      let this : mutex_at v m ≡ z =
      ap (λ (ms : List Mutex). get_or ms m no_mutex) e ∙ get_or-set_same (set w.mutexes m y) m z no_mutex long in
      false_from_ne_true (owns_robust v t m)
      (λ f. n (sym (ap (λ (x : Mutex). x.owner) this) ∙ (owns_robust_to v t m f).1))

-- t owns one robust mutex less, once another owns it
pub one_robust_less : (t m : ℕ) (w v : World) (x : ℕ) → IsNotStalled w m → IsOwner w t m → x ≢ t
    → v.mutexes ≡ set (after_owner_death m w).mutexes m (record (mutex_at (after_owner_death m w) m) { owner = x; count = 1 })
    → length (robust_of w t) ≡ suc (length (robust_of v t))
one_robust_less t m w v x r o k e =
    let y : Mutex = record (mutex_at w m) { health = on_death (mutex_at w m).health } in
    let z : Mutex = record (mutex_at (after_owner_death m w) m) { owner = x; count = 1 } in
    passing-one_less (owns_robust w t) (owns_robust v t) (length w.mutexes) m (robust_is_added w t m r)
    (owns_robust_from w t m r o) (orphaned_it t m w v y z e (robust_is_added w t m r) k)
    (others_same t m w v y z e)
    ∙ ap (λ (n : ℕ). suc (length (passing (owns_robust v t) n))) (sym (as_many t m w v y z e))

pub loses_one : (t m : ℕ) (w : World) → t ≢ 0 → names t w.waiters ≡ false → IsNotStalled w m → IsOwner w t m
    → length (robust_of w t) ≡ suc (length (robust_of (passed_on_by_death m w) t))
loses_one t m w n h r o =
    let c = new_owner t m w n h in
    one_robust_less t m w (passed_on_by_death m w) c.0 r o c.1 c.2

-- RELEASES

pub inherited_from : (t : ℕ) (w v : World) → t ≢ 0 → names t w.waiters ≡ false → Releases t w v
    → Contains (inherited (length (robust_of w t)) t w) v
inherited_from t w v n h (none_left k x) =
    subst (λ (i : ℕ). Contains (inherited i t w) v) (sym (owns_none_from w t k)) (in_one_from w v x)
inherited_from t w v n h (one_more {u = u} m o r p rest) =
    let u_is : u ≡ passed_on_by_death m w = passed_from m (after_owner_death m w) u p in
    let unnamed : names t u.waiters ≡ false = ap (λ (x : World). names t x.waiters) u_is ∙ stays_unnamed t m w h in
    let ih : Contains (inherited (length (robust_of u t)) t u) v = inherited_from t u v n unnamed rest in
    let there : Contains (inherited (length (robust_of (passed_on_by_death m w) t)) t (passed_on_by_death m w)) v =
    subst (λ (x : World). Contains (inherited (length (robust_of x t)) t x) v) u_is ih in
    subst (λ (i : ℕ). Contains (inherited i t w) v) (sym (loses_one t m w n h r o))
    (in_flat_map_from (λ (i : ℕ). inherited (length (robust_of (passed_on_by_death m w) t)) t (passed_on_by_death i w)) (robust_of w t) m v
    (robust_of_from w t m r o) there)

pub inherited_to : (n t : ℕ) (w v : World) → t ≢ 0 → names t w.waiters ≡ false → n ≡ length (robust_of w t)
    → Contains (inherited n t w) v → Releases t w v
inherited_to zero t w v s h e k = none_left (owns_none_to w t (sym e)) (sym (in_one w v k))
inherited_to (suc n) t w v s h e k =
    let c = in_flat_map (λ (i : ℕ). inherited n t (passed_on_by_death i w)) (robust_of w t) v k in
    let x = robust_of_to w t c.0 c.1 in
    let less : n ≡ length (robust_of (passed_on_by_death c.0 w) t) = omega (arith, e, loses_one t c.0 w s h x.0 x.1) in
    one_more c.0 x.1 x.0 (passed_to c.0 (after_owner_death c.0 w))
    (inherited_to n t (passed_on_by_death c.0 w) v s (stays_unnamed t c.0 w h) less c.2)

-- IN ONE ORDER

-- t owns no robust mutex of number n or above
abbrev OwnsNoneFrom : ℕ → ℕ → World → Type 0
OwnsNoneFrom n t w = (i : ℕ) → n ≤ i → owns_robust w t i ≡ false

-- m passes on: then t owns no robust mutex of its number or above, if it owned none above
none_from_it : (t m : ℕ) (w : World) → t ≢ 0 → names t w.waiters ≡ false → owns_robust w t m ≡ true
    → OwnsNoneFrom (suc m) t w → OwnsNoneFrom m t (passed_on_by_death m w)
none_from_it t m w n h own above i le =
    let c = new_owner t m w n h in
    at c.0 c.1 c.2
  where
    at : (x : ℕ) → x ≢ t
        → (passed_on_by_death m w).mutexes ≡ set (after_owner_death m w).mutexes m (record (mutex_at (after_owner_death m w) m) { owner = x; count = 1 })
        → owns_robust (passed_on_by_death m w) t i ≡ false
    at x k e = by_place (cases_eq i m)
      where
        y : Mutex
        y = record (mutex_at w m) { health = on_death (mutex_at w m).health }

        z : Mutex
        z = record (mutex_at (after_owner_death m w) m) { owner = x; count = 1 }

        by_place : (i ≡ m) ⊎ (i ≡ m → ⊥) → owns_robust (passed_on_by_death m w) t i ≡ false
        by_place (inl f) =
            ap (owns_robust (passed_on_by_death m w) t) f
            ∙ orphaned_it t m w (passed_on_by_death m w) y z e (robust_is_added w t m (owns_robust_to w t m own).0) k
        by_place (inr d) =
            sym (others_same t m w (passed_on_by_death m w) y z e i d) ∙ above i (omega (arith, le, d))

-- the robust mutexes of t below n pass on, if it owns no others
below_releases : (n t : ℕ) (w : World) → t ≢ 0 → names t w.waiters ≡ false → OwnsNoneFrom n t w
    → Releases t w (inherited_below n t w)
below_releases zero t w s h none = none_left (λ m o. false_from_ne_true (mutex_at w m).robust
    (λ r. both_ways (owns_robust w t m) (none m (omega arith)) (owns_robust_from w t m r o))) refl
below_releases (suc n) t w s h none = by_owner (below_releases n t) (cases_Bool (owns_robust w t n))
  where
    Rest : Type 0
    Rest = (x : World) → t ≢ 0 → names t x.waiters ≡ false → OwnsNoneFrom n t x → Releases t x (inherited_below n t x)

    after : Bool → World
    after b = inherited_below n t (if b then passed_on_by_death n w else w)

    by_owner : Rest → (owns_robust w t n ≡ true) ⊎ (owns_robust w t n ≡ false) → Releases t w (after (owns_robust w t n))
    by_owner rest (inl own) =
        let x = owns_robust_to w t n own in
        subst (λ (b : Bool). Releases t w (after b)) (sym own)
        (one_more n x.1 x.0 (passed_to n (after_owner_death n w))
        (rest (passed_on_by_death n w) s (stays_unnamed t n w h) (none_from_it t n w s h own none)))
    by_owner rest (inr other) =
        subst (λ (b : Bool). Releases t w (after b)) (sym other) (rest w s h (λ i le. by_place i le (cases_eq i n)))
      where
        by_place : (i : ℕ) → n ≤ i → (i ≡ n) ⊎ (i ≡ n → ⊥) → owns_robust w t i ≡ false
        by_place i le (inl e) = ap (owns_robust w t) e ∙ other
        by_place i le (inr d) = none i (omega (arith, le, d))

-- in an orderly state nobody is among the waiters of two mutexes
waits_for_it : (ws vs : List (ℕ × ℕ)) → list_all (λ (x : ℕ × ℕ). waited_by ws x.0 == x.1) vs ≡ true → (u m : ℕ)
    → is_among vs u m ≡ true → waited_by ws u ≡ m
waits_for_it ws [] h u m k = absurd (both_ways false refl k)
waits_for_it ws (x ∷ vs) h u m k =
    let a = and_parts (waited_by ws x.0 == x.1) (list_all (λ (y : ℕ × ℕ). waited_by ws y.0 == y.1) vs) h in
    elim (is_among_cons x vs u m k) [
      | inl e ↦ ap (waited_by ws) (sym e.0) ∙ eqb-true (waited_by ws x.0) x.1 a.0 ∙ e.1
      | inr r ↦ waits_for_it ws vs a.1 u m r
    ]

both_hold : (b c : Bool) → (if b then c else false) ≡ true → (b ≡ true) × (c ≡ true)
both_hold true c e = (refl, e)
both_hold false c e = absurd (both_ways false refl e)

has_left : (t : ℕ) (w : World) → t ≢ 0 → names t w.waiters ≡ false → is_orderly w ≡ true → HasLeft t w
has_left t w s h e =
    let c = both_hold ((mutex_at w 0).owner == 0) (list_all (λ (x : ℕ × ℕ). waited_by w.waiters x.0 == x.1) w.waiters) e in
    record {
      somebody = s;
      no_mutex = eqb-true (mutex_at w 0).owner 0 c.0;
      gone = h;
      single = λ u m k y z. sym (waits_for_it w.waiters w.waiters c.1 u m y) ∙ waits_for_it w.waiters w.waiters c.1 u k z;
    }

-- and back
each_waits : (ws vs : List (ℕ × ℕ)) → ((u m : ℕ) → is_among vs u m ≡ true → waited_by ws u ≡ m)
    → list_all (λ (x : ℕ × ℕ). waited_by ws x.0 == x.1) vs ≡ true
each_waits ws [] h = refl
each_waits ws (x ∷ vs) h =
    and_from (waited_by ws x.0 == x.1) (list_all (λ (y : ℕ × ℕ). waited_by ws y.0 == y.1) vs)
    (eq-eqb (waited_by ws x.0) x.1 (h x.0 x.1 (is_among_here x vs x.0 x.1 refl refl)))
    (each_waits ws vs (λ u m k. h u m (is_among_there x vs u m k)))

orderly_from : (t : ℕ) (w : World) → HasLeft t w → is_orderly w ≡ true
orderly_from t w h =
    choose_then ((mutex_at w 0).owner == 0) _ _ (eq-eqb (mutex_at w 0).owner 0 h.no_mutex)
    ∙ each_waits w.waiters w.waiters
    (λ u m k. waited-from_single w.waiters u m k (λ n y. h.single u n m y k))

-- ALL OF THEM

module _ (t : ℕ) (w : World) (s : t ≢ 0) (h : names t w.waiters ≡ false) where
  in_order_releases : Releases t w (inherited_below (length w.mutexes) t w)
  in_order_releases = below_releases (length w.mutexes) t w s h (λ i le. false_from_ne_true (owns_robust w t i)
      (λ e. absurd (omega (arith, le, robust_is_added w t i (owns_robust_to w t i e).0))))

  pub all_inherited_from : (v : World) → Releases t w v → Contains (all_inherited t w) v
  all_inherited_from v x = by_order (cases_Bool (is_orderly w))
    where
      by_order : (is_orderly w ≡ true) ⊎ (is_orderly w ≡ false) → Contains (all_inherited t w) v
      by_order (inl e) =
          subst (λ (xs : List World). Contains xs v) (sym (choose_then (is_orderly w) _ _ e))
          (in_one_from (inherited_below (length w.mutexes) t w) v (one_release x (has_left t w s h e) in_order_releases))
      by_order (inr e) =
          subst (λ (xs : List World). Contains xs v) (sym (choose_else (is_orderly w) _ _ e)) (inherited_from t w v s h x)

  pub all_inherited_to : (v : World) → Contains (all_inherited t w) v → Releases t w v
  all_inherited_to v k = by_order (cases_Bool (is_orderly w))
    where
      by_order : (is_orderly w ≡ true) ⊎ (is_orderly w ≡ false) → Releases t w v
      by_order (inl e) =
          subst (Releases t w)
          (in_one (inherited_below (length w.mutexes) t w) v
          (subst (λ (xs : List World). Contains xs v) (choose_then (is_orderly w) _ _ e) k))
          in_order_releases
      by_order (inr e) =
          inherited_to (length (robust_of w t)) t w v s h refl
          (subst (λ (xs : List World). Contains xs v) (choose_else (is_orderly w) _ _ e) k)

module _ (t : ℕ) (w : World) where
  pub unnamed_at_end : names t (after_end t w).waiters ≡ false
  unnamed_at_end = named-without_same w.waiters t

  pub ended_from : (v : World) → Ends t w v → Contains (ended t w) v
  ended_from v x =
      in_then_from (is_allowed w (End t)) (all_inherited t (after_end t w)) v
      (allowed_from w (End t) x.allowed)
      (all_inherited_from t (after_end t w) (end_is_of_somebody w t x.allowed) unnamed_at_end v x.releases)

  pub ended_to : (v : World) → Contains (ended t w) v → Ends t w v
  ended_to v k =
      let c = in_then (is_allowed w (End t)) (all_inherited t (after_end t w)) v k in
      let a = allowed_to w (End t) c.0 in
      record {
        allowed = a;
        releases = all_inherited_to t (after_end t w) (end_is_of_somebody w t a) unnamed_at_end v c.1;
      }

  -- there is one result at most, if nobody is among the waiters of two mutexes
  pub ended_once : (IsAllowed w (End t) → HasLeft t (after_end t w)) → length (ended t w) ≤ 1
  ended_once h = by_test (cases_Bool (is_allowed w (End t)))
    where
      by_test : (is_allowed w (End t) ≡ true) ⊎ (is_allowed w (End t) ≡ false) → length (ended t w) ≤ 1
      by_test (inl e) =
          let is : all_inherited t (after_end t w) ≡ inherited_below (length w.mutexes) t (after_end t w) ∷ [] =
          choose_then (is_orderly (after_end t w)) _ _ (orderly_from t (after_end t w) (h (allowed_to w (End t) e))) in
          subst (λ (xs : List World). length xs ≤ 1) (sym (choose_then (is_allowed w (End t)) _ _ e ∙ is)) (omega arith)
      by_test (inr e) = subst (λ (xs : List World). length xs ≤ 1) (sym (choose_else (is_allowed w (End t)) _ _ e)) (omega arith)
