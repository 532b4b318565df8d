-- The ends and entries that rules allow are those that are listed.
use Rattle.std.proofs.Common.{ℕ, zero, suc, ◌≡◌, ◌≢◌, ◌⊎◌, ◌∙◌, Bool, true, false, List, [], length, Option, Some, None, map, refl, sym, ap, subst, inl, inr, arith, if◌then◌else◌, Contains, flat_map}
use Rattle.std.proofs.lemmas.Bool.{cases_Bool, both_ways, false_from_ne_true}
use Rattle.std.proofs.lemmas.List.Elements.{Contains-append_left, Contains-append_right, Contains-append_cases}
use Rattle.pif_types.specs.Bounds.{Bounds}
use Rattle.pif_model.specs.declared.events.Event.TheVariants.{End}
use Rattle.pif_model.specs.declared.events.Entry.{Entry}
use Rattle.pif_model.specs.Posix.{World, IsOwner, IsNotStalled, Passes, Releases, is_living, mutex_at, after_end, after_owner_death, with_no_owner}
use Rattle.pif_model.specs.Posix.Releases.{none_left as none_owned, one_more as one_passes}
use Rattle.pif_model_lemmas.proofs.Waiting.{names}
use Rattle.pif_posix_steps.specs.Doing.{entered, is_allowed, robust_of, passed_on, all_inherited}
use Rattle.pif_posix_steps.proofs.DoingCases.{choose_then, choose_else}
use Rattle.pif_posix_steps.proofs.DoingLists.{in_first, in_rest, in_cases, in_one, in_one_from, in_then, in_then_from, in_else, in_else_from, in_map, in_map_from, in_flat_map, in_flat_map_from}
use Rattle.pif_posix_steps.proofs.DoingReleases.{passed_from, passed_to}
use Rattle.pif_posix_steps.proofs.DoingMoves.{allowed_from, allowed_to, end_is_of_somebody}
use Rattle.pif_posix_steps.proofs.DoingEnds.{robust_of_to, robust_of_from, owns_none_to, owns_none_from, stays_unnamed, new_owner, one_robust_less, all_inherited_from, all_inherited_to, unnamed_at_end}
use Rattle.pif_posix_steps.proofs.DoingEntries.{entered_from, entered_to}
use Rattle.pif_rules_model.specs.declared.rules.Rules.{Rules}
use Rattle.pif_rules_model.specs.Lending.{not_owned}
use Rattle.pif_rules_model.specs.Rules.{Wide, seen_by_lending, WideEnds, EndsInSteps, MayRevive, FindsHealth, PassesBy, ReleasesBy, EndsBy, EndsApartBy, PassesLater, InWorld, HasReleased, WideEnters, WideEndsApart, WidePassesLater, of_call, unlocked_next_by, is_unusable, revived, has_ended_apart, has_all_again, end_of}
use Rattle.pif_rules_model.specs.Rules.MayRevive.{revives, cut}
use Rattle.pif_rules_model.specs.Rules.FindsHealth.{as_it_is, one}
use Rattle.pif_rules_model.specs.Rules.PassesBy.{passes, left_free}
use Rattle.pif_rules_model.specs.Rules.ReleasesBy.{none_left, they_stay, one_more}
use Rattle.pif_rules_model.specs.Rules.HasReleased.{at_once, none_left as none_kept, they_stay as they_are_kept}
use Rattle.pif_rules_model.specs.Rules.WideEnters.{ended as wide_end, other as wide_other}
use Rattle.pif_rules_model.specs.Rules.EndsInSteps.{leaves, passes as passes_apart}
use Rattle.pif_rules_model.specs.Ruled.{beside, seeing_lending, ended_remembering, ended_in_steps, remembering, remembering_apart, is_mutex_of, is_some_of, one_if, may_revive, revived_if, found_by, passed_by, passed_by_death, released_by, all_released, ended_found, ended_by, left_apart, passed_apart, ended_apart, passing_later, passed_later, has_released, entered_as, widely_entered}
use Rattle.pif_rules_model.proofs.Listing.{in_one_if, in_one_if_from, some_is_there, none_is_there}
use Rattle.pif_rules_model.proofs.Moves.{is_mutex_of-is, is_mutex_of-from}
use Rattle.pif_rules_model.proofs.Lending.{sees_to, sees_from}

module _ (r : Rules) (t : ℕ) where
  -- THE HEALTH THAT AN END FINDS

  may_revive_to : (w : World) (m : ℕ) → may_revive r t w m ≡ true → MayRevive r t m w × (is_unusable (mutex_at w m).health ≡ true)
  may_revive_to w m e = by_health (cases_Bool (is_unusable (mutex_at w m).health))
    where
      by_cut : (if r.cut_unlock then is_mutex_of (of_call unlocked_next_by w t) m else false) ≡ true
          → (r.cut_unlock ≡ true) ⊎ (r.cut_unlock ≡ false) → MayRevive r t m w
      by_cut f (inl c) =
          cut c (is_mutex_of-is (of_call unlocked_next_by w t) m (sym (choose_then r.cut_unlock (is_mutex_of (of_call unlocked_next_by w t) m) false c) ∙ f))
      by_cut f (inr c) = absurd (both_ways _ (choose_else r.cut_unlock (is_mutex_of (of_call unlocked_next_by w t) m) false c) f)

      by_rule : (if r.revives then true else (if r.cut_unlock then is_mutex_of (of_call unlocked_next_by w t) m else false)) ≡ true
          → (r.revives ≡ true) ⊎ (r.revives ≡ false) → MayRevive r t m w
      by_rule f (inl b) = revives b
      by_rule f (inr b) = by_cut (sym (choose_else r.revives true _ b) ∙ f) (cases_Bool r.cut_unlock)

      by_health : (is_unusable (mutex_at w m).health ≡ true) ⊎ (is_unusable (mutex_at w m).health ≡ false)
          → MayRevive r t m w × (is_unusable (mutex_at w m).health ≡ true)
      by_health (inl a) = (by_rule (sym (choose_then (is_unusable (mutex_at w m).health) _ false a) ∙ e) (cases_Bool r.revives), a)
      by_health (inr a) = absurd (both_ways (may_revive r t w m) (choose_else (is_unusable (mutex_at w m).health) _ false a) e)

  may_revive_from : (w : World) (m : ℕ) → MayRevive r t m w → is_unusable (mutex_at w m).health ≡ true → may_revive r t w m ≡ true
  may_revive_from w m h e = choose_then (is_unusable (mutex_at w m).health) _ false e ∙ by_rule h
    where
      by_rule : MayRevive r t m w → (if r.revives then true else (if r.cut_unlock then is_mutex_of (of_call unlocked_next_by w t) m else false)) ≡ true
      by_rule (revives a) = choose_then r.revives true _ a
      by_rule (cut a b) = by_other r.revives
        where
          by_other : (c : Bool) → (if c then true else (if r.cut_unlock then is_mutex_of (of_call unlocked_next_by w t) m else false)) ≡ true
          by_other true = refl
          by_other false = choose_then r.cut_unlock _ false a ∙ is_mutex_of-from (of_call unlocked_next_by w t) m b

  pub found_to : (w v : World) → Contains (found_by r t w) v → FindsHealth r t w v
  found_to w v k = elim (in_cases w (flat_map (revived_if r t w) (robust_of w t)) v k) [
    | inl e ↦ as_it_is (sym e)
    | inr c ↦ (
        let x = in_flat_map (revived_if r t w) (robust_of w t) v c in
        let m = x.0 in
        let owned = robust_of_to w t m x.1 in
        let y = in_one_if (may_revive r t w m) (revived m w) v x.2 in
        let z = may_revive_to w m y.0 in
        one m z.0 owned.1 owned.0 z.1 y.1)
  ]

  pub found_from : (w v : World) → FindsHealth r t w v → Contains (found_by r t w) v
  found_from w v (as_it_is e) = subst (Contains (found_by r t w)) (sym e) (in_first w (flat_map (revived_if r t w) (robust_of w t)))
  found_from w v (one m h o b u e) =
      in_rest w (flat_map (revived_if r t w) (robust_of w t)) v
      (in_flat_map_from (revived_if r t w) (robust_of w t) m v (robust_of_from w t m b o)
      (in_one_if_from (may_revive r t w m) (revived m w) v (may_revive_from w m h u) e))

  -- PASSING ON

  passed_by_to : (m : ℕ) (w v : World) → Contains (passed_by r m w) v → PassesBy r m w v
  passed_by_to m w v k = elim (in_cases (passed_on m w) (one_if r.barge (with_no_owner m w)) v k) [
    | inl e ↦ passes (subst (Passes m w) e (passed_to m w))
    | inr c ↦ (let x = in_one_if r.barge (with_no_owner m w) v c in left_free x.0 x.1)
  ]

  passed_by_from : (m : ℕ) (w v : World) → PassesBy r m w v → Contains (passed_by r m w) v
  passed_by_from m w v (passes p) =
      subst (Contains (passed_by r m w)) (sym (passed_from m w v p)) (in_first (passed_on m w) (one_if r.barge (with_no_owner m w)))
  passed_by_from m w v (left_free b e) =
      in_rest (passed_on m w) (one_if r.barge (with_no_owner m w)) v (in_one_if_from r.barge (with_no_owner m w) v b e)

  -- once a robust mutex of t has passed on, t, which is no waiter, is none, and owns one less
  module _ (m : ℕ) (w u : World) (s : t ≢ 0) (h : names t w.waiters ≡ false) (p : PassesBy r m (after_owner_death m w) u) where
    still_unnamed : names t u.waiters ≡ false
    still_unnamed = elim p [
      | passes q ↦ ap (λ (x : World). names t x.waiters) (passed_from m (after_owner_death m w) u q) ∙ stays_unnamed t m w h
      | left_free b e ↦ ap (λ (x : World). names t x.waiters) e ∙ h
    ]

    one_less : IsNotStalled w m → IsOwner w t m → length (robust_of w t) ≡ suc (length (robust_of u t))
    one_less b o = elim p [
      | passes q ↦ (
          let c = new_owner t m w s h in
          one_robust_less t m w u c.0 b o c.1 (ap (λ (x : World). x.mutexes) (passed_from m (after_owner_death m w) u q) ∙ c.2))
      | left_free x e ↦ one_robust_less t m w u 0 b o (λ f. s (sym f)) (ap (λ (x : World). x.mutexes) e)
    ]

  released_from : (w v : World) → t ≢ 0 → names t w.waiters ≡ false → ReleasesBy r t w v
      → Contains (released_by r (length (robust_of w t)) t w) v
  released_from w v s h (none_left k x) = subst (λ (i : ℕ). Contains (released_by r i t w) v) (sym (owns_none_from w t k)) (in_one_from w v x)
  released_from w v s h (they_stay b x) = by_count (length (robust_of w t))
    where
      by_count : (n : ℕ) → Contains (released_by r n t w) v
      by_count zero = in_one_from w v x
      by_count (suc n) =
          Contains-append_right (flat_map (released_by r n t) (flat_map (passed_by_death r w) (robust_of w t))) (one_if r.stays_locked w) v
          (in_one_if_from r.stays_locked w v b x)
  released_from w v s h (one_more {u = u} m o b p rest) =
      let n = length (robust_of u t) in
      subst (λ (i : ℕ). Contains (released_by r i t w) v) (sym (one_less m w u s h p b o))
      (Contains-append_left (flat_map (released_by r n t) (flat_map (passed_by_death r w) (robust_of w t))) (one_if r.stays_locked w) v
      (in_flat_map_from (released_by r n t) (flat_map (passed_by_death r w) (robust_of w t)) u v
      (in_flat_map_from (passed_by_death r w) (robust_of w t) m u (robust_of_from w t m b o) (passed_by_from m (after_owner_death m w) u p))
      (released_from u v s (still_unnamed m w u s h p) rest)))

  released_to : (n : ℕ) (w v : World) → t ≢ 0 → names t w.waiters ≡ false → n ≡ length (robust_of w t)
      → Contains (released_by r n t w) v → ReleasesBy r t w v
  released_to zero w v s h e k = none_left (owns_none_to w t (sym e)) (sym (in_one w v k))
  released_to (suc n) w v s h e k =
      elim (Contains-append_cases (flat_map (released_by r n t) (flat_map (passed_by_death r w) (robust_of w t))) (one_if r.stays_locked w) v k) [
        | inr c ↦ (let x = in_one_if r.stays_locked w v c in they_stay x.0 x.1)
        | inl c ↦ (
            let x = in_flat_map (released_by r n t) (flat_map (passed_by_death r w) (robust_of w t)) v c in
            let u = x.0 in
            let y = in_flat_map (passed_by_death r w) (robust_of w t) u x.1 in
            let m = y.0 in
            let owned = robust_of_to w t m y.1 in
            let p = passed_by_to m (after_owner_death m w) u y.2 in
            let less : n ≡ length (robust_of u t) = omega (arith, e, one_less m w u s h p owned.0 owned.1) in
            one_more m owned.1 owned.0 p (released_to n u v s (still_unnamed m w u s h p) less x.2))
      ]

  -- each passes on at once, if no rule says otherwise
  pub plainly_released : r.barge ≡ false → r.stays_locked ≡ false → (w v : World) → ReleasesBy r t w v → Releases t w v
  plainly_released b k w v (none_left n x) = none_owned n x
  plainly_released b k w v (they_stay s x) = absurd (both_ways r.stays_locked k s)
  plainly_released b k w v (one_more {u = u} m o n (passes p) rest) = one_passes m o n p (plainly_released b k u v rest)
  plainly_released b k w v (one_more {u = u} m o n (left_free c e) rest) = absurd (both_ways r.barge b c)

  pub widely_released : (w v : World) → Releases t w v → ReleasesBy r t w v
  widely_released w v (none_owned n x) = none_left n x
  widely_released w v (one_passes {u = u} m o n p rest) = one_more m o n (passes p) (widely_released u v rest)

  module _ (w : World) (s : t ≢ 0) (h : names t w.waiters ≡ false) where
    -- all orders, or one
    abbrev all_orders : List World
    all_orders = released_by r (length (robust_of w t)) t w

    all_released_to : (v : World) → Contains (all_released r t w) v → ReleasesBy r t w v
    all_released_to v k = by_barge (cases_Bool r.barge)
      where
        by_staying : r.barge ≡ false → Contains (if r.stays_locked then all_orders else all_inherited t w) v
            → (r.stays_locked ≡ true) ⊎ (r.stays_locked ≡ false) → ReleasesBy r t w v
        by_staying b c (inl e) =
            released_to (length (robust_of w t)) w v s h refl
            (subst (λ (xs : List World). Contains xs v) (choose_then r.stays_locked all_orders (all_inherited t w) e) c)
        by_staying b c (inr e) =
            widely_released w v (all_inherited_to t w s h v
            (subst (λ (xs : List World). Contains xs v) (choose_else r.stays_locked all_orders (all_inherited t w) e) c))

        by_barge : (r.barge ≡ true) ⊎ (r.barge ≡ false) → ReleasesBy r t w v
        by_barge (inl e) =
            released_to (length (robust_of w t)) w v s h refl
            (subst (λ (xs : List World). Contains xs v) (choose_then r.barge all_orders _ e) k)
        by_barge (inr e) =
            by_staying e (subst (λ (xs : List World). Contains xs v) (choose_else r.barge all_orders _ e) k) (cases_Bool r.stays_locked)

    all_released_from : (v : World) → ReleasesBy r t w v → Contains (all_released r t w) v
    all_released_from v x = by_barge (cases_Bool r.barge)
      where
        by_staying : r.barge ≡ false → (r.stays_locked ≡ true) ⊎ (r.stays_locked ≡ false)
            → Contains (if r.stays_locked then all_orders else all_inherited t w) v
        by_staying b (inl e) =
            subst (λ (xs : List World). Contains xs v) (sym (choose_then r.stays_locked all_orders (all_inherited t w) e)) (released_from w v s h x)
        by_staying b (inr e) =
            subst (λ (xs : List World). Contains xs v) (sym (choose_else r.stays_locked all_orders (all_inherited t w) e))
            (all_inherited_from t w s h v (plainly_released b e w v x))

        by_barge : (r.barge ≡ true) ⊎ (r.barge ≡ false) → Contains (all_released r t w) v
        by_barge (inl e) = subst (λ (xs : List World). Contains xs v) (sym (choose_then r.barge all_orders _ e)) (released_from w v s h x)
        by_barge (inr e) =
            subst (λ (xs : List World). Contains xs v) (sym (choose_else r.barge all_orders _ e)) (by_staying e (cases_Bool r.stays_locked))

  -- ENDS

  pub ended_by_to : (w v : World) → Contains (ended_by r t w) v → EndsBy r t w v
  ended_by_to w v k =
      let a = in_then (is_allowed w (End t)) (flat_map (ended_found r t) (found_by r t w)) v k in
      let b = in_flat_map (ended_found r t) (found_by r t w) v a.1 in
      let allowed = allowed_to w (End t) a.0 in
      record {
        allowed = allowed;
        found = b.0;
        finds = found_to w b.0 b.1;
        releases = all_released_to (after_end t b.0) (end_is_of_somebody w t allowed) (unnamed_at_end t b.0) v b.2;
      }

  pub ended_by_from : (w v : World) → EndsBy r t w v → Contains (ended_by r t w) v
  ended_by_from w v h =
      in_then_from (is_allowed w (End t)) (flat_map (ended_found r t) (found_by r t w)) v (allowed_from w (End t) h.allowed)
      (in_flat_map_from (ended_found r t) (found_by r t w) h.found v (found_from w h.found h.finds)
      (all_released_from (after_end t h.found) (end_is_of_somebody w t h.allowed) (unnamed_at_end t h.found) v h.releases))

  pub left_apart_to : r.ends_apart ≡ true → (w v : World) → Contains (left_apart r t w) v → EndsApartBy r t w v
  left_apart_to apart w v k =
      let a = in_then (is_allowed w (End t)) (map (after_end t) (found_by r t w)) v k in
      let b = in_map (after_end t) (found_by r t w) v a.1 in
      record { apart = apart; allowed = allowed_to w (End t) a.0; found = b.0; finds = found_to w b.0 b.1; leaves = sym b.2 }

  pub left_apart_from : (w v : World) → EndsApartBy r t w v → Contains (left_apart r t w) v
  left_apart_from w v h =
      in_then_from (is_allowed w (End t)) (map (after_end t) (found_by r t w)) v (allowed_from w (End t) h.allowed)
      (subst (Contains (map (after_end t) (found_by r t w))) (sym h.leaves) (in_map_from (after_end t) (found_by r t w) h.found (found_from w h.found h.finds)))

  passed_apart_to : (w v : World) → Contains (passed_apart r t w) v → PassesLater r t w v
  passed_apart_to w v k =
      let a = in_else (is_living w t) (flat_map (passed_by_death r w) (robust_of w t)) v k in
      let b = in_flat_map (passed_by_death r w) (robust_of w t) v a.1 in
      let owned = robust_of_to w t b.0 b.1 in
      record {
        ended = a.0;
        mutex = b.0;
        owns = owned.1;
        robust = owned.0;
        passes = passed_by_to b.0 (after_owner_death b.0 w) v b.2;
      }

  passed_apart_from : (w v : World) → PassesLater r t w v → Contains (passed_apart r t w) v
  passed_apart_from w v h =
      in_else_from (is_living w t) (flat_map (passed_by_death r w) (robust_of w t)) v h.ended
      (in_flat_map_from (passed_by_death r w) (robust_of w t) h.mutex v (robust_of_from w t h.mutex h.robust h.owns)
      (passed_by_from h.mutex (after_owner_death h.mutex w) v h.passes))

  -- one step of an end that happens in steps
  module _ (s : Wide) where
    abbrev leaving : List Wide
    leaving = map (remembering_apart t s) (left_apart r t s.world)

    abbrev passing_apart : List Wide
    passing_apart = if has_ended_apart s t then map (beside s) (passed_apart r t s.world) else []

    in_steps_to : r.ends_apart ≡ true → (n : Wide) → Contains (ended_in_steps r t s) n → EndsInSteps r t s n
    in_steps_to a n k = elim (Contains-append_cases leaving passing_apart n k) [
      | inl c ↦ (
          let x = in_map (remembering_apart t s) (left_apart r t s.world) n c in
          leaves x.0 (left_apart_to a s.world x.0 x.1) (sym x.2))
      | inr c ↦ (
          let y = in_then (has_ended_apart s t) (map (beside s) (passed_apart r t s.world)) n c in
          let x = in_map (beside s) (passed_apart r t s.world) n y.1 in
          passes_apart x.0 y.0 (record { apart = a; later = passed_apart_to s.world x.0 x.1 }) (sym x.2))
    ]

    in_steps_from : (n : Wide) → EndsInSteps r t s n → Contains (ended_in_steps r t s) n
    in_steps_from n (leaves v h e) =
        Contains-append_left leaving passing_apart n
        (subst (Contains leaving) (sym e) (in_map_from (remembering_apart t s) (left_apart r t s.world) v (left_apart_from s.world v h)))
    in_steps_from n (passes_apart v b h e) =
        Contains-append_right leaving passing_apart n
        (in_then_from (has_ended_apart s t) (map (beside s) (passed_apart r t s.world)) n b
        (subst (Contains (map (beside s) (passed_apart r t s.world))) (sym e)
        (in_map_from (beside s) (passed_apart r t s.world) v (passed_apart_from s.world v h.later))))

    needs_apart : (n : Wide) → EndsInSteps r t s n → r.ends_apart ≡ true
    needs_apart n (leaves v h e) = h.apart
    needs_apart n (passes_apart v b h e) = h.apart

    -- what had stayed passes on
    later_to : (n : Wide) → Contains (passing_later r t s) n → InWorld (PassesLater r t) s n
    later_to n k =
        let x = in_map (beside s) (passed_apart r t s.world) n k in
        record { world = x.0; step = passed_apart_to s.world x.0 x.1; same = sym x.2 }

    later_from : (n : Wide) → InWorld (PassesLater r t) s n → Contains (passing_later r t s) n
    later_from n h =
        subst (Contains (passing_later r t s)) (sym h.same)
        (in_map_from (beside s) (passed_apart r t s.world) h.world (passed_apart_from s.world h.world h.step))

  module _ (s : Wide) where
    pub ended_apart_to : (n : Wide) → Contains (ended_apart r t s) n → WideEndsApart r t s n
    ended_apart_to n k =
        let a = in_then r.ends_apart (seeing_lending (not_owned s.world t s.prio_none) (ended_in_steps r t) s) n k in
        sees_to (EndsInSteps r t) (ended_in_steps r t) (λ m. in_steps_to m a.0) (not_owned s.world t s.prio_none) s n a.1

    pub ended_apart_from : (n : Wide) → WideEndsApart r t s n → Contains (ended_apart r t s) n
    ended_apart_from n h =
        in_then_from r.ends_apart (seeing_lending (not_owned s.world t s.prio_none) (ended_in_steps r t) s) n
        (needs_apart (seen_by_lending (not_owned s.world t s.prio_none) s) h.after h.step)
        (sees_from (EndsInSteps r t) (ended_in_steps r t) in_steps_from (not_owned s.world t s.prio_none) s n h)

    pub passed_later_to : (n : Wide) → Contains (passed_later r t s) n → WidePassesLater r t s n
    passed_later_to n k = sees_to (InWorld (PassesLater r t)) (passing_later r t) later_to (not_owned s.world t s.prio_none) s n k

    pub passed_later_from : (n : Wide) → WidePassesLater r t s n → Contains (passed_later r t s) n
    passed_later_from n h = sees_from (InWorld (PassesLater r t)) (passing_later r t) later_from (not_owned s.world t s.prio_none) s n h

    -- whether all that has to be released is
    pub released_is : has_released r t s ≡ true → HasReleased r t s
    released_is e = by_apart (cases_Bool (has_ended_apart s t))
      where
        by_mutexes : (if is_some_of (robust_of s.world t) then false else true) ≡ true
            → (is_some_of (robust_of s.world t) ≡ true) ⊎ (is_some_of (robust_of s.world t) ≡ false) → HasReleased r t s
        by_mutexes f (inl c) = absurd (both_ways _ (choose_then (is_some_of (robust_of s.world t)) false true c) f)
        by_mutexes f (inr c) = none_kept (λ m o. false_from_ne_true (mutex_at s.world m).robust
            (λ b. none_is_there (robust_of s.world t) m c (robust_of_from s.world t m b o)))

        by_staying : (if r.stays_locked then true else (if is_some_of (robust_of s.world t) then false else true)) ≡ true
            → (r.stays_locked ≡ true) ⊎ (r.stays_locked ≡ false) → HasReleased r t s
        by_staying f (inl b) = they_are_kept b
        by_staying f (inr b) = by_mutexes (sym (choose_else r.stays_locked true _ b) ∙ f) (cases_Bool (is_some_of (robust_of s.world t)))

        by_apart : (has_ended_apart s t ≡ true) ⊎ (has_ended_apart s t ≡ false) → HasReleased r t s
        by_apart (inl a) = by_staying (sym (choose_then (has_ended_apart s t) _ true a) ∙ e) (cases_Bool r.stays_locked)
        by_apart (inr a) = at_once a

    pub released_from_it : HasReleased r t s → has_released r t s ≡ true
    released_from_it (at_once a) = choose_else (has_ended_apart s t) _ true a
    released_from_it (they_are_kept b) = by_apart (has_ended_apart s t)
      where
        by_apart : (a : Bool) → (if a then (if r.stays_locked then true else (if is_some_of (robust_of s.world t) then false else true)) else true) ≡ true
        by_apart true = choose_then r.stays_locked true _ b
        by_apart false = refl
    released_from_it (none_kept h) = by_both (has_ended_apart s t) r.stays_locked
      where
        none : is_some_of (robust_of s.world t) ≡ false
        none = false_from_ne_true (is_some_of (robust_of s.world t)) (λ e.
            let x = some_is_there (robust_of s.world t) e in
            let y = robust_of_to s.world t x.0 x.1 in
            both_ways (mutex_at s.world x.0).robust (h x.0 y.1) y.0)

        by_both : (a b : Bool) → (if a then (if b then true else (if is_some_of (robust_of s.world t) then false else true)) else true) ≡ true
        by_both false b = refl
        by_both true true = refl
        by_both true false = choose_else (is_some_of (robust_of s.world t)) false true none

-- ENTRIES

module _ (r : Rules) (t : ℕ) (s : Wide) where
  wide_ends_to : (n : Wide) → Contains (ended_remembering r t s) n → WideEnds r t s n
  wide_ends_to n c =
      let x = in_map (remembering t s) (ended_by r t s.world) n c in
      record { world = x.0; ends = ended_by_to r t s.world x.0 x.1; same = sym x.2 }

  wide_ends_from : (n : Wide) → WideEnds r t s n → Contains (ended_remembering r t s) n
  wide_ends_from n h =
      subst (Contains (ended_remembering r t s)) (sym h.same)
      (in_map_from (remembering t s) (ended_by r t s.world) h.world (ended_by_from r t s.world h.world h.ends))

module _ (r : Rules) (l : Bounds) (s : Wide) (e : Entry) where
  pub widely_entered_to : (n : Wide) → Contains (widely_entered r l s e) n → WideEnters r l s e n
  widely_entered_to n k = by_end (end_of e) refl k
    where
      by_end : (o : Option ℕ) → end_of e ≡ o → Contains (entered_as r l s e o) n → WideEnters r l s e n
      by_end None is c =
          let a = in_then (has_all_again s e) (map (beside s) (entered l s.world e)) n c in
          let x = in_map (beside s) (entered l s.world e) n a.1 in
          wide_other x.0 is a.0 (entered_to l s.world e x.0 x.1) (sym x.2)
      by_end (Some t) is c =
          wide_end t is (sees_to (WideEnds r t) (ended_remembering r t) (wide_ends_to r t) (not_owned s.world t s.prio_none) s n c)

  pub widely_entered_from : (n : Wide) → WideEnters r l s e n → Contains (widely_entered r l s e) n
  widely_entered_from n (wide_end t is h) =
      subst (λ (o : Option ℕ). Contains (entered_as r l s e o) n) (sym is)
      (sees_from (WideEnds r t) (ended_remembering r t) (wide_ends_from r t) (not_owned s.world t s.prio_none) s n h)
  widely_entered_from n (wide_other v is all h f) =
      subst (λ (o : Option ℕ). Contains (entered_as r l s e o) n) (sym is)
      (in_then_from (has_all_again s e) (map (beside s) (entered l s.world e)) n all
      (subst (Contains (map (beside s) (entered l s.world e))) (sym f) (in_map_from (beside s) (entered l s.world e) v (entered_from l s.world e v h))))
