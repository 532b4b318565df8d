-- Whom a signal or a broadcast may wake, as lists, is what the rules allow.
use Rattle.std.proofs.Common.{ℕ, ◌≡◌, ◌≤◌, ◌<◌, ◌⊎◌, ◌∙◌, ◌+◌, ◌==◌, Bool, true, false, List, [], ◌∷◌, length, get_or, map, refl, sym, ap, subst, inl, inr, if◌then◌else◌, Contains, filter, nat_le}
use Rattle.std.specs.List.{list_any}
use Rattle.std.proofs.lemmas.Bool.{eqb-true, le-leb, leb-true, cases_Bool, cases_lt, false_from_ne_true, both_ways}
use Rattle.std.proofs.lemmas.List.{get_or_past, nil_from_length}
use Rattle.std.proofs.lemmas.List.Elements.{Contains-append_left, Contains-append_right, Contains-append_cases, Contains-get_or, All-contains}
use Rattle.std.proofs.lemmas.List.Sums.{AllPass-from_list_all, list_all-from_AllPass}
use Rattle.pif_types.specs.declared.requests.Request.{Request}
use Rattle.pif_types.specs.declared.requests.Request.TheVariants.{Signal, Broadcast}
use Rattle.pif_model.specs.World.Progress.{Has}
use Rattle.pif_model.specs.Posix.{World, Thread, nobody, is_call_blocked, is_blocked_on, is_found, is_still_blocked, effective_of, with_progress, all_unblocked, Chooses, IsBlocked, AreBlocked, NoneFoundIsAbove, NoneFoundIsLeft, AllFoundAreAmong}
use Rattle.pif_model.specs.Posix.Chooses.{one, no_one, all}
use Rattle.pif_posix_steps.specs.Doing.{all_blocked, found_left, none_is_above, candidates, woken, signalled, selections, broadcast, chosen}
use Rattle.pif_posix_steps.proofs.DoingCases.{choose_then, choose_else}
use Rattle.pif_posix_steps.proofs.DoingLists.{not_in_none, in_first, in_rest, in_cases, in_one, in_then, in_then_from, in_else, in_else_from, in_filter, in_filter_from, in_map, in_map_from, among_is, among_from, passing_to, passing_from}
use Rattle.pif_posix_steps.proofs.DoingWaking.{all_unblocked-is, woken-same}

-- WHO IS BLOCKED

module _ (w : World) (c : ℕ) where
  -- who is blocked was added
  blocked_is_added : (u : ℕ) → is_blocked_on w c u ≡ true → u < length w.threads
  blocked_is_added u e = by_length (cases_lt u (length w.threads))
    where
      by_length : (u < length w.threads) ⊎ (length w.threads ≤ u) → u < length w.threads
      by_length (inl l) = l
      by_length (inr l) =
          let none : is_blocked_on w c u ≡ false = ap (λ (x : Thread). is_call_blocked c x.call) (get_or_past w.threads u nobody l) in
          absurd (both_ways (is_blocked_on w c u) none e)

  pub all_blocked_to : (u : ℕ) → Contains (all_blocked w c) u → IsBlocked w c u
  all_blocked_to u k = (passing_to (is_blocked_on w c) (length w.threads) u k).1

  pub all_blocked_from : (u : ℕ) → IsBlocked w c u → Contains (all_blocked w c) u
  all_blocked_from u e = passing_from (is_blocked_on w c) (length w.threads) u (blocked_is_added u e) e

-- WHO WAS FOUND AND IS LEFT

module _ (w : World) (t c : ℕ) where
  still_is_blocked : (b : ℕ) → is_still_blocked w t c b ≡ true → IsBlocked w c b
  still_is_blocked b e = by_test (cases_Bool (is_blocked_on w c b))
    where
      by_test : (is_blocked_on w c b ≡ true) ⊎ (is_blocked_on w c b ≡ false) → IsBlocked w c b
      by_test (inl f) = f
      by_test (inr f) =
          absurd (both_ways (is_still_blocked w t c b) (choose_else (is_blocked_on w c b) (is_found w t b) false f) e)

  pub found_left_to : (b : ℕ) → Contains (found_left w t c) b → is_still_blocked w t c b ≡ true
  found_left_to b k = (in_filter (is_still_blocked w t c) (all_blocked w c) b k).1

  pub found_left_from : (b : ℕ) → is_still_blocked w t c b ≡ true → Contains (found_left w t c) b
  found_left_from b e =
      in_filter_from (is_still_blocked w t c) (all_blocked w c) b (all_blocked_from w c b (still_is_blocked b e)) e

  above_to : (u : ℕ) → none_is_above w (found_left w t c) u ≡ true → NoneFoundIsAbove w t c u
  above_to u e b f =
      leb-true (effective_of w b) (effective_of w u)
      (All-contains (λ x. nat_le (effective_of w x) (effective_of w u) ≡ true) (found_left w t c) b
      (AllPass-from_list_all (λ x. nat_le (effective_of w x) (effective_of w u)) (found_left w t c) e) (found_left_from b f))

  above_from : (u : ℕ) → NoneFoundIsAbove w t c u → none_is_above w (found_left w t c) u ≡ true
  above_from u h =
      list_all-from_AllPass (λ x. nat_le (effective_of w x) (effective_of w u)) (found_left w t c)
      (λ k d l. le-leb (effective_of w (get_or (found_left w t c) k d)) (effective_of w u)
      (h (get_or (found_left w t c) k d) (found_left_to (get_or (found_left w t c) k d) (Contains-get_or (found_left w t c) k d l))))

  pub candidates_to : (u : ℕ) → Contains (candidates w t c) u → IsBlocked w c u × NoneFoundIsAbove w t c u
  candidates_to u k =
      let r = in_filter (none_is_above w (found_left w t c)) (all_blocked w c) u k in
      (all_blocked_to w c u r.0, above_to u r.1)

  pub candidates_from : (u : ℕ) → IsBlocked w c u → NoneFoundIsAbove w t c u → Contains (candidates w t c) u
  candidates_from u e h =
      in_filter_from (none_is_above w (found_left w t c)) (all_blocked w c) u (all_blocked_from w c u e) (above_from u h)

  pub none_left_to : (length (found_left w t c) == 0) ≡ true → NoneFoundIsLeft w t c
  none_left_to e b =
      let none : found_left w t c ≡ [] = nil_from_length (found_left w t c) (eqb-true (length (found_left w t c)) 0 e) in
      false_from_ne_true (is_still_blocked w t c b) (λ f. not_in_none b (subst (λ (us : List ℕ). Contains us b) none (found_left_from b f)))

  pub none_left_from : NoneFoundIsLeft w t c → (length (found_left w t c) == 0) ≡ true
  none_left_from h = by_list (found_left w t c) (λ b k. found_left_to b k)
    where
      by_list : (us : List ℕ) → ((b : ℕ) → Contains us b → is_still_blocked w t c b ≡ true) → (length us == 0) ≡ true
      by_list [] f = refl
      by_list (u ∷ us) f = absurd (both_ways (is_still_blocked w t c u) (h u) (f u (in_first u us)))

-- SELECTIONS

-- some of these, among which are all that pass the test
pub record Selects (test : ℕ → Bool) (us xs : List ℕ) : Type 0 where
  pub within : (b : ℕ) → Contains xs b → Contains us b
  pub enough : (b : ℕ) → Contains us b → test b ≡ true → Contains xs b

pub selections_to : (test : ℕ → Bool) (us xs : List ℕ) → Contains (selections test us) xs → Selects test us xs
selections_to test [] xs k =
    let none : [] ≡ xs = in_one [] xs k in
    record { within = λ b d. subst (λ (ys : List ℕ). Contains ys b) (sym none) d; enough = λ b d e. absurd (not_in_none b d) }
selections_to test (u ∷ us) xs k =
    by_case (λ ys d. selections_to test us ys d)
    (Contains-append_cases (map (λ ys. u ∷ ys) (selections test us)) (if test u then [] else selections test us) xs k)
  where
    taken : (ys : List ℕ) → Selects test us ys → u ∷ ys ≡ xs → Selects test (u ∷ us) xs
    taken ys s e = subst (λ (zs : List ℕ). Selects test (u ∷ us) zs) e (record { within = inside; enough = all_there })
      where
        inside : (b : ℕ) → Contains (u ∷ ys) b → Contains (u ∷ us) b
        inside b d = ins b (in_cases u ys b d)
          where
            ins : (b : ℕ) → (u ≡ b) ⊎ Contains ys b → Contains (u ∷ us) b
            ins b (inl f) = subst (Contains (u ∷ us)) f (in_first u us)
            ins b (inr f) = in_rest u us b (s.within b f)

        all_there : (b : ℕ) → Contains (u ∷ us) b → test b ≡ true → Contains (u ∷ ys) b
        all_there b d e = outs b (in_cases u us b d) e
          where
            outs : (b : ℕ) → (u ≡ b) ⊎ Contains us b → test b ≡ true → Contains (u ∷ ys) b
            outs b (inl f) e = subst (Contains (u ∷ ys)) f (in_first u ys)
            outs b (inr f) e = in_rest u ys b (s.enough b f e)

    left_out : test u ≡ false → Selects test us xs → Selects test (u ∷ us) xs
    left_out n s = record { within = λ b d. in_rest u us b (s.within b d); enough = λ b d e. outs b (in_cases u us b d) e }
      where
        outs : (b : ℕ) → (u ≡ b) ⊎ Contains us b → test b ≡ true → Contains xs b
        outs b (inl f) e = absurd (both_ways (test u) n (subst (λ (x : ℕ). test x ≡ true) (sym f) e))
        outs b (inr f) e = s.enough b f e

    by_case : ((ys : List ℕ) → Contains (selections test us) ys → Selects test us ys)
        → Contains (map (λ ys. u ∷ ys) (selections test us)) xs ⊎ Contains (if test u then [] else selections test us) xs
        → Selects test (u ∷ us) xs
    by_case ih (inl d) = let r = in_map (λ (ys : List ℕ). u ∷ ys) (selections test us) xs d in taken r.0 (ih r.0 r.1) r.2
    by_case ih (inr d) = let r = in_else (test u) (selections test us) xs d in left_out r.0 (ih xs r.1)

-- whoever passes the test is kept
pub selections_from : (test keep : ℕ → Bool) (us : List ℕ) → ((b : ℕ) → test b ≡ true → keep b ≡ true)
    → Contains (selections test us) (filter keep us)
selections_from test keep [] h = in_first [] []
selections_from test keep (u ∷ us) h = by_test (selections_from test keep us h) (cases_Bool (keep u))
  where
    by_test : Contains (selections test us) (filter keep us) → (keep u ≡ true) ⊎ (keep u ≡ false)
        → Contains (selections test (u ∷ us)) (filter keep (u ∷ us))
    by_test ih (inl e) =
        let this : filter keep (u ∷ us) ≡ u ∷ filter keep us = choose_then (keep u) (u ∷ filter keep us) (filter keep us) e in
        subst (Contains (selections test (u ∷ us))) (sym this)
        (Contains-append_left (map (λ ys. u ∷ ys) (selections test us)) (if test u then [] else selections test us) (u ∷ filter keep us)
        (in_map_from (λ (ys : List ℕ). u ∷ ys) (selections test us) (filter keep us) ih))
    by_test ih (inr e) =
        let this : filter keep (u ∷ us) ≡ filter keep us = choose_else (keep u) (u ∷ filter keep us) (filter keep us) e in
        let fails : test u ≡ false = false_from_ne_true (test u) (λ f. both_ways (keep u) e (h u f)) in
        subst (Contains (selections test (u ∷ us))) (sym this)
        (Contains-append_right (map (λ ys. u ∷ ys) (selections test us)) (if test u then [] else selections test us) (filter keep us)
        (in_else_from (test u) (selections test us) (filter keep us) fails ih))

-- CHOOSING

-- a broadcast that wakes the same threads leaves the same
pub all_unblocked-same : (us xs : List ℕ) (w : World) → ((b : ℕ) → Contains us b → Contains xs b) → ((b : ℕ) → Contains xs b → Contains us b)
    → all_unblocked us w ≡ all_unblocked xs w
all_unblocked-same us xs w f g =
    all_unblocked-is us w
    ∙ ap (λ (ys : List Thread). record w { threads = ys })
    (woken-same (λ i. list_any (λ u. u == i) us) (λ i. list_any (λ u. u == i) xs) 0 w.threads (λ i. agree (0 + i)))
    ∙ sym (all_unblocked-is xs w)
  where
    agree : (i : ℕ) → list_any (λ u. u == i) us ≡ list_any (λ u. u == i) xs
    agree i = by_test (cases_Bool (list_any (λ u. u == i) us))
      where
        by_test : (list_any (λ u. u == i) us ≡ true) ⊎ (list_any (λ u. u == i) us ≡ false)
            → list_any (λ u. u == i) us ≡ list_any (λ u. u == i) xs
        by_test (inl e) = e ∙ sym (among_from xs i (f i (among_is us i e)))
        by_test (inr e) =
            e ∙ sym (false_from_ne_true (list_any (λ u. u == i) xs)
            (λ k. both_ways (list_any (λ u. u == i) us) e (among_from us i (g i (among_is xs i k)))))

module _ (t : ℕ) (w : World) where
  pub signalled_one : (c u : ℕ) → IsBlocked w c u → NoneFoundIsAbove w t c u → Contains (signalled t c w) (woken t u w)
  signalled_one c u b h =
      Contains-append_left (map (λ u. woken t u w) (candidates w t c)) (if length (found_left w t c) == 0 then with_progress t (Has 0) w ∷ [] else [])
      (woken t u w) (in_map_from (λ (u : ℕ). woken t u w) (candidates w t c) u (candidates_from w t c u b h))

  pub signalled_no_one : (c : ℕ) → NoneFoundIsLeft w t c → Contains (signalled t c w) (with_progress t (Has 0) w)
  signalled_no_one c h =
      Contains-append_right (map (λ u. woken t u w) (candidates w t c)) (if length (found_left w t c) == 0 then with_progress t (Has 0) w ∷ [] else [])
      (with_progress t (Has 0) w)
      (in_then_from (length (found_left w t c) == 0) (with_progress t (Has 0) w ∷ []) (with_progress t (Has 0) w) (none_left_from w t c h)
      (in_first (with_progress t (Has 0) w) []))

  pub broadcast_all : (c : ℕ) (us : List ℕ) → AreBlocked w c us → AllFoundAreAmong w t c us
      → Contains (broadcast t c w) (all_unblocked us (with_progress t (Has 0) w))
  broadcast_all c us b h =
      let keep : ℕ → Bool = λ i. list_any (λ x. x == i) us in
      let xs : List ℕ = filter keep (all_blocked w c) in
      let same : all_unblocked us (with_progress t (Has 0) w) ≡ all_unblocked xs (with_progress t (Has 0) w) =
      all_unblocked-same us xs (with_progress t (Has 0) w)
      (λ i k. in_filter_from keep (all_blocked w c) i (all_blocked_from w c i (b i (among_from us i k))) (among_from us i k))
      (λ i k. among_is us i (in_filter keep (all_blocked w c) i k).1) in
      subst (Contains (broadcast t c w)) (sym same)
      (in_map_from (λ (us : List ℕ). all_unblocked us (with_progress t (Has 0) w)) (selections (is_still_blocked w t c) (all_blocked w c)) xs
      (selections_from (is_still_blocked w t c) keep (all_blocked w c) h))

  pub chosen_from : (q : Request) (v : World) → Chooses t q w v → Contains (chosen t q w) v
  chosen_from q v (one c u e b h x) =
      subst (λ (q : Request). Contains (chosen t q w) v) (sym e) (subst (Contains (signalled t c w)) (sym x) (signalled_one c u b h))
  chosen_from q v (no_one c e h x) =
      subst (λ (q : Request). Contains (chosen t q w) v) (sym e) (subst (Contains (signalled t c w)) (sym x) (signalled_no_one c h))
  chosen_from q v (all c us e b h x) =
      subst (λ (q : Request). Contains (chosen t q w) v) (sym e) (subst (Contains (broadcast t c w)) (sym x) (broadcast_all c us b h))

  pub signalled_to : (c : ℕ) (v : World) → Contains (signalled t c w) v → Chooses t (Signal c) w v
  signalled_to c v k =
      by_case (Contains-append_cases (map (λ u. woken t u w) (candidates w t c)) (if length (found_left w t c) == 0 then with_progress t (Has 0) w ∷ [] else []) v k)
    where
      by_case : Contains (map (λ u. woken t u w) (candidates w t c)) v
          ⊎ Contains (if length (found_left w t c) == 0 then with_progress t (Has 0) w ∷ [] else []) v → Chooses t (Signal c) w v
      by_case (inl d) =
          let r = in_map (λ (u : ℕ). woken t u w) (candidates w t c) v d in
          let s = candidates_to w t c r.0 r.1 in
          one c r.0 refl s.0 s.1 (sym r.2)
      by_case (inr d) =
          let r = in_then (length (found_left w t c) == 0) (with_progress t (Has 0) w ∷ []) v d in
          no_one c refl (none_left_to w t c r.0) (sym (in_one (with_progress t (Has 0) w) v r.1))

  pub broadcast_to : (c : ℕ) (v : World) → Contains (broadcast t c w) v → Chooses t (Broadcast c) w v
  broadcast_to c v k =
      let r = in_map (λ (us : List ℕ). all_unblocked us (with_progress t (Has 0) w)) (selections (is_still_blocked w t c) (all_blocked w c)) v k in
      let s = selections_to (is_still_blocked w t c) (all_blocked w c) r.0 r.1 in
      all c r.0 refl (λ u e. all_blocked_to w c u (s.within u (among_is r.0 u e)))
      (λ b e. among_from r.0 b (s.enough b (all_blocked_from w c b (still_is_blocked w t c b e)) e)) (sym r.2)

  pub chosen_to : (q : Request) (v : World) → Contains (chosen t q w) v → Chooses t q w v
  chosen_to (Signal c) v k = signalled_to c v k
  chosen_to (Broadcast c) v k = broadcast_to c v k
  chosen_to _ v k = absurd (not_in_none v k)
