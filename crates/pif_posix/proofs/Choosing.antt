-- Whom a signal or a broadcast wakes: one step of the loops that look for them.
use Rattle.std.proofs.Common.{ℕ, zero, suc, ◌≡◌, ◌≢◌, ◌∙◌, ◌==◌, Bool, true, false, List, [], ◌∷◌, ◌++◌, drop, map, refl, sym, ap, arith, append-nil, append_assoc, nat_le, ◌&&◌, length, if◌then◌else◌}
use Rattle.std.specs.List.{filter, list_all, list_any}
use Rattle.std.proofs.lemmas.List.{map-append, length-map}
use Rattle.std.proofs.lemmas.List.Elements.{filter_agree}
use Rattle.std.proofs.lemmas.Bool.{ne_eqb, eq-eqb}
use Rattle.pif_model.specs.Posix.{World, all_unblocked, with_call_by, after_unblocking, blocked_below, effective_of, is_blocked_on, is_found, is_still_blocked, thread_at, with_progress}
use Rattle.pif_model.specs.World.Progress.{Has}
use Rattle.pif_posix_steps.specs.Doing.{selections, all_blocked, found_left, none_is_above, candidates, woken, signalled, broadcast}
use Rattle.pif_posix_steps.proofs.DoingCases.{choose_then, choose_else}
use Rattle.pif_posix.specs.Choices.{wakings}

-- WHO IS BLOCKED

module _ (w : World) (c n : ℕ) where
  pub blocked-more : is_blocked_on w c n ≡ true → blocked_below w c (suc n) ≡ (n, (thread_at w n).memory.waits) ∷ blocked_below w c n
  unfolding blocked_below
  blocked-more e = rw e

  pub blocked-same : is_blocked_on w c n ≡ false → blocked_below w c (suc n) ≡ blocked_below w c n
  unfolding blocked_below
  blocked-same e = rw e

-- the loop from behind: one thread more
pub blocked_found : (w : World) (c j n : ℕ) (k : ℕ) (xs ys all : List (ℕ × ℕ)) → j ≡ suc n → is_blocked_on w c n ≡ true → k ≡ (thread_at w n).memory.waits
    → ys ≡ xs ++ (n, k) ∷ [] → xs ++ blocked_below w c j ≡ all → ys ++ blocked_below w c n ≡ all
blocked_found w c j n k xs ys all s e f g h =
    ap (λ (zs : List (ℕ × ℕ)). zs ++ blocked_below w c n) g
    ∙ append_assoc xs ((n, k) ∷ []) (blocked_below w c n)
    ∙ ap (λ (x : ℕ). xs ++ (n, x) ∷ blocked_below w c n) f
    ∙ ap (λ (ys : List (ℕ × ℕ)). xs ++ ys) (sym (blocked-more w c n e) ∙ ap (blocked_below w c) (sym s)) ∙ h

pub blocked_passed : (w : World) (c j n : ℕ) (xs all : List (ℕ × ℕ)) → j ≡ suc n → is_blocked_on w c n ≡ false
    → xs ++ blocked_below w c j ≡ all → xs ++ blocked_below w c n ≡ all
blocked_passed w c j n xs all s e h =
    ap (λ (ys : List (ℕ × ℕ)). xs ++ ys) (sym (blocked-same w c n e) ∙ ap (blocked_below w c) (sym s)) ∙ h

pub blocked_all : (w : World) (c n : ℕ) (xs all : List (ℕ × ℕ)) → n ≡ 0 → xs ++ blocked_below w c n ≡ all → xs ≡ all
unfolding blocked_below
blocked_all w c zero xs all e h = sym (append-nil xs) ∙ h
blocked_all w c (suc n) xs all e h = absurd (omega arith)

-- whether none has a greater effective priority, by a list of these
pub none_above_is : (f : ℕ → ℕ) (us : List ℕ) (n : ℕ) → list_all (λ p. nat_le p n) (map f us) ≡ list_all (λ u. nat_le (f u) n) us
none_above_is f [] n = refl
none_above_is f (u ∷ us) n = ap (λ (b : Bool). nat_le (f u) n && b) (none_above_is f us n)

-- whom a signal or broadcast found, and who is blocked still
pub still_blocked : (w : World) (t c u k : ℕ) (fs : List (ℕ × ℕ)) → is_blocked_on w c u ≡ true → fs ≡ (thread_at w t).memory.found
    → k ≡ (thread_at w u).memory.waits → list_any (λ p. if p.0 == u then p.1 == k else false) fs ≡ is_still_blocked w t c u
still_blocked w t c u k fs b e f =
    ap (λ (xs : List (ℕ × ℕ)). list_any (λ p. if p.0 == u then p.1 == k else false) xs) e
    ∙ ap (λ (n : ℕ). list_any (λ p. if p.0 == u then p.1 == n else false) (thread_at w t).memory.found) f
    ∙ sym (choose_then (is_blocked_on w c u) (is_found w t u) false b)

-- BROADCASTS

map_map : {A B C : Type 0} (f : B → C) (g : A → B) (xs : List A) → map f (map g xs) ≡ map (λ x. f (g x)) xs
map_map f g [] = refl
map_map f g (x ∷ xs) = ap (λ ys. f (g x) ∷ ys) (map_map f g xs)

map_if : {A B : Type 0} (f : A → B) (b : Bool) (xs : List A) → map f (if b then [] else xs) ≡ (if b then [] else map f xs)
map_if f true xs = refl
map_if f false xs = refl

unblocked_first : (u : ℕ) (w : World) (s : List (List ℕ))
    → map (λ xs. all_unblocked xs w) (map (λ xs. u ∷ xs) s) ≡ map (λ xs. all_unblocked xs (with_call_by u after_unblocking w)) s
unfolding all_unblocked
unblocked_first u w s = map_map (λ (xs : List ℕ). all_unblocked xs w) (λ (xs : List ℕ). u ∷ xs) s

-- thread by thread, the states are those of the selections
pub wakings_are : (test : ℕ → Bool) (us : List ℕ) (w : World)
    → wakings (map (λ u. (u, test u)) us) w ≡ map (λ xs. all_unblocked xs w) (selections test us)
unfolding all_unblocked
wakings_are test [] w = refl
wakings_are test (u ∷ us) w =
    let v : World = with_call_by u after_unblocking w in
    ap (λ (zs : List World). zs ++ (if test u then [] else wakings (map (λ x. (x, test x)) us) w)) (wakings_are test us v)
    ∙ ap (λ (zs : List World). map (λ xs. all_unblocked xs v) (selections test us) ++ (if test u then [] else zs)) (wakings_are test us w)
    ∙ sym (map-append (λ (xs : List ℕ). all_unblocked xs w) (map (λ xs. u ∷ xs) (selections test us)) (if test u then [] else selections test us)
    ∙ ap (λ (zs : List World). zs ++ map (λ xs. all_unblocked xs w) (if test u then [] else selections test us)) (unblocked_first u w (selections test us))
    ∙ ap (λ (zs : List World). map (λ xs. all_unblocked xs v) (selections test us) ++ zs) (map_if (λ (xs : List ℕ). all_unblocked xs w) (test u) (selections test us)))

-- what a broadcast comes to
pub broadcast_is : (t c : ℕ) (w n : World) (all xs : List World) (ms ns : List (ℕ × Bool)) (us bs : List ℕ) → all ≡ xs ++ wakings (drop 0 ns) n → xs ≡ []
    → ns ≡ ms → ms ≡ map (λ u. (u, is_still_blocked w t c u)) us → us ≡ bs → bs ≡ all_blocked w c → n ≡ with_progress t (Has 0) w → all ≡ broadcast t c w
broadcast_is t c w n all xs ms ns us bs e f g h i j k =
    e ∙ ap (λ (zs : List World). zs ++ wakings (drop 0 ns) n) f
    ∙ ap (λ (ks : List (ℕ × Bool)). wakings ks n) (g ∙ h ∙ ap (map (λ u. (u, is_still_blocked w t c u))) (i ∙ j))
    ∙ wakings_are (is_still_blocked w t c) (all_blocked w c) n
    ∙ ap (λ (v : World). map (λ ys. all_unblocked ys v) (selections (is_still_blocked w t c) (all_blocked w c))) k

-- what a signal comes to
module _ (t c : ℕ) (w : World) (xs : List World) (ls bs : List ℕ) (f : bs ≡ all_blocked w c) (g : ls ≡ map (effective_of w) (found_left w t c))
    (e : xs ≡ map (λ u. woken t u w) (filter (λ u. list_all (λ p. nat_le p (effective_of w u)) ls) bs)) where
  candidates_are : xs ≡ map (λ u. woken t u w) (candidates w t c)
  candidates_are =
      e ∙ ap (λ (zs : List ℕ). map (λ u. woken t u w) (filter (λ u. list_all (λ p. nat_le p (effective_of w u)) zs) bs)) g
      ∙ ap (map (λ u. woken t u w)) (filter_agree (λ u. list_all (λ p. nat_le p (effective_of w u)) (map (effective_of w) (found_left w t c)))
      (none_is_above w (found_left w t c)) (λ u. none_above_is (effective_of w) (found_left w t c) (effective_of w u)) bs)
      ∙ ap (λ (zs : List ℕ). map (λ u. woken t u w) (filter (none_is_above w (found_left w t c)) zs)) f

  count_is : length (found_left w t c) ≡ length ls
  count_is = sym (ap length g ∙ length-map (found_left w t c) (effective_of w))

  -- somebody is left
  pub signalled_some : length ls ≢ 0 → xs ≡ signalled t c w
  signalled_some h =
      candidates_are ∙ sym (append-nil (map (λ u. woken t u w) (candidates w t c)))
      ∙ ap (λ (zs : List World). map (λ u. woken t u w) (candidates w t c) ++ zs)
      (sym (choose_else (length (found_left w t c) == 0) (with_progress t (Has 0) w ∷ []) [] (ne_eqb (length (found_left w t c)) 0 (λ z. h (sym count_is ∙ z)))))

  -- nobody is left
  pub signalled_none : (ys : List World) (v : World) → length ls ≡ 0 → v ≡ with_progress t (Has 0) w → ys ≡ xs ++ v ∷ [] → ys ≡ signalled t c w
  signalled_none ys v h k i =
      i ∙ ap (λ (zs : List World). zs ++ v ∷ []) candidates_are
      ∙ ap (λ (u : World). map (λ x. woken t x w) (candidates w t c) ++ u ∷ []) k
      ∙ ap (λ (zs : List World). map (λ u. woken t u w) (candidates w t c) ++ zs)
      (sym (choose_then (length (found_left w t c) == 0) (with_progress t (Has 0) w ∷ []) [] (eq-eqb (length (found_left w t c)) 0 (count_is ∙ h))))
