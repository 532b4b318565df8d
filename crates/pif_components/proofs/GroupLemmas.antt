-- How groups change: a name gets one, two are merged, and more names are added.
use Rattle.std.proofs.Common.{ℕ, zero, suc, ◌≡◌, ◌∙◌, ◌⊎◌, ◌<◌, ◌≤◌, ◌+◌, ◌-◌, ◌==◌, true, false, List, [], ◌∷◌, ◌++◌, Option, Some, None, inl, inr, refl, sym, ap, subst, get_or, length, length-append, set, if◌then◌else◌, eqb-true, arith}
use Rattle.std.specs.Option.{is_some}
use Rattle.std.proofs.Math.ListN.{get_or-map}
use Rattle.std.proofs.lemmas.Bool.{eqb-false}
use Rattle.std.proofs.lemmas.List.{get_or-set_same, length-map, length-set}
use Rattle.pif_model_lemmas.proofs.Waiting.{by_test}
use Rattle.pif_components_model.specs.Components.{Name}
use Rattle.pif_components_model.specs.Components.Name.{OfThread, OfMutex, OfVariable}
use Rattle.pif_components.specs.declared.groups.Groups.{Groups}
use Rattle.pif_components.specs.Groups.{AreBounded, AreTogether, HasPlace, IsJoined, IsMerged, IsNew, IsPut, Keeps, group_of, moved, number_of, number_or_none, relabelled, threads_put, mutexes_put, variables_put}

-- LISTS

-- what is found once a place has a group: that group, or what was found before
set_found : (xs : List (Option ℕ)) (t u k j : ℕ) → get_or (set xs t (Some k)) u None ≡ Some j → (j ≡ k) ⊎ (get_or xs u None ≡ Some j)
set_found [] t u k j e = inr e
set_found (x ∷ xs) zero zero k j e = inl (some_same k j e)
  where
    some_same : (a b : ℕ) → ◌≡◌ {A = Option ℕ} (Some a) (Some b) → b ≡ a
    some_same a b h = cc
set_found (x ∷ xs) zero (suc u) k j e = inr e
set_found (x ∷ xs) (suc t) zero k j e = inr e
set_found (x ∷ xs) (suc t) (suc u) k j e = set_found xs t u k j e

-- a place that had none gets a group, and what was found stays
set_kept : (xs : List (Option ℕ)) (t u k j : ℕ) → get_or xs t None ≡ None → get_or xs u None ≡ Some j
    → get_or (set xs t (Some k)) u None ≡ Some j
set_kept [] t u k j n e = e
set_kept (x ∷ xs) zero zero k j n e = absurd (cc)
set_kept (x ∷ xs) zero (suc u) k j n e = e
set_kept (x ∷ xs) (suc t) zero k j n e = e
set_kept (x ∷ xs) (suc t) (suc u) k j n e = set_kept xs t u k j n e

-- one more place without a group changes nothing that is found
pub none_pushed : (xs : List (Option ℕ)) (u : ℕ) → get_or (xs ++ None ∷ []) u None ≡ get_or xs u None
none_pushed [] zero = refl
none_pushed [] (suc u) = refl
none_pushed (x ∷ xs) zero = refl
none_pushed (x ∷ xs) (suc u) = none_pushed xs u

-- NOTHING CHANGES

pub keeps_same : (g : Groups) → AreBounded g → Keeps 0 g g
keeps_same g b = record { bounded = b; together = λ a b t. t; variables = omega arith }

pub keeps_more : (m n : ℕ) (a b c : Groups) → Keeps m a b → Keeps n b c → Keeps (m + n) a c
keeps_more m n a b c h k = record {
  bounded = k.bounded;
  together = λ x y t. k.together x y (h.together x y t);
  variables = let first = h.variables in let second = k.variables in omega (arith, first, second);
}

-- the same groups, found in lists that are longer
pub keeps_found : (more : ℕ) (old new : Groups) → ((a : Name) → group_of new a ≡ group_of old a) → new.count ≡ old.count
    → length new.variables.items ≡ length old.variables.items + more → AreBounded old → Keeps more old new
keeps_found more old new f c v b = record {
  bounded = record {
    some = subst (λ n. 1 ≤ n) (sym c) b.some;
    below = λ a k e. subst (λ n. k < n) (sym c) (b.below a k (sym (f a) ∙ e));
  };
  together = λ a b t. record { group = t.group; first = f a ∙ t.first; second = f b ∙ t.second };
  variables = v;
}

pub thread_added : (old new : Groups) → new.threads.items ≡ old.threads.items ++ None ∷ [] → new.mutexes.items ≡ old.mutexes.items
    → new.variables.items ≡ old.variables.items → new.count ≡ old.count → AreBounded old → Keeps 0 old new
thread_added old new t m v c b =
    keeps_found 0 old new found c (let e = ap (λ (xs : List (Option ℕ)). length xs) v in omega (arith, e)) b
  where
    found : (a : Name) → group_of new a ≡ group_of old a
    found (OfThread n) = ap (λ (xs : List (Option ℕ)). get_or xs n None) t ∙ none_pushed old.threads.items n
    found (OfMutex n) = ap (λ (xs : List (Option ℕ)). get_or xs n None) m
    found (OfVariable n) = ap (λ (xs : List (Option ℕ)). get_or xs n None) v

pub mutex_added : (old new : Groups) → new.threads.items ≡ old.threads.items → new.mutexes.items ≡ old.mutexes.items ++ None ∷ []
    → new.variables.items ≡ old.variables.items → new.count ≡ old.count → AreBounded old → Keeps 0 old new
mutex_added old new t m v c b =
    keeps_found 0 old new found c (let e = ap (λ (xs : List (Option ℕ)). length xs) v in omega (arith, e)) b
  where
    found : (a : Name) → group_of new a ≡ group_of old a
    found (OfThread n) = ap (λ (xs : List (Option ℕ)). get_or xs n None) t
    found (OfMutex n) = ap (λ (xs : List (Option ℕ)). get_or xs n None) m ∙ none_pushed old.mutexes.items n
    found (OfVariable n) = ap (λ (xs : List (Option ℕ)). get_or xs n None) v

pub variable_added : (old new : Groups) → new.threads.items ≡ old.threads.items → new.mutexes.items ≡ old.mutexes.items
    → new.variables.items ≡ old.variables.items ++ None ∷ [] → new.count ≡ old.count → AreBounded old → Keeps 1 old new
variable_added old new t m v c b =
    keeps_found 1 old new found c (ap (λ (xs : List (Option ℕ)). length xs) v ∙ length-append old.variables.items (None ∷ [])) b
  where
    found : (a : Name) → group_of new a ≡ group_of old a
    found (OfThread n) = ap (λ (xs : List (Option ℕ)). get_or xs n None) t
    found (OfMutex n) = ap (λ (xs : List (Option ℕ)). get_or xs n None) m
    found (OfVariable n) = ap (λ (xs : List (Option ℕ)). get_or xs n None) v ∙ none_pushed old.variables.items n

-- A NAME GETS A GROUP

module _ (a : Name) (k : ℕ) (old new : Groups) (p : IsPut a k old new) where
  found_threads : (a : Name) (u j : ℕ) → get_or (threads_put a k old.threads.items) u None ≡ Some j
      → (j ≡ k) ⊎ (get_or old.threads.items u None ≡ Some j)
  found_threads (OfThread t) u j e = set_found old.threads.items t u k j e
  found_threads (OfMutex t) u j e = inr e
  found_threads (OfVariable t) u j e = inr e

  found_mutexes : (a : Name) (u j : ℕ) → get_or (mutexes_put a k old.mutexes.items) u None ≡ Some j
      → (j ≡ k) ⊎ (get_or old.mutexes.items u None ≡ Some j)
  found_mutexes (OfThread t) u j e = inr e
  found_mutexes (OfMutex t) u j e = set_found old.mutexes.items t u k j e
  found_mutexes (OfVariable t) u j e = inr e

  found_variables : (a : Name) (u j : ℕ) → get_or (variables_put a k old.variables.items) u None ≡ Some j
      → (j ≡ k) ⊎ (get_or old.variables.items u None ≡ Some j)
  found_variables (OfThread t) u j e = inr e
  found_variables (OfMutex t) u j e = inr e
  found_variables (OfVariable t) u j e = set_found old.variables.items t u k j e

  put_found : (b : Name) (j : ℕ) → group_of new b ≡ Some j → (j ≡ k) ⊎ (group_of old b ≡ Some j)
  put_found (OfThread u) j e =
      found_threads a u j (sym (ap (λ (xs : List (Option ℕ)). get_or xs u None) p.threads) ∙ e)
  put_found (OfMutex u) j e = found_mutexes a u j (sym (ap (λ (xs : List (Option ℕ)). get_or xs u None) p.mutexes) ∙ e)
  put_found (OfVariable u) j e = found_variables a u j (sym (ap (λ (xs : List (Option ℕ)). get_or xs u None) p.variables) ∙ e)

  kept_threads : (a : Name) (u j : ℕ) → group_of old a ≡ None → get_or old.threads.items u None ≡ Some j
      → get_or (threads_put a k old.threads.items) u None ≡ Some j
  kept_threads (OfThread t) u j n e = set_kept old.threads.items t u k j n e
  kept_threads (OfMutex t) u j n e = e
  kept_threads (OfVariable t) u j n e = e

  kept_mutexes : (a : Name) (u j : ℕ) → group_of old a ≡ None → get_or old.mutexes.items u None ≡ Some j
      → get_or (mutexes_put a k old.mutexes.items) u None ≡ Some j
  kept_mutexes (OfThread t) u j n e = e
  kept_mutexes (OfMutex t) u j n e = set_kept old.mutexes.items t u k j n e
  kept_mutexes (OfVariable t) u j n e = e

  kept_variables : (a : Name) (u j : ℕ) → group_of old a ≡ None → get_or old.variables.items u None ≡ Some j
      → get_or (variables_put a k old.variables.items) u None ≡ Some j
  kept_variables (OfThread t) u j n e = e
  kept_variables (OfMutex t) u j n e = e
  kept_variables (OfVariable t) u j n e = set_kept old.variables.items t u k j n e

  put_kept : group_of old a ≡ None → (b : Name) (j : ℕ) → group_of old b ≡ Some j → group_of new b ≡ Some j
  put_kept n (OfThread u) j e = ap (λ (xs : List (Option ℕ)). get_or xs u None) p.threads ∙ kept_threads a u j n e
  put_kept n (OfMutex u) j e = ap (λ (xs : List (Option ℕ)). get_or xs u None) p.mutexes ∙ kept_mutexes a u j n e
  put_kept n (OfVariable u) j e = ap (λ (xs : List (Option ℕ)). get_or xs u None) p.variables ∙ kept_variables a u j n e

  length_variables : (a : Name) → length (variables_put a k old.variables.items) ≡ length old.variables.items
  length_variables (OfThread t) = refl
  length_variables (OfMutex t) = refl
  length_variables (OfVariable t) = length-set old.variables.items t (Some k)

  same_variables : length new.variables.items ≡ length old.variables.items
  same_variables = ap (λ (xs : List (Option ℕ)). length xs) p.variables ∙ length_variables a

put_here : (a : Name) (k : ℕ) (old new : Groups) → IsPut a k old new → HasPlace old a → group_of new a ≡ Some k
put_here (OfThread t) k old new p h =
    ap (λ (xs : List (Option ℕ)). get_or xs t None) p.threads ∙ get_or-set_same old.threads.items t (Some k) None h
put_here (OfMutex t) k old new p h =
    ap (λ (xs : List (Option ℕ)). get_or xs t None) p.mutexes ∙ get_or-set_same old.mutexes.items t (Some k) None h
put_here (OfVariable t) k old new p h =
    ap (λ (xs : List (Option ℕ)). get_or xs t None) p.variables ∙ get_or-set_same old.variables.items t (Some k) None h

-- the lists alone tell the group of a name
same_lists : (g h : Groups) → h.threads.items ≡ g.threads.items → h.mutexes.items ≡ g.mutexes.items
    → h.variables.items ≡ g.variables.items → (a : Name) → group_of h a ≡ group_of g a
same_lists g h t m v (OfThread n) = ap (λ (xs : List (Option ℕ)). get_or xs n None) t
same_lists g h t m v (OfMutex n) = ap (λ (xs : List (Option ℕ)). get_or xs n None) m
same_lists g h t m v (OfVariable n) = ap (λ (xs : List (Option ℕ)). get_or xs n None) v

-- a name that had no group is the only one of a new one
pub founded : (a : Name) (old mid new : Groups) → IsPut a old.count old mid → new.threads.items ≡ mid.threads.items
    → new.mutexes.items ≡ mid.mutexes.items → new.variables.items ≡ mid.variables.items → new.count ≡ old.count + 1
    → AreBounded old → HasPlace old a → group_of old a ≡ None → IsJoined a a old new
founded a old mid new p t m v c b place none = record {
  keeps = record {
    bounded = record {
      some = let s = b.some in omega (arith, s, c);
      below = λ n j e. bounded_at n j (put_found a old.count old mid p n j (sym (same_lists mid new t m v n) ∙ e));
    };
    together = λ x y h. record {
      group = h.group;
      first = same_lists mid new t m v x ∙ put_kept a old.count old mid p none x h.group h.first;
      second = same_lists mid new t m v y ∙ put_kept a old.count old mid p none y h.group h.second;
    };
    variables = let e = ap (λ (xs : List (Option ℕ)). length xs) v ∙ same_variables a old.count old mid p in omega (arith, e);
  };
  joined = record {
    group = old.count;
    first = same_lists mid new t m v a ∙ put_here a old.count old mid p place;
    second = same_lists mid new t m v a ∙ put_here a old.count old mid p place;
  };
}
  where
    bounded_at : (n : Name) (j : ℕ) → (j ≡ old.count) ⊎ (group_of old n ≡ Some j) → j < new.count
    bounded_at n j (inl e) = omega (arith, e, c)
    bounded_at n j (inr e) = let under = b.below n j e in omega (arith, under, c)

-- TWO GROUPS ARE ONE

-- the new number of a group is among one less
moved_below : (low high count k : ℕ) → low < high → high < count → k < count → moved low high (count - 1) k < count - 1
moved_below low high count k a b h =
    by_test (λ x. (if x then low else (if k == count - 1 then high else k)) < count - 1) (k == high)
    (λ _. omega (arith, a, b))
    (λ d. by_test (λ x. (if x then high else k) < count - 1) (k == count - 1)
    (λ e. (let same = eqb-true k (count - 1) e in let other = eqb-false k high d in omega (arith, same, other, b)))
    (λ f. (let other = eqb-false k (count - 1) f in omega (arith, other, h))))

-- it is that of the lower one for both
moved_high : (low high last : ℕ) → moved low high last high ≡ low
moved_high low high last =
    by_test (λ x. (if x then low else (if high == last then high else high)) ≡ low) (high == high) (λ _. refl)
    (λ d. absurd (eqb-false high high d refl))

moved_low : (low high last : ℕ) → low < high → high ≤ last → moved low high last low ≡ low
moved_low low high last a b =
    by_test (λ x. (if x then low else (if low == last then high else low)) ≡ low) (low == high) (λ _. refl)
    (λ _. by_test (λ x. (if x then high else low) ≡ low) (low == last)
    (λ e. (let same = eqb-true low last e in absurd (omega (arith, same, a, b)))) (λ _. refl))

module _ (low high : ℕ) (old new : Groups) (h : IsMerged low high old new) where
  abbrev f : Option ℕ → Option ℕ
  f = relabelled low high (old.count - 1)

  merged_at : (a : Name) → group_of new a ≡ f (group_of old a)
  merged_at (OfThread n) = ap (λ (xs : List (Option ℕ)). get_or xs n None) h.threads ∙ get_or-map f old.threads.items n None
  merged_at (OfMutex n) = ap (λ (xs : List (Option ℕ)). get_or xs n None) h.mutexes ∙ get_or-map f old.mutexes.items n None
  merged_at (OfVariable n) = ap (λ (xs : List (Option ℕ)). get_or xs n None) h.variables ∙ get_or-map f old.variables.items n None

  -- a group after the merge is one of before, with another number
  before : (o : Option ℕ) (k : ℕ) → f o ≡ Some k → (j : ℕ) × (o ≡ Some j) × (k ≡ moved low high (old.count - 1) j)
  before None k e = absurd (cc)
  before (Some j) k e = (j, refl, some_same e)
    where
      some_same : ◌≡◌ {A = Option ℕ} (Some (moved low high (old.count - 1) j)) (Some k) → k ≡ moved low high (old.count - 1) j
      some_same e = cc

  merged_together : (a b : Name) → AreTogether old a b → AreTogether new a b
  merged_together a b t = record {
    group = moved low high (old.count - 1) t.group;
    first = merged_at a ∙ ap f t.first;
    second = merged_at b ∙ ap f t.second;
  }

  pub merged_joins : low < high → (a b : Name) → AreBounded old → group_of old a ≡ Some low → group_of old b ≡ Some high
      → Keeps 0 old new × (group_of new a ≡ Some low) × (group_of new b ≡ Some low)
  merged_joins less a b bounded e k =
      let under = bounded.below b high k in
      let c = h.count in (
        record {
          bounded = record {
            some = omega (arith, c, less, under);
            below = λ n j found.
                let was = before (group_of old n) j (sym (merged_at n) ∙ found) in
                subst (λ x. j < x) (sym c)
                (subst (λ x. x < old.count - 1) (sym was.2) (moved_below low high old.count was.0 less under (bounded.below n was.0 was.1)));
          };
          together = merged_together;
          variables = let same = ap (λ (xs : List (Option ℕ)). length xs) h.variables ∙ length-map old.variables.items f in omega (arith, same);
        },
        merged_at a ∙ ap f e ∙ ap (λ n. Some n) (moved_low low high (old.count - 1) less (omega (arith, under))),
        merged_at b ∙ ap f k ∙ ap (λ n. Some n) (moved_high low high (old.count - 1)),
      )

-- the groups of two names are one, if the first has the lower number, or the second has
pub united_up : (low high : ℕ) (old new : Groups) → IsMerged low high old new → low < high → (a b : Name) → AreBounded old
    → group_of old a ≡ Some low → group_of old b ≡ Some high → IsJoined a b old new
united_up low high old new h less a b bounded e k =
    let m = merged_joins low high old new h less a b bounded e k in
    record { keeps = m.0; joined = record { group = low; first = m.1; second = m.2 } }

pub united_down : (low high : ℕ) (old new : Groups) → IsMerged low high old new → low < high → (a b : Name) → AreBounded old
    → group_of old a ≡ Some high → group_of old b ≡ Some low → IsJoined a b old new
united_down low high old new h less a b bounded e k =
    let m = merged_joins low high old new h less b a bounded k e in
    record { keeps = m.0; joined = record { group = low; first = m.2; second = m.1 } }

-- a name that has a group has this number
pub numbered : (g : Groups) (a : Name) (k n : ℕ) → group_of g a ≡ Some k → n ≡ number_of g a → group_of g a ≡ Some n
numbered g a k n e is = e ∙ ap (λ x. Some x) (sym (is ∙ ap number_or_none e))

-- both names are entered, and then their groups are one
pub joined_after : (a b : Name) (old first second new : Groups) (m n : ℕ) → (AreBounded old → IsJoined a a old first)
    → (AreBounded first → IsJoined b b first second) → m ≡ number_of second a → n ≡ number_of second b
    → ((x y : Name) → AreBounded second → group_of second x ≡ Some m → group_of second y ≡ Some n → IsJoined x y second new)
    → AreBounded old → IsJoined a b old new
joined_after a b old first second new m n h k is at last bounded =
    let one = h bounded in
    let two = k one.keeps.bounded in
    let there = two.keeps.together a a one.joined in
    let end = last a b two.keeps.bounded (numbered second a there.group m there.first is) (numbered second b two.joined.group n two.joined.first at) in
    record {
      keeps = keeps_more 0 0 old second new (keeps_more 0 0 old first second one.keeps two.keeps) end.keeps;
      joined = end.joined;
    }

-- nothing is joined yet
pub new_bounded : (g : Groups) → IsNew g → AreBounded g
new_bounded g h = record { some = (let c = h.count in omega (arith, c)); below = λ a k e. absurd (no_group_of a k e) }
  where
    no_group : (xs : List (Option ℕ)) (n k : ℕ) → xs ≡ None ∷ [] → get_or xs n None ≡ Some k → ⊥
    no_group xs n k e f = at n (sym (ap (λ (ys : List (Option ℕ)). get_or ys n None) e) ∙ f)
      where
        at : (n : ℕ) → get_or (None ∷ []) n None ≡ Some k → ⊥
        at zero e = cc
        at (suc n) e = cc

    no_group_of : (a : Name) (k : ℕ) → group_of g a ≡ Some k → ⊥
    no_group_of (OfThread n) k e = no_group g.threads.items n k h.threads e
    no_group_of (OfMutex n) k e = no_group g.mutexes.items n k h.mutexes e
    no_group_of (OfVariable n) k e = no_group g.variables.items n k h.variables e

-- A GROUP IS THERE OR NOT

some_there : (o : Option ℕ) → is_some o ≡ true → (k : ℕ) × (o ≡ Some k)
some_there None e = absurd (cc)
some_there (Some k) e = (k, refl)

pub none_there : (o : Option ℕ) → is_some o ≡ false → o ≡ None
none_there None e = refl
none_there (Some k) e = absurd (cc)

-- a name that has a group is with itself
pub already_in : (a : Name) (g : Groups) → is_some (group_of g a) ≡ true → AreBounded g → IsJoined a a g g
already_in a g e bounded =
    let there = some_there (group_of g a) e in
    record { keeps = keeps_same g bounded; joined = record { group = there.0; first = there.1; second = there.1 } }
