-- What is read of the slab of owner states, and how both maps of its states change with it.
use Rattle.std.proofs.Common.{◌≡◌, ◌⊎◌, ℕ, ◌+◌, ◌<◌, ◌≤◌, List, [], ◌∷◌, cond, length, map, Option, Some, None, IsSome, is_some, count_by, option_map, refl, sym, ◌∙◌, ap, subst, inl, inr, arith}
use Rattle.std.proofs.lemmas.Bool.{cases_eq, cases_lt}
use Rattle.std.proofs.lemmas.List.{get_or-map, get_or_past, length-map}
use Rattle.std.proofs.lemmas.List.Sums.{sum_by-cons}
use Rattle.std.proofs.lemmas.Option.{same_Some}
use Rattle.std.specs.Ordering.{nat_cmp}
use Rattle.std.specs.Cmp.{nat_cmp_total}
use Rattle.std.specs.FinMap.{FinMap, get, insert, remove, len, len-insert, same_map, nat_cmp-IsAntisymmetric}
use Rattle.slab.specs.Slab.{Slab, Updates, ContainsKey, slab_len, with_value}
use Rattle.slab.proofs.SlabLemmas.{Updates-with_value}
use Rattle.slab.specs.Slab.{get as value_at}
use Rattle.pif_kernel_model.specs.OwnerMaps.{owners_of}
use Rattle.pif_kernel_model.proofs.MapLemmas.{get-insert_same, get-insert_other, get-owners_of, len-owners_of, owners_of-put, owners_of-removed}
use Rattle.pif_rtmutex.specs.Fields.{State, slab_with}

-- the number of a key is that of its state
value-slab_with : (f : State → ℕ) (s : Slab State) (k : ℕ) → value_at (slab_with f s) k ≡ option_map f (value_at s k)
value-slab_with f s k = by_place (cases_lt k (length s.slots))
  where
    by_place : ((k < length s.slots) ⊎ (length s.slots ≤ k)) → value_at (slab_with f s) k ≡ option_map f (value_at s k)
    by_place (inl l) = get_or-map (option_map f) s.slots k None None l
    by_place (inr p) =
        get_or_past (map (option_map f) s.slots) k None (omega (arith, length-map s.slots (option_map f)))
        ∙ ap (option_map f) (sym (get_or_past s.slots k None p))

-- and there are as many numbers as states
count-mapped : (f : State → ℕ) (slots : List (Option State))
    → count_by is_some (map (option_map f) slots) ≡ count_by is_some slots
count-mapped f [] = refl
count-mapped f (None ∷ rest) =
    omega (
      arith,
      count-mapped f rest,
      sum_by-cons (λ (o : Option State). cond (is_some o) 1 0) None rest,
      sum_by-cons (λ (o : Option ℕ). cond (is_some o) 1 0) None (map (option_map f) rest),
    )
count-mapped f (Some x ∷ rest) =
    omega (
      arith,
      count-mapped f rest,
      sum_by-cons (λ (o : Option State). cond (is_some o) 1 0) (Some x) rest,
      sum_by-cons (λ (o : Option ℕ). cond (is_some o) 1 0) (Some (f x)) (map (option_map f) rest),
    )

-- a map of states has of each key what the slab has
pub get-states : (f : State → ℕ) (s : Slab State) (k : ℕ)
    → get (owners_of (slab_with f s)) k ≡ option_map f (value_at s k)
get-states f s k = get-owners_of (slab_with f s) k ∙ value-slab_with f s k

-- and so its keys
pub some-state : (f : State → ℕ) (s : Slab State) (k : ℕ) → IsSome (get (owners_of (slab_with f s)) k)
    → IsSome (value_at s k)
some-state f s k some = by_value (value_at s k) (subst IsSome (get-states f s k) some)
  where
    by_value : (o : Option State) → IsSome (option_map f o) → IsSome o
    by_value None h = h
    by_value (Some x) h = refl

pub len-states : (f : State → ℕ) (s : Slab State) → len (owners_of (slab_with f s)) ≡ slab_len s
len-states f s = len-owners_of (slab_with f s) ∙ count-mapped f s.slots

updates-mapped : (f : State → ℕ) (old new : Slab State) (k : ℕ) (slot : Option State) → Updates old new k slot
    → Updates (slab_with f old) (slab_with f new) k (option_map f slot)
updates-mapped f old new k slot u =
    record {
      changed = value-slab_with f new k ∙ ap (option_map f) u.changed;
      others = λ j n. value-slab_with f new j ∙ ap (option_map f) (u.others j n) ∙ sym (value-slab_with f old j);
    }

pub states-put : (f : State → ℕ) (old new : Slab State) (k : ℕ) (x : State) → Updates old new k (Some x)
    → owners_of (slab_with f new) ≡ insert (owners_of (slab_with f old)) k (f x)
states-put f old new k x u =
    owners_of-put (slab_with f old) (slab_with f new) k (f x) (updates-mapped f old new k (Some x) u)

pub states-removed : (f : State → ℕ) (old new : Slab State) (k : ℕ) → Updates old new k None
    → owners_of (slab_with f new) ≡ remove (owners_of (slab_with f old)) k
states-removed f old new k u =
    owners_of-removed (slab_with f old) (slab_with f new) k (updates-mapped f old new k None u)

-- the same of a map that is known by another name
pub state-value : (f : State → ℕ) (s : Slab State) (states : FinMap nat_cmp ℕ) (j k : ℕ) (o : Option State)
    → owners_of (slab_with f s) ≡ states
    → j ≡ k → value_at s j ≡ o → get states k ≡ option_map f o
state-value f s states j k o e same value = (λ i. get (sym e i) (sym same i)) ∙ get-states f s j
    ∙ ap (option_map f) value

pub state-contains : (f : State → ℕ) (s : Slab State) (states : FinMap nat_cmp ℕ) (j k : ℕ)
    → owners_of (slab_with f s) ≡ states
    → j ≡ k → IsSome (get states k) → ContainsKey s j
state-contains f s states j k e same some = some-state f s j (subst IsSome (λ i. get (sym e i) (sym same i)) some)

-- a state that has this row is in the slab
pub state-in_row : (s : Slab State) (places : FinMap nat_cmp ℕ) (j k r : ℕ)
    → owners_of (slab_with (λ (x : State). x.row) s) ≡ places → j ≡ k → get places k ≡ Some r
    → (y : State) × (value_at s j ≡ Some y) × (y.row ≡ r)
state-in_row s places j k r e same row =
    by_value (value_at s j) refl
    (sym (get-states (λ (x : State). x.row) s j) ∙ (λ i. get (e i) (same i)) ∙ row)
  where
    by_value : (o : Option State) → value_at s j ≡ o → option_map (λ (x : State). x.row) o ≡ Some r
        → (y : State) × (value_at s j ≡ Some y) × (y.row ≡ r)
    by_value None at some = let wrong : None ≡ Some r = some in absurd cc
    by_value (Some y) at some = (y, at, same_Some y.row r some)

-- another state at a key that has one, with the same number
insert-same : (m : FinMap nat_cmp ℕ) (k v : ℕ) → get m k ≡ Some v → insert m k v ≡ m
insert-same m k v e = same_map nat_cmp_total nat_cmp-IsAntisymmetric (insert m k v) m (λ q. by_key q (cases_eq q k))
  where
    by_key : (q : ℕ) → ((q ≡ k) ⊎ (q ≡ k → ⊥)) → get (insert m k v) q ≡ get m q
    by_key q (inl same) = get-insert_same m k v q same ∙ sym e ∙ ap (get m) (sym same)
    by_key q (inr ne) = get-insert_other m k v q ne

pub states-rewritten : (f : State → ℕ) (s : Slab State) (j : ℕ) (x y : State) → value_at s j ≡ Some y → f x ≡ f y
    → owners_of (slab_with f (with_value s j x)) ≡ owners_of (slab_with f s)
states-rewritten f s j x y at same =
    states-put f s (with_value s j x) j x (Updates-with_value s j x (subst IsSome (sym at) refl))
    ∙ insert-same (owners_of (slab_with f s)) j (f x) (get-states f s j ∙ ap (option_map f) at ∙ ap Some (sym same))

-- as many states as before
pub len-rewritten : (f : State → ℕ) (s : Slab State) (j : ℕ) (x y : State) → value_at s j ≡ Some y
    → len (owners_of (slab_with f (with_value s j x))) ≡ len (owners_of (slab_with f s))
len-rewritten f s j x y at =
    ap (λ (m : FinMap nat_cmp ℕ). len m)
    (states-put f s (with_value s j x) j x (Updates-with_value s j x (subst IsSome (sym at) refl)))
    ∙ len-insert nat_cmp_total (owners_of (slab_with f s)) j (f x)
    ∙ ap (λ (o : Option ℕ). cond (is_some o) (len (owners_of (slab_with f s))) (len (owners_of (slab_with f s)) + 1))
    (get-states f s j ∙ ap (option_map f) at)
