-- What is in lists that are there if something else is.
use Rattle.std.proofs.Common.{◌≡◌, Bool, true, false, List, [], ◌∷◌, Option, Some, None, refl, sym, subst, Contains}
use Rattle.std.proofs.lemmas.Bool.{both_ways}
use Rattle.pif_posix_steps.proofs.DoingLists.{not_in_none, in_first, in_one, in_one_from}
use Rattle.pif_rules_model.specs.Ruled.{listed_of, one_if, is_some_of}

module _ {A B : Type 0} where
  pub in_listed : (o : Option A) (f : A → List B) (v : B) → Contains (listed_of o f) v → (x : A) × (o ≡ Some x) × Contains (f x) v
  in_listed None f v c = absurd (not_in_none v c)
  in_listed (Some x) f v c = (x, refl, c)

  pub in_listed_from : (o : Option A) (f : A → List B) (v : B) (x : A) → o ≡ Some x → Contains (f x) v → Contains (listed_of o f) v
  in_listed_from o f v x e c = subst (λ (p : Option A). Contains (listed_of p f) v) (sym e) c

module _ {B : Type 0} where
  pub in_one_if : (b : Bool) (x v : B) → Contains (one_if b x) v → (b ≡ true) × (v ≡ x)
  in_one_if true x v c = (refl, sym (in_one x v c))
  in_one_if false x v c = absurd (not_in_none v c)

  pub in_one_if_from : (b : Bool) (x v : B) → b ≡ true → v ≡ x → Contains (one_if b x) v
  in_one_if_from b x v e f = subst (λ (a : Bool). Contains (one_if a x) v) (sym e) (in_one_from x v f)

  -- whether there is something in a list
  pub some_is_there : (xs : List B) → is_some_of xs ≡ true → (x : B) × Contains xs x
  some_is_there [] e = absurd (cc)
  some_is_there (x ∷ xs) e = (x, in_first x xs)

  pub some_from_there : (xs : List B) (x : B) → Contains xs x → is_some_of xs ≡ true
  some_from_there [] x c = absurd (not_in_none x c)
  some_from_there (y ∷ ys) x c = refl

  pub none_is_there : (xs : List B) (x : B) → is_some_of xs ≡ false → Contains xs x → ⊥
  none_is_there xs x e c = both_ways (is_some_of xs) e (some_from_there xs x c)
