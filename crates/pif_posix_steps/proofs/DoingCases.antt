-- Which branch of a choice holds, and what a function that does an effect leaves.
use Rattle.std.proofs.Common.{◌≡◌, ◌∙◌, Bool, true, false, Option, Some, None, refl, sym, ap, if◌then◌else◌}
use Rattle.pif_model.specs.Posix.{World}
use Rattle.pif_posix_steps.specs.Doing.{Does}
use Rattle.pif_posix_steps.specs.Doing.Does.{did}

pub choose_then : {A : Type 0} (b : Bool) (x y : A) → b ≡ true → (if b then x else y) ≡ x
choose_then b x y e = rw e

pub choose_else : {A : Type 0} (b : Bool) (x y : A) → b ≡ false → (if b then x else y) ≡ y
choose_else b x y e = rw e

-- the value of what is there
pub some_is : {A : Type 0} {w v : A} {o : Option A} → o ≡ Some w → o ≡ Some v → v ≡ w
some_is e f = cc

-- what is nothing is no value
pub none_is_not : {A : Type 0} {v : A} {o : Option A} → o ≡ None → o ≡ Some v → ⊥
none_is_not e f = cc

-- what is there only if a test passes, or fails
pub then_this : {A : Type 0} (b : Bool) (o : Option A) (v : A) → b ≡ true → o ≡ Some v → (if b then o else None) ≡ Some v
then_this b o v e f = choose_then b o None e ∙ f

pub then_to : {A : Type 0} (b : Bool) (o : Option A) (v : A) → (if b then o else None) ≡ Some v → (b ≡ true) × (o ≡ Some v)
then_to true o v e = (refl, e)
then_to false o v e = absurd (none_is_not refl e)

pub else_this : {A : Type 0} (b : Bool) (o : Option A) (v : A) → b ≡ false → o ≡ Some v → (if b then None else o) ≡ Some v
else_this b o v e f = choose_else b None o e ∙ f

pub else_to : {A : Type 0} (b : Bool) (o : Option A) (v : A) → (if b then None else o) ≡ Some v → (b ≡ false) × (o ≡ Some v)
else_to true o v e = absurd (none_is_not refl e)
else_to false o v e = (refl, e)

-- it did what comes to this
pub did_this : {old new w : World} (o : Option World) → o ≡ Some w → new ≡ w → Does old o true new
did_this o e f = did (e ∙ ap Some (sym f))
