-- What a request names, as far as it names any: what is known of it stays known, and of each alone.
use Rattle.std.proofs.Common.{◌≡◌, ◌≢◌, ◌⊎◌, inl, inr, ℕ, Bool, true, false, Option, Some, None, unwrap_or, refl, sym, if◌then◌else◌, true≢false}
use Rattle.pif_types.specs.Shapes.{names_of}
use Rattle.pif_types.specs.declared.requests.Request.{Request}
use Rattle.pif_types.specs.declared.requests.Request.TheVariants.{TimedWait}
use Rattle.pif_model.specs.Deadlines.{plain}
use Rattle.pif_model.specs.Posix.{named_by, variable_of, are_known, names_known}

-- two conditions both hold, and so they do of others that hold if these do
both_kept : (a b a' b' : Bool) → (a ≡ true → a' ≡ true) → (b ≡ true → b' ≡ true) → (if a then b else false) ≡ true
    → (if a' then b' else false) ≡ true
both_kept true b a' b' f g e = rw (f refl) (g e)
both_kept false b a' b' f g e = absurd (true≢false (sym e))

-- of two conditions that hold the second holds
pub second : (a b : Bool) → (if a then b else false) ≡ true → b ≡ true
second true b e = e
second false b e = absurd (true≢false (sym e))

pub first : (a b : Bool) → (if a then b else false) ≡ true → a ≡ true
first true b e = refl
first false b e = absurd (true≢false (sym e))

-- what is known of a mutex and of a variable stays known, if all that was known does
parts_kept : (f g f' g' : ℕ → Bool) → ((m : ℕ) → f m ≡ true → f' m ≡ true) → ((c : ℕ) → g c ≡ true → g' c ≡ true)
    → (m c : Option ℕ) → are_known f g m c ≡ true → are_known f' g' m c ≡ true
parts_kept f g f' g' h k (Some m) (Some c) e = both_kept (g c) (f m) (g' c) (f' m) (k c) (h m) e
parts_kept f g f' g' h k (Some m) None e = h m e
parts_kept f g f' g' h k None (Some c) e = k c e
parts_kept f g f' g' h k None None e = refl

-- a mutex that is named with or without a variable
pub known_mutex : (f g : ℕ → Bool) (m : ℕ) (c : Option ℕ) → are_known f g (Some m) c ≡ true → f m ≡ true
known_mutex f g m (Some c) e = second (g c) (f m) e
known_mutex f g m None e = e

-- a request whose names are known names what stays known
pub names_kept : (f g f' g' : ℕ → Bool) → ((m : ℕ) → f m ≡ true → f' m ≡ true)
    → ((c : ℕ) → g c ≡ true → g' c ≡ true) → (q : Request) → names_known f g q ≡ true → names_known f' g' q ≡ true
names_kept f g f' g' h k q e = parts_kept f g f' g' h k (names_of q).mutex (names_of q).cond e

-- it names the same with a deadline
pub names_plain : (f g : ℕ → Bool) (q : Request) → names_known f g (plain q) ≡ names_known f g q
names_plain f g (TimedWait c m d) = refl
names_plain f g _ = refl

-- the mutex that it names, if it names one, is known
pub named_added : (f g : ℕ → Bool) (q : Request) → names_known f g q ≡ true → named_by q ≢ 0 → f (named_by q) ≡ true
named_added f g q h some = by_parts (names_of q).mutex (names_of q).cond h some
  where
    by_parts : (m c : Option ℕ) → are_known f g m c ≡ true → unwrap_or m 0 ≢ 0 → f (unwrap_or m 0) ≡ true
    by_parts (Some m) c h some = known_mutex f g m c h
    by_parts None c h some = absurd (some refl)

-- and so is the variable
pub variable_added : (f g : ℕ → Bool) (q : Request) → names_known f g q ≡ true
    → (variable_of q ≡ 0) ⊎ (g (variable_of q) ≡ true)
variable_added f g q h = by_parts (names_of q).mutex (names_of q).cond h
  where
    by_parts : (m c : Option ℕ) → are_known f g m c ≡ true → (unwrap_or c 0 ≡ 0) ⊎ (g (unwrap_or c 0) ≡ true)
    by_parts (Some m) (Some c) h = inr (first (g c) (f m) h)
    by_parts None (Some c) h = inr h
    by_parts m None h = inl refl
