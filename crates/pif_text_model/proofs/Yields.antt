-- What words write is a number that a line can write.
use Rattle.std.proofs.Common.{◌≡◌, ℕ, ◌<◌, ◌≤◌, ◌==◌, ◌&&◌, Bool, true, false, nat_lt, List, [], ◌∷◌, Option, Some, None, refl, arith, if◌then◌else◌}
use Rattle.std.specs.Prelude.{IfSome, option_map, option_and_then}
use Rattle.std.specs.Str.Parse.{digits_value}
use Rattle.std.proofs.lemmas.Bool.{and_parts}
use Rattle.std.proofs.lemmas.Bool.Decides.{nat_tests}
use Rattle.pif_text_model.specs.Numbers.{IsName, IsNumber, at_least_one, cond_in, is_numeral, mutex_in, name_in, number_in, thread_in}

-- what is found has this property, if anything is
abbrev pub Yields : {A : Type 0} → (A → Type 0) → Option A → Type 0
Yields P o = IfSome o P

-- by a test
pub if_yields : {A : Type 0} (P : A → Type 0) (b : Bool) (x y : Option A) → Yields P x → Yields P y
    → Yields P (if b then x else y)
if_yields P true x y f g = f
if_yields P false x y f g = g

-- if a test passes
pub test_yields : {A : Type 0} (P : A → Type 0) (b : Bool) (x : A) → (b ≡ true → P x) → Yields P (if b then Some x else None)
test_yields P true x f = f refl
test_yields P false x f = tt

-- of what was found
pub map_yields : {A B : Type 0} (P : B → Type 0) (f : A → B) (o : Option A) → Yields (λ x. P (f x)) o
    → Yields P (option_map f o)
map_yields P f (Some x) h = h
map_yields P f None h = tt

-- by what was found, which has another property
pub bind_yields : {A B : Type 0} (Q : A → Type 0) (P : B → Type 0) (o : Option A) (f : A → Option B) → Yields Q o
    → ((x : A) → Q x → Yields P (f x)) → Yields P (option_and_then f o)
bind_yields Q P (Some x) f h g = g x h
bind_yields Q P None f h g = tt

-- and so what follows from it
pub yields_more : {A : Type 0} (P Q : A → Type 0) (o : Option A) → Yields P o → ((x : A) → P x → Q x) → Yields Q o
yields_more P Q (Some x) h g = g x h
yields_more P Q None h g = tt

-- nothing is asked
pub anything : {A : Type 0} (o : Option A) → Yields (λ x. Unit {0}) o
anything (Some x) = tt
anything None = tt

-- ---- numbers and names

-- a number that a word writes
pub number-small : (word : List ℕ) → Yields IsNumber (number_in word)
unfolding number_in
number-small word =
    let n = digits_value 10 word in
    test_yields IsNumber (is_numeral word && nat_lt n 4294967296) n
    (λ e. below n (and_parts (is_numeral word) (nat_lt n 4294967296) e).1)
  where
    below : (n : ℕ) → nat_lt n 4294967296 ≡ true → n < 4294967296
    below n e = grind (arith, nat_tests)

-- that is at least 1
some-small : (n : ℕ) → IsNumber n → Yields IsName (at_least_one n)
some-small n small = test_yields IsName (nat_lt 0 n) n (λ e. (above e, small))
  where
    above : nat_lt 0 n ≡ true → 1 ≤ n
    above e = grind (arith, nat_tests)

-- a number of a name
name-small : (letter : ℕ) (word : List ℕ) → Yields IsName (name_in letter word)
name-small letter [] = tt
name-small letter (first ∷ digits) =
    if_yields IsName (first == letter) (option_and_then at_least_one (number_in digits)) None
    (bind_yields IsNumber IsName (number_in digits) at_least_one (number-small digits) some-small) tt

pub thread-small : (word : List ℕ) → Yields IsName (thread_in word)
unfolding thread_in
thread-small word = name-small 116 word

pub mutex-small : (word : List ℕ) → Yields IsName (mutex_in word)
unfolding mutex_in
mutex-small word = name-small 109 word

pub cond-small : (word : List ℕ) → Yields IsName (cond_in word)
unfolding cond_in
cond-small word = name-small 99 word
