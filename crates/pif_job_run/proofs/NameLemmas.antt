-- Names of threads for a person.
use Rattle.std.proofs.Common.{◌≡◌, ℕ, zero, suc, ◌+◌, ◌<◌, List, [], ◌∷◌, ◌++◌, Bool, true, false, ◌&&◌, ◌==◌, Option, Some, None, map, length, nat_le, nat_lt, option_map, add-one, refl, sym, subst, true≢false, ◌∙◌, arith, IsAscii, IsUtf8, if◌then◌else◌}
use Rattle.std.specs.List.{list_all}
use Rattle.std.proofs.lemmas.Bool.{and_parts}
use Rattle.std.proofs.lemmas.Bool.Decides.{nat_tests}
use Rattle.std.proofs.lemmas.List.{map-append}
use Rattle.std.proofs.lemmas.Str.{IsUtf8-from_ascii}
use Rattle.pif_script_model.specs.Lines.{lines}
use Rattle.pif_story.specs.Names.{first_name, is_name, is_name_byte, name_by, name_of, naming_by, naming_in, thread_named}
use Rattle.pif_text.specs.Json.{numbers}
use Rattle.pif_text_model.specs.Words.{words}
use Rattle.pif_job_run.specs.Shows.{person_name, person_names}

-- ---- a name is text

ascii_byte : (b : ℕ) → is_name_byte b ≡ true → b < 128
unfolding is_name_byte
ascii_byte b e = grind (arith, nat_tests, e)

ascii_bytes : (bs : List ℕ) → list_all is_name_byte bs ≡ true → IsAscii bs
ascii_bytes [] e i = omega arith
ascii_bytes (b ∷ bs) e zero = ascii_byte b (and_parts _ _ e).0
ascii_bytes (b ∷ bs) e (suc i) = ascii_bytes bs (and_parts _ _ e).1 i

ascii_name : (name : List ℕ) → is_name name ≡ true → IsAscii name
unfolding is_name
ascii_name name e =
    let is_short = nat_lt 0 (length name) && nat_le (length name) 24 in
    ascii_bytes name (and_parts is_short (list_all is_name_byte name) e).1

-- what is named so has a name
abbrev IsNaming : Option (ℕ × List ℕ) → Type 0
IsNaming None = Unit {0}
IsNaming (Some naming) = is_name naming.1 ≡ true

abbrev IsName : Option (List ℕ) → Type 0
IsName None = Unit {0}
IsName (Some name) = is_name name ≡ true

named_by : (ws : List (List ℕ)) → IsNaming (naming_by ws)
named_by [] = tt
named_by (first ∷ []) = tt
named_by (first ∷ second ∷ []) = by (is_name second) refl (thread_named first)
  where
    by : (b : Bool) → is_name second ≡ b → (t : Option ℕ)
        → IsNaming (if b then option_map (λ t. (t, second)) t else None)
    by true e (Some t) = e
    by true e None = tt
    by false e t = tt
named_by (first ∷ second ∷ third ∷ more) = tt

named_in : (line : List ℕ) → IsNaming (naming_in line)
unfolding naming_in
named_in line = named_by (words line)

name_or : (t : ℕ) (naming : Option (ℕ × List ℕ)) (other : Option (List ℕ)) → IsNaming naming → IsName other
    → IsName (name_by t naming other)
name_or t None other p q = q
name_or t (Some naming) other p q = by (naming.0 == t)
  where
    by : (b : Bool) → IsName (if b then Some naming.1 else other)
    by true = p
    by false = q

first_named : (t : ℕ) (ls : List (List ℕ)) → IsName (first_name t ls)
unfolding first_name
first_named t [] = tt
first_named t (line ∷ ls) = name_or t (naming_in line) (first_name t ls) (named_in line) (first_named t ls)

named : (comments : List ℕ) (t : ℕ) → IsName (name_of comments t)
unfolding name_of
named comments t = first_named t (lines comments)

-- the name that comments give to a thread is text
pub name_is_text : (comments : List ℕ) (t : ℕ) (name : List ℕ) → name_of comments t ≡ Some name → IsUtf8 name
name_is_text comments t name e = IsUtf8-from_ascii name (ascii_name name (subst IsName e (named comments t)))

-- ---- the names of all threads

pub names_none : {A : Type 0} (f : ℕ → A) → [] ≡ map f (numbers 0)
unfolding numbers
names_none f = refl

names_next : {A : Type 0} (f : ℕ → A) (n : ℕ) → map f (numbers n) ++ f (n + 1) ∷ [] ≡ map f (numbers (n + 1))
unfolding numbers
names_next f n =
    rw add-one (sym (map-append f (numbers n) (suc n ∷ [])))

pub listed_next : {A B : Type 0} (h : A → B) (f : ℕ → B) (xs : List A) (x : A) (n : ℕ) → map h xs ≡ map f (numbers n)
    → h x ≡ f (n + 1) → map h (xs ++ x ∷ []) ≡ map f (numbers (n + 1))
listed_next h f xs x n e d = map-append h xs (x ∷ []) ∙ rw (e, d) (names_next f n)

pub names_whole : (comments : List ℕ) → (length comments == 0) ≡ false
    → map (person_name comments) (numbers 1024) ≡ person_names comments
names_whole [] e = absurd (true≢false e)
names_whole (byte ∷ bytes) e = refl
