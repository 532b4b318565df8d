-- What stands where in a list of numbers.
use Rattle.std.specs.Prelude.{◌≡◌, ℕ, Bool, false, nat_eq, not, if◌then◌else◌, List, [], ◌∷◌, filter, Option, Some, None, ⊤}
use Rattle.std.specs.List.{list_any}

-- whether a list has a number
abbrev pub has : ℕ → List ℕ → Bool
has n xs = list_any (nat_eq n) xs

-- the first number of a list
abbrev pub first_of : List ℕ → Option ℕ
first_of [] = None
first_of (x ∷ xs) = Some x

-- the last number of a list, or `before` if it is empty
abbrev pub last_or : Option ℕ → List ℕ → Option ℕ
last_or before [] = before
last_or before (x ∷ xs) = last_or (Some x) xs

-- the last number of a list
abbrev pub last_of : List ℕ → Option ℕ
last_of xs = last_or None xs

-- the number that stands after n in a list: none after the last, nor if the list doesn't have n
abbrev pub next_in_list : List ℕ → ℕ → Option ℕ
next_in_list [] n = None
next_in_list (x ∷ xs) n = if nat_eq n x then first_of xs else next_in_list xs n

-- the number that stands before n in a list that `before` stands in front of
abbrev pub prev_from : Option ℕ → List ℕ → ℕ → Option ℕ
prev_from before [] n = None
prev_from before (x ∷ xs) n = if nat_eq n x then before else prev_from (Some x) xs n

-- the number that stands before n in a list: none before the first, nor if the list doesn't have n
abbrev pub prev_in_list : List ℕ → ℕ → Option ℕ
prev_in_list xs n = prev_from None xs n

-- the list with n put right after p
abbrev pub put_after : ℕ → ℕ → List ℕ → List ℕ
put_after p n [] = []
put_after p n (x ∷ xs) = if nat_eq p x then x ∷ n ∷ xs else x ∷ put_after p n xs

-- the list with n put right after a place, or at its head if no place is given
abbrev pub insert_after : Option ℕ → ℕ → List ℕ → List ℕ
insert_after None n xs = n ∷ xs
insert_after (Some p) n xs = put_after p n xs

-- the list without n
abbrev pub list_without : ℕ → List ℕ → List ℕ
list_without n xs = filter (λ x. not (nat_eq n x)) xs

-- no number stands in the list twice
abbrev pub HasNoRepeats : List ℕ → Type 0
HasNoRepeats [] = ⊤
HasNoRepeats (x ∷ xs) = (has x xs ≡ false) × HasNoRepeats xs
