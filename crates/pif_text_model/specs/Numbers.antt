-- Numbers, and the names of threads, mutexes and condition variables, as scripts and traces write them.
use Rattle.std.specs.Prelude.{ℕ, ◌<◌, ◌≤◌, ◌/◌, ◌%◌, zero, suc, Bool, false, not, ◌&&◌, ◌==◌, nat_lt, if◌then◌else◌, List, [], ◌∷◌, ◌++◌, Option, Some, None, option_and_then}
use Rattle.std.specs.Char.{is_ascii_digit}
use Rattle.std.specs.Str.{all_ascii_digits}
use Rattle.std.specs.Str.Parse.{digits_value}
use Rattle.std.specs.Fmt.{digit_glyph}

-- Decimal digits, at least one, and no zero in front of others.
abbrev pub is_numeral : List ℕ → Bool
is_numeral [] = false
is_numeral (digit ∷ []) = is_ascii_digit digit
is_numeral (first ∷ second ∷ digits) = not (first == 48) && all_ascii_digits (first ∷ second ∷ digits)

-- The number that decimal digits write, if it is below 2 ^ 32, zeros in front of it or not.
unfoldable pub value_in : List ℕ → Option ℕ
value_in digits = if all_ascii_digits digits && nat_lt (digits_value 10 digits) 4294967296 then Some (digits_value 10 digits) else None

-- The number that a word writes, if it writes one below 2 ^ 32.
unfoldable pub number_in : List ℕ → Option ℕ
number_in word = if is_numeral word && nat_lt (digits_value 10 word) 4294967296 then Some (digits_value 10 word) else None

-- A number that is at least 1.
abbrev pub at_least_one : ℕ → Option ℕ
at_least_one n = if nat_lt 0 n then Some n else None

-- The number of a name: the letter, and right behind it a number that is at least 1.
abbrev pub name_in : ℕ → List ℕ → Option ℕ
name_in letter [] = None
name_in letter (first ∷ digits) = if first == letter then option_and_then at_least_one (number_in digits) else None

-- The number of the thread that a word names, as `t1`.
unfoldable pub thread_in : List ℕ → Option ℕ
thread_in word = name_in 116 word

-- The number of the mutex that a word names, as `m1`.
unfoldable pub mutex_in : List ℕ → Option ℕ
mutex_in word = name_in 109 word

-- The number of the condition variable that a word names, as `c1`.
unfoldable pub cond_in : List ℕ → Option ℕ
cond_in word = name_in 99 word

-- The last hexadecimal digits of n, so many of them, the highest first and in lower case.
unfoldable pub hex_digits : ℕ → ℕ → List ℕ
hex_digits zero n = []
hex_digits (suc places) n = hex_digits places (n / 16) ++ digit_glyph false (n % 16) ∷ []

-- A number that a line can write.
abbrev pub IsNumber : ℕ → Type 0
IsNumber n = n < 4294967296

-- A number of a thread, a mutex or a condition variable that a line can name.
abbrev pub IsName : ℕ → Type 0
IsName n = (1 ≤ n) × (n < 4294967296)
