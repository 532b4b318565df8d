-- What the tests of lock_pi, trylock_pi and unlock_pi find in words and owner states if they refuse nothing.
use Rattle.std.specs.Prelude.{◌≡◌, ◌≢◌, ℕ, ◌<◌, true, false, length, Option, Result, Ok, Err}
use Rattle.pif_types.specs.declared.errors.Errno.{Errno}
use Rattle.pif_model.specs.declared.lines.Took.{Took}
use Rattle.pif_model.specs.declared.lines.Took.TheVariants.{Owns, Queued}
use Rattle.pif_model.specs.Graph.{reaches_within}
use Rattle.pif_model.specs.Word.{word_of}
use Rattle.pif_model.specs.PiKernel.{is_living, waits_for}
use Rattle.pif_word.specs.declared.cells.Cell.TheVariants.{Mutex}
use Rattle.pif_word.specs.WordMap.{WordMap, HasCell, bits_at}
use Rattle.pif_kernel.specs.declared.refusals.Found.{Found}
use Rattle.pif_kernel.specs.declared.refusals.Found.TheVariants.{Free, Held}
use Rattle.pif_kernel_model.specs.Inside.{Inside, kernel_of, state_key_at, state_at}

-- the mutex m has this word
pub record IsWord (m word : ℕ) (s : WordMap) : Type 0 where
  pub cell : HasCell s (Mutex m)
  pub bits : word ≡ bits_at s (Mutex m)

-- t may wait for the owner of m, which has this word, and whose owner state has this key if there is one
pub record IsHeld (t m word owner : ℕ) (key : Option ℕ) (s : WordMap) (p : Inside) : Type 0 where
  pub stored : IsWord m word s
  pub mutex : m < 1025
  pub number : owner ≡ (word_of word).number
  pub at : key ≡ state_key_at p m
  pub state : state_at p m ≢ 0 → state_at p m ≡ owner
  pub living : is_living (kernel_of p) owner ≡ true
  pub unreached : reaches_within (length (kernel_of p).seats) (waits_for (kernel_of p)) owner t ≡ false

-- what lock_pi of t on m found
abbrev pub IsFound : Found → ℕ → ℕ → WordMap → Inside → Type 0
IsFound (Free word) t m s p = IsWord m word s
IsFound (Held word owner key) t m s p = IsHeld t m word owner key s p

-- t may unlock m, whose owner state has this key if there is one
pub record IsOwn (t m : ℕ) (key : Option ℕ) (s : WordMap) (p : Inside) : Type 0 where
  pub cell : HasCell s (Mutex m)
  pub at : key ≡ state_key_at p m
  pub state : state_at p m ≢ 0 → state_at p m ≡ t

-- what lock_pi answers, by what it found
abbrev pub lock_test_answer : Result Found Errno → Result Took Errno
lock_test_answer (Ok (Free word)) = Ok Owns
lock_test_answer (Ok (Held word owner key)) = Ok Queued
lock_test_answer (Err e) = Err e
