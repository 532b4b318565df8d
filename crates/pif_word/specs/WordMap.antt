-- The words that threads share: a map from cells to 32 bits, and no more.
use Rattle.std.specs.Prelude.{ℕ, ◌≡◌, ◌+◌, ◌^◌, ◌≤◌, ◌<◌, List, length, map, replicate, slice_index, slice_set}
use Rattle.pif_types.specs.Bounds.{Bounds}
use Rattle.pif_model.specs.Word.{Words, word_of}
use Rattle.pif_word.specs.declared.cells.Cell.{Cell}
use Rattle.pif_word.specs.declared.cells.Cell.TheVariants.{Mutex, Health, Cond}

-- the words of all cells
pub record WordMap : Type 0 where
  -- the 32 bits of mutex m at place m; place 0 stands for no mutex
  pub mutexes : List ℕ
  -- the health word of mutex m at place m
  pub healths : List ℕ
  -- the condition word of variable c at place c
  pub conds : List ℕ

-- the words, each taken apart, the health words and the condition words
abbrev pub words_of : WordMap → Words
words_of s = record { mutexes = map word_of s.mutexes; healths = s.healths; conds = s.conds }

-- there is such a cell
abbrev pub HasCell : WordMap → Cell → Type 0
HasCell s (Mutex m) = (1 ≤ m) × (m < length s.mutexes)
HasCell s (Health m) = (1 ≤ m) × (m < length s.healths)
HasCell s (Cond c) = (1 ≤ c) × (c < length s.conds)

-- the 32 bits of a cell
abbrev pub bits_at : WordMap → Cell → ℕ
bits_at s (Mutex m) = slice_index s.mutexes m
bits_at s (Health m) = slice_index s.healths m
bits_at s (Cond c) = slice_index s.conds c

-- the words with other bits in one cell
abbrev pub with_bits : Cell → ℕ → WordMap → WordMap
with_bits (Mutex m) bits s = record s { mutexes = slice_set s.mutexes m bits }
with_bits (Health m) bits s = record s { healths = slice_set s.healths m bits }
with_bits (Cond c) bits s = record s { conds = slice_set s.conds c bits }

-- a word and a health word for each mutex that the limits allow, and a condition word for each variable that they
-- allow, each 0
abbrev pub free_words : Bounds → WordMap
free_words l = record {
  mutexes = replicate (l.mutexes + 1) 0;
  healths = replicate (l.mutexes + 1) 0;
  conds = replicate (l.conds + 1) 0;
}

-- what holds of the words at any time
pub record IsWordMap (s : WordMap) : Type 0 where
  -- there are words for at most 1,024 mutexes
  pub few : length s.mutexes ≤ 1025
  -- there is a health word for each of them
  pub paired : length s.healths ≡ length s.mutexes
  -- there are words for at most 256 variables
  pub few_conds : length s.conds ≤ 257
  -- no mutex has no bits, and no variable has none
  pub no_mutex : slice_index s.mutexes 0 ≡ 0
  pub no_health : slice_index s.healths 0 ≡ 0
  pub no_cond : slice_index s.conds 0 ≡ 0
  -- the bits of each word are 32
  pub fits : (m : ℕ) → slice_index s.mutexes m < 2 ^ 32
  pub health_fits : (m : ℕ) → slice_index s.healths m < 2 ^ 32
  pub cond_fits : (c : ℕ) → slice_index s.conds c < 2 ^ 32
