-- A mutex word as futex(2) has it: 32 bits, FUTEX_WAITERS 0x80000000, FUTEX_OWNER_DIED 0x40000000, and a thread's
-- number in FUTEX_TID_MASK 0x3fffffff; and the words in user memory: those of mutexes, and a count of uses for each
-- condition variable.
use Rattle.std.specs.Prelude.{ℕ, ◌+◌, ◌/◌, ◌%◌, ◌==◌, nat_lt, Bool, true, false, if◌then◌else◌, Option, Some, None, List, length, get_or, set, replicate}
use Rattle.pif_types.specs.Bounds.{Bounds}
use Rattle.pif_types.specs.declared.requests.Health.{Health}
use Rattle.pif_types.specs.declared.requests.Health.TheVariants.{Fine, Inconsistent, Unusable}

-- a word, taken apart
pub record Word : Type 0 where
  -- the owner's number, 0 if there is no owner
  pub number : ℕ
  -- FUTEX_WAITERS: threads contend, or did
  pub waiters : Bool
  -- FUTEX_OWNER_DIED: the last owner ended
  pub died : Bool

-- the free word, 0
abbrev pub free_word : Word
free_word = record { number = 0; waiters = false; died = false }

-- the word of an owner for which nobody contends: its number alone
abbrev pub held_by : ℕ → Word
held_by t = record { number = t; waiters = false; died = false }

-- the word of a mutex that t takes in the kernel: its number and what there was of OWNER_DIED
abbrev pub taken_word : ℕ → Word → Word
taken_word t w = record { number = t; waiters = false; died = w.died }

-- whether a word has no flag set and this number: what a compare-exchange from the bare number tests
abbrev pub is_bare : Word → ℕ → Bool
is_bare w t = if w.waiters then false else (if w.died then false else w.number == t)

-- the word after a compare-exchange from 0 to the bare number t; None if it fails
abbrev pub take_word : Word → ℕ → Option Word
take_word w t = if is_bare w 0 then Some (held_by t) else None

-- the word after a compare-exchange from the bare number t to 0; None if it fails
abbrev pub release_word : Word → ℕ → Option Word
release_word w t = if is_bare w t then Some free_word else None

-- the word of a mutex on which a thread queues: what it was, with WAITERS
abbrev pub mark_word : Word → Word
mark_word w = record w { waiters = true }

-- the word of a mutex that is handed to u: its number with WAITERS
abbrev pub hand_word : ℕ → Word
hand_word u = record { number = u; waiters = true; died = false }

-- the word of a mutex whose owner has ended, and for which nobody waits in the kernel: no number, WAITERS as it was,
-- and OWNER_DIED
abbrev pub orphan_word : Word → Word
orphan_word w = record { number = 0; waiters = w.waiters; died = true }

-- the word of a mutex that is handed to u since its owner has ended: its number with WAITERS and OWNER_DIED
abbrev pub inherit_word : ℕ → Word
inherit_word u = record { number = u; waiters = true; died = true }

-- the bit at place 31 or 30 as a number
abbrev pub flag : Bool → ℕ → ℕ
flag b n = if b then n else 0

-- the 32 bits of a word
unfoldable pub bits_of : Word → ℕ
bits_of w = w.number + flag w.died 1073741824 + flag w.waiters 2147483648

-- the word of 32 bits
unfoldable pub word_of : ℕ → Word
word_of bits =
    record { number = bits % 1073741824; waiters = (bits / 2147483648) % 2 == 1; died = (bits / 1073741824) % 2 == 1 }

-- THE WORDS IN USER MEMORY

-- the words, by the number of their mutex or their variable; place 0 stands for none
pub record Words : Type 0 where
  pub mutexes : List Word
  -- the health word of each mutex: 0 fine, 1 inconsistent, 2 unusable
  pub healths : List ℕ
  -- the condition word of each variable: how often it was signalled or broadcast
  pub conds : List ℕ

-- the word of m; the free word if there is none
abbrev pub word_at : Words → ℕ → Word
word_at ws m = get_or ws.mutexes m free_word

-- whether m has a word
abbrev pub has_word : Words → ℕ → Bool
has_word ws m = if m == 0 then false else nat_lt m (length ws.mutexes)

-- the words with another word of m; all others are as they were
abbrev pub set_word : Words → ℕ → Word → Words
set_word ws m x = record ws { mutexes = set ws.mutexes m x }

-- what a health word says
abbrev pub health_in : ℕ → Health
health_in h = if h == 2 then Unusable else (if h == 1 then Inconsistent else Fine)

-- the health word that says this
abbrev pub health_word : Health → ℕ
health_word Fine = 0
health_word Inconsistent = 1
health_word Unusable = 2

-- the health word of m; 0 if there is none
abbrev pub health_word_at : Words → ℕ → ℕ
health_word_at ws m = get_or ws.healths m 0

-- the words with another health word of m; all others are as they were
abbrev pub set_health_word : Words → ℕ → ℕ → Words
set_health_word ws m h = record ws { healths = set ws.healths m h }

-- the condition word of c; 0 if there is none
abbrev pub cond_word_at : Words → ℕ → ℕ
cond_word_at ws c = get_or ws.conds c 0

-- whether c has a condition word
abbrev pub has_cond_word : Words → ℕ → Bool
has_cond_word ws c = if c == 0 then false else nat_lt c (length ws.conds)

-- the words with another condition word of c; all others are as they were
abbrev pub set_cond_word : Words → ℕ → ℕ → Words
set_cond_word ws c n = record ws { conds = set ws.conds c n }

-- a word and a health word for each mutex that the limits allow, each free and fine, and a condition word for each
-- variable that they allow, each 0
abbrev pub free_words : Bounds → Words
free_words l = record {
  mutexes = replicate (l.mutexes + 1) free_word;
  healths = replicate (l.mutexes + 1) 0;
  conds = replicate (l.conds + 1) 0;
}
