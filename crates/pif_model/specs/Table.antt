-- The state of the table machine: its parts side by side, as the code has them. They are the words, the kernel, and
-- what the library keeps of threads, mutexes and condition variables. Threads, mutexes and variables are numbered
-- from 1; place 0 of each list stands for nobody.
use Rattle.std.specs.Prelude.{ℕ, Bool, true, false, ◌==◌, nat_lt, List, [], ◌∷◌, ◌++◌, length, get_or, set, if◌then◌else◌}
use Rattle.pif_types.specs.Bounds.{Bounds}
use Rattle.pif_types.specs.declared.requests.Kind.{Kind}
use Rattle.pif_types.specs.declared.requests.Kind.TheVariants.{Normal}
use Rattle.pif_model.specs.declared.lines.Line.{Line}
use Rattle.pif_model.specs.declared.lines.Line.TheVariants.{Idle}
use Rattle.pif_model.specs.declared.lines.Status.{Status}
use Rattle.pif_model.specs.declared.lines.Timer.{Timer}
use Rattle.pif_model.specs.Deadlines.{no_timer}
use Rattle.pif_model.specs.Word.{Word, Words, free_words, word_at, health_word_at, cond_word_at, set_word, set_health_word, set_cond_word}
use Rattle.pif_model.specs.RobustList.{Robust, no_robust}
use Rattle.pif_model.specs.PiKernel.{Kernel, new_kernel, seat_at, has_seat, state_at, kernel_after_add}

-- what the library knows of a mutex beside its words
pub record LibraryMutex : Type 0 where
  pub kind : Kind
  pub robust : Bool
  -- how often its owner holds it
  pub count : ℕ

-- the state of the table machine
pub record Table : Type 0 where
  pub limits : Bounds
  pub words : Words
  pub kernel : Kernel
  -- the robust lists
  pub lists : Robust
  -- the line of each thread: its open call and the place in it
  pub lines : List Line
  -- what the last call of each thread has of its deadline
  pub timers : List Timer
  -- what the library knows of each mutex
  pub mutexes : List LibraryMutex
  -- the mutex to which each condition variable is bound
  pub conds : List ℕ
  -- the time that was handed in last, 0 at first
  pub time : ℕ

-- a new mutex of this kind: nobody holds it
abbrev pub new_mutex : Kind → Bool → LibraryMutex
new_mutex k r = record { kind = k; robust = r; count = 1 }

-- a core under these limits to which nothing was added
abbrev pub new_table : Bounds → Table
new_table l = record {
  limits = l;
  words = free_words l;
  kernel = new_kernel l;
  lists = no_robust l;
  lines = Idle ∷ [];
  timers = no_timer ∷ [];
  mutexes = new_mutex Normal false ∷ [];
  conds = 0 ∷ [];
  time = 0;
}

-- THREADS

-- whether t was added
abbrev pub has_thread : Table → ℕ → Bool
has_thread s t = has_seat s.kernel t

-- what the kernel knows of t
abbrev pub status_at : Table → ℕ → Status
status_at s t = (seat_at s.kernel t).status

-- t's line
abbrev pub line_at : Table → ℕ → Line
line_at s t = get_or s.lines t Idle

-- t at this line
abbrev pub with_line : ℕ → Line → Table → Table
with_line t l s = record s { lines = set s.lines t l }

-- what t's last call has of its deadline
abbrev pub timer_at : Table → ℕ → Timer
timer_at s t = get_or s.timers t no_timer

-- t with this timer
abbrev pub with_timer : ℕ → Timer → Table → Table
with_timer t x s = record s { timers = set s.timers t x }

-- MUTEXES

-- whether m was added
abbrev pub has_mutex : Table → ℕ → Bool
has_mutex s m = if m == 0 then false else nat_lt m (length s.mutexes)

-- what the library knows of m
abbrev pub library_at : Table → ℕ → LibraryMutex
library_at s m = get_or s.mutexes m (new_mutex Normal false)

-- all that the parts have of one mutex
pub record Cell : Type 0 where
  pub kind : Kind
  pub robust : Bool
  pub count : ℕ
  pub word : Word
  -- its health word: 0 fine, 1 inconsistent, 2 unusable
  pub health : ℕ
  -- the owner that the kernel's owner state names, 0 if there is no owner state
  pub state_owner : ℕ

-- all that the parts have of m
abbrev pub cell_at : Table → ℕ → Cell
cell_at s m = record {
  kind = (library_at s m).kind;
  robust = (library_at s m).robust;
  count = (library_at s m).count;
  word = word_at s.words m;
  health = health_word_at s.words m;
  state_owner = state_at s.kernel m;
}

-- m is held this often by its owner
abbrev pub with_count : ℕ → ℕ → Table → Table
with_count m n s = record s { mutexes = set s.mutexes m (record (library_at s m) { count = n }) }

-- m with this word
abbrev pub with_word : ℕ → Word → Table → Table
with_word m x s = record s { words = set_word s.words m x }

-- m with this health word
abbrev pub with_health_word : ℕ → ℕ → Table → Table
with_health_word m h s = record s { words = set_health_word s.words m h }

-- these robust lists
abbrev pub with_lists : Robust → Table → Table
with_lists v s = record s { lists = v }

-- a kernel call leaves these words and this kernel, and nothing else changes
abbrev pub with_kernel : Words → Kernel → Table → Table
with_kernel ws k s = record s { words = ws; kernel = k }

-- CONDITION VARIABLES

-- whether c was added
abbrev pub has_cond : Table → ℕ → Bool
has_cond s c = if c == 0 then false else nat_lt c (length s.conds)

-- the mutex to which c is bound
abbrev pub bound_to : Table → ℕ → ℕ
bound_to s c = get_or s.conds c 0

-- how often c was used, by its condition word
abbrev pub uses_of : Table → ℕ → ℕ
uses_of s c = cond_word_at s.words c

-- c with this condition word
abbrev pub with_cond_word : ℕ → ℕ → Table → Table
with_cond_word c n s = record s { words = set_cond_word s.words c n }

-- ADDITIONS

-- a new thread of base priority p, with no call open
abbrev pub thread_added : ℕ → Table → Table
thread_added p s = record s {
  kernel = kernel_after_add p s.kernel;
  lines = s.lines ++ Idle ∷ [];
  timers = s.timers ++ no_timer ∷ [];
}

-- a new mutex, free
abbrev pub mutex_added : Kind → Bool → Table → Table
mutex_added k r s = record s { mutexes = s.mutexes ++ new_mutex k r ∷ [] }

-- a new condition variable, bound to m
abbrev pub cond_added : ℕ → Table → Table
cond_added m s = record s { conds = s.conds ++ m ∷ [] }

-- whether one more thread may be added
abbrev pub has_thread_room : Table → Bool
has_thread_room s = if nat_lt s.limits.threads (length s.lines) then false else true

-- whether one more mutex may be added
abbrev pub has_mutex_room : Table → Bool
has_mutex_room s = if nat_lt s.limits.mutexes (length s.mutexes) then false else true

-- whether one more condition variable may be added
abbrev pub has_cond_room : Table → Bool
has_cond_room s = if nat_lt s.limits.conds (length s.conds) then false else true
