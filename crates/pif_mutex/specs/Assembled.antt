-- The table that the parts of a machine are, and when the parts fit together.
use Rattle.std.specs.Prelude.{ℕ, ◌≡◌, ◌≤◌, ◌+◌, List, ◌∷◌, length}
use Rattle.pif_types.specs.Bounds.{Bounds, IsWithin}
use Rattle.pif_model.specs.declared.lines.Line.{Line}
use Rattle.pif_model.specs.declared.lines.Timer.{Timer}
use Rattle.pif_model.specs.PiKernel.{Kernel, IsKernel}
use Rattle.pif_model.specs.RobustList.{Robust}
use Rattle.pif_model.specs.Table.{Table, LibraryMutex}
use Rattle.pif_word.specs.WordMap.{WordMap, words_of}

-- the table of these parts; of the variables they have the mutexes to which they are bound, from the first one on
abbrev pub table_of : Bounds → WordMap → Kernel → Robust → List Line → List Timer → List LibraryMutex → List ℕ → ℕ
    → Table
table_of l ws k lists lines timers mutexes conds time = record {
  limits = l;
  words = words_of ws;
  kernel = k;
  lists = lists;
  lines = lines;
  timers = timers;
  mutexes = mutexes;
  conds = 0 ∷ conds;
  time = time;
}

-- the parts fit together: limits are in their ranges and those of the kernel, there is a line and a timer for each of
-- the kernel's threads, a robust list for each thread that the limits allow, a word and a health word for each mutex
-- that they allow, and a condition word for each variable that they allow, of which some were added
pub record IsAssembled (s : Table) : Type 0 where
  pub within : IsWithin s.limits
  pub limits : s.kernel.limits ≡ s.limits
  pub kernel : IsKernel s.kernel
  pub lines : length s.lines ≡ length s.kernel.seats
  pub timers : length s.timers ≡ length s.lines
  pub some_mutex : 1 ≤ length s.mutexes
  pub few_mutexes : length s.mutexes ≤ s.limits.mutexes + 1
  pub words : length s.words.mutexes ≡ s.limits.mutexes + 1
  pub healths : length s.words.healths ≡ s.limits.mutexes + 1
  pub some_cond : 1 ≤ length s.conds
  pub few_conds : length s.conds ≤ s.limits.conds + 1
  pub cond_words : length s.words.conds ≡ s.limits.conds + 1
  pub lists : length s.lists.threads ≡ s.limits.threads + 1
  pub listed : s.lists.mutexes ≡ s.limits.mutexes
