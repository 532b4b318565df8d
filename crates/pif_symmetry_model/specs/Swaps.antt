-- Two threads that exchange their names: the smallest renaming. Each other one is made up of such.
use Rattle.std.specs.Prelude.{ℕ, ◌==◌, List, get_or, set, map, if◌then◌else◌}
use Rattle.pif_model.specs.Posix.{World, Thread, nobody}
use Rattle.pif_symmetry_model.specs.Renaming.{renamed_call, renamed_mutex, renamed_waiter}

-- the name of t once a and b have exchanged theirs
abbrev pub swapped_name : (a b t : ℕ) → ℕ
swapped_name a b t = if t == a then b else (if t == b then a else t)

-- what stands at a and b in each other's place
abbrev pub exchanged : {A : Type 0} → A → (a b : ℕ) → List A → List A
exchanged d a b xs = set (set xs a (get_or xs b d)) b (get_or xs a d)

-- a thread once threads have other names
abbrev pub renamed_thread : (ℕ → ℕ) → Thread → Thread
renamed_thread f x = record x {
  call = renamed_call f x.call;
  memory = record x.memory { found = map (renamed_waiter f) x.memory.found };
}

-- the state once a and b have exchanged their names
abbrev pub swapped : (a b : ℕ) → World → World
swapped a b w = record w {
  threads = map (renamed_thread (swapped_name a b)) (exchanged nobody a b w.threads);
  mutexes = map (renamed_mutex (swapped_name a b)) w.mutexes;
  waiters = map (renamed_waiter (swapped_name a b)) w.waiters;
}
