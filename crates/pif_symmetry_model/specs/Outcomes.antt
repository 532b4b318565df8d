-- Outcomes by other names of threads and points.
use Rattle.std.specs.Prelude.{ℕ, ◌≡◌, map, Option, None}
use Rattle.pif_model.specs.Posix.{Health}
use Rattle.pif_explore_model.specs.declared.outcomes.Fate.{Fate}
use Rattle.pif_explore_model.specs.declared.outcomes.Fate.TheVariants.{HasEnded, Joins}
use Rattle.pif_explore_model.specs.Outcomes.{Outcome}
use Rattle.pif_symmetry_model.specs.Symmetry.{IsMoved}

-- what has become of a thread, with the name of the thread that it joins
abbrev pub renamed_fate : (ℕ → ℕ) → Fate → Fate
renamed_fate f (Joins u) = Joins (f u)
renamed_fate f x = x

-- a mutex's owner and health
abbrev pub renamed_standing : (ℕ → ℕ) → (ℕ × Health) → ℕ × Health
renamed_standing f x = (f x.0, x.1)

-- q is o, in which each thread t is called f t, and each point i is called g i
pub record MirrorsOutcome (f g : ℕ → ℕ) (o q : Outcome) : Type 0 where
  pub answers : IsMoved {A = Option ℕ} g None (λ x. x) o.answers q.answers
  pub fates : IsMoved f HasEnded (renamed_fate f) o.fates q.fates
  pub mutexes : q.mutexes ≡ map (renamed_standing f) o.mutexes
  pub cells : q.cells ≡ o.cells
