-- States with what rules remember, and with the mutexes that lend nothing, that are the same but for the names of threads.
use Rattle.std.specs.Prelude.{ℕ, ◌≡◌, map}
use Rattle.pif_rules_model.specs.Rules.{Wide}
use Rattle.pif_symmetry_model.specs.Renaming.{Mirrors}

-- n is s, in which each thread t is called f t
pub record MirrorsWide (f : ℕ → ℕ) (s n : Wide) : Type 0 where
  pub world : Mirrors f s.world n.world
  pub lost : n.lost ≡ s.lost
  pub apart : n.apart ≡ map f s.apart
  pub prio_none : n.prio_none ≡ s.prio_none
  pub given : n.given ≡ map f s.given
