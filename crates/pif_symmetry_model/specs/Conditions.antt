-- Conditions by other names of threads.
use Rattle.std.specs.Prelude.{ℕ, Bool, true, false, if◌then◌else◌}
use Rattle.pif_explore_model.specs.declared.conditions.Condition.{Condition}
use Rattle.pif_explore_model.specs.declared.conditions.Condition.TheVariants.{Not', And', Or', Stuck, Ended, Answered, Free, HeldBy, Inconsistent, Unusable, Compares, RunsAt, RunsAtLeast, WaitsFor, BlockedOn, HoldsTimes, Shows}

-- a condition, with the names that threads have
abbrev pub renamed_condition : (ℕ → ℕ) → Condition → Condition
renamed_condition f (Not' at c) = Not' at (renamed_condition f c)
renamed_condition f (And' at c other_at d) = And' at (renamed_condition f c) other_at (renamed_condition f d)
renamed_condition f (Or' at c other_at d) = Or' at (renamed_condition f c) other_at (renamed_condition f d)
renamed_condition f (Stuck t) = Stuck (f t)
renamed_condition f (Ended t) = Ended (f t)
renamed_condition f (Answered t a) = Answered (f t) a
renamed_condition f (Free m) = Free m
renamed_condition f (HeldBy m t) = HeldBy m (f t)
renamed_condition f (Inconsistent m) = Inconsistent m
renamed_condition f (Unusable m) = Unusable m
renamed_condition f (Compares x w) = Compares x w
renamed_condition f (RunsAt t q) = RunsAt (f t) q
renamed_condition f (RunsAtLeast t q) = RunsAtLeast (f t) q
renamed_condition f (WaitsFor t m) = WaitsFor (f t) m
renamed_condition f (BlockedOn t c) = BlockedOn (f t) c
renamed_condition f (HoldsTimes t m n) = HoldsTimes (f t) m n
renamed_condition f (Shows x) = Shows x

-- whether a condition speaks of no fault
abbrev pub speaks_of_none : Condition → Bool
speaks_of_none (Not' at c) = speaks_of_none c
speaks_of_none (And' at c other_at d) = if speaks_of_none c then speaks_of_none d else false
speaks_of_none (Or' at c other_at d) = if speaks_of_none c then speaks_of_none d else false
speaks_of_none (Shows x) = false
speaks_of_none _ = true
