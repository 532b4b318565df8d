-- Who goes next, of the threads that can go.
use Rattle.std.specs.Prelude.{◌≡◌, ℕ, Bool, true, nat_eq, nat_lt, ◌%◌, if◌then◌else◌, List, [], ◌∷◌, length, map, Option, Some, None, slice_get, Contains}
use Rattle.std.specs.List.{IsFirstMaxByKey}
use Rattle.pif_choose.specs.declared.choice.Candidate.{Candidate}
use Rattle.pif_choose.specs.declared.choice.Strategy.{Strategy}
use Rattle.pif_choose.specs.declared.choice.Strategy.TheVariants.{Stay, Drawn, Ranked}
use Rattle.pif_choose.specs.declared.choice.Sought.{Sought}
use Rattle.pif_choose.specs.declared.choice.Sought.TheVariants.{Thread, Above, Any}

-- the numbers of those that can go
abbrev pub threads_of : List Candidate → List ℕ
threads_of can = map (λ (c : Candidate). c.thread) can

-- whether a thread is one that is looked for
abbrev pub is_sought : Sought → ℕ → Bool
is_sought (Thread thread) t = nat_eq t thread
is_sought (Above thread) t = nat_lt thread t
is_sought Any t = true

-- the first of these that is looked for
abbrev pub first_with : Sought → List ℕ → Option ℕ
first_with sought [] = None
first_with sought (t ∷ ts) = if is_sought sought t then Some t else first_with sought ts

-- the first of two that is there
abbrev pub or_else : Option ℕ → Option ℕ → Option ℕ
or_else (Some t) other = Some t
or_else None other = other

-- a thread goes on as long as it can; then the next one by number goes, behind the last the first
abbrev pub who_stays : ℕ → List ℕ → Option ℕ
who_stays present ts = or_else (first_with (Thread present) ts) (or_else (first_with (Above present) ts) (first_with Any ts))

-- the first of the greatest rank goes
pub record IsRanked (can : List Candidate) (t : ℕ) : Type 0 where
  pub place : ℕ
  pub greatest : IsFirstMaxByKey (λ (c : Candidate). c.rank) can (length can) place
  pub is : slice_get (threads_of can) place ≡ Some t

-- the choice of a strategy
abbrev pub Chooses : Strategy → List Candidate → ℕ → Type 0
Chooses (Stay present) can t = who_stays present (threads_of can) ≡ Some t
Chooses (Drawn number) can t = slice_get (threads_of can) (number % length can) ≡ Some t
Chooses Ranked can t = IsRanked can t

-- who is chosen can go, and is the choice of the strategy; nobody is chosen if nobody can go
abbrev pub IsChoice : Strategy → List Candidate → Option ℕ → Type 0
IsChoice strategy can (Some t) = Contains (threads_of can) t × Chooses strategy can t
IsChoice strategy can None = can ≡ []
