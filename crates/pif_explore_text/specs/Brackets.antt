-- What stands in brackets, in tests and in conditions (docs/EXPLORE.md): parts, with `not`, `and` and `or`. `not` binds
-- closest, then `and`. Each of `and` and `or` is read from the left. A `not` behind a `not` undoes it.
use Rattle.std.specs.Prelude.{Bool, true, false, not, List, [], ◌∷◌, Option, Some, None, Result, Ok, Err}
use Rattle.pif_text_model.specs.declared.replies.Cause.{Cause}
use Rattle.pif_text_model.specs.declared.replies.Cause.TheVariants.{Command}
use Rattle.pif_explore_text.specs.Results.{and_then}

-- what `not`, `and` and `or` make of parts
pub record Joins (A : Type 0) : Type 0 where
  pub negated : A → A
  pub both : A → A → A
  pub either : A → A → A

-- what stands so far inside one pair of brackets, or outside of all
pub record Level (A : Type 0) : Type 0 where
  -- what stands before the last `or`
  pub ors : Option A
  -- what stands behind it
  pub ands : Option A
  -- whether the opposite is meant of what comes next: an odd number of `not`s stand before it
  pub denies : Bool

-- what stands so far in all brackets that are open
pub record Nest (A : Type 0) : Type 0 where
  -- in the innermost
  pub level : Level A
  -- in those outside of it, the innermost first
  pub outside : List (Level A)

-- at the front of brackets
abbrev pub blank : {A : Type 0} → Level A
blank = record { ors = None; ands = None; denies = false }

-- before the first word
abbrev pub unopened : {A : Type 0} → Nest A
unopened = record { level = blank; outside = [] }

-- a part, or its opposite
abbrev pub denied : {A : Type 0} → Joins A → Bool → A → A
denied j true part = j.negated part
denied j false part = part

-- what stands before an `and`, if there is one, and what stands behind it
abbrev pub and_also : {A : Type 0} → Joins A → Option A → A → A
and_also j None part = part
and_also j (Some before) part = j.both before part

-- the same of an `or`
abbrev pub or_else : {A : Type 0} → Joins A → Option A → A → A
or_else j None part = part
or_else j (Some before) part = j.either before part

-- one part more in brackets
abbrev pub level_with : {A : Type 0} → Joins A → Level A → A → Level A
level_with j l part = record l { ands = Some (and_also j l.ands (denied j l.denies part)); denies = false }

abbrev pub with_part : {A : Type 0} → Joins A → Nest A → A → Nest A
with_part j n part = record n { level = level_with j n.level part }

-- all that stands in brackets
abbrev pub level_end : {A : Type 0} → Joins A → Level A → Option A → Result A Cause
level_end j l None = Err Command
level_end j l (Some part) = Ok (or_else j l.ors part)

-- behind an `or`
abbrev pub alternated : {A : Type 0} → Joins A → Level A → Result (Level A) Cause
alternated j l = and_then (level_end j l l.ands) (λ part. Ok (record l { ors = Some part; ands = None }))

abbrev pub offered : {A : Type 0} → Joins A → Nest A → Result (Nest A) Cause
offered j n = and_then (alternated j n.level) (λ l. Ok (record n { level = l }))

-- behind a `not`
abbrev pub negating : {A : Type 0} → Nest A → Nest A
negating n = record n { level = record n.level { denies = not n.level.denies } }

-- behind a `(`
abbrev pub opened : {A : Type 0} → Nest A → Nest A
opened n = record { level = blank; outside = n.level ∷ n.outside }

-- behind a `)`
abbrev pub closed : {A : Type 0} → Joins A → Level A → List (Level A) → Result (Nest A) Cause
closed j l [] = Err Command
closed j l (outer ∷ more) =
    and_then (level_end j l l.ands) (λ part. Ok (record { level = level_with j outer part; outside = more }))

-- all that stands there, if no brackets are open
abbrev pub nest_end : {A : Type 0} → Joins A → Nest A → List (Level A) → Result A Cause
nest_end j n [] = level_end j n.level n.level.ands
nest_end j n (outer ∷ more) = Err Command
