-- A whole replay: the same requests with the same choices, from the same machine.
use Rattle.std.specs.Prelude.{ℕ, ◌≡◌, ◌≢◌, ◌⊎◌, List, [], ◌∷◌, Option, ⊤}
use Rattle.pif_c_numbers.specs.declared.numbers.PifNumber.{PifNumber}
use Rattle.pif_c_numbers.specs.Codes as pif
use Rattle.pif_c.specs.declared.machines.Ask.{Ask}
use Rattle.pif_c.specs.declared.machine_adding.Adding.{Adding}
use Rattle.pif_c.specs.Running.{Running}
use Rattle.pif_c.specs.Going.{AddsTo, Happens, IsAnswered}

-- what a caller does with a machine: something is to happen, and goes to the state at the place that the caller chose; the
-- open call of a thread is answered; or something is added, or is refused for this reason if the numbers name nothing
pub data Deed : Type 0 where
  happens : Option Ask → (place : ℕ) → Deed
  answers : (thread : ℕ) → Deed
  adds : (why : ℕ) → Option Adding → Deed

-- what a deed tells, on what a handle held and holds then. Threads have numbers from 1 on
abbrev pub Does : Deed → Option Running → Option Running → PifNumber → Type 0
Does (happens x place) before after told = Happens x place before after told.result × (told.number ≡ 0)
Does (answers thread) before after told = (thread ≢ 0) × IsAnswered thread before after told
Does (adds why x) before after told = AddsTo why x before after told

-- deeds one after another, what each tells, and what the handle holds behind them
abbrev pub Plays : List Deed → Option Running → Option Running → List PifNumber → Type 0
Plays [] before after [] = after ≡ before
Plays (x ∷ xs) before after (told ∷ rest) =
    (between : Option Running) × Does x before between told × Plays xs between after rest
Plays xs before after rest = ⊥

-- memory, the numbers or a limit of the machine gave out
abbrev pub GaveOut : PifNumber → Type 0
GaveOut told = (told.result ≡ pif.no_memory) ⊎ (told.result ≡ pif.too_many)

abbrev pub NeverGaveOut : List PifNumber → Type 0
NeverGaveOut [] = ⊤
NeverGaveOut (told ∷ rest) = (GaveOut told → ⊥) × NeverGaveOut rest

-- a whole replay tells the same and ends in the same state, unless memory, the numbers or a limit gave out in one of the two
abbrev pub ReplaysAreAlike : Type 0
ReplaysAreAlike = (xs : List Deed) (before after again : Option Running) (told told_again : List PifNumber)
    → Plays xs before after told → Plays xs before again told_again
    → NeverGaveOut told → NeverGaveOut told_again → (again ≡ after) × (told_again ≡ told)
