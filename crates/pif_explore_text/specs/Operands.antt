-- What stands beside a cell in statements, tests and conditions: signs, operands and ranges of values (docs/EXPLORE.md).
use Rattle.std.specs.Prelude.{ℕ, ◌+◌, ◌==◌, ◌&&◌, nat_le, Bool, false, List, [], ◌∷◌, take, drop, Option, Some, None, option_map, Result, Ok, Err, if◌then◌else◌, bytes_eq, codes}
use Rattle.pif_text_model.specs.declared.replies.Cause.{Cause}
use Rattle.pif_text_model.specs.declared.replies.Cause.TheVariants.{Command, Limits}
use Rattle.pif_explore_model.specs.declared.programs.Operand.{Operand}
use Rattle.pif_explore_model.specs.declared.programs.Operand.TheVariants.{Value, Held}
use Rattle.pif_explore_model.specs.declared.programs.Wanted.{Wanted}
use Rattle.pif_explore_model.specs.declared.programs.Wanted.TheVariants as wanted
use Rattle.pif_explore_text.specs.declared.operands.Sign.{Sign}
use Rattle.pif_explore_text.specs.declared.operands.Sign.TheVariants as sign
use Rattle.pif_explore_text.specs.Names.{cell_there, value_in}
use Rattle.pif_explore_text.specs.Results.{and_then}

-- the sign that a word is
abbrev pub sign_in : List ℕ → Option Sign
sign_in word =
    if bytes_eq word (codes "=") then Some sign.Is
    else if bytes_eq word (codes "<") then Some sign.IsBelow
    else if bytes_eq word (codes ">") then Some sign.IsAbove
    else None

-- what is asked by a sign and the operand behind it
abbrev pub wanted_by : Sign → Operand → Wanted
wanted_by sign.Is o = wanted.Is o
wanted_by sign.IsBelow o = wanted.IsBelow o
wanted_by sign.IsAbove o = wanted.IsAbove o

-- an operand: a cell, or a value of 0 to 255
abbrev pub operand_if : Option ℕ → List ℕ → Result Operand Cause
operand_if (Some x) word = Ok (Held x)
operand_if None word = and_then (value_in word) (λ v. Ok (Value v))

unfoldable pub operand_in : List ℕ → Result Operand Cause
operand_in word = operand_if (cell_there word) word

-- whether a text begins with `..`
abbrev pub begins_dots : List ℕ → Bool
begins_dots (first ∷ second ∷ more) = first == 46 && second == 46
begins_dots _ = false

-- where the first `..` of a text stands
abbrev pub dots_at : List ℕ → Option ℕ
dots_at [] = None
dots_at (byte ∷ more) = if begins_dots (byte ∷ more) then Some 0 else option_map (λ at. at + 1) (dots_at more)

-- the values from one to another, which isn't less
abbrev pub ordered : ℕ → ℕ → Result (ℕ × ℕ) Cause
ordered v w = if nat_le v w then Ok (v, w) else Err Limits

-- the values of `V..W`, of which the `..` stands here
abbrev pub range_at : Option ℕ → List ℕ → Result (ℕ × ℕ) Cause
range_at None word = Err Command
range_at (Some at) word =
    and_then (value_in (take at word)) (λ v. and_then (value_in (drop (at + 2) word)) (λ w. ordered v w))

unfoldable pub range_in : List ℕ → Result (ℕ × ℕ) Cause
range_in word = range_at (dots_at word) word
