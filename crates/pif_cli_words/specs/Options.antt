-- Arguments of the program's commands: flags, numbers, rules and files.
use Rattle.std.specs.Prelude.{ℕ, ◌==◌, Bool, true, false, is_some, List, [], ◌∷◌, Option, Some, None, codes, bytes_eq, if◌then◌else◌}
use Rattle.std.specs.Str.Parse.{digits_value, without_leading_plus}
use Rattle.clap.specs.Lexer.{usize_max}
use Rattle.clap.specs.ValueTests.{is_unsigned_in}
use Rattle.clap.specs.Words.{Row, Rule, Text, first_of, new_rule}
use Rattle.clap.specs.declared.builder.action.ArgAction.TheVariants.{Append, SetTrue}
use Rattle.clap.specs.declared.builder.value_parser.ValueParser.TheVariants.{Unsigned}
use Rattle.pif_cli_words.specs.declared.options.Absent.{Absent}
use Rattle.pif_cli_words.specs.declared.options.Absent.TheVariants.{Empty, Refused, Is}
use Rattle.pif_cli_words.specs.declared.options.Form.{Form}
use Rattle.pif_cli_words.specs.declared.options.Form.TheVariants.{Flag, Number, Rules, Name, File, Files, Placed}

-- an option that is given or not
abbrev pub flag_rule : Text → Rule
flag_rule name = record (new_rule name) { long = Some name; action = Some SetTrue }

-- an option with a number from low to high
abbrev pub number_rule : Text → (low high : ℕ) → Rule
number_rule name low high =
    record (new_rule name) { long = Some name; value_names = 1; parser = Some (Unsigned low high) }

-- an option with a number that must be given
abbrev pub needed_rule : Text → (low high : ℕ) → Rule
needed_rule name low high = record (number_rule name low high) { required = true }

-- an option with a number that has a default
abbrev pub chosen_rule : Text → (low high : ℕ) → (default : Text) → Rule
chosen_rule name low high default = record (number_rule name low high) { defaults = default ∷ [] }

-- an option with a name
abbrev pub name_rule : Text → Rule
name_rule name = record (new_rule name) { long = Some name; value_names = 1 }

-- an option with a number, by what it has if none is given
abbrev pub absent_rule : Absent → Rule → Rule
absent_rule Empty rule = rule
absent_rule Refused rule = record rule { required = true }
absent_rule (Is text) rule = record rule { defaults = text.now ∷ [] }

-- an argument of this name, by how it is given
abbrev pub form_rule : Text → Form → Rule
form_rule name Flag = flag_rule name
form_rule name (Number called low high absent) = absent_rule absent (number_rule name low high)
form_rule name Rules = record (new_rule name) { long = Some name; value_names = 1; action = Some Append }
form_rule name (Name called) = name_rule name
form_rule name File = new_rule name
form_rule name Files =
    record (new_rule name) { range = Some (record { start_inclusive = 0; end_inclusive = usize_max }) }
form_rule name (Placed low high) = record (new_rule name) { required = true; parser = Some (Unsigned low high) }

-- the number from low to high that a text writes; 0 if it writes none
abbrev pub number_between : (low high : ℕ) → Option Text → ℕ
number_between low high (Some text) =
    if is_unsigned_in low high text then digits_value 10 (without_leading_plus text) else 0
number_between low high None = 0

-- a number, if it isn't 0
abbrev pub unless_zero : ℕ → Option ℕ
unless_zero n = if n == 0 then None else Some n

-- a flag's value says that it was given
abbrev pub is_yes : Option Text → Bool
is_yes (Some text) = bytes_eq text (codes "true")
is_yes None = false

-- whether the option of this name has a value
abbrev pub is_named : Text → List Row → Bool
is_named name rows = is_some (first_of name rows)

-- whether the flag of this name was given
abbrev pub flag_in : Text → List Row → Bool
flag_in name rows = is_yes (first_of name rows)
