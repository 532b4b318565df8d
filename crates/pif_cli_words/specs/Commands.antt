-- Commands while they are made.
use Rattle.std.specs.Prelude.{◌≡◌, false, List, [], ◌∷◌, Result, IfOk, Box}
use Rattle.std.specs.Borrow.{Bor}
use Rattle.clap.specs.Words.{App, Text, app_of, new_app, with_rule}
use Rattle.clap.specs.declared.builder.command.Command.{Command}
use Rattle.clap.specs.declared.builder.command.Command.TheViews.{out-Command}
use Rattle.pif_cli_words.specs.declared.options.Form.{Form}
use Rattle.pif_cli_words.specs.declared.tables.Table.{Table}
use Rattle.pif_cli_words.specs.Options.{form_rule}

-- this command, as a parse reads it, with no argument that holds for the commands of it, too
abbrev pub IsCommand : App → Command → Type 0
IsCommand app c = (app_of c ≡ app) × ((out-Command c).has_globals ≡ false)

-- what was made is this command; or memory was refused
abbrev pub IsMade : {E : Type 0} → App → Result Command E → Type 0
IsMade app made = IfOk made (IsCommand app)

-- what is in the box is this command; or memory was refused
abbrev pub IsApp : {Z E : Type 0} → App → Result (Box Command Z) E → Type 0
IsApp app made = IfOk made (λ b. IsCommand app b.value)

-- a command with these arguments more, each by its name and its form
abbrev pub with_rows : App → List (Bor Text × Form × Bor Text) → App
with_rows app [] = app
with_rows app (row ∷ rows) = with_rows (with_rule app (form_rule row.0.now row.1)) rows

-- the command of a table
abbrev pub command_app : Table → App
command_app table = with_rows (new_app table.name.now) table.rows.now
