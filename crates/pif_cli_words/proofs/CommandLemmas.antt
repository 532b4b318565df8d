-- Commands that got one more argument or one more command.
use Rattle.std.proofs.Common.{◌≡◌, ◌∙◌, ◌≤◌, ◌-◌, ◌||◌, Bool, true, false, List, ◌∷◌, length, get_or, take, drop, Result, Ok, Err, IfOk, ap, sym, arith}
use Rattle.std.proofs.lemmas.List.{drop_more, take_rest}
use Rattle.std.specs.Borrow.{Bor}
use Rattle.clap.specs.Words.{AddsArg, AddsSubcommand, App, Text, rule_of, shape_of, with_rule, with_subcommand}
use Rattle.clap.specs.declared.builder.arg.Arg.{Arg}
use Rattle.clap.specs.declared.builder.command.Command.{Command}
use Rattle.pif_cli_words.specs.declared.options.Form.{Form}
use Rattle.pif_cli_words.specs.Commands.{IsCommand, IsMade, with_rows}
use Rattle.pif_cli_words.specs.Options.{form_rule}

nothing_more : (a b : Bool) → a ≡ false → b ≡ false → (a || b) ≡ false
nothing_more true b h k = cc
nothing_more false b h k = k

-- a command that got one more argument of its own
pub added : {E : Type 0} (made : Result Command E) (old : Command) (a : Arg) (app : App)
    → IfOk made (λ new. AddsArg old a new) → a.global ≡ false → IsCommand app old → IsMade (with_rule app (rule_of a)) made
added (Ok new) old a app adds local is = (
  adds.shape local ∙ ap (λ (x : App). with_rule x (rule_of a)) is.0,
  adds.globals ∙ nothing_more _ _ is.1 local,
)
added (Err e) old a app adds local is = tt

-- a program that got one more command
pub joined : {E : Type 0} (made : Result Command E) (old sub : Command) (app more : App)
    → IfOk made (λ new. AddsSubcommand old sub new) → IsCommand app old → IsCommand more sub
    → IsMade (with_subcommand app more.top) made
joined (Ok new) old sub app more adds is mine = (
  adds.shape mine.1 ∙ ap (λ (x : App). with_subcommand x (shape_of sub)) is.0
      ∙ ap (λ (x : App). with_subcommand app x.top) mine.0,
  adds.globals ∙ nothing_more _ _ is.1 mine.1,
)
joined (Err e) old sub app more adds is mine = tt

abbrev Argument : Type 0
Argument = Bor Text × Form × Bor Text

-- a command that gets the first of some arguments, and then the others
pub first_added : (app : App) (rows : List Argument) (d : Argument) → 1 ≤ length rows
    → with_rows (with_rule app (form_rule (get_or rows 0 d).0.now (get_or rows 0 d).1)) (take (length rows - 1) (drop 1 rows))
    ≡ with_rows app rows
first_added app rows d some =
    ap (with_rows app)
    (sym (drop_more rows 0 d (omega (arith, some)) ∙ ap (λ (rs : List Argument). get_or rows 0 d ∷ rs) (sym (take_rest rows 1))))
