use Rattle.std.proofs.Common.{◌≡◌, length}
use Rattle.clap.specs.Words.{App}
use Rattle.pif_cli_words.specs.Commands.{IsApp, with_rows}
use Rattle.pif_cli_words.proofs.commands.with_arguments.Given as goal

-- with those that are left, the command that was made so far becomes the one that is wanted
abbrev pub invariant-loop-rest : goal.invariant-loop-rest
invariant-loop-rest l =
    (app : App) → IsApp app l.fn.made → (now : App) × IsApp now l.made × (with_rows now l.rest ≡ with_rows app l.rows)

abbrev pub decreases-loop-rest : goal.decreases-loop-rest
decreases-loop-rest l = length l.rest
