use Rattle.std.proofs.Common.{◌∙◌, refl}
use Rattle.pif_cli_words.proofs.CommandLemmas.{first_added}
use Rattle.pif_cli_words.proofs.commands.with_arguments.Goals as goal

pub loop-rest-init : goal.loop-rest-init
loop-rest-init c = λ app is. (app, is, refl)

pub loop-rest-preserved : goal.loop-rest-preserved
loop-rest-preserved c = λ app is.
    let it = c.loop-rest.invariant app is in
    (_, c.with_argument-made.ensures it.0 it.1, first_added it.0 c.loop-rest.rest.now _ c.in-len1-up.len_at_least ∙ it.2)
