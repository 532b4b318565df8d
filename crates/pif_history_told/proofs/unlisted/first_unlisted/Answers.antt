use Rattle.std.proofs.Common.{◌∙◌, sym}
use Rattle.pif_history_told.proofs.UnlistedLemmas.{nothing_suspect}
use Rattle.pif_history_told.proofs.unlisted.first_unlisted.Goals as goal

pub returns-else-has_suspect : goal.returns-else-has_suspect
returns-else-has_suspect c = nothing_suspect c.args.rules.now c.args.limits c.args.labels.now c.requires.run
    (sym c.has_suspect.ensures ∙ c.if-has_suspect.false)
