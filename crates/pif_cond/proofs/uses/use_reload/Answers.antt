-- It goes on with what the word is.
use Rattle.std.proofs.Common.{rules}
use Rattle.pif_cond.proofs.uses.use_reload.Goals as goal

pub returns : goal.returns
returns g c = search rules
