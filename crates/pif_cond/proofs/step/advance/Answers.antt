-- A thread that lives was added.
use Rattle.pif_model_lemmas.proofs.kernel.Facts.{living-added}
use Rattle.pif_cond.proofs.step.advance.Goals as goal

pub line-requires : goal.line-requires
line-requires g c = living-added c.args.parts.now.kernel c.args.t c.requires.living

pub returns-clause-line : goal.returns-clause-line
returns-clause-line g c = c.take.ensures.line
