use Rattle.pif_posix_steps.specs.Once.Enters.{other}
use Rattle.pif_posix_steps.proofs.Splits.{moves-from_shown}
use Rattle.pif_posix_steps.proofs.laws.shown_steps_are_moves_and_an_entry.Goals as goal

pub returns-clause-moves : goal.returns-clause-moves
returns-clause-moves c = moves-from_shown

pub returns-clause-alone : goal.returns-clause-alone
returns-clause-alone c = λ limits before entry after step go refused. other go refused step
