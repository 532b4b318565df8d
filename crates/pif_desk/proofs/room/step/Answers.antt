-- The core makes the step, and the journal has what was written.
use Rattle.std.proofs.Common.{rules}
use Rattle.pif_desk.proofs.room.step.Goals as goal

pub returns-clause-answer : goal.returns-clause-answer
returns-clause-answer c = search rules

pub returns-clause-core : goal.returns-clause-core
returns-clause-core c = search rules

pub returns-clause-journal : goal.returns-clause-journal
returns-clause-journal c = cc

pub returns-clause-stands : goal.returns-clause-stands
returns-clause-stands c = search rules
