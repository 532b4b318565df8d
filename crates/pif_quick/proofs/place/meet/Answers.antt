-- Each of the two comparisons tells which of two records is the older one.
use Rattle.std.proofs.Common.{rules}
use Rattle.pif_quick.proofs.place.meet.Goals as goal

pub returns-clause-agree : goal.returns-clause-agree
returns-clause-agree c = search rules
