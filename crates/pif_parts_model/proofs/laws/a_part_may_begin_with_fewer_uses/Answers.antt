use Rattle.pif_parts_model.proofs.FewUses.{part_is_legal, part_is_illegal}
use Rattle.pif_parts_model.proofs.laws.a_part_may_begin_with_fewer_uses.Goals as goal

pub returns-clause-legal : goal.returns-clause-legal
returns-clause-legal c = λ l before first second x legal y. part_is_legal l before first second x legal y

pub returns-clause-illegal : goal.returns-clause-illegal
returns-clause-illegal c = λ l before first second n x some legal y. part_is_illegal l before first second x n some legal y
