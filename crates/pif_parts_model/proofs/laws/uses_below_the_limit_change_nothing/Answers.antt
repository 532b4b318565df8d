use Rattle.std.proofs.Common.{sym}
use Rattle.pif_parts_model.proofs.FewUses.{shown_but_for_uses, same_but_for_uses_back, go_on_but_for_uses}
use Rattle.pif_parts_model.proofs.laws.uses_below_the_limit_change_nothing.Goals as goal

pub returns-clause-states : goal.returns-clause-states
returns-clause-states c = λ l s n lines e below below_too. (
  shown_but_for_uses l s n lines e below below_too,
  shown_but_for_uses l n s lines (same_but_for_uses_back s n e) below_too below,
)

pub returns-clause-histories : goal.returns-clause-histories
returns-clause-histories c = λ l before others later q r e below below_too legal legal_too. (
  go_on_but_for_uses l before others later q r e below below_too legal_too,
  go_on_but_for_uses l others before later r q (sym e) below_too below legal,
)
