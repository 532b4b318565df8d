use Rattle.pif_kernel_model.proofs.NewSound.{keys_made}
use Rattle.pif_plain.proofs.RowLemmas.{none_parked}
use Rattle.pif_plain.proofs.plain_rows.Rows.new.Goals as goal

pub invariant_of-result : goal.invariant_of-result
invariant_of-result c = none_parked _ _ c.in_ok-parked.ensures.items

pub returns-clause-keys : goal.returns-clause-keys
returns-clause-keys c = keys_made _ c.in_ok-keys.ensures
