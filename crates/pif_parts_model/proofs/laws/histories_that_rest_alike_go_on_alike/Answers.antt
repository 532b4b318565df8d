use Rattle.std.proofs.Common.{sym}
use Rattle.pif_parts_model.proofs.Judging.{go_on_alike}
use Rattle.pif_parts_model.proofs.laws.histories_that_rest_alike_go_on_alike.Goals as goal

pub returns : goal.returns
returns c = λ l before others later q r same legal legal_too. (
  go_on_alike l before others later q r same legal_too,
  go_on_alike l others before later r q (sym same) legal,
)
