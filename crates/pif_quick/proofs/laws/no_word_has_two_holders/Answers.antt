use Rattle.pif_quick.proofs.Turning.{one_holds}
use Rattle.pif_quick.proofs.laws.no_word_has_two_holders.Goals as goal

pub returns : goal.returns
returns g c = λ starts s r. one_holds starts s r
