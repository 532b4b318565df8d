use Rattle.pif_model_lemmas.proofs.WordBits.{waiters-is}
use Rattle.pif_word.proofs.bits.has_waiters.Goals as goal

pub returns : goal.returns
returns c = waiters-is c.args.w
