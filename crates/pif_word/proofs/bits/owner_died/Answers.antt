use Rattle.pif_model_lemmas.proofs.WordBits.{died-is}
use Rattle.pif_word.proofs.bits.owner_died.Goals as goal

pub returns : goal.returns
returns c = died-is c.args.w
