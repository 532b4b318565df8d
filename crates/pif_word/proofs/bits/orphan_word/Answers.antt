use Rattle.pif_model_lemmas.proofs.WordBits.{word_of-orphan}
use Rattle.pif_word.proofs.bits.orphan_word.Goals as goal

pub returns : goal.returns
returns c = word_of-orphan c.args.w
