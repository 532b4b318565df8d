use Rattle.pif_model_lemmas.proofs.WordBits.{word_of-hand}
use Rattle.pif_word.proofs.bits.hand_word.Goals as goal

pub returns : goal.returns
returns c = word_of-hand c.args.u c.requires
