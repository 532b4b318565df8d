use Rattle.pif_model_lemmas.proofs.WordBits.{word_of-inherit}
use Rattle.pif_word.proofs.bits.inherit_word.Goals as goal

pub returns : goal.returns
returns c = word_of-inherit c.args.u c.requires
