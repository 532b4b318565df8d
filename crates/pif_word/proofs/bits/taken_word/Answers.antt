use Rattle.pif_model_lemmas.proofs.WordBits.{word_of-taken}
use Rattle.pif_word.proofs.bits.taken_word.Goals as goal

pub returns : goal.returns
returns c = word_of-taken c.args.w c.args.t c.requires
