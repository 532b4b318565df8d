use Rattle.pif_model_lemmas.proofs.WordBits.{word_of-or_waiters}
use Rattle.pif_word.proofs.bits.mark_word.Goals as goal

pub returns : goal.returns
returns c = word_of-or_waiters c.args.w c.ranges.w.fits
