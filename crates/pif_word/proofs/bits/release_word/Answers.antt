use Rattle.std.proofs.Common.{sym}
use Rattle.pif_model_lemmas.proofs.WordBits.{release_word-hit, release_word-miss}
use Rattle.pif_word.proofs.bits.release_word.Goals as goal

pub returns-then-w-t : goal.returns-then-w-t
returns-then-w-t c = sym (release_word-hit c.args.w c.args.t c.requires c.if-w-t.true)

pub returns-else-w-t : goal.returns-else-w-t
returns-else-w-t c = sym (release_word-miss c.args.w c.args.t c.ranges.w.fits c.requires c.if-w-t.false)
