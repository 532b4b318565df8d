use Rattle.std.proofs.Common.{sym}
use Rattle.pif_model_lemmas.proofs.WordBits.{take_word-hit, take_word-miss}
use Rattle.pif_word.proofs.bits.take_word.Goals as goal

pub returns-then-w-eq0 : goal.returns-then-w-eq0
returns-then-w-eq0 c = sym (take_word-hit c.args.w c.args.t c.requires c.if-w-eq0.true)

pub returns-else-w-eq0 : goal.returns-else-w-eq0
returns-else-w-eq0 c = sym (take_word-miss c.args.w c.args.t c.ranges.w.fits c.if-w-eq0.false)
