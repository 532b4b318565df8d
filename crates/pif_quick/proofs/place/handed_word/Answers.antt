use Rattle.std.proofs.Common.{sym, ap, ◌∙◌, arith}
use Rattle.pif_model_lemmas.proofs.WordBits.{word_of-number}
use Rattle.pif_quick.specs.Rule.{handed_to}
use Rattle.pif_quick.proofs.place.handed_word.Goals as goal

pub returns-in-None : goal.returns-in-None
returns-in-None c = word_of-number 0 (omega arith) ∙ ap handed_to (sym c.in-None.is)
