use Rattle.std.proofs.Common.{refl}
use Rattle.pif_history_text.specs.Lines.{line_of_words}
use Rattle.pif_history_text.proofs.SplitLemmas.{too_many}
use Rattle.pif_history_text.proofs.lines.of_named.Goals as goal

pub returns-in_default : goal.returns-in_default
unfolding line_of_words
returns-in_default c = rw (c.split_first.ensures, c.in_default.is) c.of_two.ensures

pub returns-in-None : goal.returns-in-None
unfolding line_of_words
returns-in-None c = rw (c.split_first.ensures, c.in-Some.is, c.split_first-2.ensures, c.in-None.is) c.of_three.ensures

pub returns-in-Some-rest : goal.returns-in-Some-rest
returns-in-Some-rest c =
    rw (c.split_first.ensures, c.in-Some.is, c.split_first-2.ensures, c.in-Some-rest.is, too_many) refl
