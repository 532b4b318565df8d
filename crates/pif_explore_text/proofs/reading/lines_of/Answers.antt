use Rattle.std.proofs.Common.{◌==◌, rules, tests}
use Rattle.std.proofs.lemmas.Iterator.Consumers.{map_from_collect}
use Rattle.std.proofs.lemmas.Iterator.Splits.{YieldsList-from_slice_split}
use Rattle.pif_script_model.specs.Lines.{lines}
use Rattle.pif_explore_text.proofs.reading.lines_of.Goals as goal

pub returns : goal.returns
unfolding lines
returns c = map_from_collect _ c.collect.ensures.ran (YieldsList-from_slice_split _ (λ byte. byte == 10) c.args.text.now c.split.ensures.rest c.split.ensures.done c.split.ensures.closure (λ x r q k. search (rules, tests)))
