use Rattle.std.proofs.Common.{◌<◌, length, arith}
use Rattle.std.proofs.lemmas.List.{take_rest}
use Rattle.pif_script_model.proofs.LinesLemmas.{split_at_end}
use Rattle.pif_story.proofs.lines.split_line.Goals as goal

pub returns-then-end-text-clause-split : goal.returns-then-end-text-clause-split
returns-then-end-text-clause-split c =
    let text = c.args.text.now in
    let end = c.first_of-end.result in
    let lt : end < length text = omega arith in
    rw take_rest (split_at_end text end lt (c.first_of-end.ensures.found lt) c.first_of-end.ensures.before)
