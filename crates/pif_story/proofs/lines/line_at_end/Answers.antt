use Rattle.pif_script_model.proofs.LinesLemmas.{lines_counted}
use Rattle.pif_story.proofs.lines.line_at_end.Goals as goal

pub returns : goal.returns
returns c =
    lines_counted c.args.text.now c.loop-byte.byte-index c.loop-byte.number c.loop-byte.invariant c.loop-byte-test.false
