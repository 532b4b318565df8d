use Rattle.std.proofs.lemmas.List.{take_all, take_more}
use Rattle.std.proofs.Common.{sym}
use Rattle.pif_text_core.proofs.TellingLemmas.{nothing, same, then}
use Rattle.pif_text_core.proofs.pages.Page.bytes.Goals as goal

pub loop-byte-init : goal.loop-byte-init
loop-byte-init g c = nothing _ _

pub loop-byte-preserved : goal.loop-byte-preserved
loop-byte-preserved g c =
    same (sym (take_more c.args.bytes.now c.loop-byte.byte-index 0 c.loop-byte-test.true))
    (then c.loop-byte.invariant c.byte.ensures)

pub returns : goal.returns
returns g c = same (take_all c.loop-byte.byte-index c.args.bytes.now c.loop-byte-test.false) c.loop-byte.invariant
