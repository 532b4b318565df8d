use Rattle.std.proofs.Common.{take}
use Rattle.pif_text_core.specs.Pages.{Tells}
use Rattle.pif_text_core.proofs.pages.Page.bytes.Given as goal

abbrev pub invariant-loop-byte : goal.invariant-loop-byte
invariant-loop-byte g l =
    Tells l.initial.self l.self (g.W.Write.contents l.initial.writer) (g.W.Write.contents l.writer)
    (take l.byte-index l.bytes)
