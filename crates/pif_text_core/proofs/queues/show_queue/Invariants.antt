use Rattle.std.proofs.Common.{map, take}
use Rattle.pif_text_core.specs.Waiting.{all_in}
use Rattle.pif_text_core.specs.Pages.{Tells}
use Rattle.pif_text_core.specs.Texts.{listed, person_text}
use Rattle.pif_text_core.proofs.queues.show_queue.Given as goal

abbrev pub invariant-loop-place : goal.invariant-loop-place
invariant-loop-place g l =
    Tells l.initial.page l.page (g.W.Write.contents l.initial.writer) (g.W.Write.contents l.writer)
    (listed l.head (map (person_text l.names) (take l.place (all_in l.order l.core))))
