use Rattle.std.proofs.Common.{◌≡◌}
use Rattle.std.specs.Prelude.{filter}
use Rattle.pif_text.specs.Json.{numbers}
use Rattle.pif_text_core.specs.Waiting.{has}
use Rattle.pif_text_core.specs.Pages.{Tells}
use Rattle.pif_text_core.specs.Texts.{held_text}
use Rattle.pif_text_core.proofs.ListLemmas.{is_nil}
use Rattle.pif_text_core.proofs.threads.show_held.Given as goal

abbrev pub invariant-loop-place : goal.invariant-loop-place
invariant-loop-place g l =
    Tells l.initial.page l.page (g.W.Write.contents l.initial.writer) (g.W.Write.contents l.writer) (held_text l.thread l.core l.place)
    × (l.is_first ≡ is_nil (filter (has l.thread l.core) (numbers l.place)))
