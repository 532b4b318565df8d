use Rattle.std.proofs.Common.{◌≡◌, ℕ, ◌-◌, List, ◌++◌}
use Rattle.pif_model.specs.Calls.{threads_answer}
use Rattle.pif_text_core.specs.Pages.{Tells}
use Rattle.pif_text_core.specs.Texts.{links_text}
use Rattle.pif_text_core.proofs.chains.show_links.Given as goal

abbrev pub invariant-loop-place : goal.invariant-loop-place
invariant-loop-place g l =
    (text : List ℕ) × (links_text l.names (threads_answer l.core) l.core l.fn.first
    ≡ text ++ links_text l.names (threads_answer l.core - l.place) l.core l.next)
    × Tells l.initial.page l.page (g.W.Write.contents l.initial.writer) (g.W.Write.contents l.writer) text
