use Rattle.std.specs.Prelude.{flat_map, option_copied}
use Rattle.pif_text.specs.Json.{numbers}
use Rattle.pif_text_core.specs.Changes.{new_chain_line}
use Rattle.pif_text_core.specs.Pages.{Tells}
use Rattle.pif_text_core.proofs.chains.show_chains.Given as goal

abbrev pub invariant-loop-place : goal.invariant-loop-place
invariant-loop-place g l =
    Tells l.initial.page l.page (g.W.Write.contents l.initial.writer) (g.W.Write.contents l.writer)
    (flat_map (new_chain_line l.names (option_copied l.before) l.core) (numbers l.place))
