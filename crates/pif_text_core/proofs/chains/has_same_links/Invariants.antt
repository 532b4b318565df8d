use Rattle.std.proofs.Common.{◌≡◌, ◌-◌}
use Rattle.pif_model.specs.Calls.{threads_answer}
use Rattle.pif_text_core.specs.Changes.{links_stay}
use Rattle.pif_text_core.proofs.chains.has_same_links.Given as goal

abbrev pub invariant-loop-place : goal.invariant-loop-place
invariant-loop-place l =
    links_stay (threads_answer l.core) l.before l.core l.fn.first
    ≡ links_stay (threads_answer l.core - l.place) l.before l.core l.next
