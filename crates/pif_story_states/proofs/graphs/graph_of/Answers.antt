use Rattle.pif_story_states.proofs.CoreLemmas.{graph_same}
use Rattle.pif_story_states.proofs.graphs.graph_of.Goals as goal

pub returns : goal.returns
returns g c = λ numbered same.
    rw (c.in_ok-append_graph.ensures, c.new-text.ensures.items)
    (graph_same c.in_ok-core.core numbered c.args.rows.now c.in_ok-core.ensures same)
