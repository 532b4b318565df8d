use Rattle.std.proofs.Common.{◌≡◌, ◌+◌, None, sym, ap, ◌∙◌, arith}
use Rattle.std.specs.List.{slice_get}
use Rattle.pif_nodes_model.specs.Table.{NodeLists, list_at}
use Rattle.pif_queue.proofs.Places.{place-has, place-next, place-ended}
use Rattle.pif_queue.proofs.parked_lists.nth.Goals as goal

pub next-requires : goal.next-requires
next-requires c =
    let t : NodeLists = c.args.table.now in
    let apart = c.in_ok-node.ensures.apart in
    apart.nodes c.args.list c.loop.node
    (apart.alone c.args.list c.loop.node
    (place-has (list_at t c.args.list) c.loop.counter c.loop.node c.loop.invariant))

pub returns-in_err-node-2 : goal.returns-in_err-node-2
returns-in_err-node-2 c =
    let t : NodeLists = c.args.table.now in
    let ended : slice_get (list_at t c.args.list) (c.loop.counter + 1) ≡ None
    = ap (slice_get (list_at t c.args.list)) (omega arith)
    ∙ sym (c.in_err-node-2.ensures.neighbour
    ∙ place-next t c.args.list c.loop.counter c.loop.node c.in_ok-node.ensures.apart c.loop.invariant) in
    c.from_residual-in_err-node-2.ensures
    ∙ sym (place-ended (list_at t c.args.list) (c.loop.counter + 1) c.args.place ended (omega arith))

pub loop-preserved : goal.loop-preserved
loop-preserved c =
    let t : NodeLists = c.args.table.now in
    ap (slice_get (list_at t c.args.list)) (omega arith)
    ∙ sym (c.in_ok-node-2.ensures.neighbour
    ∙ place-next t c.args.list c.loop.counter c.loop.node c.in_ok-node.ensures.apart c.loop.invariant)
