use Rattle.std.proofs.Common.{◌≡◌, ℕ, ◌-◌, ◌<◌, ◌≤◌, List, length, Some, sym, ap, ◌∙◌, arith}
use Rattle.std.proofs.lemmas.Option.{slice_get_past, slice_get_within}
use Rattle.std.specs.List.{slice_get}
use Rattle.pif_nodes_model.specs.Table.{NodeLists, list_at, IsApart}
use Rattle.pif_nodes_model.proofs.Places.{slice_get-ended, slice_get-has, next_node-place}
use Rattle.pif_runq.proofs.queue.nth_of_list.Goals as goal

pub next-next-requires : goal.next-next-requires
next-next-requires c =
    let t : NodeLists = c.args.table.now in
    let apart : IsApart t = c.first-next.ensures.apart in
    let has = slice_get-has (list_at t c.args.list) (c.args.before.now - c.loop-next.before) c.in-Some.node (sym c.loop-next.invariant.at ∙ c.in-Some.is) in
    apart.nodes c.args.list c.in-Some.node (apart.alone c.args.list c.in-Some.node has)

pub loop-next-preserved : goal.loop-next-preserved
loop-next-preserved c =
    let t : NodeLists = c.args.table.now in
    let xs : List ℕ = list_at t c.args.list in
    let k : ℕ = c.args.before.now - c.loop-next.before in
    let here : slice_get xs k ≡ Some c.in-Some.node = sym c.loop-next.invariant.at ∙ c.in-Some.is in
    let inside : k < length xs = slice_get_within xs k c.in-Some.node here in
    record {
      fewer = omega arith;
      within = omega arith;
      at = c.next-next.ensures.neighbour
          ∙ next_node-place t c.args.list k c.in-Some.node c.first-next.ensures.apart here
          ∙ ap (slice_get xs) (omega arith);
    }

-- the list has ended
ended : (c : goal.In_default) → length (list_at c.args.table.now c.args.list) ≤ c.args.before.now - c.loop-next.before
ended c = slice_get-ended (list_at c.args.table.now c.args.list) (c.args.before.now - c.loop-next.before) (sym c.loop-next.invariant.at ∙ c.in_default.is)

pub returns-clause-nth : goal.returns-clause-nth
returns-clause-nth c =
    sym (slice_get_past (list_at c.args.table.now c.args.list) c.args.before.now (omega (arith, ended c)))

pub returns-clause-fewer : goal.returns-clause-fewer
returns-clause-fewer c = omega (arith, ended c)
