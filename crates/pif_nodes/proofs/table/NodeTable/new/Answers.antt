use Rattle.std.proofs.Common.{rules, ◌≡◌, sym, subst, replicate}
use Rattle.pif_nodes_model.specs.Table.{IsApart}
use Rattle.pif_nodes.specs.Links.{free_slot, empty_ends}
use Rattle.pif_nodes.proofs.SeenLemmas.{Ties-shown, apart_shown}
use Rattle.pif_nodes.proofs.WriteLemmas.{Shows-new}
use Rattle.pif_nodes.proofs.table.NodeTable.new.Goals as goal

pub invariant_of-result : goal.invariant_of-result
invariant_of-result c =
    let nodes : c.in_ok-nodes.nodes.items ≡ replicate c.args.nodes free_slot = search rules in
    let ends : c.in_ok-ends.ends.items ≡ replicate c.args.lists empty_ends = search rules in
    Ties-shown _ _ _ (Shows-new c.args.nodes c.args.lists nodes ends)

pub returns-clause-made : goal.returns-clause-made
returns-clause-made c =
    let nodes : c.in_ok-nodes.nodes.items ≡ replicate c.args.nodes free_slot = search rules in
    let ends : c.in_ok-ends.ends.items ≡ replicate c.args.lists empty_ends = search rules in
    (Shows-new c.args.nodes c.args.lists nodes ends).view

pub returns-clause-apart : goal.returns-clause-apart
returns-clause-apart c =
    let nodes : c.in_ok-nodes.nodes.items ≡ replicate c.args.nodes free_slot = search rules in
    let ends : c.in_ok-ends.ends.items ≡ replicate c.args.lists empty_ends = search rules in
    let shows = Shows-new c.args.nodes c.args.lists nodes ends in
    subst IsApart (sym shows.view) (apart_shown _ _ _ shows)
