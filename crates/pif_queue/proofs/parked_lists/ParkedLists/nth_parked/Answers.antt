use Rattle.std.proofs.Common.{◌≡◌, ℕ, Some, option_map, sym, ap, ◌∙◌, arith}
use Rattle.std.specs.List.{slice_get}
use Rattle.std.proofs.lemmas.Option.{slice_get-map}
use Rattle.pif_nodes_model.specs.Table.{list_at}
use Rattle.pif_kernel_model.specs.Parked.{ParkedLists, IsCond, variable_list, thread_of_node, IsParkedNode}
use Rattle.pif_queue.proofs.Places.{place-has}
use Rattle.pif_queue.proofs.parked_lists.ParkedLists.nth_parked.Goals as goal

pub thread-requires : goal.thread-requires
thread-requires c =
    let p : ParkedLists = c.args.self.now in
    let conds : c.self.inside.conds ≡ p.conds = ap (λ (q : ParkedLists). q.conds) c.self.view_is in
    let is : IsCond p c.args.c = (omega (arith, c.get.ensures), omega (arith, conds, c.get.ensures, c.if-get-self.false)) in
    let at : slice_get (list_at c.args.table.now (variable_list p c.args.c)) c.args.place ≡ Some c.in_ok-node.node
    = ap (λ (l : ℕ). slice_get (list_at c.args.table.now l) c.args.place) (sym c.list.ensures) ∙ sym c.in_ok-node.ensures in
    let node : IsParkedNode p c.args.c c.in_ok-node.node
    = c.requires.stand.others c.args.c c.in_ok-node.node is
    (place-has (list_at c.args.table.now (variable_list p c.args.c)) c.args.place c.in_ok-node.node at) in
    (omega (arith, node.node, node.is_thread), omega (arith, node.node, node.is_thread))

pub returns-clause-on : goal.returns-clause-on
returns-clause-on c is =
    let p : ParkedLists = c.args.self.now in
    c.thread.ensures
    ∙ ap (option_map (thread_of_node p)) (c.in_ok-node.ensures
    ∙ ap (λ (l : ℕ). slice_get (list_at c.args.table.now l) c.args.place) c.list.ensures)
    ∙ sym (slice_get-map (thread_of_node p) (list_at c.args.table.now (variable_list p c.args.c)) c.args.place)
