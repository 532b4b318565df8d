use Rattle.std.proofs.Common.{◌≡◌, ◌+◌, ◌-◌, ap, subst, arith}
use Rattle.pif_nodes_model.specs.Levels.{Queue, IsOnLevel}
use Rattle.pif_nodes_model.proofs.LevelLemmas.{queued_on, level_found, holder_some}
use Rattle.pif_runq.proofs.queue.RunQueue.level_on.Goals as goal

pub node_for-node-requires : goal.node_for-node-requires
node_for-node-requires c = (queued_on c.args.self.now c.args.table.now c.args.t c.requires.holds c.requires.queued).within

pub list_of-requires : goal.list_of-requires
list_of-requires c =
    let stands = queued_on c.args.self.now c.args.table.now c.args.t c.requires.holds c.requires.queued in
    omega (arith, stands.within, stands.some, c.requires.holds.nodes)

pub unwrap-list-requires : goal.unwrap-list-requires
unwrap-list-requires c =
    holder_some c.args.self.now c.args.table.now c.args.t c.node_for-node.result c.list_of.result c.requires.holds c.requires.queued c.node_for-node.ensures.node c.list_of.ensures.holder

pub overflow_sub-result : goal.overflow_sub-result
overflow_sub-result c =
    let found = level_found c.args.self.now c.args.table.now c.args.t c.unwrap-list.result c.node_for-node.result c.list_of.result
    c.requires.holds c.requires.queued c.node_for-node.ensures.node c.list_of.ensures.holder c.unwrap-list.ensures in
    omega (arith, found.0, c.get.ensures, ap (λ (q : Queue). q.first_list) c.self.view_is)

pub overflow_add-result : goal.overflow_add-result
overflow_add-result c =
    let found = level_found c.args.self.now c.args.table.now c.args.t c.unwrap-list.result c.node_for-node.result c.list_of.result
    c.requires.holds c.requires.queued c.node_for-node.ensures.node c.list_of.ensures.holder c.unwrap-list.ensures in
    record { fits = omega (arith, found.1.is_level, c.get.ensures, ap (λ (q : Queue). q.first_list) c.self.view_is) }

pub returns : goal.returns
returns c =
    let found = level_found c.args.self.now c.args.table.now c.args.t c.unwrap-list.result c.node_for-node.result c.list_of.result
    c.requires.holds c.requires.queued c.node_for-node.ensures.node c.list_of.ensures.holder c.unwrap-list.ensures in
    let same : c.unwrap-list.result - c.args.self.now.first_list + 1 ≡ c.get.result - c.self.inside.first_list + 1 =
    omega (arith, c.get.ensures, ap (λ (q : Queue). q.first_list) c.self.view_is) in
    subst (IsOnLevel c.args.self.now c.args.table.now c.args.t) same found.1
