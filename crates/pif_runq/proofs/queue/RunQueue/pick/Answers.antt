use Rattle.std.proofs.Common.{rules, ◌≡◌, ◌∙◌, ap, sym, Some}
use Rattle.pif_nodes_model.specs.Lists.{first_of}
use Rattle.pif_nodes_model.specs.Table.{list_at}
use Rattle.pif_nodes_model.specs.Levels.{list_for}
use Rattle.pif_nodes_model.specs.Masks.{IsGreatestBit}
use Rattle.pif_nodes_model.proofs.LevelLemmas.{first_node-thread, IsFirstOfGreatest-found}
use Rattle.pif_runq.proofs.queue.RunQueue.pick.Goals as goal

pub thread_for-requires : goal.thread_for-requires
thread_for-requires c =
    let greatest : IsGreatestBit c.args.self.now.mask c.in_ok-level.level = rw c.in_ok-level.was at c.greatest.ensures.greatest in
    let first : first_of (list_at c.args.table.now (list_for c.args.self.now c.in_ok-level.level)) ≡ Some c.in_ok-node.node =
    ap (λ l. first_of (list_at c.args.table.now l)) (sym c.list_for-list.ensures) ∙ (search rules) in
    first_node-thread c.args.self.now c.args.table.now c.in_ok-level.level c.in_ok-node.node c.requires.holds greatest first

pub returns-clause-first : goal.returns-clause-first
returns-clause-first c =
    let greatest : IsGreatestBit c.args.self.now.mask c.in_ok-level.level = rw c.in_ok-level.was at c.greatest.ensures.greatest in
    let first : first_of (list_at c.args.table.now (list_for c.args.self.now c.in_ok-level.level)) ≡ Some c.in_ok-node.node =
    ap (λ l. first_of (list_at c.args.table.now l)) (sym c.list_for-list.ensures) ∙ (search rules) in
    rw c.thread_for.ensures (IsFirstOfGreatest-found c.args.self.now c.args.table.now c.in_ok-level.level c.in_ok-node.node c.requires.holds greatest first)
