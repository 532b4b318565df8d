use Rattle.std.proofs.Common.{◌∙◌, ap, refl, arith}
use Rattle.pif_nodes_model.specs.Table.{list_at, holder}
use Rattle.pif_nodes_model.specs.Levels.{list_for}
use Rattle.pif_nodes_model.proofs.LevelLemmas.{taken, levels-taken, Holds-taken, bit_stands, some_by_first}
use Rattle.pif_runq.proofs.queue.RunQueue.take_out.Goals as goal

pub returns-then-is_none-clause-levels : goal.returns-then-is_none-clause-levels
returns-then-is_none-clause-levels c =
    let held = ap (holder c.args.table.now) c.node_for-node.ensures.node ∙ c.level_on-level.ensures.held in
    let out = taken c.args.self.now c.args.table.now c.detach.new.self c.args.t c.level_on-level.result (list_for c.args.self.now c.level_on-level.result) c.node_for-node.result
    refl c.node_for-node.ensures.node (c.detach.ensures.taken (list_for c.args.self.now c.level_on-level.result) held) in
    levels-taken c.args.self.now c.clear.new.self c.args.table.now c.detach.new.self c.args.t c.level_on-level.result
    c.requires.holds c.level_on-level.ensures c.clear.ensures.place out

pub returns-else-is_none-clause-levels : goal.returns-else-is_none-clause-levels
returns-else-is_none-clause-levels c =
    let held = ap (holder c.args.table.now) c.node_for-node.ensures.node ∙ c.level_on-level.ensures.held in
    let out = taken c.args.self.now c.args.table.now c.detach.new.self c.args.t c.level_on-level.result (list_for c.args.self.now c.level_on-level.result) c.node_for-node.result
    refl c.node_for-node.ensures.node (c.detach.ensures.taken (list_for c.args.self.now c.level_on-level.result) held) in
    levels-taken c.args.self.now c.args.self.now c.args.table.now c.detach.new.self c.args.t c.level_on-level.result
    c.requires.holds c.level_on-level.ensures refl out

pub returns-else-is_none-clause-holds : goal.returns-else-is_none-clause-holds
returns-else-is_none-clause-holds c =
    let held = ap (holder c.args.table.now) c.node_for-node.ensures.node ∙ c.level_on-level.ensures.held in
    let out = taken c.args.self.now c.args.table.now c.detach.new.self c.args.t c.level_on-level.result (list_for c.args.self.now c.level_on-level.result) c.node_for-node.result
    refl c.node_for-node.ensures.node (c.detach.ensures.taken (list_for c.args.self.now c.level_on-level.result) held) in
    Holds-taken c.args.self.now c.args.self.now c.args.table.now c.detach.new.self c.args.t c.level_on-level.result 1
    c.requires.holds c.level_on-level.ensures refl (bit_stands c.args.self.now c.args.table.now c.args.t c.level_on-level.result c.requires.holds c.level_on-level.ensures)
    out c.detach.ensures.apart
    (λ e. absurd (omega arith), λ e. absurd (some_by_first (list_at c.detach.new.self c.list_for-list.result) c.first.result c.first.ensures.end c.if-is_none.ensures (ap (list_at c.detach.new.self) c.list_for-list.ensures ∙ e)))
