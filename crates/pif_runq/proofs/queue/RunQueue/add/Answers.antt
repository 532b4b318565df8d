use Rattle.std.proofs.Common.{◌≡◌, ◌∙◌, ℕ, ap, subst, arith}
use Rattle.std.proofs.lemmas.Grind.{common_steps}
use Rattle.pif_nodes_model.specs.Table.{list_at}
use Rattle.pif_nodes_model.proofs.ListLemmas.{last_of-has}
use Rattle.pif_nodes_model.specs.Levels.{IsLevel, list_for}
use Rattle.pif_nodes_model.specs.Masks.{ChangesBit}
use Rattle.pif_nodes_model.proofs.LevelLemmas.{appended, levels-joined, Holds-joined}
use Rattle.pif_runq.proofs.queue.RunQueue.add.Goals as goal

pub attach_after-requires-clause-place : goal.attach_after-requires-clause-place
attach_after-requires-clause-place c = λ m h.
    c.requires.holds.apart.alone c.list_for-list.result m
    (last_of-has (list_at c.args.table.now c.list_for-list.result) m (grind (arith, common_steps)))

pub returns-clause-levels : goal.returns-clause-levels
returns-clause-levels c =
    let is_level : IsLevel c.args.prio = (omega arith, omega arith) in
    let list : c.list_for-list.result ≡ list_for c.args.self.now c.args.prio = c.list_for-list.ensures ∙ ap (list_for c.args.self.now) c.get-level.ensures.value in
    let put = appended c.args.self.now c.args.table.now c.attach_after.new.self c.args.t c.args.prio c.list_for-list.result c.node_for-node.result c.last-last.result
    c.requires.holds list c.last-last.ensures.end c.node_for-node.ensures.node c.attach_after.ensures.put in
    levels-joined c.args.self.now c.fill.new.self c.args.table.now c.attach_after.new.self c.args.t c.args.prio
    c.requires.holds is_level c.node_for-node.ensures.thread c.fill.ensures.place put

pub returns-clause-holds : goal.returns-clause-holds
returns-clause-holds c =
    let is_level : IsLevel c.args.prio = (omega arith, omega arith) in
    let list : c.list_for-list.result ≡ list_for c.args.self.now c.args.prio = c.list_for-list.ensures ∙ ap (list_for c.args.self.now) c.get-level.ensures.value in
    let put = appended c.args.self.now c.args.table.now c.attach_after.new.self c.args.t c.args.prio c.list_for-list.result c.node_for-node.result c.last-last.result
    c.requires.holds list c.last-last.ensures.end c.node_for-node.ensures.node c.attach_after.ensures.put in
    Holds-joined c.args.self.now c.fill.new.self c.args.table.now c.attach_after.new.self c.args.t c.args.prio
    c.requires.holds is_level c.node_for-node.ensures.thread c.requires.thread c.fill.ensures.place
    (subst (λ (k : ℕ). ChangesBit c.args.self.now.mask c.fill.new.self.mask k 1) c.get-level.ensures.value c.fill.ensures.bit) put c.attach_after.ensures.apart
