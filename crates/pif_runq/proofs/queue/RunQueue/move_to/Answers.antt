use Rattle.std.proofs.Common.{◌≢◌, ◌∙◌, ap, arith}
use Rattle.pif_nodes_model.specs.Levels.{IsLevel, level_after_add}
use Rattle.pif_nodes_model.proofs.LevelLemmas.{moved-away, moved-nowhere}
use Rattle.pif_runq.proofs.queue.RunQueue.move_to.Goals as goal

pub returns-then-level_on-get-clause-levels : goal.returns-then-level_on-get-clause-levels
returns-then-level_on-get-clause-levels c = λ p lp.
    let to : IsLevel c.args.prio = (omega arith, omega arith) in
    let left : c.level_on.result ≢ c.args.prio = λ e. omega (arith, e) in
    c.add.ensures.levels p lp ∙ ap (level_after_add c.args.t c.args.prio p) (c.take_out.ensures.levels p lp)
    ∙ moved-away c.args.self.now c.args.table.now c.args.t c.level_on.result c.args.prio p
    c.requires.holds c.level_on.ensures left to

pub returns-else-level_on-get-clause-levels : goal.returns-else-level_on-get-clause-levels
returns-else-level_on-get-clause-levels c = λ p lp.
    moved-nowhere c.args.self.now c.args.table.now c.args.t c.level_on.result c.args.prio p
    c.requires.holds c.level_on.ensures (omega arith) lp
