use Rattle.std.proofs.Common.{◌≡◌, ℕ, Option, sym, ap, if◌then◌else◌}
use Rattle.std.specs.Prelude.{unwrap_or}
use Rattle.pif_nodes_model.specs.Levels.{level_of, level_after_move}
use Rattle.pif_kernel_model.proofs.Walks.{not_queued}
use Rattle.pif_plain.proofs.chain_walk.repair.Goals as goal

pub returns-in_default-clause-levels : goal.returns-in_default-clause-levels
returns-in_default-clause-levels c = λ p lp.
    let none : unwrap_or c.args.priority 0 ≡ 0 = ap (λ (o : Option ℕ). unwrap_or o 0) c.in_default.is in
    sym (ap (λ b. if b then level_after_move c.args.t (unwrap_or c.args.priority 0) p
    (level_of c.args.queue.now c.args.table.now p) else level_of c.args.queue.now c.args.table.now p)
    (not_queued c.args.queue.now c.args.table.now c.args.t (unwrap_or c.args.priority 0) c.requires.holds
    c.requires.ready none))
