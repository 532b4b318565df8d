use Rattle.pif_history_machine.proofs.Places.{no_row_yet, one_row_more, whole_table}
use Rattle.pif_history_machine.proofs.overs.table.Goals as goal

pub loop-thread-init : goal.loop-thread-init
loop-thread-init c = rw c.new-rows.ensures.items (no_row_yet c.args.lines.now)

pub loop-thread-preserved : goal.loop-thread-preserved
loop-thread-preserved c =
    one_row_more c.args.lines.now c.loop-thread.rows.items _ c.in_ok-row.row c.loop-thread.thread c.in_ok-push.ensures c.in_ok-row.ensures
    c.loop-thread.invariant

pub returns : goal.returns
returns c = whole_table c.args.lines.now c.loop-thread.rows.items _ c.loop-thread.invariant
