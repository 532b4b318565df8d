use Rattle.std.proofs.Common.{◌∙◌, sym, arith}
use Rattle.pif_history_machine.proofs.Waking.{calls_at_next, refuted_at}
use Rattle.pif_history_machine.proofs.wakeups.first_unwoken.Goals as goal

pub returns-then-is_refuted : goal.returns-then-is_refuted
returns-then-is_refuted c =
    refuted_at c.args.lines.now c.loop-place.place c.index-lines-place.result _
    (omega (arith, c.loop-place-test.true)) (sym c.index-lines-place.is)
    (sym c.is_refuted.ensures ∙ c.if-is_refuted.true) (rw c.as_slice.ensures.value c.loop-place.invariant)

pub loop-place-preserved : goal.loop-place-preserved
loop-place-preserved c =
    let k = c.in_ok-hear.ensures c.if-not-branch.false in
    calls_at_next c.args.lines.now c.loop-place.place c.index-lines-place.result c.loop-place.calls.items
    c.hear.new.calls.items
    (omega (arith, c.loop-place-test.true)) (sym c.index-lines-place.is) k.0 k.1 c.loop-place.invariant
