use Rattle.std.proofs.Common.{◌<◌, ◌==◌, length, sym, ◌∙◌, arith}
use Rattle.pif_text_model.specs.Calls.{calls, row_of}
use Rattle.pif_text_model.proofs.Finding.{find_behind}
use Rattle.pif_text_model.proofs.calls.CallKind.numbered.Goals as goal

pub loop-call-preserved : goal.loop-call-preserved
loop-call-preserved c =
    let at = c.loop-call-test.true in
    let within : c.loop-call.call-index < length calls = omega (arith, at) in
    c.loop-call.invariant
    ∙ find_behind (λ k. c.args.number == (row_of k).number) calls c.loop-call.call-index _ within
    (sym c.has_number.ensures ∙ c.if-has_number.false)
