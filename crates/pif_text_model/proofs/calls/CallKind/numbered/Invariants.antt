use Rattle.std.proofs.Common.{◌≡◌, ◌==◌, drop}
use Rattle.std.specs.Prelude.{find}
use Rattle.pif_text_model.specs.Calls.{call_numbered, calls, row_of}
use Rattle.pif_text_model.proofs.calls.CallKind.numbered.Given as goal

abbrev pub invariant-loop-call : goal.invariant-loop-call
invariant-loop-call l =
    call_numbered l.number ≡ find (λ k. l.number == (row_of k).number) (drop l.call-index calls)
