use Rattle.std.proofs.Common.{◌≡◌, drop, bytes_eq}
use Rattle.std.specs.Prelude.{find}
use Rattle.pif_text_model.specs.Calls.{call_named, calls, row_of}
use Rattle.pif_text_model.proofs.calls.CallKind.named.Given as goal

abbrev pub invariant-loop-call : goal.invariant-loop-call
invariant-loop-call l =
    call_named l.name ≡ find (λ k. bytes_eq l.name (row_of k).name) (drop l.call-index calls)
