-- The open call names a mutex that opens no cycle.
use Rattle.std.proofs.Common.{◌≡◌, ◌∙◌, Some, ap, sym}
use Rattle.pif_model.specs.Posix.{Call, thread_at}
use Rattle.pif_posix.specs.Shapes.{call_of, progress_of}
use Rattle.pif_c.proofs.InPlace.{closes_no_cycle}
use Rattle.pif_c.proofs.kept.closes_none.Goals as goal

pub returns-in-Some : goal.returns-in-Some
returns-in-Some c =
    let x : Call = record { request = c.in-Some.call.request; progress = progress_of c.in-Some.call.progress } in
    let is : (thread_at c.args.state.now c.args.thread).call ≡ Some x = sym c.call.ensures ∙ ap call_of c.in-Some.is in
    λ e. closes_no_cycle c.args.thread c.args.state.now x c.named_by.result is c.named_by.ensures (sym c.opens_no_cycle.ensures ∙ e)
