use Rattle.std.proofs.Common.{◌≡◌, drop}
use Rattle.pif_parts.specs.Calls.{call_in}
use Rattle.pif_parts.proofs.calls.call_in.Given as goal

abbrev pub invariant-loop-place : goal.invariant-loop-place
invariant-loop-place l = call_in l.calls l.thread ≡ call_in (drop l.place l.calls) l.thread
