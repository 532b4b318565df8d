use Rattle.std.proofs.Common.{take}
use Rattle.std.specs.List.{All}
use Rattle.pif_desk.specs.Rooms.{IsExact}
use Rattle.pif_desk.proofs.settle.first_differing.Given as goal

abbrev pub invariant-loop-client : goal.invariant-loop-client
invariant-loop-client l = All (λ c. IsExact c l.journal) (take l.client-index l.clients)
