use Rattle.std.proofs.Common.{◌≡◌, false, take}
use Rattle.std.specs.List.{All}
use Rattle.pif_desk.specs.Settling.{is_stranger}
use Rattle.pif_desk.proofs.settle.first_stranger.Given as goal

abbrev pub invariant-loop-client : goal.invariant-loop-client
invariant-loop-client l = All (λ c. is_stranger l.clients l.journal c ≡ false) (take l.client-index l.clients)
