use Rattle.std.proofs.Common.{◌≡◌, take}
use Rattle.pif_choose.specs.Standstills.{IsChain, end_of}
use Rattle.pif_choose.proofs.standing.chain.Given as goal

abbrev pub invariant-loop-place : goal.invariant-loop-place
invariant-loop-place l = record {
  chain : IsChain l.standings l.first (take l.place l.room);
  leads : end_of l.first (take l.place l.room) ≡ l.at;
}
