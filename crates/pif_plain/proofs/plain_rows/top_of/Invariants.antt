use Rattle.std.proofs.Common.{◌≡◌, take}
use Rattle.pif_kernel_model.specs.Takings.{first_parked}
use Rattle.pif_kernel_model.proofs.NextParked.{pairs_in}
use Rattle.pif_plain.proofs.plain_rows.top_of.Given as goal

-- it is the first of those that were gone through
abbrev pub invariant-loop-parking : goal.invariant-loop-parking
invariant-loop-parking g l =
    l.top ≡ first_parked (g.P.Priorities.priority_of l.priorities) (pairs_in (take l.parking-index l.list)) l.c
