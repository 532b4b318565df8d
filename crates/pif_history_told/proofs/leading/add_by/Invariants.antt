use Rattle.std.proofs.Common.{◌≡◌, ◌++◌, map}
use Rattle.pif_history_told.proofs.leading.add_by.Given as goal

abbrev pub invariant-loop-position : goal.invariant-loop-position
invariant-loop-position c =
    c.found.items ≡ c.initial.found.items ++ map (λ n. record { by = c.by; position = n }) c.yielded
