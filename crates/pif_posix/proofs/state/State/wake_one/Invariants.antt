use Rattle.std.proofs.Common.{◌≡◌, take, map}
use Rattle.std.specs.Prelude.{nat_le}
use Rattle.std.specs.List.{filter, list_all}
use Rattle.pif_model.specs.Posix.{effective_of}
use Rattle.pif_posix_steps.specs.Doing.{woken}
use Rattle.pif_posix.proofs.state.State.wake_one.Given as goal

abbrev pub invariant-loop-i : goal.invariant-loop-i
invariant-loop-i l =
    l.all.items ≡ map (λ u. woken l.thread u l.self) (filter (λ u. list_all (λ p. nat_le p (effective_of l.self u)) l.left) (take l.i l.blocked))
