use Rattle.std.proofs.Common.{◌≡◌, take, map}
use Rattle.pif_posix_steps.specs.Doing.{woken}
use Rattle.pif_posix.proofs.wakes.each_woken.Given as goal

abbrev pub invariant-loop-i : goal.invariant-loop-i
invariant-loop-i l = l.all.items ≡ map (λ u. woken l.thread u l.state) (take l.i l.blocked)
