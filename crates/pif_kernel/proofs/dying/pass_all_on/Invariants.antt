use Rattle.std.proofs.Common.{◌≡◌, ℕ, true, Some, length}
use Rattle.pif_model.specs.declared.lines.Status.TheVariants.{Ended}
use Rattle.pif_model.specs.RobustList.{robust_at, walk_of, has_entry}
use Rattle.pif_model.specs.PiKernel.{seat_at, after_deaths}
use Rattle.pif_model_lemmas.specs.RobustWalks.{ahead}
use Rattle.pif_kernel_model.specs.Inside.{IsSoundInside, kernel_of}
use Rattle.pif_kernel.specs.Systems.{system_of}
use Rattle.pif_kernel.proofs.dying.pass_all_on.Given as goal

-- those that are still to pass on lead to what all lead to
abbrev pub invariant-loop-next : goal.invariant-loop-next
invariant-loop-next g l = record {
  on : (m : ℕ) → l.next ≡ Some m → has_entry (walk_of (robust_at l.lists l.t)) m ≡ true;
  after : after_deaths l.t (ahead l.next (walk_of (robust_at l.lists l.t))) (system_of l.words l.parts)
      ≡ after_deaths l.t (walk_of (robust_at l.lists l.t)) (system_of l.initial.words l.initial.parts);
  sound : IsSoundInside l.parts;
  ended : (seat_at (kernel_of l.parts) l.t).status ≡ Ended;
}

abbrev pub decreases-loop-next : goal.decreases-loop-next
decreases-loop-next g l = length (ahead l.next (walk_of (robust_at l.lists l.t)))
