-- Those of the walk that aren't ahead any more are held once.
use Rattle.std.proofs.Common.{◌≡◌, ℕ, true, Some, length}
use Rattle.pif_model.specs.RobustList.{robust_at, walk_of, has_entry}
use Rattle.pif_model_lemmas.specs.RobustWalks.{ahead}
use Rattle.pif_mutex.proofs.EndedCounts.{AreHeldOnce}
use Rattle.pif_mutex.proofs.state.State.reset_counts.Given as goal

abbrev pub invariant-loop-next : goal.invariant-loop-next
invariant-loop-next g l = record {
  on : (m : ℕ) → l.next ≡ Some m → has_entry (walk_of (robust_at l.initial.self.lists l.t)) m ≡ true;
  held : AreHeldOnce l.t (ahead l.next (walk_of (robust_at l.initial.self.lists l.t)))
      (walk_of (robust_at l.initial.self.lists l.t)) l.initial.self l.self;
}

abbrev pub decreases-loop-next : goal.decreases-loop-next
decreases-loop-next g l = length (ahead l.next (walk_of (robust_at l.initial.self.lists l.t)))
