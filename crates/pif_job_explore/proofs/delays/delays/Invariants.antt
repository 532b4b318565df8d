use Rattle.std.proofs.Common.{◌≡◌, ◌<◌, length, take, true}
use Rattle.pif_explore_model.specs.Exploring.{Steps}
use Rattle.pif_explore_model.specs.Forgetting.{AreSameSoFar}
use Rattle.pif_explore_model.specs.Situations.{Situation}
use Rattle.pif_reach.specs.Spaces.{IsWhole}
use Rattle.pif_job_explore.specs.Delays.{AreHeld}
use Rattle.pif_job_explore.proofs.delays.delays.Given as goal

abbrev pub invariant-loop-thread : goal.invariant-loop-thread
invariant-loop-thread l =
    (start : Situation)
    → (0 < length l.threads → l.explored.is_whole ≡ true → IsWhole (Steps l.plan) AreSameSoFar start l.explored.nodes.items)
    → AreHeld l.plan start l.explored.nodes.items (take l.thread-index l.threads) l.all.items
