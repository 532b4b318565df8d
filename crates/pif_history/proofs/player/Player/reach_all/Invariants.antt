use Rattle.std.proofs.Common.{take, reverse}
use Rattle.pif_history_model.proofs.Judging.{labels_of}
use Rattle.pif_history.specs.Played.{IsPlayed}
use Rattle.pif_history.proofs.player.Player.reach_all.Given as goal

abbrev pub invariant-loop-place : goal.invariant-loop-place
invariant-loop-place g l = IsPlayed l.machine.rules l.machine.limits (labels_of (reverse (take l.place l.lines))) l.self
