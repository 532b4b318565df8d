use Rattle.std.proofs.Common.{◌≡◌, ◌+◌, ◌*◌, ◌++◌}
use Rattle.pif_desk.specs.Settling.{answered_calls}
use Rattle.pif_job_drive.specs.Driving.{pairs, requests_of}
use Rattle.pif_job_drive.proofs.drives.make_calls.Given as goal

abbrev pub invariant-loop-round : goal.invariant-loop-round
invariant-loop-round g l = record {
  answered : answered_calls l.client.log ≡ answered_calls l.fn.client.log + 2 * l._round;
  requests : requests_of l.client.log ≡ pairs l._round l.mutex ++ requests_of l.fn.client.log;
}
