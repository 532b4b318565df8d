use Rattle.std.proofs.Common.{◌∙◌, refl, ap}
use Rattle.pif_types.specs.declared.requests.Request.{Request}
use Rattle.pif_model.specs.Posix.{with_progress}
use Rattle.pif_model.specs.NamedNumbers.{ETIMEDOUT}
use Rattle.pif_model.specs.World.Progress.{Has, Reacquiring}
use Rattle.pif_posix_steps.specs.Doing.{expired_by}
use Rattle.pif_posix_steps.specs.Doing.Does.{did_not}
use Rattle.pif_posix_steps.proofs.DoingCases.{did_this}
use Rattle.pif_posix.proofs.state.State.expire.Goals as goal

pub returns-in-Lock : goal.returns-in-Lock
returns-in-Lock c =
    did_this (expired_by c.args.request.now c.args.thread c.args.self.now)
    (ap (λ (q : Request). expired_by q c.args.thread c.args.self.now) c.in-Lock.is)
    (c.fail.ensures ∙ ap (with_progress c.args.thread (Has ETIMEDOUT)) c.drop_waiter.ensures)

pub returns-in-Wait : goal.returns-in-Wait
returns-in-Wait c =
    did_this (expired_by c.args.request.now c.args.thread c.args.self.now)
    (ap (λ (q : Request). expired_by q c.args.thread c.args.self.now) c.in-Wait.is)
    (c.set_progress.ensures ∙ ap (with_progress c.args.thread Reacquiring) c.run_out.ensures)

pub returns-in-TryLock : goal.returns-in-TryLock
returns-in-TryLock c = did_not (ap (λ (q : Request). expired_by q c.args.thread c.args.self.now) c.in-TryLock.is) refl

pub returns-in-Unlock : goal.returns-in-Unlock
returns-in-Unlock c = did_not (ap (λ (q : Request). expired_by q c.args.thread c.args.self.now) c.in-Unlock.is) refl

pub returns-in-Consistent : goal.returns-in-Consistent
returns-in-Consistent c = did_not (ap (λ (q : Request). expired_by q c.args.thread c.args.self.now) c.in-Consistent.is) refl

pub returns-in-Signal : goal.returns-in-Signal
returns-in-Signal c = did_not (ap (λ (q : Request). expired_by q c.args.thread c.args.self.now) c.in-Signal.is) refl

pub returns-in-Broadcast : goal.returns-in-Broadcast
returns-in-Broadcast c = did_not (ap (λ (q : Request). expired_by q c.args.thread c.args.self.now) c.in-Broadcast.is) refl

pub returns-in-SetPrio : goal.returns-in-SetPrio
returns-in-SetPrio c = did_not (ap (λ (q : Request). expired_by q c.args.thread c.args.self.now) c.in-SetPrio.is) refl

pub returns-in-TimedLock : goal.returns-in-TimedLock
returns-in-TimedLock c = did_not (ap (λ (q : Request). expired_by q c.args.thread c.args.self.now) c.in-TimedLock.is) refl

pub returns-in-TimedWait : goal.returns-in-TimedWait
returns-in-TimedWait c = did_not (ap (λ (q : Request). expired_by q c.args.thread c.args.self.now) c.in-TimedWait.is) refl
