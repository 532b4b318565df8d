use Rattle.std.proofs.Common.{◌∙◌, ◌≤◌, ap, sym, None, arith}
use Rattle.pif_rtmutex.specs.Priorities.{ThreadPriorities}
use Rattle.pif_kernel_model.specs.Owners.{with_task}
use Rattle.pif_kernel_model.proofs.OwnersLemmas.{sound-priorities, free-wait}
use Rattle.pif_plain_rtmutex.proofs.rt_mutexes.RtMutexes.admit.Goals as goal

pub put-requires : goal.put-requires
put-requires c = λ one s.
    let local : c.of.result.local ≤ 99 =
    omega (
      arith,
      c.of.ensures.most,
      ap (λ (y : ThreadPriorities). y.base) c.of.ensures.both,
      ap (λ (y : ThreadPriorities). y.local) c.of.ensures.both,
    ) in
    sound-priorities c.args.t (record { base = c.of.result.base; local = c.of.result.local; wait = None }) c.args.self.now
    c.of.ensures.most local (sym (free-wait c.args.self.now c.args.t c.requires.free)) one s

pub returns-clause-admitted : goal.returns-clause-admitted
returns-clause-admitted c =
    c.put.ensures.put
    ∙ ap (λ (y : ThreadPriorities). with_task c.args.t (record { base = y.base; local = y.local; wait = None }) c.args.self.now)
    c.of.ensures.both
