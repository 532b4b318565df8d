use Rattle.std.proofs.Common.{◌≡◌, ap, unwrap_or}
use Rattle.pif_rtmutex.specs.Priorities.{ThreadPriorities}
use Rattle.pif_rtmutex.proofs.PrioLemmas.{prio-given, prio-value, prio-most}
use Rattle.pif_rtmutex.proofs.priorities.ThreadPriorities.base.Goals as goal

pub returns : goal.returns
returns c =
    let number : unwrap_or c.self.inside.base 0 ≡ c.args.self.base = ap (λ (x : ThreadPriorities). x.base) c.self.view_is in
    record {
      number = number;
      given = prio-given c.self.inside.base _ c.self.invariant.0 number;
      value = prio-value c.self.inside.base _ number;
      most = prio-most c.self.inside.base _ c.self.invariant.0 number;
    }
