use Rattle.std.proofs.Common.{◌≡◌, ap, unwrap_or}
use Rattle.pif_rtmutex.specs.Priorities.{ThreadPriorities}
use Rattle.pif_rtmutex.proofs.PrioLemmas.{prio-given, prio-value, prio-most}
use Rattle.pif_rtmutex.proofs.priorities.ThreadPriorities.local.Goals as goal

pub returns : goal.returns
returns c =
    let number : unwrap_or c.self.inside.local 0 ≡ c.args.self.local = ap (λ (x : ThreadPriorities). x.local) c.self.view_is in
    record {
      given = prio-given c.self.inside.local _ c.self.invariant.1 number;
      value = prio-value c.self.inside.local _ number;
      most = prio-most c.self.inside.local _ c.self.invariant.1 number;
    }
