-- A core that stands stands after a thread is added.
use Rattle.std.proofs.Common.{◌≤◌, length, ap, arith}
use Rattle.pif_types.specs.Bounds.{Bounds}
use Rattle.pif_core.proofs.StandsAfter.{from_some, thread_stands}
use Rattle.pif_core.proofs.cores.Core.add_thread.Goals as goal

pub returns-then-threads-clause-stands : goal.returns-then-threads-clause-stands
returns-then-threads-clause-stands c = λ h r w st.
    let s = c.self.inside.parts in
    let few : length s.lines ≤ s.limits.threads =
    omega (
      arith,
      c.threads.ensures.lines,
      c.if-threads.true,
      c.threads-2.ensures.value,
      ap (λ (l : Bounds). l.threads) c.limits.ensures.value,
    ) in
    let base = from_some c.new.result c.in_ok-prio.prio c.args.prio c.new.ensures.value c.in_ok-prio.ensures.ok_part in
    thread_stands s c.add_thread.new.self c.add_thread.result c.args.prio c.in_ok-prio.prio c.add_thread.ensures.after
    c.add_thread.ensures.number base few (rw (← c.get-level.ensures.value) c.get-level.ensures.low)
    (rw (← c.get-level.ensures.value) c.get-level.ensures.high) h r w (rw c.self.view_is st)
