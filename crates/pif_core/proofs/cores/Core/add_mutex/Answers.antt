-- A core that stands stands after a mutex is added.
use Rattle.std.proofs.Common.{◌≤◌, length, ap, arith}
use Rattle.pif_types.specs.Bounds.{Bounds}
use Rattle.pif_core.proofs.StandsAfter.{mutex_stands}
use Rattle.pif_core.proofs.cores.Core.add_mutex.Goals as goal

pub returns-then-mutexes-clause-stands : goal.returns-then-mutexes-clause-stands
returns-then-mutexes-clause-stands c = λ h r w st.
    let s = c.self.inside.parts in
    let few : length s.mutexes ≤ s.limits.mutexes =
    omega (
      arith,
      c.mutexes.ensures,
      c.if-mutexes.true,
      c.mutexes-2.ensures.value,
      ap (λ (l : Bounds). l.mutexes) c.limits.ensures.value,
    ) in
    mutex_stands s c.add_mutex.new.self c.add_mutex.result c.args.kind c.args.robust c.add_mutex.ensures.after
    c.add_mutex.ensures.number few h r w (rw c.self.view_is st)
