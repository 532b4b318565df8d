-- A core that stands stands after a condition variable is added.
use Rattle.std.proofs.Common.{◌≡◌, ◌≤◌, true, length, ap, arith}
use Rattle.pif_types.specs.Bounds.{Bounds}
use Rattle.pif_model.specs.Table.{has_mutex}
use Rattle.pif_core.proofs.StandsAfter.{cond_stands}
use Rattle.pif_core.proofs.cores.Core.add_cond.Goals as goal

pub returns-then-conds-clause-stands : goal.returns-then-conds-clause-stands
returns-then-conds-clause-stands c = λ h r w st.
    let s = c.self.inside.parts in
    let few : length s.conds ≤ s.limits.conds =
    omega (
      arith,
      c.conds.ensures,
      c.if-conds.true,
      c.conds-2.ensures.value,
      ap (λ (l : Bounds). l.conds) c.limits.ensures.value,
    ) in
    let named : has_mutex s c.args.mutex ≡ true = cc in
    cond_stands s c.add_cond.new.self c.add_cond.result c.args.mutex c.add_cond.ensures.after
    c.add_cond.ensures.number named few h r w (rw c.self.view_is st)
