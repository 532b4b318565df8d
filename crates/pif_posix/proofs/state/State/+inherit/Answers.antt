use Rattle.std.proofs.Common.{◌++◌, ◌-◌, ◌∙◌, List, sym, ap, arith}
use Rattle.std.specs.List.{flat_map}
use Rattle.pif_model.specs.Posix.{World}
use Rattle.pif_posix_steps.specs.Doing.{owns_robust, robust_of, inherited, passed_on_by_death}
use Rattle.pif_posix.proofs.Inheriting.{inherited-next}
use Rattle.pif_posix.proofs.Loops.{each_done}
use Rattle.pif_posix.proofs.state.State.+inherit.Goals as goal

pub returns : goal.returns
returns t c =
    each_done (λ m. inherited (c.args.left - 1) c.args.thread (passed_on_by_death m c.args.self.now)) (owns_robust c.args.self.now c.args.thread)
    c.loop-mutex.mutex c.loop-mutex.all.items
    (c.args.all.now.items ++ flat_map (λ m. inherited (c.args.left - 1) c.args.thread (passed_on_by_death m c.args.self.now)) (robust_of c.args.self.now c.args.thread))
    (omega arith) c.loop-mutex.invariant
    ∙ ap (λ (ys : List World). c.args.all.now.items ++ ys) (sym (inherited-next c.args.left c.args.thread c.args.self.now c.if-left-eq0.false))
