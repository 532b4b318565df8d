use Rattle.std.proofs.Common.{refl}
use Rattle.std.proofs.lemmas.Result.{on_ok_weaker}
use Rattle.pif_history_told.proofs.Pieces.{mutex_appended}
use Rattle.pif_history_told.proofs.state_objects.append_mutex.Goals as goal

pub returns : goal.returns
returns c =
    on_ok_weaker c.append_object.result
    (λ e.
    mutex_appended c.args.state.now c.args.mutex c.args.out.now.items c.append_object.new.out.items c.args.mutex c.owner.result
    c.holds.result c.health.result.now refl c.owner.ensures c.holds.ensures c.health.ensures e)
    c.append_object.ensures
