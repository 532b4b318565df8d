-- A wait that is due expires; one that isn't goes on, and is told whether it has expired.
use Rattle.std.proofs.Common.{sym, ap, ◌∙◌, if◌then◌else◌}
use Rattle.pif_model.specs.declared.events.Seen.{Seen}
use Rattle.pif_model.specs.declared.lines.Timer.{Timer}
use Rattle.pif_model.specs.PiKernel.{is_woken_again}
use Rattle.pif_model.specs.Table.{status_at}
use Rattle.pif_model.specs.Lines.{own_exchange, lock_queued, reported_outcome}
use Rattle.pif_cond.proofs.Stepping.{due_unready, due_goes, undue_goes}
use Rattle.pif_cond.proofs.wait.wait_stay_parked.Goals as goal

pub wait_expire-requires-clause-unready : goal.wait_expire-requires-clause-unready
wait_expire-requires-clause-unready g c =
    due_unready c.args.request c.args.m c.args.t c.args.state.now c.requires.is
    (sym c.is_due_at.ensures ∙ c.if-is_due_at.true)

pub returns-then-is_due_at : goal.returns-then-is_due_at
returns-then-is_due_at g c =
    c.wait_expire.ensures
    ∙ sym (due_goes c.args.request c.args.m c.args.t c.args.state.now c.requires.is
    (sym c.is_due_at.ensures ∙ c.if-is_due_at.true))

pub returns-else-is_due_at : goal.returns-else-is_due_at
returns-else-is_due_at g c =
    ap (λ (x : Seen). record { seen = x; after = c.wait_parked-progress.new.state }) c.reported.ensures
    ∙ ap (reported_outcome c.args.request c.timer-expired.result.expired) c.wait_parked-progress.ensures
    ∙ ap (λ (x : Timer). reported_outcome c.args.request x.expired
    (if is_woken_again (status_at c.args.state.now c.args.t)
    then own_exchange c.args.request c.args.t c.args.m c.args.state.now
    else lock_queued c.args.request c.args.t c.args.m c.args.state.now)) c.timer-expired.ensures
    ∙ sym (undue_goes c.args.request c.args.m c.args.t c.args.state.now c.requires.is
    (sym c.is_due_at.ensures ∙ c.if-is_due_at.false))
