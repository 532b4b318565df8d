-- A wait that has expired is told so.
use Rattle.std.proofs.Common.{sym, ap, ◌∙◌}
use Rattle.pif_model.specs.declared.events.Seen.{Seen}
use Rattle.pif_model.specs.declared.lines.Timer.{Timer}
use Rattle.pif_model.specs.Lines.{locking_line, reported_outcome}
use Rattle.pif_mutex.proofs.Locking.{wait_goes}
use Rattle.pif_mutex.proofs.state.State.wait_step.Goals as goal

pub returns : goal.returns
returns g c =
    ap (λ (x : Seen). record { seen = x; after = c.locking_step-progress.new.self }) c.reported.ensures
    ∙ ap (reported_outcome c.args.request c.timer-expired.result.expired) c.locking_step-progress.ensures
    ∙ ap (λ (x : Timer). reported_outcome c.args.request x.expired
    (locking_line c.args.request c.args.place c.args.t c.args.m c.args.self.now)) c.timer-expired.ensures
    ∙ sym (wait_goes c.args.request c.args.place c.args.t c.args.m c.args.self.now c.requires.is c.requires.mutexes)
