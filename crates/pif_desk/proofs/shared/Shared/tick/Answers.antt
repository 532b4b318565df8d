-- A log has nothing of a tick.
use Rattle.pif_desk.proofs.Journals.{exact_after_tick}
use Rattle.pif_desk.proofs.shared.Shared.tick.Goals as goal

pub returns-clause-exact : goal.returns-clause-exact
returns-clause-exact c =
    exact_after_tick c.args.time c.in_ok-seen.seen c.args.self.now.room.journal c.turn.new.self.journal
    c.in_ok-seen.ensures.turned.journal
