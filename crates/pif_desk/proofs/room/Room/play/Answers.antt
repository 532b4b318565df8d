-- The client's log has the event as the journal has it.
use Rattle.std.proofs.Common.{◌≡◌, ◌∙◌, ◌++◌, [], ◌∷◌, ap, sym, subst, length, rules, arith}
use Rattle.pif_model.specs.declared.events.Event.{Event}
use Rattle.pif_model.specs.declared.events.Entry.TheVariants.{Step as Happened}
use Rattle.pif_desk.specs.Logs.{Log, log_of, log_after, mark_of, is_answer_of}
use Rattle.pif_desk.specs.Rooms.{ClientState, IsExact}
use Rattle.pif_desk.proofs.Journals.{act_fits, exact_on}
use Rattle.pif_desk.proofs.room.Room.play.Goals as goal

pub returns-clause-fits : goal.returns-clause-fits
returns-clause-fits c =
    act_fits c.args.act c.client.inside.t c.in_ok-seen.seen
    (ap (λ (e : Event). is_answer_of e c.in_ok-seen.seen) (sym c.event.ensures) ∙ c.in_ok-seen.ensures.fits)

pub returns-clause-exact : goal.returns-clause-exact
returns-clause-exact c = λ exact.
    let log : Log = log_of c.client.inside.calls.items c.client.inside.ended in
    let more = c.in_ok-seen.ensures.turned.journal
    ∙ ap (λ (e : Event). c.args.self.now.journal ++ Happened e c.in_ok-seen.seen ∷ []) c.event.ensures in
    let after : log_of c.note.new.calls.items c.note.new.ended
    ≡ log_after (mark_of c.args.act c.in_ok-seen.seen) (length c.args.self.now.journal) log = search (rules, arith) in
    exact_on c.client.inside.t c.args.self.now.journal c.turn.new.self.journal c.args.act c.in_ok-seen.seen log
    (log_of c.note.new.calls.items c.note.new.ended) more after
    (subst (λ (x : ClientState). IsExact x c.args.self.now.journal) (sym c.client.view_is) exact)

pub returns-clause-turned : goal.returns-clause-turned
returns-clause-turned c = search rules
