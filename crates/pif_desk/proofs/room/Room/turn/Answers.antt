-- The core stands after the journal with the event.
use Rattle.std.proofs.Common.{◌≡◌, ap, ◌∙◌, ◌++◌, [], ◌∷◌, List}
use Rattle.pif_model.specs.declared.events.Entry.{Entry}
use Rattle.pif_model.specs.declared.events.Entry.TheVariants.{Step as Happened}
use Rattle.pif_desk.proofs.Journals.{stands_on, answer_fits}
use Rattle.pif_desk.proofs.room.Room.turn.Goals as goal

-- the journal's room was made without a change of it
more : (c : goal.After-step) → c.step.new.journal.items
    ≡ c.self.inside.journal.items ++ Happened c.args.event c.step.result ∷ []
more c =
    c.step.ensures.journal
    ∙ ap (λ (j : List Entry). j ++ Happened c.args.event c.step.result ∷ []) c.make_room.ensures.items

pub invariant_of-self-2 : goal.invariant_of-self-2
invariant_of-self-2 c = (
  c.self.invariant.0,
  stands_on c.self.inside.core c.step.new.core c.self.inside.journal.items c.step.new.journal.items
      (Happened c.args.event c.step.result) (more c) c.step.ensures.stands c.self.invariant.1,
)

pub returns-clause-fits : goal.returns-clause-fits
returns-clause-fits c =
    answer_fits c.step.new.core c.self.inside.journal.items c.step.new.journal.items c.args.event c.step.result (more c)
    (invariant_of-self-2 c).1
