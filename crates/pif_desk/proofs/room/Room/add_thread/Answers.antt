-- The core stands after the journal with the addition.
use Rattle.std.proofs.Common.{ℕ, ap, ◌∙◌, ◌++◌, [], ◌∷◌, List}
use Rattle.pif_model.specs.declared.events.Entry.{Entry}
use Rattle.pif_model.specs.declared.events.Entry.TheVariants.{Thread as Added}
use Rattle.pif_desk.proofs.Journals.{stands_on}
use Rattle.pif_desk.proofs.room.Room.add_thread.Goals as goal

pub invariant_of-self-in-Ok : goal.invariant_of-self-in-Ok
invariant_of-self-in-Ok c =
    let entry = Added c.in-Ok.t c.args.prio in
    let more = c.write.ensures ∙ ap (λ (e : Entry). c.make_room.new.items.items ++ e ∷ []) c.thread_entry.ensures
    ∙ ap (λ (p : ℕ). c.make_room.new.items.items ++ Added c.in-Ok.t p ∷ []) c.in-Some.ensures.value
    ∙ ap (λ (j : List Entry). j ++ entry ∷ []) c.make_room.ensures.items in (
      c.self.invariant.0,
      stands_on c.self.inside.core c.add_thread.new.self c.self.inside.journal.items c.write.new.journal.items
          entry more
          c.in-Ok.ensures.stands c.self.invariant.1,
    )
