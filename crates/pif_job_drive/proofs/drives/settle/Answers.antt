-- The clients were served, and the book is theirs.
use Rattle.std.proofs.Common.{List, length, sym, subst}
use Rattle.pif_model.specs.declared.events.Entry.{Entry}
use Rattle.pif_job_drive.specs.Driving.{IsDriven}
use Rattle.pif_job_drive.proofs.Driving.{driven}
use Rattle.pif_job_drive.proofs.drives.settle.Goals as goal

pub returns-in-Ok : goal.returns-in-Ok
returns-in-Ok c =
    subst (λ (j : List Entry). IsDriven (length c.args.clients.items) j c.in-Ok.book.answered)
    (sym c.in-Ok.ensures.entries)
    (driven c.args.clients.items c.args.room.journal c.in-Ok.book.answered c.in-Ok.ensures.settled
    c.in-Ok.ensures.one_each c.in-Ok.ensures.sum c.requires)
