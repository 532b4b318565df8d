-- One client more was served.
use Rattle.std.proofs.Common.{ℕ, length, sym, ap, subst, arith}
use Rattle.std.specs.List.{All}
use Rattle.std.proofs.lemmas.List.{length_push}
use Rattle.std.proofs.lemmas.List.Elements.{All-push}
use Rattle.pif_desk.specs.Rooms.{ClientState}
use Rattle.pif_job_drive.specs.Driving.{IsServed}
use Rattle.pif_job_drive.proofs.drives.gather.Goals as goal

abbrev HasServed : ClientState → Type 0
HasServed c = (m : ℕ) × IsServed m c.log

pub loop-ending-preserved : goal.loop-ending-preserved
loop-ending-preserved c =
    let items = c.in_ok-push-in-Served.ensures.items in
    let client = c.in-Served.field-0.client in
    let long = ap length items in
    record {
      len = omega (
        arith,
        long,
        c.loop-ending.invariant.len,
        length_push c.loop-ending.clients.items client,
        length_push c.loop-ending.yielded c.in-Some.ending,
      );
      served = subst (All HasServed) (sym items)
          (All-push HasServed c.loop-ending.clients.items client c.loop-ending.invariant.served
          (c.in-Served.field-0.mutex, c.in-Served.field-0.served));
    }
