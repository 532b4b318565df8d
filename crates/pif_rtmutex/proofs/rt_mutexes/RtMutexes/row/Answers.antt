use Rattle.std.proofs.Common.{◌∙◌, ap, sym, Some}
use Rattle.pif_rtmutex.specs.Fields.{State}
use Rattle.pif_rtmutex.proofs.ReadLemmas.{row-below}
use Rattle.pif_rtmutex.proofs.rt_mutexes.RtMutexes.row.Goals as goal

pub returns : goal.returns
returns c =
    let row = c.state.ensures.row ∙ ap (λ (x : State). Some x.row) (sym c.result.view_is) in
    record {
      value = row;
      below = row-below c.args.self.now c.args.table.now c.args.key c.result.inside.row c.requires.holds.waiters row;
      alone = λ other e.
          c.requires.holds.waiters.alone other c.args.key c.result.inside.row e row;
    }
