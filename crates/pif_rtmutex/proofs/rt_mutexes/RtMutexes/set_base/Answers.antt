use Rattle.std.proofs.Common.{◌≡◌, ◌∙◌, ◌≤◌, ap, sym, arith}
use Rattle.pif_nodes_model.specs.Table.{NodeLists}
use Rattle.pif_kernel_model.specs.Owners.{Task, task_at}
use Rattle.pif_kernel_model.specs.States.{Row, States, row_at, owners_in}
use Rattle.pif_kernel_model.proofs.ViewLemmas.{task_at-owners_in}
use Rattle.pif_rtmutex.proofs.RowLemmas.{seat_of, written}
use Rattle.pif_rtmutex.proofs.rt_mutexes.RtMutexes.set_base.Goals as goal

pub returns : goal.returns
returns c =
    let m : States = c.args.self.now in
    let t : NodeLists = c.args.table.now in
    let x : Row = record {
      base = c.with_base.result.base;
      local = c.with_base.result.local;
      wait = c.row.inside.wait;
    } in
    let row : x ≡ record (row_at m c.args.t) { base = c.args.prio } =
    (λ i. record {
      base = (c.with_base.ensures.changed i).base;
      local = (c.with_base.ensures.changed i).local;
      wait = c.row.inside.wait;
    })
    ∙ ap (λ (y : Row). record y { base = c.args.prio }) (c.row.view_is ∙ c.row_of-row.ensures
    ∙ ap (row_at m) c.get.ensures.value) in
    let other : x.local ≤ 99 =
    omega (
      arith,
      (c.requires.holds.waiters.sound.seats c.args.t).local,
      ap (λ (y : Task). y.local) (task_at-owners_in m t c.args.t),
      ap (λ (y : Row). y.local) row,
    ) in
    let all =
    written m c.put.new.self t c.args.t x (record (task_at (owners_in m t) c.args.t) { base = c.args.prio })
    c.put.ensures.row c.put.ensures.thread c.with_base.ensures.most other (ap (λ (y : Row). y.wait) row)
    (ap (λ (y : Task). record y { base = c.args.prio }) (task_at-owners_in m t c.args.t)
    ∙ ap (seat_of m t c.args.t) (sym row))
    c.requires.holds in
    record { changed = all.view; place = all.place; holds = all.holds }
