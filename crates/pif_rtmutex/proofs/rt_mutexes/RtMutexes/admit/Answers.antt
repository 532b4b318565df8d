use Rattle.std.proofs.Common.{◌≡◌, ◌∙◌, ◌≤◌, ap, sym, None, arith}
use Rattle.pif_nodes_model.specs.Table.{NodeLists}
use Rattle.pif_kernel_model.specs.States.{Row, States, wait_of}
use Rattle.pif_kernel_model.proofs.ViewLemmas.{waits_on-owners_in}
use Rattle.pif_rtmutex.specs.Priorities.{ThreadPriorities}
use Rattle.pif_rtmutex.proofs.RowLemmas.{seat_of, written}
use Rattle.pif_rtmutex.proofs.rt_mutexes.RtMutexes.admit.Goals as goal

pub returns : goal.returns
returns c =
    let m : States = c.args.self.now in
    let t : NodeLists = c.args.table.now in
    let x : Row = record { base = c.of.result.base; local = c.of.result.local; wait = None } in
    let row : x ≡ record { base = c.args.prio; local = c.args.prio; wait = None } =
    λ i. record { base = (c.of.ensures.both i).base; local = (c.of.ensures.both i).local; wait = None } in
    let local : x.local ≤ 99 =
    omega (
      arith,
      c.of.ensures.most,
      ap (λ (y : ThreadPriorities). y.base) c.of.ensures.both,
      ap (λ (y : ThreadPriorities). y.local) c.of.ensures.both,
    ) in
    let free : wait_of m c.args.t ≡ None = sym (waits_on-owners_in m t c.args.t) ∙ c.requires.free in
    let all =
    written m c.put.new.self t c.args.t x (record { base = c.args.prio; local = c.args.prio; wait = None })
    c.put.ensures.row c.put.ensures.thread c.of.ensures.most local (sym free) (ap (seat_of m t c.args.t) (sym row))
    c.requires.holds in
    record { admitted = all.view; place = all.place; holds = all.holds }
