use Rattle.std.proofs.Common.{ℕ, ◌-◌, List, sym, ap, ◌∙◌, arith}
use Rattle.std.specs.List.{slice_get}
use Rattle.pif_nodes_model.specs.Lists.{has}
use Rattle.pif_nodes_model.specs.Table.{NodeLists, list_at}
use Rattle.pif_nodes_model.specs.Levels.{Queue, all_below}
use Rattle.pif_nodes_model.proofs.Places.{slice_get-has, all_below-found, all_below-passed, all_below-none}
use Rattle.pif_runq.proofs.queue.RunQueue.nth.Goals as goal

pub thread_for-requires : goal.thread_for-requires
thread_for-requires c =
    let t : NodeLists = c.args.table.now in
    let list : ℕ = c.list_for-list.result in
    let listed = slice_get-has (list_at t list) c.loop-above.before c.in-Some.node (sym c.in-Some.ensures.nth) in
    c.requires.threads (99 - c.loop-above.above) c.in-Some.node (omega arith, omega arith) (ap (λ (l : ℕ). has c.in-Some.node (list_at t l)) (sym c.list_for-list.ensures) ∙ listed)

pub returns-in-Some : goal.returns-in-Some
returns-in-Some c =
    c.thread_for.ensures
    ∙ sym (c.loop-above.invariant ∙ all_below-found c.args.self.now c.args.table.now c.loop-above.above c.list_for-list.result c.loop-above.before c.loop-above-test.true c.list_for-list.ensures c.in-Some.node c.in-Some.ensures.nth)

pub loop-above-preserved : goal.loop-above-preserved
loop-above-preserved c =
    c.loop-above.invariant
    ∙ all_below-passed c.args.self.now c.args.table.now c.loop-above.above c.list_for-list.result c.loop-above.before c.loop-above-test.true c.list_for-list.ensures c.nth_of_list.new.before c.in_default.ensures.fewer

pub returns : goal.returns
returns c =
    let q : Queue = c.args.self.now in
    let t : NodeLists = c.args.table.now in
    sym (c.loop-above.invariant
    ∙ ap (λ (n : ℕ). slice_get (all_below q t n) c.loop-above.before) (omega arith)
    ∙ ap (λ (us : List ℕ). slice_get us c.loop-above.before) (all_below-none q t))
