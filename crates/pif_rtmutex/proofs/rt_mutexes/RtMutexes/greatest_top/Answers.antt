use Rattle.std.proofs.Common.{◌≡◌, ◌∙◌, ap, sym, ℕ, unwrap_or}
use Rattle.pif_nodes_model.specs.Table.{list_at}
use Rattle.pif_nodes_model.specs.declared.keys.Key.{Key}
use Rattle.pif_nodes_model.specs.Lists.{first_of}
use Rattle.pif_kernel_model.specs.States.{top_list}
use Rattle.pif_nodes_model.proofs.ListLemmas.{first_of-has}
use Rattle.std.proofs.Common.{Option}
use Rattle.pif_rtmutex.proofs.ReadLemmas.{greatest-none, prio-made}
use Rattle.pif_rtmutex.proofs.rt_mutexes.RtMutexes.greatest_top.Goals as goal

pub returns-in_err-node : goal.returns-in_err-node
returns-in_err-node c =
    let first : c.top.result ≡ first_of (list_at c.args.table.now (top_list c.args.self.now c.args.t)) =
    c.top.ensures.first ∙ ap (λ l. first_of (list_at c.args.table.now l)) c.tops.ensures.list in
    ap (λ (o : Option ℕ). unwrap_or o 0) c.from_residual.ensures
    ∙ sym (greatest-none c.args.self.now c.args.table.now c.args.t c.requires.holds
    (c.tops.ensures.thread, c.requires.row) (sym first ∙ c.in_err-node.was))

pub key-requires : goal.key-requires
key-requires c =
    let first : c.top.result ≡ first_of (list_at c.args.table.now (top_list c.args.self.now c.args.t)) =
    c.top.ensures.first ∙ ap (λ l. first_of (list_at c.args.table.now l)) c.tops.ensures.list in
    let apart = c.requires.holds.waiters.apart in
    apart.nodes (top_list c.args.self.now c.args.t) c.in_ok-node.node
    (apart.alone (top_list c.args.self.now c.args.t) c.in_ok-node.node
    (first_of-has (list_at c.args.table.now (top_list c.args.self.now c.args.t)) c.in_ok-node.node (sym first
    ∙ c.in_ok-node.was)))

pub returns : goal.returns
returns c =
    let first : c.top.result ≡ first_of (list_at c.args.table.now (top_list c.args.self.now c.args.t)) =
    c.top.ensures.first ∙ ap (λ l. first_of (list_at c.args.table.now l)) c.tops.ensures.list in
    prio-made c.new.result c.args.self.now c.args.table.now c.args.t c.in_ok-node.node c.key.result.prio
    c.requires.holds (c.tops.ensures.thread, c.requires.row)
    (sym first ∙ c.in_ok-node.was) (ap (λ (x : Key). x.prio) c.key.ensures) c.new.ensures.valid c.new.ensures.value
