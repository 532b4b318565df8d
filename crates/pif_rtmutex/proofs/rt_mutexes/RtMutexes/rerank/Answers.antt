use Rattle.std.proofs.Common.{◌≡◌, ◌∙◌, ap, sym, refl, subst, inr, ℕ, Option, Some, arith}
use Rattle.std.proofs.lemmas.Option.{same_Some}
use Rattle.pif_nodes_model.specs.declared.keys.Key.{Key}
use Rattle.pif_nodes_model.specs.Table.{NodeLists, key_at, holder}
use Rattle.pif_nodes_model.specs.Order.{key_with_prio}
use Rattle.pif_kernel_model.specs.States.{States, IsThread, IsOwnList, wait_node, top_node, top_list}
use Rattle.pif_kernel_model.specs.Holds.{IsToppedBut, IsRankedTop}
use Rattle.pif_kernel_model.specs.Frames.{ChangesList, ChangesTops}
use Rattle.pif_kernel_model.proofs.ListChanges.{changes-rekeyed, changes-as, key-rekeyed, tops-changed}
use Rattle.pif_rtmutex.proofs.TopLemmas.{tops-same, tops-rekeyed}
use Rattle.pif_rtmutex.proofs.rt_mutexes.RtMutexes.rerank.Goals as goal

pub wait_node-requires : goal.wait_node-requires
wait_node-requires c = (c.requires.but.thread c.in-Some.t c.in-Some.is).1

pub key-prio-requires : goal.key-prio-requires
key-prio-requires c =
    omega (arith, c.requires.but.thread c.in-Some.t c.in-Some.is, c.wait_node.ensures.node, c.requires.waiters.nodes)

pub top_node-node-requires : goal.top_node-node-requires
top_node-node-requires c = (c.requires.but.thread c.in-Some.t c.in-Some.is).1

pub returns-then-key-prio-clause-tops : goal.returns-then-key-prio-clause-tops
returns-then-key-prio-clause-tops c =
    let m : States = c.args.self.now in
    let t : NodeLists = c.args.table.now in
    let now : NodeLists = c.rekey.new.table in
    let u : ℕ = c.in-Some.t in
    let o : ℕ = c.args.owner in
    let i : IsThread m o = c.requires.waiters.owned c.args.key o c.requires.owner in
    let j : IsThread m u = c.requires.but.thread u c.in-Some.is in
    let key : Key = key_with_prio t c.top_node-node.result c.key-prio.result.prio in
    let changes : ChangesList (top_list m o) (top_node m u) t now =
    changes-as t now c.tops.result c.top_node-node.result (top_list m o)
    (top_node m u) c.tops.ensures.list c.top_node-node.ensures.node
    (changes-rekeyed t now c.tops.result c.top_node-node.result c.requires.waiters.apart c.rekey.ensures.apart
    c.rekey.ensures.sorted
    c.rekey.ensures.others key c.rekey.ensures.moved c.rekey.ensures.holders) in
    let held : holder t (top_node m u) ≡ Some (top_list m o) =
    c.requires.but.topped.stands o u (inr (refl, c.in-Some.is)) in
    let own : (l : ℕ) → holder t (top_node m u) ≡ Some l → IsOwnList m l =
    λ l e. let same : top_list m o ≡ l =
    same_Some (top_list m o) l (sym held ∙ e) in (omega (arith, same), omega (arith, same, i)) in
    let frame : ChangesTops m t now = tops-changed m t now o u c.requires.waiters i j own changes in
    let got : key_at now c.top_node-node.result ≡ key =
    key-rekeyed t now c.tops.result c.top_node-node.result key
    (omega (arith, c.top_node-node.ensures.node, j, c.requires.waiters.nodes)) c.rekey.ensures.moved in
    let waits : key_at now (wait_node m u) ≡ c.key-prio.result =
    changes.keys (wait_node m u) (λ e. absurd (omega (arith, j, e))) ∙ ap (key_at t) (sym c.wait_node.ensures.node)
    ∙ sym c.key-prio.ensures in
    let rank : IsRankedTop m now u =
    ap (λ (x : Key). x.prio) (ap (key_at now) (sym c.top_node-node.ensures.node) ∙ got)
    ∙ ap (λ (x : Key). x.prio) (sym waits) in
    tops-rekeyed m t now c.args.key o u c.requires.waiters i j changes frame c.requires.owner (c.requires.first
    ∙ c.in-Some.is) c.rekey.ensures.holders rank
    (subst (λ (x : Option ℕ). IsToppedBut m t c.args.key o x) c.in-Some.is c.requires.but)

pub returns-else-key-prio-clause-tops : goal.returns-else-key-prio-clause-tops
returns-else-key-prio-clause-tops c =
    let m : States = c.args.self.now in
    let t : NodeLists = c.args.table.now in
    let u : ℕ = c.in-Some.t in
    let same : c.key.result.prio ≡ c.key-prio.result.prio = omega arith in
    let rank : IsRankedTop m t u =
    ap (λ (x : Key). x.prio) (ap (key_at t) (sym c.top_node-node.ensures.node) ∙ sym c.key.ensures) ∙ same
    ∙ ap (λ (x : Key). x.prio) (c.key-prio.ensures ∙ ap (key_at t) c.wait_node.ensures.node) in
    tops-same m t c.args.key c.args.owner c.args.first c.requires.owner c.requires.first
    (λ w e. subst (IsRankedTop m t) (same_Some u w (sym c.in-Some.is ∙ e)) rank) c.requires.but
