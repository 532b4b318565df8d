use Rattle.std.proofs.Common.{◌≡◌, ◌∙◌, ap, sym, refl, subst, ℕ, Some, None, arith}
use Rattle.pif_nodes_model.specs.Table.{NodeLists, holder}
use Rattle.pif_kernel_model.specs.States.{States, IsThread, IsOwnList, top_node, top_list}
use Rattle.std.proofs.Common.{inr, Option}
use Rattle.std.proofs.lemmas.Option.{same_Some}
use Rattle.pif_kernel_model.specs.Holds.{IsToppedBut}
use Rattle.pif_kernel_model.specs.Frames.{ChangesList, ChangesTops}
use Rattle.pif_kernel_model.proofs.ListChanges.{changes-removed, changes-as, in-no_list, tops-changed}
use Rattle.pif_rtmutex.proofs.TopLemmas.{but-taken, but_nobody}
use Rattle.pif_rtmutex.proofs.rt_mutexes.RtMutexes.take_top.Goals as goal

pub returns-in-Some : goal.returns-in-Some
returns-in-Some c =
    let m : States = c.args.self.now in
    let t : NodeLists = c.args.table.now in
    let u : ℕ = c.in-Some.t in
    let j : IsThread m u = c.requires.but.thread u c.in-Some.is in
    let held : holder t (top_node m u) ≡ Some (top_list m c.args.owner) =
    c.requires.but.topped.stands c.args.owner u (inr (refl, c.in-Some.is)) in
    let changes : ChangesList (top_list m c.args.owner) (top_node m u) t c.remove.new.table =
    changes-as t c.remove.new.table c.tops.result c.top_node-node.result (top_list m c.args.owner)
    (top_node m u) c.tops.ensures.list c.top_node-node.ensures.node
    (changes-removed t c.remove.new.table c.tops.result c.top_node-node.result c.remove.ensures.before
    c.remove.ensures.apart c.remove.ensures.sorted c.remove.ensures.others
    c.remove.ensures.taken c.remove.ensures.holders) in
    let own : (l : ℕ) → holder t (top_node m u) ≡ Some l → IsOwnList m l =
    λ l e. let same : top_list m c.args.owner ≡ l =
    same_Some (top_list m c.args.owner) l (sym held
    ∙ e) in (omega (arith, same), omega (arith, same, c.requires.owner)) in
    let frame : ChangesTops m t c.remove.new.table =
    tops-changed m t c.remove.new.table c.args.owner u c.requires.waiters c.requires.owner j own changes in
    let out : holder c.remove.new.table (top_node m u) ≡ None =
    ap (holder c.remove.new.table) (sym c.top_node-node.ensures.node)
    ∙ in-no_list t c.remove.new.table c.top_node-node.result c.remove.ensures.holders in
    record {
      changes = frame;
      but = λ p. but_nobody m c.remove.new.table c.args.key c.args.owner p
          (but-taken m t c.remove.new.table c.args.key c.args.owner u c.requires.waiters c.requires.owner j changes frame
          out (subst (λ (o : Option ℕ). IsToppedBut m t c.args.key c.args.owner o) c.in-Some.is c.requires.but));
    }

pub returns-in_default-clause-but : goal.returns-in_default-clause-but
returns-in_default-clause-but c = λ p.
    but_nobody c.args.self.now c.args.table.now c.args.key c.args.owner p
    (subst (IsToppedBut c.args.self.now c.args.table.now c.args.key c.args.owner) c.in_default.is c.requires.but)
