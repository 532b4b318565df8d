use Rattle.std.proofs.Common.{◌≡◌, ◌∙◌, ap, sym, refl, subst, ℕ, Some, IsSome}
use Rattle.std.specs.FinMap.{get}
use Rattle.pif_nodes_model.specs.Table.{NodeLists}
use Rattle.pif_kernel_model.proofs.MapLemmas.{get-insert_same}
use Rattle.pif_kernel_model.specs.States.{States, first_waiter}
use Rattle.pif_kernel_model.specs.Holds.{IsToppedBut}
use Rattle.pif_kernel_model.proofs.ViewLemmas.{waits_on-owners_in}
use Rattle.pif_rtmutex.specs.Fields.{State}
use Rattle.pif_rtmutex.proofs.ReadLemmas.{waited-first, first-top}
use Rattle.pif_rtmutex.proofs.StepLemmas.{done, still_free, still_thread, still_stored, handed-first}
use Rattle.pif_rtmutex.proofs.TopLemmas.{first-thread}
use Rattle.pif_rtmutex.proofs.rt_mutexes.RtMutexes.hand_over.Goals as goal

pub unwrap-next-requires : goal.unwrap-next-requires
unwrap-next-requires c =
    let m : States = c.args.self.now in
    let t : NodeLists = c.args.table.now in
    let first =
    waited-first m t c.requires.waiter.0 c.args.key c.requires.holds.waiters
    (sym (waits_on-owners_in m t c.requires.waiter.0) ∙ c.requires.waiter.1) in
    subst IsSome (sym (c.first_in.ensures ∙ first.1)) refl

pub take_waiter-requires : goal.take_waiter-requires
take_waiter-requires c =
    let m : States = c.args.self.now in
    let t : NodeLists = c.args.table.now in
    let top : first_waiter m t c.args.key ≡ Some c.unwrap-next.result = sym c.first_in.ensures ∙ c.unwrap-next.ensures in
    record {
      holds = c.requires.holds;
      state = c.state-state.ensures;
      queued = (first-top m t c.args.key c.unwrap-next.result c.requires.holds.waiters top).waits;
    }

pub set_owner-requires : goal.set_owner-requires
set_owner-requires c =
    (still_stored c.args.self.now c.take_waiter.new.self c.args.table.now c.take_waiter.new.table c.args.key
    c.state-state.result.owner c.unwrap-next.result _ c.take_waiter.ensures.step refl c.state-state.result
    c.state-state.ensures).row

pub retop-requires : goal.retop-requires
retop-requires c =
    let m : States = c.args.self.now in
    let n : States = c.take_waiter.new.self in
    let then : States = c.set_owner.new.self in
    let t : NodeLists = c.args.table.now in
    let now : NodeLists = c.take_waiter.new.table in
    let k : ℕ = c.args.key in
    let u : ℕ = c.unwrap-next.result in
    let s : State = c.state-state.result in
    let top : first_waiter m t k ≡ Some u = sym c.first_in.ensures ∙ c.unwrap-next.ensures in
    let step =
    handed-first m n then t now k u s c.requires.holds c.state-state.ensures top c.take_waiter.ensures.step
    c.set_owner.ensures in
    record {
      waiters = step.waiters;
      row = ap (λ (x : States). get x.places k) step.frame ∙ c.state-state.ensures.row;
      to = ap (λ (x : States). get x.owners k) c.set_owner.ensures ∙ get-insert_same n.owners k u k refl;
      owner = still_thread m then t now k s.owner u _ step s.owner
          (c.requires.holds.waiters.owned k s.owner c.state-state.ensures.owner);
      but = subst (IsToppedBut then now k s.owner) top step.but;
    }

pub returns : goal.returns
returns c =
    let m : States = c.args.self.now in
    let then : States = c.set_owner.new.self in
    let t : NodeLists = c.args.table.now in
    let now : NodeLists = c.take_waiter.new.table in
    let last : NodeLists = c.retop.new.table in
    let k : ℕ = c.args.key in
    let u : ℕ = c.unwrap-next.result in
    let o : ℕ = c.state-state.result.owner in
    let top : first_waiter m t k ≡ Some u = sym c.first_in.ensures ∙ c.unwrap-next.ensures in
    let step =
    handed-first m c.take_waiter.new.self then t now k u c.state-state.result c.requires.holds c.state-state.ensures top
    c.take_waiter.ensures.step c.set_owner.ensures in
    let end = done m then t now k o u _ step last c.retop.ensures.changes c.retop.ensures.tops in
    record {
      top = first-top m t k u c.requires.holds.waiters top;
      handed = end.view;
      place = step.frame;
      outside = end.outside;
      node = still_free m then t now k o u _ step last c.retop.ensures.changes
          (first-thread m t k o u c.first_in.result c.requires.holds.waiters c.state-state.ensures.owner
          c.first_in.ensures c.unwrap-next.ensures)
          c.take_waiter.ensures.node;
      nodes = end.nodes;
      holds = end.holds;
    }
