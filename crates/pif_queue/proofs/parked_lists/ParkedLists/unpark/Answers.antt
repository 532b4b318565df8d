use Rattle.std.proofs.Common.{◌≡◌, ◌∙◌, ℕ, eqb, cond, Some, None, ap, sym, subst}
use Rattle.pif_nodes_model.specs.Lists.{list_without}
use Rattle.pif_nodes_model.specs.Table.{NodeLists, list_at, holder}
use Rattle.pif_nodes_model.specs.Order.{IsSorted, OthersStaySorted, table_after_remove}
use Rattle.pif_kernel_model.specs.Differences.{differences}
use Rattle.pif_kernel_model.specs.Parked.{Place, ParkedLists, place_at, IsCond, variable_list, parking_node, target_of, with_place_at, with_differing, HoldsParked}
use Rattle.pif_queue.proofs.ParkedCalls.{IsCall, unpark-holds, unpark-outside}
use Rattle.pif_queue.proofs.parked_lists.ParkedLists.unpark.Goals as goal

pub count_out-requires-clause-cond : goal.count_out-requires-clause-cond
count_out-requires-clause-cond c =
    let at : place_at c.args.self.now c.args.t ≡ Some c.in-Some.place = sym c.place.ensures ∙ c.in-Some.is in
    subst (IsCond c.args.self.now) (ap (λ (z : Place). z.cond) (sym c.place-in-Some.view_is))
    (c.requires.holds.stand.parked c.args.t c.in-Some.place at).is_cond

pub count_out-requires-clause-counted : goal.count_out-requires-clause-counted
count_out-requires-clause-counted c =
    let at : place_at c.args.self.now c.args.t ≡ Some c.in-Some.place = sym c.place.ensures ∙ c.in-Some.is in
    c.requires.holds.counted c.place-in-Some.inside.cond
    (subst (IsCond c.args.self.now) (ap (λ (z : Place). z.cond) (sym c.place-in-Some.view_is))
    (c.requires.holds.stand.parked c.args.t c.in-Some.place at).is_cond)

pub list-requires : goal.list-requires
list-requires c =
    let at : place_at c.args.self.now c.args.t ≡ Some c.in-Some.place = sym c.place.ensures ∙ c.in-Some.is in
    subst (λ (q : ParkedLists). IsCond q c.place-in-Some.inside.cond) (sym c.count_out.ensures)
    (subst (IsCond c.args.self.now) (ap (λ (z : Place). z.cond) (sym c.place-in-Some.view_is))
    (c.requires.holds.stand.parked c.args.t c.in-Some.place at).is_cond)

pub remove-requires-clause-sorted : goal.remove-requires-clause-sorted
remove-requires-clause-sorted c =
    let at : place_at c.args.self.now c.args.t ≡ Some c.in-Some.place = sym c.place.ensures ∙ c.in-Some.is in
    let list : c.list.result ≡ variable_list c.args.self.now c.place-in-Some.inside.cond =
    c.list.ensures ∙ ap (λ (q : ParkedLists). variable_list q c.place-in-Some.inside.cond) c.count_out.ensures in
    subst (IsSorted c.args.table.now) (sym list)
    (c.requires.holds.stand.sorted c.place-in-Some.inside.cond
    (subst (IsCond c.args.self.now) (ap (λ (z : Place). z.cond) (sym c.place-in-Some.view_is))
    (c.requires.holds.stand.parked c.args.t c.in-Some.place at).is_cond))

-- the call, by the names of the definitions
at_place : (c : goal.After-set_place) → place_at c.args.self.now c.args.t ≡ Some c.in-Some.place
at_place c = sym c.place.ensures ∙ c.in-Some.is

on_cond : (c : goal.After-set_place) → c.in-Some.place.cond ≡ c.place-in-Some.inside.cond
on_cond c = ap (λ (z : Place). z.cond) (sym c.place-in-Some.view_is)

list_is : (c : goal.After-set_place) → c.list.result ≡ variable_list c.args.self.now c.place-in-Some.inside.cond
list_is c = c.list.ensures ∙ ap (λ (q : ParkedLists). variable_list q c.place-in-Some.inside.cond) c.count_out.ensures

called : (c : goal.After-set_place)
    → IsCall c.args.self.now c.args.table.now c.remove.new.table c.place-in-Some.inside.cond c.args.t
called c =
    record {
      holds = c.requires.holds;
      thread = (c.requires.holds.stand.parked c.args.t c.in-Some.place (at_place c)).is_thread;
      cond =
          subst (IsCond c.args.self.now) (on_cond c)
          (c.requires.holds.stand.parked c.args.t c.in-Some.place (at_place c)).is_cond;
      own = subst (IsSorted c.remove.new.table) (list_is c) c.remove.ensures.sorted;
      others = subst (OthersStaySorted c.args.table.now c.remove.new.table) (list_is c) c.remove.ensures.others;
      apart = c.remove.ensures.apart;
    }

taken : (c : goal.After-set_place)
    → c.remove.new.table
    ≡ table_after_remove c.args.table.now (variable_list c.args.self.now c.place-in-Some.inside.cond)
    (parking_node c.args.self.now c.args.t)
taken c =
    c.remove.ensures.taken ∙ (λ i. table_after_remove c.args.table.now (list_is c i) (c.node-node.ensures i))

holders : (c : goal.After-set_place) (m : ℕ)
    → holder c.remove.new.table m ≡ cond (eqb m (parking_node c.args.self.now c.args.t)) None (holder c.args.table.now m)
holders c m =
    c.remove.ensures.holders m ∙ (λ i. cond (eqb m (c.node-node.ensures i)) None (holder c.args.table.now m))

pub returns-in-Some-clause-outside : goal.returns-in-Some-clause-outside
returns-in-Some-clause-outside c =
    unpark-outside c.args.self.now c.args.table.now c.remove.new.table c.place-in-Some.inside.cond c.args.t (called c)
    c.in-Some.place (at_place c) (on_cond c) (taken c) (holders c)

pub returns-in-Some-clause-holds : goal.returns-in-Some-clause-holds
returns-in-Some-clause-holds c =
    let p : ParkedLists = c.args.self.now in
    let d : ℕ = c.place-in-Some.inside.cond in
    let was : NodeLists = c.args.table.now in
    let is : c.set_place.new.self
    ≡ with_differing d (differences (target_of p) (list_without (parking_node p c.args.t) (list_at was (variable_list p d))))
    (with_place_at c.args.t None p) =
    c.set_place.ensures
    ∙ ap (with_place_at c.args.t None)
    (c.count_out.ensures
    ∙ (λ i. with_differing d (differences (target_of p) (list_without (c.node-node.ensures i) (list_at was (variable_list p d)))) p)) in
    subst (λ (q : ParkedLists). HoldsParked q c.remove.new.table) (sym is)
    (unpark-holds p was c.remove.new.table d c.args.t (called c) c.in-Some.place (at_place c) (on_cond c) (taken c)
    (holders c))
