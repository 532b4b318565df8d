use Rattle.std.proofs.Common.{◌≡◌, ◌∙◌, ℕ, Some, ap, sym, subst, refl}
use Rattle.pif_nodes_model.specs.Lists.{list_without}
use Rattle.pif_nodes_model.specs.Table.{NodeLists, list_at}
use Rattle.pif_nodes_model.specs.Order.{IsSorted, table_after_insert, table_after_remove, key_with_prio}
use Rattle.pif_kernel_model.specs.Differences.{differences}
use Rattle.pif_kernel_model.specs.Parked.{Place, ParkedLists, place_at, differing_at, IsCond, variable_list, target_of, parked_at, with_differing, StandParked, HoldsParked}
use Rattle.pif_queue.proofs.ParkedChanges.{stand-recounted, recounted, counted-here, counted-elsewhere}
use Rattle.pif_queue.proofs.ParkedCalls.{IsRekeyed, rekeyed}
use Rattle.pif_queue.proofs.parked_lists.ParkedLists.rekey.Goals as goal

pub count_out-requires-clause-cond : goal.count_out-requires-clause-cond
count_out-requires-clause-cond c =
    let at : place_at c.args.self.now c.args.t ≡ Some c.in-Some.place = sym c.place.ensures ∙ c.in-Some.is in
    subst (IsCond c.args.self.now) (ap (λ (z : Place). z.cond) (sym c.place-in-Some.view_is))
    (c.requires.holds.stand.parked c.args.t c.in-Some.place at).is_cond

pub count_out-requires-clause-counted : goal.count_out-requires-clause-counted
count_out-requires-clause-counted c =
    let at : place_at c.args.self.now c.args.t ≡ Some c.in-Some.place = sym c.place.ensures ∙ c.in-Some.is in
    c.requires.holds.counted c.place-in-Some.inside.cond
    (subst (IsCond c.args.self.now) (ap (λ (z : Place). z.cond) (sym c.place-in-Some.view_is))
    (c.requires.holds.stand.parked c.args.t c.in-Some.place at).is_cond)

pub list-requires : goal.list-requires
list-requires c =
    let at : place_at c.args.self.now c.args.t ≡ Some c.in-Some.place = sym c.place.ensures ∙ c.in-Some.is in
    subst (λ (q : ParkedLists). IsCond q c.place-in-Some.inside.cond) (sym c.count_out.ensures)
    (subst (IsCond c.args.self.now) (ap (λ (z : Place). z.cond) (sym c.place-in-Some.view_is))
    (c.requires.holds.stand.parked c.args.t c.in-Some.place at).is_cond)

pub rekey-requires-clause-sorted : goal.rekey-requires-clause-sorted
rekey-requires-clause-sorted c =
    let at : place_at c.args.self.now c.args.t ≡ Some c.in-Some.place = sym c.place.ensures ∙ c.in-Some.is in
    let list : c.list.result ≡ variable_list c.args.self.now c.place-in-Some.inside.cond =
    c.list.ensures ∙ ap (λ (q : ParkedLists). variable_list q c.place-in-Some.inside.cond) c.count_out.ensures in
    subst (IsSorted c.args.table.now) (sym list)
    (c.requires.holds.stand.sorted c.place-in-Some.inside.cond
    (subst (IsCond c.args.self.now) (ap (λ (z : Place). z.cond) (sym c.place-in-Some.view_is))
    (c.requires.holds.stand.parked c.args.t c.in-Some.place at).is_cond))

-- what the call on the list answered, by the names of the definitions
rekeyed_in : (c : goal.After-count_in-arg-in-Some-1)
    → IsRekeyed c.args.self.now c.args.table.now c.rekey.new.table c.place-in-Some.inside.cond c.args.t c.args.prio
rekeyed_in c =
    rekeyed c.args.self.now c.args.table.now c.rekey.new.table c.place-in-Some.inside.cond c.args.t c.list.result
    c.node-node.result c.args.prio c.in-Some.place c.requires.holds (sym c.place.ensures ∙ c.in-Some.is)
    (ap (λ (z : Place). z.cond) (sym c.place-in-Some.view_is))
    (c.list.ensures ∙ ap (λ (q : ParkedLists). variable_list q c.place-in-Some.inside.cond) c.count_out.ensures)
    c.node-node.ensures c.rekey.ensures.sorted c.rekey.ensures.others c.rekey.ensures.apart
    (c.rekey.ensures.moved
    ∙ (λ i. table_after_insert (table_after_remove c.args.table.now c.list.result c.node-node.result) c.list.result
    c.node-node.result (key_with_prio c.args.table.now c.node-node.result (c.get.ensures.value i))))
    c.rekey.ensures.holders

pub count_in-requires-clause-stand : goal.count_in-requires-clause-stand
count_in-requires-clause-stand c =
    subst (λ (q : ParkedLists). StandParked q c.rekey.new.table) (sym c.count_out.ensures)
    (stand-recounted c.args.self.now c.rekey.new.table c.place-in-Some.inside.cond
    (differences (target_of c.args.self.now)
    (list_without c.node-node.result
    (list_at c.args.table.now (variable_list c.args.self.now c.place-in-Some.inside.cond))))
    (rekeyed_in c).stands)

pub count_in-requires-clause-cond : goal.count_in-requires-clause-cond
count_in-requires-clause-cond c =
    subst (λ (q : ParkedLists). IsCond q c.place-in-Some.inside.cond) (sym c.count_out.ensures) (rekeyed_in c).is_cond

pub count_in-requires-clause-counted : goal.count_in-requires-clause-counted
count_in-requires-clause-counted c =
    let p : ParkedLists = c.args.self.now in
    let d : ℕ = c.place-in-Some.inside.cond in
    let now : NodeLists = c.rekey.new.table in
    let l : ℕ = variable_list p d in
    let out : ℕ = differences (target_of p) (list_without c.node-node.result (list_at c.args.table.now l)) in
    let left : list_without c.node-node.result (list_at c.args.table.now l) ≡ list_without c.node-node.result (list_at now l) =
    ap (λ k. list_without k (list_at c.args.table.now l)) c.node-node.ensures ∙ sym (rekeyed_in c).left
    ∙ ap (λ k. list_without k (list_at now l)) (sym c.node-node.ensures) in
    subst (λ (q : ParkedLists). differing_at q d
    ≡ differences (target_of q) (list_without c.node-node.result (list_at now (variable_list q d))))
    (sym c.count_out.ensures)
    (counted-here p now d out (rekeyed_in c).stands (rekeyed_in c).is_cond ∙ ap (differences (target_of p)) left)

-- the same once the differences were counted in
rekeyed_end : (c : goal.After-count_in)
    → IsRekeyed c.args.self.now c.args.table.now c.rekey.new.table c.place-in-Some.inside.cond c.args.t c.args.prio
rekeyed_end c =
    rekeyed c.args.self.now c.args.table.now c.rekey.new.table c.place-in-Some.inside.cond c.args.t c.list.result
    c.node-node.result c.args.prio c.in-Some.place c.requires.holds (sym c.place.ensures ∙ c.in-Some.is)
    (ap (λ (z : Place). z.cond) (sym c.place-in-Some.view_is))
    (c.list.ensures ∙ ap (λ (q : ParkedLists). variable_list q c.place-in-Some.inside.cond) c.count_out.ensures)
    c.node-node.ensures c.rekey.ensures.sorted c.rekey.ensures.others c.rekey.ensures.apart
    (c.rekey.ensures.moved
    ∙ (λ i. table_after_insert (table_after_remove c.args.table.now c.list.result c.node-node.result) c.list.result
    c.node-node.result (key_with_prio c.args.table.now c.node-node.result (c.get.ensures.value i))))
    c.rekey.ensures.holders

pub returns-in-Some-clause-changed : goal.returns-in-Some-clause-changed
returns-in-Some-clause-changed c = λ v.
    ap (λ (q : ParkedLists). parked_at q c.rekey.new.table v) c.count_in.ensures
    ∙ ap (λ (q : ParkedLists). parked_at q c.rekey.new.table v) c.count_out.ensures
    ∙ (rekeyed_end c).seen v

pub returns-in-Some-clause-outside : goal.returns-in-Some-clause-outside
returns-in-Some-clause-outside c = (rekeyed_end c).outside

pub returns-in-Some-clause-holds : goal.returns-in-Some-clause-holds
returns-in-Some-clause-holds c =
    let p : ParkedLists = c.args.self.now in
    let d : ℕ = c.place-in-Some.inside.cond in
    let now : NodeLists = c.rekey.new.table in
    let done : IsRekeyed p c.args.table.now now d c.args.t c.args.prio = rekeyed_end c in
    let out : ℕ = differences (target_of p) (list_without c.node-node.result (list_at c.args.table.now (variable_list p d))) in
    let mid : ParkedLists = with_differing d out p in
    let count : ℕ = differences (target_of mid) (list_at now (variable_list mid d)) in
    let is : c.count_in.new.self ≡ with_differing d count mid =
    c.count_in.ensures
    ∙ ap (λ (q : ParkedLists). with_differing d (differences (target_of q) (list_at now (variable_list q d))) q)
    c.count_out.ensures in
    subst (λ (q : ParkedLists). HoldsParked q now) (sym is)
    (recounted mid now d count (stand-recounted p now d out done.stands) done.is_cond refl
    (λ e within ne. counted-elsewhere p now d out e ne (done.counted e within ne)))
