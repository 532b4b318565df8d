use Rattle.std.proofs.Common.{◌≡◌, ◌∙◌, Some, None, nat_lt, slice_get, length, rules, of_calls, refl, sym, ap}
use Rattle.std.proofs.lemmas.Bool.{ltb-true, ltb-false}
use Rattle.std.proofs.lemmas.Option.{slice_get_read, slice_get_past}
use Rattle.std.proofs.lemmas.List.Sorted.{IsPartitionPoint-from_clause, IsPartitionedBy-ltb}
use Rattle.pif_history_machine.specs.declared.overs.Over.{Over}
use Rattle.pif_history_machine.proofs.Places.{answer_at, places_rise, found_is_known}
use Rattle.pif_history_machine.proofs.overs.answer_from.Goals as goal

pub returns-in-Some : goal.returns-in-Some
returns-in-Some c = λ t lines is.
    let xs = c.args.overs.now in
    let r = c.partition_point-at.result in
    let there : slice_get xs r ≡ Some c.in-Some.over.now =
    slice_get_read xs (length xs) r c.in-Some.over.now refl (ltb-true r (length xs) (sym c.in-Some.ensures.lookup.0)) c.in-Some.ensures.lookup.1 in
    sym (ap answer_at there)
    ∙ found_is_known t c.args.from r lines xs is c.partition_point-at.ensures.bound
    (IsPartitionPoint-from_clause (λ (o : Over). nat_lt o.place c.args.from) xs r c.partition_point-at.ensures.partitioned
    (IsPartitionedBy-ltb (λ (o : Over). o.place) xs c.args.from (λ i j d le lt. rw is (places_rise t 0 lines i j d le (rw (sym is) lt))))
    (λ a b f k. search (rules, of_calls)))

pub returns-in-None : goal.returns-in-None
returns-in-None c = λ t lines is.
    let xs = c.args.overs.now in
    let r = c.partition_point-at.result in
    let past : slice_get xs r ≡ None = slice_get_past xs r (ltb-false r (length xs) (sym c.in-None.ensures.lookup.0)) in
    sym (ap answer_at past)
    ∙ found_is_known t c.args.from r lines xs is c.partition_point-at.ensures.bound
    (IsPartitionPoint-from_clause (λ (o : Over). nat_lt o.place c.args.from) xs r c.partition_point-at.ensures.partitioned
    (IsPartitionedBy-ltb (λ (o : Over). o.place) xs c.args.from (λ i j d le lt. rw is (places_rise t 0 lines i j d le (rw (sym is) lt))))
    (λ a b f k. search (rules, of_calls)))
