use Rattle.std.proofs.Common.{◌∙◌, ap, sym, ℕ, Option, Some, None, option_map, option_and_then}
use Rattle.std.specs.Option.{option_copied}
use Rattle.pif_nodes_model.specs.Lists.{first_of}
use Rattle.pif_nodes_model.specs.Table.{list_at}
use Rattle.pif_kernel_model.specs.States.{States, wait_list, waiter_for}
use Rattle.pif_rtmutex.specs.Fields.{State}
use Rattle.pif_rtmutex.proofs.FieldLemmas.{state-value}
use Rattle.pif_rtmutex.proofs.rt_mutexes.RtMutexes.first.Goals as goal

pub first_in-requires-clause-row : goal.first_in-requires-clause-row
first_in-requires-clause-row c =
    state-value (λ (x : State). x.row) c.self.inside.states c.args.self.now.places c.get.result c.args.key
    (Some c.in_ok-state.state.now)
    (ap (λ (m : States). m.places) c.self.view_is) c.get.ensures
    (sym c.get-2.ensures ∙ ap (λ o. option_copied o) c.in_ok-state.was)

pub returns-in_err-state : goal.returns-in_err-state
returns-in_err-state c =
    let none = state-value (λ (x : State). x.row) c.self.inside.states c.args.self.now.places c.get.result c.args.key None
    (ap (λ (m : States). m.places) c.self.view_is) c.get.ensures
    (sym c.get-2.ensures ∙ ap (λ o. option_copied o) c.in_err-state.was) in
    c.from_residual.ensures
    ∙ ap (λ (o : Option ℕ). option_and_then (λ r. option_map (waiter_for c.args.self.now)
    (first_of (list_at c.args.table.now (wait_list c.args.self.now r)))) o) (sym none)
