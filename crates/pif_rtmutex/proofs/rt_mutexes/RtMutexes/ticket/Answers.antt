use Rattle.std.proofs.Common.{◌∙◌, ap, sym, Option, Some, option_map}
use Rattle.pif_nodes_model.specs.Table.{key_at}
use Rattle.pif_nodes_model.specs.declared.keys.Key.{Key}
use Rattle.pif_kernel_model.proofs.ViewLemmas.{rank_of-owners_in}
use Rattle.pif_rtmutex.proofs.ReadLemmas.{rank_of-none}
use Rattle.pif_rtmutex.proofs.rt_mutexes.RtMutexes.ticket.Goals as goal

pub returns-in_err-_state : goal.returns-in_err-_state
returns-in_err-_state c =
    c.from_residual.ensures
    ∙ ap (λ (o : Option Key). option_map (λ (k : Key). k.ticket) o)
    (sym (rank_of-none c.args.self.now c.args.table.now c.args.t (sym c.wait_of.ensures ∙ c.in_err-_state.was)))

pub returns : goal.returns
returns c =
    ap (λ (k : Key). Some k.ticket) (c.key.ensures ∙ ap (key_at c.args.table.now) c.wait_node.ensures.node)
    ∙ ap (λ (o : Option Key). option_map (λ (k : Key). k.ticket) o)
    (sym (rank_of-owners_in c.args.self.now c.args.table.now c.args.t c.in_ok-_state._state
    (sym c.wait_of.ensures ∙ c.in_ok-_state.was)))
