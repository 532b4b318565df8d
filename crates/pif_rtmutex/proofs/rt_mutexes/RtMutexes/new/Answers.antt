use Rattle.std.proofs.Common.{◌≡◌, ◌∙◌, ◌+◌, ◌≤◌, ap, sym, subst, rules, length}
use Rattle.pif_rtmutex.specs.Fields.{states_from, IsSpare}
use Rattle.pif_kernel_model.specs.States.{States, owners_in}
use Rattle.pif_kernel_model.specs.Holds.{HoldsStates, HasRoomForStates}
use Rattle.pif_kernel_model.specs.States.{empty_states, no_row}
use Rattle.std.proofs.lemmas.List.{length-replicate}
use Rattle.pif_rtmutex.proofs.StateLemmas.{spare-empty_states, view-empty_states, holds-empty_states}
use Rattle.pif_rtmutex.proofs.rt_mutexes.RtMutexes.new.Goals as goal

pub invariant_of-result : goal.invariant_of-result
invariant_of-result c =
    let now : states_from c.args.first_list c.args.first_node c.args.threads c.in_ok-rows.rows.items
    c.in_ok-free.free.items c.in_ok-states.states
    ≡ empty_states c.args.first_list c.args.first_node c.args.threads = search rules in
    let room : c.args.threads ≤ c.in_ok-states.states.capacity = search rules in
    record {
      most = c.requires.most;
      lists = c.requires.lists;
      nodes = c.requires.nodes;
      rows = ap (λ (m : States). length m.rows) now ∙ length-replicate (c.args.threads + 1) no_row;
      room = room;
      stack = search rules;
      spare = subst IsSpare (sym now) (spare-empty_states c.args.first_list c.args.first_node c.args.threads);
    }

pub returns-clause-made : goal.returns-clause-made
returns-clause-made c = λ t.
    let now : states_from c.args.first_list c.args.first_node c.args.threads c.in_ok-rows.rows.items
    c.in_ok-free.free.items c.in_ok-states.states
    ≡ empty_states c.args.first_list c.args.first_node c.args.threads = search rules in
    ap (λ (n : States). owners_in n t) now ∙ view-empty_states c.args.first_list c.args.first_node c.args.threads t

pub returns-clause-holds : goal.returns-clause-holds
returns-clause-holds c = λ t room.
    let now : states_from c.args.first_list c.args.first_node c.args.threads c.in_ok-rows.rows.items
    c.in_ok-free.free.items c.in_ok-states.states
    ≡ empty_states c.args.first_list c.args.first_node c.args.threads = search rules in
    subst (λ (n : States). HoldsStates n t) (sym now)
    (holds-empty_states c.args.first_list c.args.first_node c.args.threads t c.requires.most
    (subst (λ (n : States). HasRoomForStates n t) now room))
