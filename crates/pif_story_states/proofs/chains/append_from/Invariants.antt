use Rattle.std.proofs.Common.{◌≡◌, ◌-◌, ◌++◌}
use Rattle.pif_story_states.specs.Objects.{chain_from}
use Rattle.pif_story_states.proofs.chains.append_from.Given as goal

abbrev pub invariant-loop-place : goal.invariant-loop-place
invariant-loop-place l =
    l.initial.out.items ++ chain_from l.most l.core l.fn.thread ≡ l.out.items ++ chain_from (l.most - l.place) l.core l.next
