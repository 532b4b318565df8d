use Rattle.std.proofs.Common.{◌≡◌, ◌++◌, codes, take}
use Rattle.std.specs.List.{flat_map}
use Rattle.pif_history_told.specs.Ends.{call_text}
use Rattle.pif_history_told.proofs.ends.push_further.Given as goal

abbrev pub invariant-loop-call : goal.invariant-loop-call
invariant-loop-call l =
    l.out.items ≡ l.initial.out.items ++ flat_map (λ x. codes ", " ++ call_text l.part x) (take l.call-index l.calls)
