use Rattle.std.proofs.Common.{◌≡◌, map, take}
use Rattle.pif_cli.proofs.names.names_of.Given as goal

-- the names so far
abbrev pub invariant-loop-input : goal.invariant-loop-input
invariant-loop-input l = l.names.items ≡ map (λ input. input.now) (take l.input-index l.inputs)
