use Rattle.std.proofs.Common.{◌≡◌, vec_len}
use Rattle.pif_cli.proofs.apart.left_alone.Given as goal

-- one for each name so far
abbrev pub invariant-loop-name : goal.invariant-loop-name
invariant-loop-name l = vec_len l.found ≡ l._name-index
