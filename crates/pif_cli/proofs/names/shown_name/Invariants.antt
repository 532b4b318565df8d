use Rattle.std.proofs.Common.{◌≡◌, map, take}
use Rattle.pif_script_model.specs.Verdicts.{printable}
use Rattle.pif_cli.proofs.names.shown_name.Given as goal

-- the bytes so far
abbrev pub invariant-loop-byte : goal.invariant-loop-byte
invariant-loop-byte l = l.shown.items ≡ map printable (take l.byte-index l.name)
