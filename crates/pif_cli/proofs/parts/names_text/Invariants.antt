use Rattle.std.proofs.Common.{◌≡◌}
use Rattle.pif_cli.specs.Parts.{names_text}
use Rattle.pif_cli.proofs.parts.names_text.Given as goal

-- the names so far
abbrev pub invariant-loop-place : goal.invariant-loop-place
invariant-loop-place l = l.out.items ≡ names_text l.folder l.place
