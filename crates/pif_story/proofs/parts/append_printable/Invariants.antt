use Rattle.std.proofs.Common.{◌≡◌, ◌++◌, map, take}
use Rattle.pif_script_model.specs.Verdicts.{printable}
use Rattle.pif_story.proofs.parts.append_printable.Given as goal

abbrev pub invariant-loop-byte : goal.invariant-loop-byte
invariant-loop-byte l = l.text.items ≡ l.initial.text.items ++ map printable (take l.byte-index l.bytes)
