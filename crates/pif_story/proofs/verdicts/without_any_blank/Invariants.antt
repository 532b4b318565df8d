use Rattle.std.proofs.Common.{◌≡◌, take}
use Rattle.std.specs.Prelude.{filter}
use Rattle.pif_script_model.specs.Lines.{is_no_blank}
use Rattle.pif_story.proofs.verdicts.without_any_blank.Given as goal

abbrev pub invariant-loop-byte : goal.invariant-loop-byte
invariant-loop-byte l = l.bytes.items ≡ filter is_no_blank (take l.byte-index l.text)
