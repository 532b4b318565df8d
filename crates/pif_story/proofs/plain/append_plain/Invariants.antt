use Rattle.std.proofs.Common.{◌≡◌, ◌++◌, drop, true}
use Rattle.pif_script_model.specs.Lines.{plain}
use Rattle.pif_script_model.proofs.PlainLemmas.{left_by}
use Rattle.pif_story.proofs.plain.append_plain.Given as goal

abbrev pub invariant-loop-byte : goal.invariant-loop-byte
invariant-loop-byte l = record {
  same : l.initial.out.items ++ plain l.text ≡ l.out.items ++ left_by l.begun l.gap (drop l.byte-index l.text);
  behind : l.gap ≡ true → l.begun ≡ true;
}
