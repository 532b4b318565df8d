use Rattle.std.proofs.Common.{◌≡◌, ◌++◌, take}
use Rattle.pif_explore_page.specs.Texts.{escaped}
use Rattle.pif_explore_page.proofs.texts.push_escaped.Given as goal

abbrev pub invariant-loop-byte : goal.invariant-loop-byte
invariant-loop-byte l = l.out.items ≡ l.initial.out.items ++ escaped (take l.byte-index l.text)
