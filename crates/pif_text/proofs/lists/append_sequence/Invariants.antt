use Rattle.std.proofs.Common.{◌≡◌, ◌++◌, map, take}
use Rattle.pif_text.specs.Json.{name_text, separated}
use Rattle.pif_text.proofs.ListLemmas.{comma_behind}
use Rattle.pif_text.proofs.lists.append_sequence.Given as goal

abbrev pub invariant-loop-place : goal.invariant-loop-place
invariant-loop-place g l = record {
  text : l.out.items
      ≡ l.initial.out.items ++ separated (map (name_text l.letter) (take l.place (g.S.Sequence.members l.sequence)));
  comma : l.comma ≡ comma_behind (map (name_text l.letter) (take l.place (g.S.Sequence.members l.sequence)));
}
