use Rattle.std.proofs.Common.{◌≡◌, ◌++◌}
use Rattle.pif_text.specs.Json.{separated}
use Rattle.pif_text.proofs.ListLemmas.{comma_behind, texts_to}
use Rattle.pif_text.proofs.lists.append_list.Given as goal

abbrev pub invariant-loop-place : goal.invariant-loop-place
invariant-loop-place g l = record {
  text : l.out.items ≡ l.initial.out.items
      ++ separated (texts_to (g.L.Listed.text l.list) (g.L.Listed.stands l.list) l.place);
  comma : l.comma ≡ comma_behind (texts_to (g.L.Listed.text l.list) (g.L.Listed.stands l.list) l.place);
}
