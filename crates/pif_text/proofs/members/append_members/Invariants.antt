use Rattle.std.proofs.Common.{◌≡◌, ◌++◌, take}
use Rattle.pif_text.specs.Json.{separated}
use Rattle.pif_text.proofs.ListLemmas.{comma_behind}
use Rattle.pif_text.proofs.MemberLemmas.{texts}
use Rattle.pif_text.proofs.members.append_members.Given as goal

abbrev pub invariant-loop-member : goal.invariant-loop-member
invariant-loop-member l = record {
  text : l.out.items ≡ (l.initial.out.items ++ separated (texts (take l.member-index l.members)));
  comma : l.comma ≡ comma_behind (texts (take l.member-index l.members));
}
