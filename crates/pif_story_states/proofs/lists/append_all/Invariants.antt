use Rattle.std.proofs.Common.{◌≡◌, ◌++◌, flat_map}
use Rattle.pif_text.specs.Json.{numbers}
use Rattle.pif_story_states.proofs.lists.append_all.Given as goal

abbrev pub invariant-loop-place : goal.invariant-loop-place
invariant-loop-place g l =
    l.out.items ≡ l.initial.out.items ++ flat_map (g.N.Numbered.text l.things) (numbers l.place)
